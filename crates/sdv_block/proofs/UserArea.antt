-- THE USER AREA stays in access: no command but CMD6 selects another partition. So the blocks that a card addresses are
-- those of its user area, and its boot partitions stay as they are.
use Rattle.std.proofs.Common.{◌≡◌, ℕ, ◌+◌, ◌≤◌, ◌/◌, inl, inr, refl, sym, ap, ◌∙◌, subst, Bool, true, false, List, [], ◌∷◌, take, drop}
use Rattle.std.specs.Prelude.{if◌then◌else◌}
use Rattle.sdv_frames.specs.declared.reply.Expect.TheVariants.{R1 as ExpectR1}
use Rattle.sdv_card.specs.declared.answer.Answer.{Answer}
use Rattle.sdv_card.specs.declared.answer.DataEnd.{DataEnd}
use Rattle.sdv_card.specs.declared.answer.DataEnd.TheVariants.{Ok}
use Rattle.sdv_card.specs.declared.command.Order.{Order}
use Rattle.sdv_card.specs.declared.command.Order.TheVariants.{GoIdleState, SendOpCond, AllSendCid, DeselectCards, SendRelativeAddress, SendIfCond, SendCsd, SendCid, SdSendOpCond}
use Rattle.sdv_card.specs.declared.command.Row.{Row}
use Rattle.sdv_card.specs.declared.command.Row.TheVariants.{Cmd0, Cmd6, Cmd13, Acmd6}
use Rattle.sdv_card.specs.declared.command.Setting.{Setting}
use Rattle.sdv_card.specs.declared.command.Setting.TheVariants.{Lines}
use Rattle.sdv_card.specs.declared.command.TakenAs.{TakenAs}
use Rattle.sdv_card.specs.declared.command.TakenAs.TheVariants.{By}
use Rattle.sdv_card.specs.declared.event.Ask.{Ask}
use Rattle.sdv_card.specs.declared.state.Mode.{Mode}
use Rattle.sdv_card.specs.declared.state.Partition.TheVariants.{User}
use Rattle.sdv_card.specs.declared.state.State.{State}
use Rattle.sdv_card.specs.Card.{Card, Block, Partitions, AreBlocks, capacity_of, blocks_of, put}
use Rattle.sdv_card.specs.CommandTable.{order_expect}
use Rattle.sdv_card.specs.Exchange.{card_takes}
use Rattle.sdv_card.specs.Legal.{Within}
use Rattle.sdv_card.specs.Lists.{May, IsOneOf}
use Rattle.sdv_card.specs.Modes.{first_mode, calm, set, may_stay_pending}
use Rattle.sdv_card.specs.Phases.{OnlyAddressed, Moved, MovedWriting, BlocksTrue, Stored}
use Rattle.sdv_card.specs.RowRules.{mode_after, mode_stayed}
use Rattle.sdv_card.specs.Settled.{Settled}
use Rattle.sdv_card.specs.Step.{Sends}
use Rattle.sdv_card.specs.Takes.{matches}
use Rattle.sdv_card.proofs.Became.{Became, became}
use Rattle.sdv_card.proofs.OrdersOfAsks.{of_ask}
use Rattle.sdv_card.proofs.RowsOfOrders.{order_index, says}
use Rattle.sdv_block.specs.Served.{disk_blocks, SameBoot}

abbrev pub IsUser : Card → Type 0
IsUser c = c.mode.partition ≡ User

-- WHAT A ROW LEAVES IN ACCESS

one_mode : (mode after : Mode) → May (mode ∷ []) after → mode ≡ after
one_mode mode after m = only m.one
  where
    only : IsOneOf (mode ∷ []) after → mode ≡ after
    only (inl e) = e
    only (inr n) = absurd n

told_mode : (stays : Bool) (mode after : Mode) → May (calm mode ∷ (if stays then mode ∷ [] else [])) after → mode.partition ≡ after.partition
told_mode stays mode after m = told stays m.one
  where
    told : (b : Bool) → IsOneOf (calm mode ∷ (if b then mode ∷ [] else [])) after → mode.partition ≡ after.partition
    told b (inl e) = ap (λ (n : Mode). n.partition) e
    told true (inr (inl e)) = ap (λ (n : Mode). n.partition) e
    told true (inr (inr n)) = absurd n
    told false (inr n) = absurd n

row_user : (row : Row) (heard : Bool) (from : State) (mode after : Mode) → ((setting : Setting) → row ≡ Cmd6 setting → ⊥)
    → May (mode_after row heard from mode) after → mode.partition ≡ User → after.partition ≡ User
row_user Cmd0 heard from mode after other m user = sym (ap (λ (n : Mode). n.partition) (one_mode first_mode after m))
row_user (Acmd6 width) heard from mode after other m user =
    sym (ap (λ (n : Mode). n.partition) (one_mode (calm (set (Lines width) mode)) after m)) ∙ user
row_user (Cmd6 setting) heard from mode after other m user = absurd (other setting refl)
row_user Cmd13 heard from mode after other m user = sym (told_mode (may_stay_pending heard from mode) mode after m) ∙ user
row_user row heard from mode after other m user = sym (ap (λ (n : Mode). n.partition) (one_mode (calm mode) after m)) ∙ user

stayed_user : (row : Row) (heard : Bool) (from : State) (mode after : Mode) → May (mode_stayed row heard from mode) after → mode.partition ≡ after.partition
stayed_user Cmd13 heard from mode after m = told_mode (may_stay_pending heard from mode) mode after m
stayed_user row heard from mode after m = ap (λ (n : Mode). n.partition) (one_mode (calm mode) after m)

became_user : (way : TakenAs) (argument : ℕ) (t u : Card) → ((setting : Setting) → way ≡ By (Cmd6 setting) → ⊥) → Became way argument t u → IsUser t → IsUser u
became_user way argument t u other (inl e) user = subst (λ (v : Card). IsUser v) e user
became_user way argument t u other (inr (inl m)) user =
    row_user m.row m.heard t.state t.mode u.mode (λ setting e. other setting (m.by ∙ ap By e)) m.taken.mode user
became_user way argument t u other (inr (inr m)) user = sym (stayed_user m.row m.heard t.state t.mode u.mode m.stayed.mode) ∙ user

settled_user : (c t : Card) → Settled c t → IsUser c → IsUser t
settled_user c t (inl e) user = subst (λ (v : Card). IsUser v) e user
settled_user c t (inr x) user = subst (λ (v : Card). IsUser v) x.2 user

expects_6 : (order : Order) (i : ℕ) → order_expect order i ≡ ExpectR1 6 → i ≡ 6
expects_6 GoIdleState i e = cc
expects_6 DeselectCards i e = cc
expects_6 AllSendCid i e = cc
expects_6 SendCsd i e = cc
expects_6 SendCid i e = cc
expects_6 SendOpCond i e = cc
expects_6 (SdSendOpCond high) i e = cc
expects_6 SendRelativeAddress i e = cc
expects_6 SendIfCond i e = cc
expects_6 order i e = cc

pub send_user : (ask : Ask) (argument : ℕ) (c u : Card) (answer : Answer) → (ask.index ≡ 6 → ⊥) → Sends ask argument c answer u → IsUser c → IsUser u
send_user ask argument c u answer other s user =
    let t : Card = s.exchange.settled_card in
    let way : TakenAs = card_takes t s.order argument in
    let index : ask.index ≡ order_index s.order = (of_ask c.kind ask s.order s.asks.line).index in
    became_user way argument t u
    (λ setting e.
    other (index ∙ expects_6 s.order (order_index s.order) (says s.order t.app (matches t.rca (argument / 65536)) (Cmd6 setting) e).waits))
    (became way s.order argument t u answer s.exchange.answered)
    (settled_user c t s.exchange.settled user)

-- PHASES leave it

pub moved_user : (end : DataEnd) (u v : Card) → Moved end u v → IsUser u → IsUser v
moved_user end u v m user = subst (λ (x : Card). IsUser x) m.card user

pub written_user : (end : DataEnd) (u v : Card) → MovedWriting end u v → IsUser u → IsUser v
written_user end u v m user = subst (λ (x : Card). IsUser x) m.card user

-- THE BLOCKS are those of the user area

-- the same contents are the same disk, and the same boot partitions
pub same_disks : (c u : Card) → c.contents ≡ u.contents → disk_blocks c ≡ disk_blocks u
same_disks c u e = ap (λ (v : Partitions). v.user) e

pub same_boots : (c u : Card) → c.contents ≡ u.contents → SameBoot c u
same_boots c u e = record { boot_1 = ap (λ (v : Partitions). v.boot_1) e; boot_2 = ap (λ (v : Partitions). v.boot_2) e }

pub boots_both : (c u v : Card) → SameBoot c u → SameBoot u v → SameBoot c v
boots_both c u v a b = record { boot_1 = a.boot_1 ∙ b.boot_1; boot_2 = a.boot_2 ∙ b.boot_2 }

pub user_room : (c : Card) (position argument count : ℕ) → IsUser c → Within c position argument count → position + count ≤ c.capacity
user_room c position argument count user w = subst (λ p. position + count ≤ capacity_of p c.capacity c.boot_capacity) user w.room

pub user_truth : (c : Card) (blocks : List Block) → IsUser c → BlocksTrue Ok c blocks → blocks ≡ take c.announced (drop c.next_block (disk_blocks c))
user_truth c blocks user truth = subst (λ p. blocks ≡ take c.announced (drop c.next_block (blocks_of p c.contents))) user truth

pub user_stored : (c u : Card) (blocks : List Block) → IsUser c → Stored c blocks u → take c.announced (drop c.next_block (disk_blocks u)) ≡ blocks
user_stored c u blocks user s = subst (λ p. take c.announced (drop c.next_block (blocks_of p u.contents)) ≡ blocks) user s.stored

-- what a write leaves as it was
pub record UserWritten (c u : Card) : Type 0 where
  pub blocks : AreBlocks c.capacity (disk_blocks u)
  pub boot : SameBoot c u
  pub below : take c.next_block (disk_blocks c) ≡ take c.next_block (disk_blocks u)
  pub above : drop (c.next_block + c.announced) (disk_blocks c) ≡ drop (c.next_block + c.announced) (disk_blocks u)

pub user_written : (c u : Card) → IsUser c → OnlyAddressed c u → UserWritten c u
user_written c u user o = record {
  blocks = subst (λ p. AreBlocks (capacity_of p c.capacity c.boot_capacity) (blocks_of p u.contents)) user o.blocks;
  boot = record { boot_1 = ap (λ (v : Partitions). v.boot_1) others; boot_2 = ap (λ (v : Partitions). v.boot_2) others };
  below = subst (λ p. take c.next_block (blocks_of p c.contents) ≡ take c.next_block (blocks_of p u.contents)) user o.below;
  above = subst (λ p. drop (c.next_block + c.announced) (blocks_of p c.contents) ≡ drop (c.next_block + c.announced) (blocks_of p u.contents)) user o.above;
}
  where
    others : put User (blocks_of User u.contents) c.contents ≡ u.contents
    others = subst (λ p. put p (blocks_of p u.contents) c.contents ≡ u.contents) user o.others
