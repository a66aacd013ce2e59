-- A legal step in bounds keeps the blocks of a transfer on the card.
use Rattle.std.proofs.Common.{◌≡◌, ℕ, ◌<◌, ◌≤◌, ◌+◌, ◌*◌, ◌/◌, inl, inr, refl, ap, subst, sym, ◌∙◌, Bool, true, false, Some, if◌then◌else◌, arith}
use Rattle.sdv_registers.specs.declared.kind.Kind.{Kind}
use Rattle.sdv_registers.specs.declared.kind.Kind.TheVariants.{Sd, Emmc}
use Rattle.sdv_card.specs.declared.state.State.{State}
use Rattle.sdv_card.specs.declared.state.State.TheVariants.{Tran}
use Rattle.sdv_card.specs.declared.state.Mode.{Mode}
use Rattle.sdv_card.specs.declared.state.Transfer.TheVariants.{Nothing}
use Rattle.sdv_card.specs.declared.command.Setting.{Setting}
use Rattle.sdv_card.specs.Lists.{May, IsOneOf}
use Rattle.sdv_card.specs.StateTable.{◌to◌, rows}
use Rattle.sdv_card.specs.Modes.{mode_told}
use Rattle.sdv_card.specs.RowRules.{mode_stayed}
use Rattle.sdv_card.proofs.Members.{only}
use Rattle.sdv_card.proofs.PartsKept.{capacity_same, told_cases}
use Rattle.sdv_card.proofs.SettledCard.{settled_is_card}
use Rattle.sdv_card.specs.declared.state.Transfer.{Transfer}
use Rattle.sdv_card.specs.declared.answer.DataEnd.{DataEnd}
use Rattle.sdv_card.specs.declared.answer.WaitEnd.{WaitEnd}
use Rattle.sdv_card.specs.declared.event.Ask.{Ask}
use Rattle.sdv_card.specs.declared.command.Row.{Row}
use Rattle.sdv_card.specs.declared.command.Row.TheVariants.{Cmd0, Cmd6, Cmd8Emmc, Cmd12, Cmd13, Cmd17, Cmd18, Cmd24, Cmd25, Acmd13, Acmd51}
use Rattle.sdv_card.specs.declared.command.TakenAs.{TakenAs}
use Rattle.sdv_card.specs.declared.command.TakenAs.TheVariants.{By}
use Rattle.sdv_card.specs.Takes.{matches}
use Rattle.sdv_card.specs.CommandTable.{addressed_blocks}
use Rattle.sdv_card.specs.ScriptEvent.{SendCommand, ReceiveBlocks, ReceiveRegister, GiveBlocks, AwaitReady, Answered, BlocksIn, RegisterIn, BlocksOut, Waited}
use Rattle.sdv_card.specs.Card.{Card, IsCard, transfer_fits, capacity_of, accessed_capacity}
use Rattle.sdv_card.specs.Settled.{Settled}
use Rattle.sdv_card.specs.Taken.{SameCard, Taken, block_of, SameBlocks, Begins}
use Rattle.sdv_card.specs.Exchange.{card_takes}
use Rattle.sdv_card.specs.Phases.{blocks_due, Moved, MovedWriting, WaitEnds}
use Rattle.sdv_card.specs.Legal.{HasBlocks, Within, BlocksWithin, TransferOnCard}
use Rattle.sdv_card.specs.Laws.{StepsKeepOnCard}
use Rattle.sdv_card.proofs.Became.{Became, became}
use Rattle.sdv_card.proofs.Same.{settled_same, same_both, became_same}
use Rattle.sdv_card.proofs.RowsOfOrders.{order_announces, same_announces, row_announces, says}
use Rattle.sdv_card.proofs.OrdersOfAsks.{of_ask}
use Rattle.sdv_card.proofs.PhasePlaces.{calm_place}

no_due : (x y : Transfer) → blocks_due x ≡ false → x ≡ y → blocks_due y ≡ true → ⊥
no_due x y none e due = let f : false ≡ true = sym none ∙ (ap blocks_due e ∙ due) in cc

-- the transfer begins at the block that the argument names
begins_within : (unit : Bool) (argument position count next announced capacity : ℕ) → argument ≡ (if unit then position else 512 * position) →
    position + count ≤ capacity → block_of unit argument ≡ next → count ≡ announced → next + announced ≤ capacity
begins_within true argument position count next announced capacity named room at counted = omega arith
begins_within false argument position count next announced capacity named room at counted = omega arith

-- the partition in access is as large in a card of the same size
accessed_same : (c u : Card) → SameCard c u → c.mode.partition ≡ u.mode.partition → accessed_capacity c ≡ accessed_capacity u
accessed_same c u same partition =
    ap (λ p. capacity_of p c.capacity c.boot_capacity) partition ∙ capacity_same u.mode.partition same.capacity same.boot_capacity

-- a card of the same size, with the same partition in access
within_same : (c u : Card) (position argument count : ℕ) → SameCard c u → c.mode.partition ≡ u.mode.partition → 0 < count →
    Within c position argument count → Begins argument count u → HasBlocks u
within_same c u position argument count same partition some w b = record {
  some = subst (λ n. 0 < n) b.count_is some;
  room =
      begins_within u.block_unit argument position count u.next_block u.announced (accessed_capacity u)
      (subst (λ v. argument ≡ (if v then position else 512 * position)) same.block_unit w.unit)
      (subst (λ n. position + count ≤ n) (accessed_same c u same partition) w.room) b.block b.count_is;
}

-- the same blocks of a card of the same size
same_within : (next next' announced announced' capacity capacity' : ℕ) → next ≡ next' → announced ≡ announced' → capacity ≡ capacity' →
    next + announced ≤ capacity → next' + announced' ≤ capacity'
same_within next next' announced announced' capacity capacity' a b c room = omega arith

stood : (t u : Card) → SameCard t u → t.mode.partition ≡ u.mode.partition → t.transfer ≡ u.transfer → SameBlocks t u → TransferOnCard t → TransferOnCard u
stood t u same partition transfer blocks on due =
    let has : HasBlocks t = on (ap blocks_due transfer ∙ due) in
    record {
      some = subst (λ n. 0 < n) blocks.count_is has.some;
      room =
          same_within t.next_block u.next_block t.announced u.announced (accessed_capacity t) (accessed_capacity u) blocks.block blocks.count_is
          (accessed_same t u same partition) has.room;
    }

-- the blocks that a row announces are some, and on the card
record Announced (c : Card) (row : Row) (position argument : ℕ) : Type 0 where
  some : (n : ℕ) → row_announces row ≡ Some n → 0 < n
  within : (n : ℕ) → row_announces row ≡ Some n → Within c position argument n

-- a switch is taken in transfer state alone, where no transfer is due
calm_in_tran : (x : Transfer) → transfer_fits Tran x ≡ true → blocks_due x ≡ true → ⊥
calm_in_tran Nothing fits due = let e : false ≡ true = due in cc
calm_in_tran x fits due = let e : false ≡ true = fits in cc

no_switch : (k : Kind) (setting : Setting) (a b : State) (x : Transfer) → IsOneOf (rows k (Cmd6 setting)) (a to b) → transfer_fits a x ≡ true →
    blocks_due x ≡ true → ⊥
no_switch Sd setting a b x m fits due = m
no_switch Emmc setting a b x (inl e) fits due = calm_in_tran x (subst (λ s. transfer_fits s x ≡ true) (sym (ap (λ m. m.source) e)) fits) due
no_switch Emmc setting a b x (inr e) fits due = e

told_partition : (heard : Bool) (s : State) (mode mode' : Mode) → IsOneOf (mode_told heard s mode) mode' → mode.partition ≡ mode'.partition
told_partition heard s mode mode' m = elim (told_cases heard s mode mode' m) [ inl e ↦ ap (λ v. v.partition) e | inr e ↦ ap (λ v. v.partition) e ]

stayed_partition : (row : Row) (heard : Bool) (s : State) (mode mode' : Mode) → May (mode_stayed row heard s mode) mode' →
    mode.partition ≡ mode'.partition
stayed_partition Cmd13 heard s mode mode' n = told_partition heard s mode mode' n.one
stayed_partition row heard s mode mode' n = ap (λ v. v.partition) (only n)

taken_on_card : (row : Row) (heard : Bool) (position argument : ℕ) (c t u : Card) → SameCard c t → SameCard c u → c.mode.partition ≡ t.mode.partition →
    IsCard t → Taken row heard argument t u → Announced c row position argument → TransferOnCard t → TransferOnCard u
taken_on_card Cmd17 heard position argument c t u ct cu p card m within on due =
    within_same c u position argument 1 cu (p ∙ ap (λ v. v.partition) (only m.mode)) (within.some 1 refl) (within.within 1 refl) m.blocks
taken_on_card (Cmd18 n) heard position argument c t u ct cu p card m within on due =
    within_same c u position argument n cu (p ∙ ap (λ v. v.partition) (only m.mode)) (within.some n refl) (within.within n refl) m.blocks
taken_on_card Cmd24 heard position argument c t u ct cu p card m within on due =
    within_same c u position argument 1 cu (p ∙ ap (λ v. v.partition) (only m.mode)) (within.some 1 refl) (within.within 1 refl) m.blocks
taken_on_card (Cmd25 n) heard position argument c t u ct cu p card m within on due =
    within_same c u position argument n cu (p ∙ ap (λ v. v.partition) (only m.mode)) (within.some n refl) (within.within n refl) m.blocks
taken_on_card Cmd0 heard position argument c t u ct cu p card m within on due = absurd (no_due _ u.transfer refl m.transfer due)
taken_on_card Cmd8Emmc heard position argument c t u ct cu p card m within on due = absurd (no_due _ u.transfer refl m.transfer due)
taken_on_card Cmd12 heard position argument c t u ct cu p card m within on due = absurd (no_due _ u.transfer refl m.transfer due)
taken_on_card Acmd13 heard position argument c t u ct cu p card m within on due = absurd (no_due _ u.transfer refl m.transfer due)
taken_on_card Acmd51 heard position argument c t u ct cu p card m within on due = absurd (no_due _ u.transfer refl m.transfer due)
taken_on_card (Cmd6 setting) heard position argument c t u ct cu p card m within on due =
    absurd (no_switch t.kind setting t.state u.state t.transfer m.state.one card.transfer (ap blocks_due m.transfer ∙ due))
taken_on_card Cmd13 heard position argument c t u ct cu p card m within on due =
    stood t u m.same (told_partition heard t.state t.mode u.mode m.mode.one) m.transfer m.blocks on due
taken_on_card row heard position argument c t u ct cu p card m within on due =
    stood t u m.same (ap (λ v. v.partition) (only m.mode)) m.transfer m.blocks on due

became_on_card : (way : TakenAs) (position argument : ℕ) (c t u : Card) → SameCard c t → SameCard c u → c.mode.partition ≡ t.mode.partition → IsCard t →
    ((row : Row) → way ≡ By row → Announced c row position argument) → Became way argument t u → TransferOnCard t → TransferOnCard u
became_on_card way position argument c t u ct cu p card within (inl e) on = subst (λ v. TransferOnCard v) e on
became_on_card way position argument c t u ct cu p card within (inr (inl m)) on =
    taken_on_card m.row m.heard position argument c t u ct cu p card m.taken (within m.row m.by) on
became_on_card way position argument c t u ct cu p card within (inr (inr m)) on =
    stood t u m.stayed.same (stayed_partition m.row m.heard t.state t.mode u.mode m.stayed.mode) m.stayed.transfer m.stayed.blocks on

settled_partition : (c t : Card) → Settled c t → c.mode.partition ≡ t.mode.partition
settled_partition c t (inl e) = ap (λ v. v.mode.partition) e
settled_partition c t (inr x) = ap (λ v. v.mode.partition) x.2

settled_on_card : (c t : Card) → Settled c t → TransferOnCard c → TransferOnCard t
settled_on_card c t (inl e) on = subst (λ v. TransferOnCard v) e on
settled_on_card c t (inr x) on = λ due. absurd (no_due _ t.transfer refl (ap (λ v. v.transfer) x.2) due)

-- the blocks that the ask addresses are on the card
asked_within : (ask : Ask) (position argument n : ℕ) (c : Card) → addressed_blocks ask ≡ Some n → BlocksWithin (addressed_blocks ask) c position argument
    → Within c position argument n
asked_within ask position argument n c e w = subst (λ o. BlocksWithin o c position argument) e w

moved_on_card : (end : DataEnd) (c u : Card) → Moved end c u → TransferOnCard u
moved_on_card end c u m due = absurd (no_due m.place.transfer u.transfer (calm_place c.transfer end m.place m.may).no_blocks (ap (λ v. v.transfer) m.card) due)

moved_writing_on_card : (end : DataEnd) (c u : Card) → MovedWriting end c u → TransferOnCard u
moved_writing_on_card end c u m due =
    absurd (no_due m.place.transfer u.transfer (calm_place c.transfer end m.place m.may).no_blocks (ap (λ v. v.transfer) m.card) due)

waited_on_card : (c u : Card) (end : WaitEnd) → WaitEnds end c u → TransferOnCard c → TransferOnCard u
waited_on_card c u end w on =
    subst (λ v. TransferOnCard v) w.card (λ due. let has : HasBlocks c = on due in record { some = has.some; room = has.room })

pub steps_keep_on_card : (k : Kind) → StepsKeepOnCard k
steps_keep_on_card k (SendCommand ask position argument) c h (Answered answer) u pair legal bounds s on =
    let t : Card = s.exchange.settled_card in
    let way : TakenAs = card_takes t s.order argument in
    let came : Became way argument t u = became way s.order argument t u answer s.exchange.answered in
    became_on_card way position argument c t u (settled_same c t s.exchange.settled)
    (same_both c t u (settled_same c t s.exchange.settled) (became_same way argument t u came))
    (settled_partition c t s.exchange.settled) (settled_is_card c t pair.card s.exchange.settled)
    (λ row by.
    let same : order_announces s.order ≡ row_announces row = same_announces (says s.order t.app (matches t.rca (argument / 65536)) row by) in
    record {
      some = λ n e. (of_ask c.kind ask s.order s.asks.line).some n (same ∙ e);
      within = λ n e. asked_within ask position argument n c ((of_ask c.kind ask s.order s.asks.line).blocks n (same ∙ e)) bounds;
    })
    came (settled_on_card c t s.exchange.settled on)
steps_keep_on_card k (ReceiveBlocks lines count) c h (BlocksIn end blocks) u pair legal bounds s on = moved_on_card end c u s.moved
steps_keep_on_card k (ReceiveRegister lines count) c h (RegisterIn end bytes) u pair legal bounds s on = moved_on_card end c u s.moved
steps_keep_on_card k (GiveBlocks lines blocks) c h (BlocksOut end) u pair legal bounds s on = moved_writing_on_card end c u s.moved
steps_keep_on_card k AwaitReady c h (Waited end) u pair legal bounds s on = waited_on_card c u end s on
steps_keep_on_card k event c h returned u pair legal bounds s on = absurd s
