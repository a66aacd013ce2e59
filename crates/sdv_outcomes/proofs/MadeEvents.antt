-- An event of each kind that a host can make, and when it is in bounds.
use Rattle.std.proofs.Common.{◌≡◌, ℕ, ◌+◌, ◌≤◌, ◌*◌, refl, ap, subst, sym, ◌∙◌, Bool, replicate, Option, Some, None, if◌then◌else◌, lit<}
use Rattle.std.proofs.lemmas.List.{length-replicate}
use Rattle.std.proofs.lemmas.List.Elements.{All-replicate}
use Rattle.sdv_registers.specs.declared.kind.Kind.{Kind}
use Rattle.sdv_card.specs.declared.fields.Fields.{Fields}
use Rattle.sdv_card.specs.declared.event.Ask.{Ask}
use Rattle.sdv_card.specs.declared.event.Event.{Event}
use Rattle.sdv_card.specs.declared.event.Event.TheVariants.{Send, RecvBlocks, RecvReg, Give, Wait}
use Rattle.sdv_card.specs.declared.event.Outcome.{Outcome}
use Rattle.sdv_card.specs.declared.command.Order.{Order}
use Rattle.sdv_card.specs.declared.command.Order.TheVariants.{ReadSingleBlock, ReadMultipleBlock, WriteBlock, WriteMultipleBlock, EraseBlockStart, EraseBlockEnd, EraseGroupStart, EraseGroupEnd}
use Rattle.sdv_card.specs.CommandTable.{order_of, order_argument, argument_of, argument_or_none, addressed_blocks}
use Rattle.sdv_card.specs.ScriptEvent.{ScriptEvent, SendCommand, ReceiveBlocks, ReceiveRegister, GiveBlocks, AwaitReady}
use Rattle.sdv_card.specs.Card.{Card, IsByte, IsRegister, Block, accessed_capacity, capacity_of}
use Rattle.sdv_card.specs.Host.{Host}
use Rattle.sdv_card.specs.HostEvents.{Makes}
use Rattle.sdv_card.specs.Legal.{EventLegal, InBounds, BlocksWithin, recv_legal, recv_reg_legal, give_legal}
use Rattle.sdv_card.specs.Taken.{SameCard}
use Rattle.sdv_card.specs.Code.{digits}
use Rattle.sdv_card.specs.Shapes.{view, pair_code, IsPair}
use Rattle.sdv_card.specs.Laws.{order_blocks}
use Rattle.sdv_card.proofs.Digits.{digits_law}
use Rattle.sdv_card.proofs.Members.{and_left}
use Rattle.sdv_card.proofs.HasStep.{read_is_due, register_is_due, write_is_due}
use Rattle.sdv_card.proofs.TableLaws.{asks_address}
use Rattle.sdv_outcomes.specs.OpenGuards.{OpenGuards}
use Rattle.sdv_outcomes.specs.Representative.{IsRepresentativePair}
use Rattle.sdv_outcomes.specs.OutcomeSteps.{GivesBlocks}
use Rattle.sdv_outcomes.specs.Histories.{Happens, CommandWithin, EntryWithin}
use Rattle.sdv_outcomes.specs.Runs.{IsEvent}
use Rattle.sdv_outcomes.proofs.EventSteps.{reads_blocks, writes_blocks}

-- THE PARTITION IN ACCESS has as many blocks as its code and the sizes of the card say

pub record HasSizes (capacity boot_capacity : ℕ) (c : Card) : Type 0 where
  pub user : c.capacity ≡ capacity
  pub boot : c.boot_capacity ≡ boot_capacity

pub same_sizes : (n b : ℕ) (c u : Card) → SameCard c u → HasSizes n b c → HasSizes n b u
same_sizes n b c u same sizes = record { user = sym same.capacity ∙ sizes.user; boot = sym same.boot_capacity ∙ sizes.boot }

pub accessed_at : (k : Kind) (n b : ℕ) (c : Card) (h : Host) → IsPair k c h → HasSizes n b c →
    capacity_of (digits (pair_code c h)).mode.partition n b ≡ accessed_capacity c
accessed_at k n b c h pair sizes =
    ap (λ (f : Fields). capacity_of f.mode.partition n b) (digits_law (view c h) pair.flags pair.card.preset)
    ∙ (ap (λ m. capacity_of c.mode.partition m b) (sym sizes.user) ∙ ap (λ m. capacity_of c.mode.partition c.capacity m) (sym sizes.boot))

-- AN EVENT of each kind, as a host can make it

-- the address of a block, in this unit
abbrev pub address_in : (unit : Bool) → (position : ℕ) → ℕ
address_in unit position = if unit then position else 512 * position

-- a command with an address sends it as its argument
own_address : (order : Order) (own rca address count : ℕ) → order_blocks order ≡ Some count → order_argument order own rca address ≡ address
own_address ReadSingleBlock own rca address count e = refl
own_address (ReadMultipleBlock n) own rca address count e = refl
own_address WriteBlock own rca address count e = refl
own_address (WriteMultipleBlock n) own rca address count e = refl
own_address EraseBlockStart own rca address count e = refl
own_address EraseBlockEnd own rca address count e = refl
own_address EraseGroupStart own rca address count e = refl
own_address EraseGroupEnd own rca address count e = refl
own_address order own rca address count e = absurd (let f : None ≡ Some count = e in cc)

pub sent_address : (k : Kind) (ask : Ask) (order : Order) (rca address count : ℕ) → order_of k ask ≡ Some order → addressed_blocks ask ≡ Some count →
    argument_of k ask rca address ≡ address
sent_address k ask order rca address count e f =
    ap (λ o. argument_or_none o ask.argument rca address) e ∙ own_address order ask.argument rca address count (asks_address k ask order e ∙ f)

pub blocks_within : (blocks : Option ℕ) (c : Card) (position argument : ℕ) → ((n : ℕ) → blocks ≡ Some n → argument ≡ address_in c.block_unit position) →
    ((n : ℕ) → blocks ≡ Some n → position + n ≤ accessed_capacity c) → BlocksWithin blocks c position argument
blocks_within None c position argument unit room = tt
blocks_within (Some n) c position argument unit room = record { unit = unit n refl; room = room n refl }

pub addressed_room : (k : Kind) (n b : ℕ) (c : Card) (h : Host) (ask : Ask) (position : ℕ) → IsPair k c h → HasSizes n b c →
    CommandWithin n b (pair_code c h) ask position → (count : ℕ) → addressed_blocks ask ≡ Some count → position + count ≤ accessed_capacity c
addressed_room k n b c h ask position pair sizes within count e =
    subst (λ m. position + count ≤ m) (accessed_at k n b c h pair sizes) (within count e)

-- a block of zeros
pub block : Block
block = replicate 512 0

pub block_fits : IsRegister 512 block
unfolding block
block_fits = record { size = length-replicate {A = ℕ} 512 0; bytes_fit = All-replicate IsByte 512 0 (lit< tt) }

-- a command with the address of the block at the position; a phase on the host's lines, as long as it announced or asked
-- for last
pub event_for : Kind → Event → (position : ℕ) → Card → Host → ScriptEvent
event_for k (Send ask) position c h = SendCommand ask position (argument_of k ask h.rca (address_in c.block_unit position))
event_for k RecvBlocks position c h = ReceiveBlocks h.lines h.announced
event_for k RecvReg position c h = ReceiveRegister h.lines h.register_length
event_for k Give position c h = GiveBlocks h.lines (replicate h.announced block)
event_for k Wait position c h = AwaitReady

pub event_is : (k : Kind) (event : Event) (position : ℕ) (c : Card) (h : Host) → IsEvent event position (event_for k event position c h)
unfolding event_for
event_is k (Send ask) position c h = record { same = refl; placed = refl }
event_is k RecvBlocks position c h = record { same = refl; placed = tt }
event_is k RecvReg position c h = record { same = refl; placed = tt }
event_is k Give position c h = record { same = refl; placed = tt }
event_is k Wait position c h = record { same = refl; placed = tt }

pub event_made : (k : Kind) (event : Event) (position : ℕ) (c : Card) (h : Host) → Makes k (event_for k event position c h) h
unfolding event_for
event_made k (Send ask) position c h = record { address = address_in c.block_unit position; same = refl }
event_made k RecvBlocks position c h = record { lines_are = refl; size = refl }
event_made k RecvReg position c h = record { lines_are = refl; size = refl }
event_made k Give position c h = record { lines_are = refl; size = length-replicate h.announced block }
event_made k Wait position c h = tt

pub event_gives : (k : Kind) (event : Event) (position : ℕ) (c : Card) (h : Host) → GivesBlocks (event_for k event position c h)
unfolding event_for
event_gives k (Send ask) position c h = tt
event_gives k RecvBlocks position c h = tt
event_gives k RecvReg position c h = tt
event_gives k Give position c h = All-replicate (IsRegister 512) h.announced block block_fits
event_gives k Wait position c h = tt

-- IN BOUNDS

pub sent_within : (k : Kind) (n b : ℕ) (c : Card) (h : Host) (ask : Ask) (order : Order) (position : ℕ) → IsPair k c h → HasSizes n b c →
    order_of k ask ≡ Some order → CommandWithin n b (pair_code c h) ask position → InBounds (event_for k (Send ask) position c h) c
unfolding event_for
sent_within k n b c h ask order position pair sizes line within =
    blocks_within (addressed_blocks ask) c position (argument_of k ask h.rca (address_in c.block_unit position))
    (λ count e. sent_address k ask order h.rca (address_in c.block_unit position) count line e)
    (addressed_room k n b c h ask position pair sizes within)

-- where the event is legal, and its entry is in bounds
pub event_within : (k : Kind) (event : Event) (position : ℕ) (o : Outcome) (guards : OpenGuards) (n b : ℕ) (c : Card) (h : Host) →
    IsRepresentativePair k c h → HasSizes n b c → EntryWithin n b (pair_code c h) (Happens event position o guards) →
    EventLegal (event_for k event position c h) c → InBounds (event_for k event position c h) c
unfolding event_for
event_within k (Send ask) position o guards n b c h good sizes within legal =
    sent_within k n b c h ask legal.order position good.pair sizes
    (subst (λ v. order_of v ask ≡ Some legal.order) (sym good.pair.kind) legal.asks.line) within
event_within k RecvBlocks position o guards n b c h good sizes within legal =
    good.sound.blocks (reads_blocks c.transfer (read_is_due c.state c.transfer (and_left (recv_legal c.state c.transfer) _ legal)))
event_within k RecvReg position o guards n b c h good sizes within legal =
    good.sound.register (register_is_due c.state c.transfer (and_left (recv_reg_legal c.state c.transfer) _ legal))
event_within k Give position o guards n b c h good sizes within legal =
    length-replicate h.announced block
    ∙ good.sound.blocks (writes_blocks c.transfer (write_is_due c.state c.transfer (and_left (give_legal c.state c.transfer) _ legal)))
event_within k Wait position o guards n b c h good sizes within legal = tt
