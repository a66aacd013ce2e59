-- Whether what a script does next is allowed at the card that is seen.
use Rattle.std.specs.Prelude.{◌==◌, ◌&&◌, ◌+◌, ◌*◌, nat_le, Bool, true, false, ℕ, Option, Some, None, if◌then◌else◌}
use Rattle.sdv_registers.specs.declared.kind.Kind.{Kind}
use Rattle.sdv_card.specs.declared.event.Event.{Event}
use Rattle.sdv_card.specs.declared.event.Event.TheVariants as events
use Rattle.sdv_card.specs.declared.state.State.{State}
use Rattle.sdv_card.specs.declared.state.State.TheVariants.{Tran}
use Rattle.sdv_card.specs.Code.{code_of}
use Rattle.sdv_card.specs.CommandTable.{addressed_blocks}
use Rattle.sdv_card.specs.Host.{Host}
use Rattle.sdv_card.specs.LegalShapes.{legal_code}
use Rattle.sdv_refute.specs.declared.next.Next.{Next}
use Rattle.sdv_refute.specs.declared.next.Next.TheVariants.{Send, Receive, ReceiveRegister, Give, Wait, Done}
use Rattle.sdv_refute.specs.declared.sight.Sight.{Sight}
use Rattle.sdv_refute.specs.Sight.{fields_seen}

-- the argument is that of the block at the position in the card's unit, and the card has so many blocks from there on
abbrev pub in_bounds : Option ℕ → (position argument : ℕ) → Sight → Bool
in_bounds None position argument s = true
in_bounds (Some count) position argument s =
    (argument == (if s.block_unit then position else 512 * position)) && nat_le (position + count) s.capacity

abbrev pub is_tran : State → Bool
is_tran Tran = true
is_tran state = false

-- by the shape of the card beside its host
abbrev pub is_legal : Kind → Host → Sight → Event → Bool
is_legal k h s event = legal_code k (code_of (fields_seen s h)) event

abbrev pub allows : Kind → Host → Sight → Next → Bool
allows k h s (Send ask position argument) =
    is_legal k h s (events.Send ask) && in_bounds (addressed_blocks ask) position argument s
allows k h s (Receive count) = is_legal k h s events.RecvBlocks
allows k h s (ReceiveRegister count) = is_legal k h s events.RecvReg
allows k h s (Give count) = is_legal k h s events.Give
allows k h s Wait = is_legal k h s events.Wait
allows k h s Done = is_tran s.state

-- a statement that makes no event is allowed
abbrev pub allows_next : Kind → Host → Sight → Option Next → Bool
allows_next k h s None = true
allows_next k h s (Some next) = allows k h s next
