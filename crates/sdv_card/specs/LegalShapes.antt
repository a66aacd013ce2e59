-- When an event is legal at a code.
-- The conditions are those of cards; which of them a shape shows is this project's own.
use Rattle.std.specs.Prelude.{Bool, true, false, ℕ, ◌&&◌, Option, Some, None}
use Rattle.sdv_registers.specs.declared.kind.Kind.{Kind}
use Rattle.sdv_card.specs.declared.fields.Fields.{Fields}
use Rattle.sdv_card.specs.declared.event.Event.{Event}
use Rattle.sdv_card.specs.declared.event.Event.TheVariants.{Send, RecvBlocks, RecvReg, Give, Wait}
use Rattle.sdv_card.specs.declared.command.Order.{Order}
use Rattle.sdv_card.specs.declared.command.Row.{Row}
use Rattle.sdv_card.specs.declared.command.TakenAs.{TakenAs}
use Rattle.sdv_card.specs.declared.command.TakenAs.TheVariants.{Forbidden, Ignored, By}
use Rattle.sdv_card.specs.Lists.{all, has_some}
use Rattle.sdv_card.specs.StateTable.{rows, targets}
use Rattle.sdv_card.specs.RowRules.{length_allows, erase_allows, preset_allows}
use Rattle.sdv_card.specs.Takes.{taken_as_of}
use Rattle.sdv_card.specs.CommandTable.{order_of}
use Rattle.sdv_card.specs.Legal.{recv_legal, recv_reg_legal, give_legal, wait_legal}
use Rattle.sdv_card.specs.Modes.{same_width}
use Rattle.sdv_card.specs.Code.{fields_of}
use Rattle.sdv_card.specs.Shapes.{is_shape}
use Rattle.sdv_card.specs.Outcomes.{settled}

-- a settled t has the row, and meets its conditions
abbrev pub row_legal : Kind → Row → Fields → Bool
row_legal k row t =
    has_some (targets (rows k row) t.state) && length_allows row t.length_512 && erase_allows row t.erase
    && preset_allows row t.preset

abbrev pub settled_legal : Kind → Fields → TakenAs → Bool
settled_legal k t Forbidden = false
settled_legal k t Ignored = true
settled_legal k t (By row) = row_legal k row t

-- an order is legal at each settled t
abbrev pub order_legal : Kind → Order → Fields → Bool
order_legal k order f = all (λ t. settled_legal k t (taken_as_of order t.app t.matched)) (settled f)

abbrev pub ask_legal : Kind → Option Order → Fields → Bool
ask_legal k None f = false
ask_legal k (Some order) f = order_legal k order f

-- an event is legal at fields
abbrev pub event_legal : Kind → Event → Fields → Bool
event_legal k (Send ask) f = ask_legal k (order_of k ask) f
event_legal k RecvBlocks f = recv_legal f.state f.transfer && same_width f.lines f.mode.width
event_legal k RecvReg f = recv_reg_legal f.state f.transfer && same_width f.lines f.mode.width
event_legal k Give f = give_legal f.state f.transfer && same_width f.lines f.mode.width
event_legal k Wait f = wait_legal f.state

-- a number that is no code, and a code that is no shape of the kind, is legal for no event
abbrev pub legal_at : Kind → Event → Option Fields → Bool
legal_at k event None = false
legal_at k event (Some f) = is_shape k f && event_legal k event f

-- an event is legal at a code
abbrev pub legal_code : Kind → ℕ → Event → Bool
legal_code k code event = legal_at k event (fields_of code)
