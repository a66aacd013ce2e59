-- WHY an event is not legal at a shape: its rules stand in a table, in the order in which they are tried, and the first
-- one that is not kept has the reason.
-- The rules are those of cards (`Legal.antt` of sdv_card); their order is this project's own.
use Rattle.std.specs.Prelude.{Bool, true, false, ℕ, List, [], ◌∷◌, Option, Some, None, if◌then◌else◌, option_map, option_and_then}
use Rattle.sdv_registers.specs.declared.kind.Kind.{Kind}
use Rattle.sdv_card.specs.declared.command.Order.{Order}
use Rattle.sdv_card.specs.declared.command.Row.{Row}
use Rattle.sdv_card.specs.declared.command.TakenAs.{TakenAs}
use Rattle.sdv_card.specs.declared.command.TakenAs.TheVariants.{Forbidden, Ignored, By}
use Rattle.sdv_card.specs.declared.event.Event.{Event}
use Rattle.sdv_card.specs.declared.event.Event.TheVariants.{Send, RecvBlocks, RecvReg, Give, Wait}
use Rattle.sdv_card.specs.declared.fields.Fields.{Fields}
use Rattle.sdv_card.specs.declared.shape.Shape.{Shape}
use Rattle.sdv_card.specs.declared.state.State.{State}
use Rattle.sdv_card.specs.declared.state.Transfer.TheVariants.{Nothing}
use Rattle.sdv_card.specs.Code.{fields_of}
use Rattle.sdv_card.specs.CommandTable.{order_of}
use Rattle.sdv_card.specs.Legal.{recv_legal, recv_reg_legal, give_legal, wait_legal}
use Rattle.sdv_card.specs.Lists.{has_some}
use Rattle.sdv_card.specs.Modes.{same_width}
use Rattle.sdv_card.specs.RowRules.{length_allows, erase_allows, preset_allows}
use Rattle.sdv_card.specs.Shapes.{is_shape}
use Rattle.sdv_card.specs.States.{own_target}
use Rattle.sdv_card.specs.StateTable.{rows, targets}
use Rattle.sdv_card.specs.Takes.{taken_as_of}
use Rattle.sdv_graph.specs.Path.{Action, sends, phases}
use Rattle.sdv_facts.specs.Edges.{event_of_phase}
use Rattle.sdv_certify.specs.declared.fault.CertifyFault.{CertifyFault}
use Rattle.sdv_certify.specs.declared.fault.CertifyFault.TheVariants.{Illegal, Address, EndState}
use Rattle.sdv_telling.specs.declared.illegality.Illegality.{Illegality}
use Rattle.sdv_telling.specs.declared.illegality.Reason.{Reason}
use Rattle.sdv_telling.specs.declared.illegality.Reason.TheVariants as told
use Rattle.sdv_telling.specs.declared.refused.Why.{Why}
use Rattle.sdv_telling.specs.declared.refused.Why.TheVariants as why

-- whether a rule is kept, and the reason where it is not
pub record Rule : Type 0 where
  pub kept : Bool
  pub reason : Reason

infixl 40 ◌otherwise◌
abbrev pub ◌otherwise◌ : Bool → Reason → Rule
kept otherwise reason = record { kept = kept; reason = reason }

-- the reason of the first rule that is not kept
abbrev pub first_broken : List Rule → Option Reason
first_broken [] = None
first_broken (rule ∷ rules) = if rule.kept then first_broken rules else Some rule.reason

-- THE RULES OF A COMMAND at a settled t

-- of one that t takes by a row
abbrev pub row_rules : Kind → Row → Fields → List Rule
row_rules k row t =
    (has_some (targets (rows k row) t.state) otherwise told.State t.state)
    ∷ (length_allows row t.length_512 otherwise told.BlockLength)
    ∷ (erase_allows row t.erase otherwise told.EraseSequence)
    ∷ (preset_allows row t.preset otherwise told.PresetCount t.preset)
    ∷ []

-- without the application flag a card takes no application command, and with it few others
abbrev pub forbidden : (app : Bool) → Reason
forbidden true = told.NotForApplications
forbidden false = told.OnlyForApplications

abbrev pub taken_rules : Kind → Fields → TakenAs → List Rule
taken_rules k t Forbidden = (false otherwise forbidden t.app) ∷ []
taken_rules k t Ignored = []
taken_rules k t (By row) = row_rules k row t

abbrev pub order_rules : Kind → Order → Fields → List Rule
order_rules k order t = taken_rules k t (taken_as_of order t.app t.matched)

-- A COMMAND has to be legal at the card as it is, and then also at the card after its own step, if it has one

abbrev pub as_it_is : Option Reason → Option Illegality
as_it_is reason = option_map (λ r. record { reason = r; after_step = None }) reason

abbrev pub stepped : Fields → State → Fields
stepped f state = record f { state = state; transfer = Nothing }

abbrev pub after_its_step : Kind → Order → Fields → Option State → Option Illegality
after_its_step k order f None = None
after_its_step k order f (Some state) =
    option_map (λ r. record { reason = r; after_step = Some state })
    (first_broken (order_rules k order (stepped f state)))

-- the first, or else the other
abbrev pub or_else : Option Illegality → Option Illegality → Option Illegality
or_else (Some first) other = Some first
or_else None other = other

abbrev pub order_illegality : Kind → Order → Fields → Option Illegality
order_illegality k order f =
    or_else (as_it_is (first_broken (order_rules k order f))) (after_its_step k order f (own_target f.state f.transfer))

-- the kind has to have the command
abbrev pub send_illegality : Kind → Option Order → Fields → Option Illegality
send_illegality k None f = as_it_is (Some told.NoCommand)
send_illegality k (Some order) f = order_illegality k order f

-- A DATA PHASE has to be due, and the host and the card have to use the same data lines

abbrev pub phase_rules : (is_due : Bool) → (none_due : Reason) → Fields → List Rule
phase_rules is_due none_due f =
    (is_due otherwise none_due)
    ∷ (same_width f.lines f.mode.width otherwise told.OtherLines f.mode.width f.lines)
    ∷ []

-- EACH EVENT

abbrev pub event_illegality : Kind → Event → Fields → Option Illegality
event_illegality k (Send ask) f = send_illegality k (order_of k ask) f
event_illegality k RecvBlocks f =
    as_it_is (first_broken (phase_rules (recv_legal f.state f.transfer) told.NoReadDue f))
event_illegality k RecvReg f =
    as_it_is (first_broken (phase_rules (recv_reg_legal f.state f.transfer) told.NoRegisterDue f))
event_illegality k Give f =
    as_it_is (first_broken (phase_rules (give_legal f.state f.transfer) told.NoWriteDue f))
event_illegality k Wait f = as_it_is (first_broken ((wait_legal f.state otherwise told.State f.state) ∷ []))

-- before all rules the number has to be a shape of the kind
abbrev pub illegality_at : Kind → Event → Option Fields → Option Illegality
illegality_at k event None = as_it_is (Some told.NoCard)
illegality_at k event (Some f) = if is_shape k f then event_illegality k event f else as_it_is (Some told.NoCard)

-- why an event is not legal at a code, if it is not
abbrev pub illegality_of : Kind → (code : ℕ) → Event → Option Illegality
illegality_of k code event = illegality_at k event (fields_of code)

-- THE STATEMENT that a refusal names

-- the event that it makes, if it makes one
abbrev pub event_of : Action → Option Event
event_of (sends c ways other) = Some (Send c.ask)
event_of (phases p well other) = Some (event_of_phase p)
event_of action = None

-- why the event is not legal at the shape
abbrev pub illegality_there : Kind → Action → Shape → Option Illegality
illegality_there k action s = option_and_then (illegality_of k s.0) (event_of action)

-- why the statement is refused at the shape, by a refusal that names a point
abbrev pub why_refused : CertifyFault → Kind → Action → Shape → Option Why
why_refused (Illegal point shape) k action s = Some (why.Illegal (illegality_there k action s))
why_refused (Address point) k action s = Some why.Address
why_refused (EndState point) k action s = Some why.EndState
why_refused fault k action s = None
