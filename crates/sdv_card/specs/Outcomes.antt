-- What may follow an event at the fields of a shape: the product of the rules of each part.
-- The rules are those of cards; which of them a shape shows is this project's own.
use Rattle.std.specs.Prelude.{Bool, true, false, not, ℕ, List, [], ◌∷◌, ◌++◌, if◌then◌else◌, Option, Some, None, map}
use Rattle.sdv_registers.specs.declared.kind.Kind.{Kind}
use Rattle.sdv_card.specs.declared.state.State.{State}
use Rattle.sdv_card.specs.declared.state.Transfer.TheVariants.{Nothing}
use Rattle.sdv_card.specs.declared.state.EraseStage.{EraseStage}
use Rattle.sdv_card.specs.declared.state.Mode.{Mode}
use Rattle.sdv_card.specs.declared.state.Place.{Place}
use Rattle.sdv_card.specs.declared.fields.Fields.{Fields}
use Rattle.sdv_card.specs.declared.event.Event.{Event}
use Rattle.sdv_card.specs.declared.event.Event.TheVariants.{Send, RecvBlocks, RecvReg, Give, Wait}
use Rattle.sdv_card.specs.declared.event.Seen.{Seen}
use Rattle.sdv_card.specs.declared.event.Seen.TheVariants.{Sent, TimeOut, Bare, Ocr, Status, Ok as SeenOk, NotOk}
use Rattle.sdv_card.specs.declared.event.Branch.{Branch}
use Rattle.sdv_card.specs.declared.event.Outcome.{Outcome}
use Rattle.sdv_card.specs.declared.answer.DataEnd.{DataEnd}
use Rattle.sdv_card.specs.declared.answer.DataEnd.TheVariants.{Ok, Cut}
use Rattle.sdv_card.specs.declared.answer.WaitEnd.{WaitEnd}
use Rattle.sdv_card.specs.declared.answer.WaitEnd.TheVariants.{Ok as Over, Late}
use Rattle.sdv_card.specs.declared.command.Order.{Order}
use Rattle.sdv_card.specs.declared.command.Order.TheVariants.{DeselectCards}
use Rattle.sdv_card.specs.declared.command.Row.{Row}
use Rattle.sdv_card.specs.declared.command.Row.TheVariants.{Cmd13, Cmd55}
use Rattle.sdv_card.specs.declared.command.Response.{Response}
use Rattle.sdv_card.specs.declared.command.Response.TheVariants.{Absent, NotAddressed, CardStatus, NewAddress, Contents, Conditions}
use Rattle.sdv_card.specs.declared.command.TakenAs.{TakenAs}
use Rattle.sdv_card.specs.declared.command.TakenAs.TheVariants.{Forbidden, Ignored, By}
use Rattle.sdv_card.specs.Lists.{each}
use Rattle.sdv_card.specs.States.{state_number, is_ready, own_target}
use Rattle.sdv_card.specs.Takes.{taken_as_of}
use Rattle.sdv_card.specs.RowRules.{states_after, app_after, erase_after, erase_stayed, preset_after, preset_kept, length_after, matched_after, matched_stayed, mode_after, mode_stayed, transfer_after}
use Rattle.sdv_card.specs.Responses.{response_of}
use Rattle.sdv_card.specs.CommandTable.{order_of}
use Rattle.sdv_card.specs.Phases.{after_phase, after_wait}
use Rattle.sdv_card.specs.Code.{code_of, fields_of}

abbrev pub branch : Fields → Seen → Branch
branch f s = record { fields = f; seen = s }

-- the same branch for each of the fields
abbrev pub with_seen : Seen → List Fields → List Branch
with_seen s fs = map (λ u. branch u s) fs

-- SETTLED: as it is, and after its own step
abbrev pub own_steps : Fields → Option State → List Fields
own_steps f None = []
own_steps f (Some s) = record f { state = s; transfer = Nothing } ∷ []

abbrev pub settled : Fields → List Fields
settled f = f ∷ own_steps f (own_target f.state f.transfer)

-- ALL VALUES of a part, and with each those of the parts after it
abbrev pub with_presets : Fields → List ℕ → List Fields
with_presets t presets = map (λ preset. record t { preset = preset }) presets

abbrev pub with_matches : Fields → List Bool → List ℕ → List Fields
with_matches t matches presets = each matches (λ matched. with_presets (record t { matched = matched }) presets)

abbrev pub with_modes : Fields → List Mode → List Bool → List ℕ → List Fields
with_modes t modes matches presets = each modes (λ mode. with_matches (record t { mode = mode }) matches presets)

abbrev pub with_lengths : Fields → (lengths : List Bool) → List Mode → (matches : List Bool) → List ℕ → List Fields
with_lengths t lengths modes matches presets =
    each lengths (λ length. with_modes (record t { length_512 = length }) modes matches presets)

abbrev pub with_apps : Fields → (apps lengths : List Bool) → List Mode → List Bool → List ℕ → List Fields
with_apps t apps lengths modes matches presets =
    each apps (λ app. with_lengths (record t { app = app }) lengths modes matches presets)

abbrev pub with_states : Fields → List State → (apps lengths : List Bool) → List Mode → List Bool → List ℕ →
    List Fields
with_states t states apps lengths modes matches presets =
    each states (λ state. with_apps (record t { state = state }) apps lengths modes matches presets)

abbrev pub with_erases : Fields → List EraseStage → List Mode → List Bool → List ℕ → List Fields
with_erases t erases modes matches presets =
    each erases (λ erase. with_modes (record t { erase = erase }) modes matches presets)

-- TAKEN: a settled t after the row; heard: the host heard the answer, or there is none
abbrev pub taken : Kind → Row → (heard : Bool) → Fields → List Fields
taken k row heard t =
    with_states (record t { transfer = transfer_after row t.preset t.transfer; erase = erase_after row t.erase })
    (states_after k row t.block_unit t.state) (app_after row) (length_after row t.block_unit t.length_512)
    (mode_after row heard t.state t.mode) (matched_after row heard t.matched) (preset_after k row t.preset)

-- STAYED: a settled t that lost its application flag, with each match of a list; heard: the host heard the answer.
-- CMD13 leaves a card that stayed as it may leave one that took it, so none are listed there.
abbrev pub stayed : Kind → Row → (heard : Bool) → List Bool → Fields → List Fields
stayed k Cmd13 heard matches t = []
stayed k row heard matches t = with_erases (record t { app = false }) (erase_stayed row t.erase)
    (mode_stayed row heard t.state t.mode) matches (preset_kept k t.preset)

-- with a status or an address as response a card may have stayed
abbrev pub lost_stayed : Kind → Response → Row → Fields → List Fields
lost_stayed k CardStatus row t = stayed k row false (t.matched ∷ []) t
lost_stayed k NewAddress row t = stayed k row false (t.matched ∷ []) t
lost_stayed k response row t = []

-- LOST: the command, or its response
abbrev pub lost : Kind → Response → Row → Fields → List Fields
lost k response row t = t ∷ (taken k row false t ++ lost_stayed k response row t)

-- the application flag is shown by a response to CMD55 alone
abbrev pub app_shown : Row → Bool → Option Bool
app_shown Cmd55 app = Some app
app_shown row app = None

-- a pending switch error is shown by a response to CMD13 alone, where it ends
abbrev pub switch_shown : Row → (before after : Bool) → Option Bool
switch_shown Cmd13 true after = Some (not after)
switch_shown row before after = None

-- what is seen of a status that a settled t gives, which is then u
abbrev pub status_seen : Row → Bool → Fields → Fields → Seen
status_seen row doubt t u =
    Status (state_number t.state) doubt (app_shown row u.app) (switch_shown row t.mode.error u.mode.error)

-- what is seen of the operating conditions of a card that is then u
abbrev pub conditions_seen : Fields → Seen
conditions_seen u = if is_ready u.state then Ocr true (Some u.block_unit) else Ocr false None

abbrev pub with_status : Row → Bool → Fields → List Fields → List Branch
with_status row doubt t fs = map (λ u. branch u (status_seen row doubt t u)) fs

abbrev pub with_conditions : List Fields → List Branch
with_conditions fs = map (λ u. branch u (conditions_seen u)) fs

-- ANSWERED with a status: without doubt the card took the row, with doubt it took it or stayed
abbrev pub statuses : Row → Fields → (took stay : List Fields) → List Branch
statuses row t took stay = with_status row false t took ++ with_status row true t (took ++ stay)

-- what is seen where no card is addressed
abbrev pub unaddressed_seen : Order → Seen
unaddressed_seen DeselectCards = Sent
unaddressed_seen order = TimeOut

-- what may follow a row at a settled t
abbrev pub row_branches : Kind → Order → Row → Response → Fields → List Branch
row_branches k order row Absent t = with_seen Sent (taken k row true t)
row_branches k order row NotAddressed t = with_seen (unaddressed_seen order) (t ∷ taken k row true t)
row_branches k order row CardStatus t = with_seen TimeOut (lost k CardStatus row t) ++ statuses row t
    (taken k row true t) (stayed k row true (t.matched ∷ []) t)
row_branches k order row NewAddress t = with_seen TimeOut (lost k NewAddress row t) ++ statuses row t
    (taken k row true t) (stayed k row true (matched_stayed t.state) t)
row_branches k order row Contents t = with_seen TimeOut (lost k Contents row t) ++ with_seen Bare (taken k row true t)
row_branches k order row Conditions t = with_seen TimeOut (lost k Conditions row t) ++ with_conditions
    (taken k row true t)

-- what may follow an order at a settled t
abbrev pub settled_branches : Kind → Order → Fields → TakenAs → List Branch
settled_branches k order t Forbidden = []
settled_branches k order t Ignored = branch t TimeOut ∷ []
settled_branches k order t (By row) = row_branches k order row (response_of row) t

-- what may follow an order
abbrev pub order_branches : Kind → Order → Fields → List Branch
order_branches k order f = each (settled f) (λ t. settled_branches k order t (taken_as_of order t.app t.matched))

abbrev pub ask_branches : Kind → Option Order → Fields → List Branch
ask_branches k None f = []
ask_branches k (Some order) f = order_branches k order f

-- what is seen of a phase and of a wait
abbrev pub phase_seen : DataEnd → Seen
phase_seen Ok = SeenOk
phase_seen Cut = NotOk

abbrev pub wait_seen : WaitEnd → Seen
wait_seen Over = SeenOk
wait_seen Late = NotOk

abbrev pub placed : Fields → Place → Fields
placed f place = record f { state = place.state; transfer = place.transfer }

-- what may follow a phase that ends so; a wait that ends so
abbrev pub phase_ends : DataEnd → Fields → List Branch
phase_ends end f = map (λ place. branch (placed f place) (phase_seen end)) (after_phase f.transfer end)

abbrev pub wait_ends : WaitEnd → Fields → List Branch
wait_ends end f = map (λ state. branch (record f { state = state }) (wait_seen end)) (after_wait f.state end)

-- what may follow an event at fields
abbrev pub event_branches : Kind → Event → Fields → List Branch
event_branches k (Send ask) f = ask_branches k (order_of k ask) f
event_branches k RecvBlocks f = phase_ends Ok f ++ phase_ends Cut f
event_branches k RecvReg f = phase_ends Ok f ++ phase_ends Cut f
event_branches k Give f = phase_ends Ok f ++ phase_ends Cut f
event_branches k Wait f = wait_ends Over f ++ wait_ends Late f

-- OUTCOMES

abbrev pub outcome_of : Branch → Outcome
outcome_of b = record { shape = record { 0 = code_of b.fields }; seen = b.seen }

abbrev pub branches_at : Kind → Event → Option Fields → List Branch
branches_at k event None = []
branches_at k event (Some f) = event_branches k event f

-- what may follow an event at a code
abbrev pub outcomes_code : Kind → ℕ → Event → List Outcome
outcomes_code k code event = map outcome_of (branches_at k event (fields_of code))
