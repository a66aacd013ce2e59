-- A legal event has an outcome: CMD0 is taken, every other command is lost, a phase is cut, and a wait is late.
use Rattle.std.proofs.Common.{◌≡◌, ◌++◌, ℕ, refl, Bool, true, false, List, [], ◌∷◌, Option, Some, None}
use Rattle.sdv_registers.specs.declared.kind.Kind.{Kind}
use Rattle.sdv_card.specs.declared.state.State.{State}
use Rattle.sdv_card.specs.declared.state.Transfer.TheVariants.{Nothing}
use Rattle.sdv_card.specs.declared.state.EraseStage.TheVariants.{Outside}
use Rattle.sdv_card.specs.declared.fields.Fields.{Fields}
use Rattle.sdv_card.specs.declared.event.Event.{Event}
use Rattle.sdv_card.specs.declared.event.Event.TheVariants.{Send, RecvBlocks, RecvReg, Give, Wait}
use Rattle.sdv_card.specs.declared.answer.DataEnd.TheVariants.{Ok, Cut}
use Rattle.sdv_card.specs.declared.answer.WaitEnd.TheVariants.{Ok as Over, Late}
use Rattle.sdv_card.specs.declared.command.Order.{Order}
use Rattle.sdv_card.specs.declared.command.Row.{Row}
use Rattle.sdv_card.specs.declared.command.Row.TheVariants.{Cmd0}
use Rattle.sdv_card.specs.declared.command.Response.{Response}
use Rattle.sdv_card.specs.declared.command.Response.TheVariants.{Absent, NotAddressed, CardStatus, NewAddress, Contents, Conditions}
use Rattle.sdv_card.specs.declared.command.TakenAs.{TakenAs}
use Rattle.sdv_card.specs.declared.command.TakenAs.TheVariants.{Forbidden, Ignored, By}
use Rattle.sdv_card.specs.Lists.{May, each}
use Rattle.sdv_card.specs.declared.state.Mode.{Mode}
use Rattle.sdv_card.specs.StateTable.{rows, targets}
use Rattle.sdv_card.specs.RowRules.{may_reach, states_after, length_after}
use Rattle.sdv_card.specs.Responses.{response_of}
use Rattle.sdv_card.specs.Takes.{taken_as_of}
use Rattle.sdv_card.specs.CommandTable.{order_of}
use Rattle.sdv_card.specs.Phases.{after_phase}
use Rattle.sdv_card.specs.Code.{fields_of}
use Rattle.sdv_card.specs.Shapes.{is_shape}
use Rattle.sdv_card.specs.LegalShapes.{settled_legal, ask_legal, event_legal, legal_at}
use Rattle.sdv_card.specs.Outcomes.{branch, placed, phase_seen, phase_ends, wait_ends, wait_seen, with_states, taken, row_branches, settled_branches, ask_branches, event_branches, branches_at, outcome_of}
use Rattle.sdv_card.specs.Modes.{first_mode}
use Rattle.sdv_card.specs.Laws.{HasOutcome}
use Rattle.sdv_card.proofs.Members.{here, there, May-append_left, May-append_right, May-map, May-each, May-filter, and_left, and_right, some_of}
use Rattle.sdv_card.proofs.HasStep.{read_is_due, register_is_due, write_is_due, cut_read, cut_register, cut_write, late_wait}

-- the list has an element
abbrev Some_of : {A : Type 0} → List A → Type 0
Some_of {A = A} xs = (x : A) × May xs x

-- CMD0 is taken

any_length : (unit length_512 : Bool) → May (length_after Cmd0 unit length_512) true
any_length true length_512 = here refl
any_length false length_512 = there (here refl)

some_each : {A B : Type 0} (f : A → List B) (xs : List A) → Some_of xs → ((x : A) → Some_of (f x)) → Some_of (each xs f)
some_each f xs s g = ((g s.0).0, May-each f s.0 s.1 (g s.0).1)

some_taken : (t : Fields) (states : List State) (apps lengths : List Bool) (modes : List Mode) (matches : List Bool) (presets : List ℕ) →
    Some_of states → Some_of apps → Some_of lengths → Some_of modes → Some_of matches → Some_of presets →
    Some_of (with_states t states apps lengths modes matches presets)
some_taken t states apps lengths modes matches presets s a l o m p =
    some_each _ states s (λ state. some_each _ apps a (λ app. some_each _ lengths l (λ length. some_each _ modes o (λ mode.
    some_each _ matches m (λ matched. (_, May-map _ p.1))))))

reset_taken : (k : Kind) (row : Row) (t : Fields) → Absent ≡ response_of row → Some_of (targets (rows k row) t.state) → Some_of (taken k row true t)
reset_taken k Cmd0 t e s =
    some_taken (record t { transfer = Nothing; erase = Outside }) (states_after k Cmd0 t.block_unit t.state) (false ∷ [])
    (length_after Cmd0 t.block_unit t.length_512) (first_mode ∷ []) (true ∷ []) (0 ∷ [])
    (s.0, May-filter (may_reach Cmd0 t.block_unit) s.1 refl) (_, here refl) (_, any_length t.block_unit t.length_512) (_, here refl) (_, here refl)
    (_, here refl)
reset_taken k row t e s = absurd (cc)

-- A COMMAND

row_branch : (response : Response) (k : Kind) (order : Order) (row : Row) (t : Fields) → response ≡ response_of row →
    Some_of (targets (rows k row) t.state) → Some_of (row_branches k order row response t)
row_branch Absent k order row t e s = let u : Some_of (taken k row true t) = reset_taken k row t e s in (_, May-map _ u.1)
row_branch NotAddressed k order row t e s = (_, here refl)
row_branch CardStatus k order row t e s = (_, here refl)
row_branch NewAddress k order row t e s = (_, here refl)
row_branch Contents k order row t e s = (_, here refl)
row_branch Conditions k order row t e s = (_, here refl)

settled_branch : (way : TakenAs) (k : Kind) (order : Order) (t : Fields) → settled_legal k t way ≡ true → Some_of (settled_branches k order t way)
settled_branch Forbidden k order t l = absurd (let f : false ≡ true = l in cc)
settled_branch Ignored k order t l = (_, here refl)
settled_branch (By row) k order t l =
    row_branch (response_of row) k order row t refl (some_of _ (and_left _ _ (and_left _ _ (and_left _ _ l))))

ask_branch : (k : Kind) (o : Option Order) (f : Fields) → ask_legal k o f ≡ true → Some_of (ask_branches k o f)
ask_branch k None f l = absurd (let g : false ≡ true = l in cc)
ask_branch k (Some order) f l =
    let b : Some_of (settled_branches k order f (taken_as_of order f.app f.matched)) =
    settled_branch (taken_as_of order f.app f.matched) k order f (and_left _ _ l) in (b.0, May-append_left _ b.1)

-- AN EVENT

cut_branch : (f : Fields) → Some_of (after_phase f.transfer Cut) → Some_of (phase_ends Ok f ++ phase_ends Cut f)
cut_branch f p = (_, May-append_right (phase_ends Ok f) (May-map (λ place. branch (placed f place) (phase_seen Cut)) p.1))

event_branch : (k : Kind) (event : Event) (f : Fields) → event_legal k event f ≡ true → Some_of (event_branches k event f)
event_branch k (Send ask) f l = ask_branch k (order_of k ask) f l
event_branch k RecvBlocks f l = cut_branch f (cut_read f.transfer (read_is_due f.state f.transfer (and_left _ _ l)))
event_branch k RecvReg f l = cut_branch f (cut_register f.transfer (register_is_due f.state f.transfer (and_left _ _ l)))
event_branch k Give f l = cut_branch f (cut_write f.transfer (write_is_due f.state f.transfer (and_left _ _ l)))
event_branch k Wait f l =
    (_, May-append_right (wait_ends Over f) (May-map (λ state. branch (record f { state = state }) (wait_seen Late)) (late_wait f.state l)))

branch_at : (k : Kind) (event : Event) (o : Option Fields) → legal_at k event o ≡ true → Some_of (branches_at k event o)
branch_at k event None l = absurd (let f : false ≡ true = l in cc)
branch_at k event (Some f) l = event_branch k event f (and_right (is_shape k f) _ l)

pub has_outcome : (k : Kind) → HasOutcome k
has_outcome k code event l =
    let b : Some_of (branches_at k event (fields_of code)) = branch_at k event (fields_of code) l in
    record { outcome = outcome_of b.0; may = May-map outcome_of b.1 }
