-- What comes next at a point is what a run does there.
use Rattle.std.proofs.Common.{◌≡◌, ℕ, List, Option, Some, None, refl, sym, subst}
use Rattle.std.specs.Prelude.{option_map}
use Rattle.sdv_registers.specs.declared.kind.Kind.{Kind}
use Rattle.sdv_card.specs.Host.{Host}
use Rattle.sdv_card.specs.ScriptEvent.{ScriptEvent}
use Rattle.sdv_graph.specs.declared.tree.Phase.{Phase}
use Rattle.sdv_graph.specs.declared.tree.Phase.TheVariants as kinds
use Rattle.sdv_graph.specs.declared.tree.ScriptCommand.{ScriptCommand}
use Rattle.sdv_graph.specs.AddressSent.{position_of_command}
use Rattle.sdv_graph.specs.Path.{Action, sends, phases, stops, Move, Goes, Does, Halts, move_with, action_move}
use Rattle.sdv_graph.specs.Walk.{Finished, IsDeed, command_deed, phase_deed}
use Rattle.sdv_refute.specs.declared.next.Next.{Next}
use Rattle.sdv_refute.specs.declared.next.Next.TheVariants.{Done}
use Rattle.sdv_refute.specs.Next.{next_of, send_at, phase_next}
use Rattle.sdv_refute.specs.Refutes.{an_event, the_end}
use Rattle.sdv_refute.specs.Watched.{Names}

-- a move does, or ends as, what is named
abbrev pub NamesMove : Next → Move → Type 0
NamesMove next (Does deed before after) = (event : ScriptEvent) → IsDeed deed event → Names next (an_event event)
NamesMove next (Halts Finished) = Names next the_end
NamesMove next (Halts last) = ⊥
NamesMove next (Goes stand) = ⊥

names_phase : (p : Phase) (h : Host) (event : ScriptEvent) → IsDeed (phase_deed p h) event → Names (phase_next p h) (an_event event)
names_phase kinds.ReceiveBlocks h event is = subst (λ e. Names (phase_next kinds.ReceiveBlocks h) (an_event e)) (sym is) refl
names_phase kinds.ReceiveRegister h event is = subst (λ e. Names (phase_next kinds.ReceiveRegister h) (an_event e)) (sym is) refl
names_phase kinds.GiveBlocks h event is = subst (λ e. Names (phase_next kinds.GiveBlocks h) (an_event e)) (sym is.2) (sym is.1)
names_phase kinds.Wait h event is = subst (λ e. Names (phase_next kinds.Wait h) (an_event e)) (sym is) tt

names_send : (k : Kind) (c : ScriptCommand) (h : Host) (next : Next) (after : ℕ → _) (o : Option ℕ) → option_map (send_at k c h) o ≡ Some next →
    NamesMove next (move_with o (λ position. Does (command_deed k c h position) h (after position)))
names_send k c h next after None e = absurd (cc)
names_send k c h next after (Some position) e =
    let same : send_at k c h position ≡ next = cc in
    subst (λ n. NamesMove n (Does (command_deed k c h position) h (after position))) same
    (λ event is. subst (λ e. Names (send_at k c h position) (an_event e)) (sym is) (refl, refl, refl))

pub named : (k : Kind) (action : Action) (ts : List ℕ) (h : Host) (next : Next) → next_of k action h ≡ Some next → NamesMove next (action_move k action ts h)
named k (sends c ways other) ts h next e = names_send k c h next _ (position_of_command h c.address) e
named k (phases p well other) ts h next e =
    let same : phase_next p h ≡ next = cc in
    subst (λ n. NamesMove n (action_move k (phases p well other) ts h)) same (names_phase p h)
named k (stops Finished) ts h next e =
    let same : Done ≡ next = cc in
    subst (λ n. NamesMove n (Halts Finished)) same tt
named k action ts h next e = absurd (cc)
