-- What a player is told is taken as the run takes it, or refused.
use Rattle.std.proofs.Common.{◌≡◌, ℕ, List, Bool, true, false, Option, Some, Ok, Err, refl, sym, ap, ◌∙◌, subst, inl, inr}
use Rattle.std.specs.Prelude.{◌⊎◌, if◌then◌else◌}
use Rattle.sdv_card.specs.declared.answer.Answer.{Answer}
use Rattle.sdv_card.specs.ScriptEvent.{Answered}
use Rattle.sdv_graph.specs.declared.graph.Target.{Target}
use Rattle.sdv_graph.specs.declared.tree.ScriptCommand.{ScriptCommand}
use Rattle.sdv_graph.specs.declared.tree.Phase.{Phase}
use Rattle.sdv_graph.specs.Path.{Case, Action, sends, phases, Move, arrive, way_of, action_move}
use Rattle.sdv_graph.specs.Graph.{Graph}
use Rattle.sdv_run.specs.declared.fault.RunFault.TheVariants.{Reply}
use Rattle.sdv_run.specs.declared.returned.Returned.{Returned}
use Rattle.sdv_run.specs.declared.returned.Returned.TheVariants as told
use Rattle.sdv_run.specs.Takes.{Took, IsLedTo, IsEvent}
use Rattle.sdv_run.specs.Machine.{now}
use Rattle.sdv_run.proofs.Takes.{led_end, took_end}
use Rattle.sdv_table.specs.declared.sending.Sending.{Sending}
use Rattle.sdv_table.specs.Reading.{action_at}
use Rattle.sdv_table.specs.Sending.{host_by}
use Rattle.sdv_table.proofs.Places.{table_read}
use Rattle.sdv_player.specs.Asking.{IsSent}
use Rattle.sdv_player.specs.Rows.{IsNoCommand, IsNoPhase}
use Rattle.sdv_player.specs.declared.state.State.{State}
use Rattle.sdv_player.specs.Hearing.{is_heard, registers_ended}
use Rattle.sdv_player.specs.Play.{IsEnd, GoesOn, Refuses}
use Rattle.sdv_player.specs.Seen.{Registers, kind_of, turns_of, host_of}
use Rattle.sdv_player.specs.StandsFor.{run_of, StandsFor}
use Rattle.sdv_player.proofs.Here.{here, Reads, ReadsSending, read_is, by_row, sent_of_row}
use Rattle.sdv_player.proofs.Heard.{took_answer, led_answer, refused_answer, no_command}
use Rattle.sdv_player.proofs.Onward.{After, goes_on}
use Rattle.sdv_player.proofs.PhaseEnds.{takes_phase, no_phase}

is_asked : (n : ℕ) (m : Move) → (n ≡ 0) ⊎ IsEvent m → (n ≡ 0 → ⊥) → IsEvent m
is_asked n m (inl none) some = absurd (some none)
is_asked n m (inr event) some = event

module _ (g : Graph) (ws : List ℕ) (s : State) (r : Registers) (stands : StandsFor g ws s r) where
  -- the words are read as the graph has it
  read_there : (a : Option Action) → action_at ws s.place.point ≡ a → Reads ws s.place.point a
  read_there a is = λ g most table. sym is ∙ table_read g ws s.place.point table

  action_is : action_at ws s.place.point ≡ Some (here g ws s r stands).point.action
  action_is = read_is g ws s r stands (action_at ws s.place.point) (read_there (action_at ws s.place.point) refl)

  -- NOT THE EVENT THAT IS ASKED FOR

  pub refuses_answer : (a : Answer) → IsNoCommand (action_at ws s.place.point) → Refuses g s r (told.Answered a)
  refuses_answer a none =
      let at = here g ws s r stands in
      subst (λ m. Took g.kind m (told.Answered a) (run_of g s r).stand (Err Reply)) (sym at.now_is)
      (no_command g.kind at.point.action (turns_of s.place) (host_of s.host r) a (run_of g s r).stand (subst IsNoCommand action_is none))

  pub refuses_end : (returned : Returned) (well : Bool) (came : Option (List ℕ)) → IsNoPhase (action_at ws s.place.point) →
      IsEnd returned s.host.register_length well came → Refuses g s r returned
  refuses_end returned well came none is =
      let at = here g ws s r stands in
      subst (λ m. Took g.kind m returned (run_of g s r).stand (Err Reply)) (sym at.now_is)
      (no_phase g.kind returned s.host.register_length well came is (run_of g s r).stand at.point.action (turns_of s.place) (host_of s.host r)
      (subst IsNoPhase action_is none))

  -- A COMMAND

  module _ (c : ScriptCommand) (cs : List Case) (other : Target) (read : action_at ws s.place.point ≡ Some (sends c cs other)) (sending : Sending)
      (sent : ReadsSending ws s.place.point sending) (a : Answer) where
    is : now (run_of g s r) ≡ action_move g.kind (sends c cs other) (turns_of s.place) (host_of s.host r)
    is = by_row g ws s r stands (sends c cs other) (read_there (Some (sends c cs other)) read)

    right : IsSent g.kind (sends c cs other) sending
    right = sent_of_row g ws s r stands (sends c cs other) (read_there (Some (sends c cs other)) read) sending sent

    pub takes_answer : (s' : State) (r' : Registers) (t : Target) → is_heard (kind_of s.host) c.ask sending a ≡ true → (s.asked ≡ 0 → ⊥) →
        t ≡ way_of (kind_of s.host) cs other (Answered a) → After s s' t (host_by c.ask sending a (host_of s.host r)) r' →
        GoesOn g ws s s' r (told.Answered a)
    takes_answer s' r' t heard asked way after =
        let k = g.kind in
        let ts = turns_of s.place in
        let h = host_of s.host r in
        let h' = host_by c.ask sending a h in
        let event = subst IsEvent is (is_asked s.asked (now (run_of g s r)) stands.asked asked) in
        let heard_k : is_heard k c.ask sending a ≡ true = subst (λ k. is_heard k c.ask sending a ≡ true) stands.kind heard in
        let way_k : way_of k cs other (Answered a) ≡ t = sym (way ∙ ap (λ k. way_of k cs other (Answered a)) stands.kind) in
        let took = took_answer k c cs other ts h sending a right.0 right.1 heard_k in
        let led = led_answer k c cs other ts h sending a right.0 right.1 h' event in
        goes_on g ws s s' r r' t h' (told.Answered a) stands after
        (subst (λ t. IsLedTo (now (run_of g s r)) (arrive t ts h')) way_k
        (subst (λ m. IsLedTo m (arrive (way_of k cs other (Answered a)) ts h')) (sym is) led))
        (subst (λ t. Took k (now (run_of g s r)) (told.Answered a) (arrive t ts h') (Ok tt)) way_k
        (subst (λ m. Took k m (told.Answered a) (arrive (way_of k cs other (Answered a)) ts h') (Ok tt)) (sym is) took))

    pub refuses : is_heard (kind_of s.host) c.ask sending a ≡ false → Refuses g s r (told.Answered a)
    refuses refused =
        let refused_k = subst (λ k. is_heard k c.ask sending a ≡ false) stands.kind refused in
        subst (λ m. Took g.kind m (told.Answered a) (run_of g s r).stand (Err Reply)) (sym is)
        (refused_answer g.kind c cs other (turns_of s.place) (host_of s.host r) sending a right.0 right.1 (run_of g s r).stand refused_k)

  -- A PHASE OR A WAIT

  pub takes_end : (p : Phase) (good other : Target) → action_at ws s.place.point ≡ Some (phases p good other) → (returned : Returned) (well : Bool)
      (came : Option (List ℕ)) → IsEnd returned s.host.register_length well came → (s' : State) →
      (let r' = registers_ended p well s.host.register_length came r in After s s' (if well then good else other) (host_of s.host r') r') →
      GoesOn g ws s s' r returned
  takes_end p good other read returned well came end s' after =
      let k = g.kind in
      let ts = turns_of s.place in
      let h = host_of s.host r in
      let r' = registers_ended p well s.host.register_length came r in
      let h' = host_of s.host r' in
      let is = by_row g ws s r stands (phases p good other) (read_there (Some (phases p good other)) read) in
      let took = took_end k p good other ts h returned h' well (takes_phase k s.host r well came returned end p) in
      let led = led_end k p good other ts h h' well in
      goes_on g ws s s' r r' (if well then good else other) h' returned stands after
      (subst (λ m. IsLedTo m (arrive (if well then good else other) ts h')) (sym is) led)
      (subst (λ m. Took k m returned (arrive (if well then good else other) ts h') (Ok tt)) (sym is) took)
