-- A state that stands for a run goes on by an event.
use Rattle.std.proofs.Common.{◌≡◌, ◌-◌, ◌≤◌, ℕ, List, length, Ok, sym, ap, ◌∙◌, subst, inl}
use Rattle.sdv_card.specs.Host.{Host}
use Rattle.sdv_graph.specs.declared.graph.Target.{Target}
use Rattle.sdv_graph.specs.Path.{Stand, Move, Goes, Does, Halts, arrive, turns_at}
use Rattle.sdv_graph.specs.Graph.{Graph}
use Rattle.sdv_run.specs.declared.returned.Returned.{Returned}
use Rattle.sdv_run.specs.Takes.{Took, IsLedTo}
use Rattle.sdv_run.specs.Machine.{now, CanGoOn, Went}
use Rattle.sdv_run.proofs.Machines.{went_on, went}
use Rattle.sdv_player.specs.declared.state.State.{State}
use Rattle.sdv_player.specs.Passing.{IsNear}
use Rattle.sdv_player.specs.Play.{GoesOn}
use Rattle.sdv_player.specs.Seen.{Registers, Remembers, kind_of, turns_of, host_of, stand_of, Gone}
use Rattle.sdv_player.specs.StandsFor.{run_of, StandsFor}
use Rattle.sdv_player.proofs.Here.{here}

-- a state that has gone on to a target with a host, by an event that was asked for
pub record After (s s' : State) (t : Target) (h : Host) (r : Registers) : Type 0 where
  pub remembers : Remembers s'.host r
  pub host : host_of s'.host r ≡ h
  pub kind : s'.host.kind ≡ s.host.kind
  pub gone : Gone t s.place s'.place
  pub moves : s'.moves ≡ s.moves - 1
  pub asked : s'.asked ≡ 0

few_loops : (m : Move) (stand : Stand) → IsNear m → IsLedTo m stand → length stand.turns ≤ 4
few_loops (Goes next) stand near led = absurd led
few_loops (Does deed before next) stand near led = subst (λ v. length v.turns ≤ 4) (sym led.2) (near led.0 led.1)
few_loops (Halts last) stand near led = absurd led

pub goes_on : (g : Graph) (ws : List ℕ) (s s' : State) (r r' : Registers) (t : Target) (h : Host) (returned : Returned) → StandsFor g ws s r →
    After s s' t h r' → IsLedTo (now (run_of g s r)) (arrive t (turns_of s.place) h) →
    Took g.kind (now (run_of g s r)) returned (arrive t (turns_of s.place) h) (Ok tt) → GoesOn g ws s s' r returned
goes_on g ws s s' r r' t h returned stands after led took =
    let at = here g ws s r stands in
    let few : length (turns_at t (turns_of s.place)) ≤ 4 = few_loops (now (run_of g s r)) (arrive t (turns_of s.place) h) at.near led in
    let there : arrive t (turns_of s.place) h ≡ stand_of s' r' = sym (
    ap (λ p. record { point = p; turns = turns_of s'.place; host = host_of s'.host r' }) (after.gone.point few)
    ∙ ap (λ ts. record { point = t.to; turns = ts; host = host_of s'.host r' }) (after.gone.turns few)
    ∙ ap (λ v. arrive t (turns_of s.place) v) after.host) in
    let led_there = subst (λ v. IsLedTo (now (run_of g s r)) v) there led in
    let took_there = subst (λ v. Took g.kind (now (run_of g s r)) returned v (Ok tt)) there took in
    let on = went_on g (stand_of s r) s.moves at.point stands.on at.there (stand_of s' r') (subst (λ m. IsLedTo m (stand_of s' r')) at.now_is led_there) in
    let by = went g (stand_of s r) s.moves at.point stands.on at.there returned (stand_of s' r')
    (subst (λ m. Took g.kind m returned (stand_of s' r') (Ok tt)) at.now_is took_there) in
    record {
      registers = r';
      stands = record {
        table = stands.table;
        kind = ap (λ n. kind_of (record s.host { kind = n })) after.kind ∙ stands.kind;
        remembers = after.remembers;
        on = subst (λ n. CanGoOn (record { graph = g; stand = stand_of s' r'; left = n })) (sym after.moves) on;
        asked = inl after.asked;
      };
      went = subst (λ n. Went (run_of g s r) returned (record { graph = g; stand = stand_of s' r'; left = n })) (sym after.moves) by;
    }
