-- A move without an event, of a state that stands for a run.
use Rattle.std.proofs.Common.{◌≡◌, ◌-◌, ◌<◌, ◌≤◌, ℕ, List, Option, Some, None, Ok, Err, refl, sym, ap, ◌∙◌, subst, inl, inr, arith}
use Rattle.std.specs.Prelude.{◌⊎◌}
use Rattle.sdv_graph.specs.Path.{Action, Stand, Move, Goes, Does, Halts}
use Rattle.sdv_graph.specs.Graph.{Graph}
use Rattle.sdv_run.specs.declared.fault.RunFault.{RunFault}
use Rattle.sdv_run.specs.declared.fault.RunFault.TheVariants.{Reply, Input, Output, Trace, Memory}
use Rattle.sdv_run.specs.declared.next_event.NextEvent.{NextEvent}
use Rattle.sdv_run.specs.Asks.{AsksFor}
use Rattle.sdv_run.specs.Moves.{Passes as RunPasses}
use Rattle.sdv_run.specs.Takes.{IsEvent}
use Rattle.sdv_run.specs.Machine.{Machine, now, CanGoOn, Came}
use Rattle.sdv_run.proofs.Machines.{has_left, still_on, came_more, none_yet}
use Rattle.sdv_run.proofs.Steps.{makes_event}
use Rattle.sdv_player.specs.declared.next_step.Next.{Next}
use Rattle.sdv_player.specs.declared.next_step.Next.TheVariants as nexts
use Rattle.sdv_player.specs.declared.state.State.{State}
use Rattle.sdv_player.specs.Passing.{EndsAs, Passes, IsNear, PassesBy}
use Rattle.sdv_player.specs.Play.{Ends, Says, IsAsked, GoesTo, commands_of}
use Rattle.sdv_player.specs.Seen.{Registers, Remembers, kind_of, stand_of}
use Rattle.sdv_player.specs.StandsFor.{run_of, StandsFor}
use Rattle.sdv_player.proofs.Here.{here, Reads, by_state, flag_of_row}

-- it stands for the run that it stood for, some moves later
pub record OnTheWay (g : Graph) (ws : List ℕ) (s s' : State) (r : Registers) : Type 0 where
  pub stands : StandsFor g ws s' r
  pub came : Came (run_of g s r) (run_of g s' r)

pub sets_out : (g : Graph) (ws : List ℕ) (s : State) (r : Registers) → StandsFor g ws s r → OnTheWay g ws s s r
sets_out g ws s r stands = record { stands = stands; came = none_yet (run_of g s r) }

-- a move is left
pub can_move : (g : Graph) (ws : List ℕ) (s : State) (r : Registers) → StandsFor g ws s r → 1 ≤ s.moves
can_move g ws s r stands = has_left (run_of g s r) stands.on

no_event : (m : Move) → AsksFor m (Ok None) → IsEvent m → ⊥
no_event (Goes next) asks event = absurd event
no_event (Does deed before next) asks event = absurd asks
no_event (Halts last) asks event = absurd event

unasked : (n : ℕ) (m : Move) → AsksFor m (Ok None) → (n ≡ 0) ⊎ IsEvent m → n ≡ 0
unasked n m asks (inl none) = none
unasked n m asks (inr event) = absurd (no_event m asks event)

-- THE END

halts_as : (m : Move) (end : Next) (stand : Stand) → Passes m (Some end) stand → (last : _) × (m ≡ Halts last) × EndsAs end last
halts_as (Goes next) end stand passes = absurd passes
halts_as (Does deed before next) end stand passes = absurd passes
halts_as (Halts last) end stand passes = (last, refl, passes)

ends_as : (m : Machine) (end : Next) (stand : Stand) → Passes (now m) (Some end) stand → Ends m end
ends_as m end stand passes =
    let h = halts_as (now m) end stand passes in
    record { last = h.0; halts = h.1; how = h.2 }

says_end : (m : Machine) (left : ℕ) (end : Next) → Ends m end → Says m left end
says_end m left (nexts.Event event) ends = absurd ends.how
says_end m left nexts.Done ends = ends
says_end m left (nexts.Fault name) ends = ends
says_end m left nexts.Number ends = ends
says_end m left nexts.Stopped ends = absurd ends.how

none_asked : (m : Machine) (end : Next) (n : ℕ) → Ends m end → IsAsked end n
none_asked m (nexts.Event event) n ends = absurd ends.how
none_asked m nexts.Done n ends = tt
none_asked m (nexts.Fault name) n ends = tt
none_asked m nexts.Number n ends = tt
none_asked m nexts.Stopped n ends = tt

-- A COMMAND THAT CANNOT BE SENT is the only fault

cannot : (m : Move) (fault : RunFault) → AsksFor m (Err fault) → AsksFor m (Err Reply)
cannot (Goes next) fault asks = absurd asks
cannot (Does deed before next) Reply asks = asks
cannot (Does deed before next) Input asks = absurd asks
cannot (Does deed before next) Output asks = absurd asks
cannot (Does deed before next) Trace asks = absurd asks
cannot (Does deed before next) Memory asks = absurd asks
cannot (Halts last) fault asks = absurd asks

run_passes : (m : Move) (stand : Stand) → Passes m None stand → RunPasses m None stand
run_passes (Goes next) stand passes = passes
run_passes (Does deed before next) stand passes = absurd passes
run_passes (Halts last) stand passes = absurd passes

-- a state that has made a move without an event
pub record Passed (s s' : State) : Type 0 where
  pub remembers : (r : Registers) → Remembers s.host r → Remembers s'.host r
  pub kind : s'.host.kind ≡ s.host.kind
  pub moves : s'.moves ≡ s.moves
  pub asked : s'.asked ≡ s.asked

module _ (g : Graph) (ws : List ℕ) (s₀ s : State) (r : Registers) (way : OnTheWay g ws s₀ s r) where
  -- it says its event
  pub says_event : (event : NextEvent) → AsksFor (now (run_of g s r)) (Ok (Some event)) → GoesTo g ws s₀ (record s { asked = 1 }) r (nexts.Event event)
  says_event event asks = record {
    stands = record {
      table = way.stands.table;
      kind = way.stands.kind;
      remembers = way.stands.remembers;
      on = way.stands.on;
      asked = inr (makes_event (now (run_of g s r)) event asks);
    };
    came = way.came;
    says = asks;
    asked = λ none. absurd (omega (arith, none));
  }

  -- or stops at it, where it is a command and none is left
  pub says_no_more : (event : NextEvent) → AsksFor (now (run_of g s r)) (Ok (Some event)) → s.commands < commands_of event → GoesTo g ws s₀ s r nexts.Stopped
  says_no_more event asks more = record {
    stands = way.stands;
    came = way.came;
    says = inr (record { event = event; asks = asks; more = more });
    asked = tt;
  }

  -- or that the event cannot be made
  pub says_stopped : (fault : RunFault) → AsksFor (now (run_of g s r)) (Err fault) → GoesTo g ws s₀ s r nexts.Stopped
  says_stopped fault asks = record { stands = way.stands; came = way.came; says = inl (cannot (now (run_of g s r)) fault asks); asked = tt }

  module _ (a : Action) (read : Reads ws s.place.point (Some a)) (asks : AsksFor (now (run_of g s r)) (Ok None)) where
    passes_here : (s' : State) (end : Option Next) → PassesBy a s s' end → Passes (now (run_of g s r)) end (stand_of s' r)
    passes_here s' end passes =
        let same = by_state g ws s r way.stands a read in
        let near = subst IsNear same (here g ws s r way.stands).near in
        let none = subst (λ m. AsksFor m (Ok None)) same asks in
        subst (λ m. Passes m end (stand_of s' r)) (sym same)
        (passes r way.stands.remembers (flag_of_row g ws s r way.stands a read) near none)

    -- or its end
    pub says_ended : (s' : State) (end : Next) → PassesBy a s s' (Some end) → s' ≡ s → GoesTo g ws s₀ s' r end
    says_ended s' end passes same =
        let ends = ends_as (run_of g s r) end (stand_of s' r) (passes_here s' (Some end) passes) in
        subst (λ v. GoesTo g ws s₀ v r end) (sym same)
        (record { stands = way.stands; came = way.came; says = says_end (run_of g s r) s.commands end ends; asked = none_asked (run_of g s r) end s.asked ends })

    -- or goes on
    pub passed_on : (s' : State) → PassesBy a s s' None → Passed s s' → OnTheWay g ws s₀ (record s' { moves = s'.moves - 1 }) r
    passed_on s' passes kept =
        let at = here g ws s r way.stands in
        let ran = subst (λ m. RunPasses m None (stand_of s' r)) at.now_is
        (run_passes (now (run_of g s r)) (stand_of s' r) (passes_here s' None passes)) in
        let on = still_on g (stand_of s r) s.moves at.point way.stands.on at.there (stand_of s' r) ran in
        let came = came_more g (stand_of s r) s.moves at.point way.stands.on at.there (stand_of s₀ r) (stand_of s' r) s₀.moves way.came ran in
        let left : s.moves - 1 ≡ s'.moves - 1 = ap (λ n. n - 1) (sym kept.moves) in
        record {
          stands = record {
            table = way.stands.table;
            kind = ap (λ n. kind_of (record s.host { kind = n })) kept.kind ∙ way.stands.kind;
            remembers = kept.remembers r way.stands.remembers;
            on = subst (λ n. CanGoOn (record { graph = g; stand = stand_of s' r; left = n })) left on;
            asked = inl (kept.asked ∙ unasked s.asked (now (run_of g s r)) asks way.stands.asked);
          };
          came = subst (λ n. Came (run_of g s₀ r) (record { graph = g; stand = stand_of s' r; left = n })) left came;
        }
