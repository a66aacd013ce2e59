-- A machine that is asked and told, one event after another.
use Rattle.std.proofs.Common.{◌≡◌, ◌≤◌, ◌-◌, ℕ, zero, suc, List, [], ◌∷◌, ◌++◌, Some, None, Ok, refl, sym, ap, ◌∙◌, subst, inr, arith}
use Rattle.std.specs.Prelude.{slice_get}
use Rattle.std.proofs.lemmas.List.{append-nil}
use Rattle.sdv_registers.specs.declared.kind.Kind.{Kind}
use Rattle.sdv_card.specs.Card.{Block}
use Rattle.sdv_card.specs.Host.{host_after}
use Rattle.sdv_card.specs.ScriptEvent.{ScriptEvent, Return}
use Rattle.sdv_graph.specs.Walk.{Pair}
use Rattle.sdv_graph.specs.Path.{Point, Stand, Path, Move, Goes, Does, Halts, Follows, action_move, move, move_from}
use Rattle.sdv_graph.specs.Graph.{Graph, Lasts, begin}
use Rattle.sdv_graph.proofs.Paths.{roll}
use Rattle.sdv_trace.specs.declared.end.End.{End}
use Rattle.sdv_run.specs.declared.next_event.NextEvent.{NextEvent}
use Rattle.sdv_run.specs.declared.next_event.NextEvent.TheVariants as events
use Rattle.sdv_run.specs.Asks.{CanPerform}
use Rattle.sdv_run.specs.declared.returned.Returned.{Returned}
use Rattle.sdv_run.specs.Run.{ending_of}
use Rattle.sdv_run.specs.Moves.{Passes}
use Rattle.sdv_run.specs.Takes.{Took, IsLedTo}
use Rattle.sdv_run.specs.Machine.{Machine, CanGoOn, LeadsBy, Came, received_blocks, ToldAt, Went, at_start, Plays, PlaysAreWalks}
use Rattle.sdv_run.proofs.AtPoints.{Ready, ready}
use Rattle.sdv_run.proofs.Runs.{is_walk}

-- WHERE A MACHINE STANDS

pub here_is : (f : Graph) (s : Stand) (p : Point) → slice_get f.points s.point ≡ Some p →
    move_from f.kind f.points s ≡ action_move f.kind p.action s.turns s.host
here_is f s p here = ap (λ o. move f.kind o s.turns s.host) here

pub ready_at : (m : Machine) (p : Point) → CanGoOn m → slice_get m.graph.points m.stand.point ≡ Some p →
    Ready m.graph.kind m.graph.points m.left m.stand p
ready_at m p on here = ready m.graph m.left m.stand p on.sound on.lasts on.sits here

some_left : (k : Kind) (g : List Point) (n : ℕ) (s : Stand) → Lasts k g n s → 1 ≤ n
some_left k g zero s lasts = absurd lasts
some_left k g (suc n) s lasts = omega arith

-- it makes a move more
pub has_left : (m : Machine) → CanGoOn m → 1 ≤ m.left
has_left m on = some_left m.graph.kind m.graph.points m.left m.stand on.lasts

-- a host with room for the blocks of an event can make it, if any host can
pub can_anywhere : (event : NextEvent) (enough : ℕ) → CanPerform event enough → (room : ℕ) → received_blocks event ≤ room → CanPerform event room
can_anywhere (events.Send ask position argument) enough can room le = can
can_anywhere (events.ReceiveBlocks lines count) enough can room le = le
can_anywhere (events.ReceiveRegister lines count) enough can room le = can
can_anywhere (events.GiveBlocks lines count) enough can room le = tt
can_anywhere events.Wait enough can room le = tt

-- WITHOUT AN EVENT

pub none_yet : (m : Machine) → Came m m
none_yet m = record { same = refl; moves = 0; counted = omega arith; passed = refl; leads = λ e rest path. path }

module _ (f : Graph) (s : Stand) (n : ℕ) (p : Point) (on : CanGoOn (record { graph = f; stand = s; left = n }))
    (here : slice_get f.points s.point ≡ Some p) where
  -- it goes on to another place
  goes_to : (m : Move) (s' : Stand) → Passes m None s' → m ≡ Goes s'
  goes_to (Goes next) s' passes = ap Goes (sym passes)
  goes_to (Does deed before next) s' passes = absurd passes
  goes_to (Halts last) s' passes = absurd passes

  pub goes : (s' : Stand) → Passes (action_move f.kind p.action s.turns s.host) None s' → move_from f.kind f.points s ≡ Goes s'
  goes s' passes = here_is f s p here ∙ goes_to (action_move f.kind p.action s.turns s.host) s' passes

  pub still_on : (s' : Stand) → Passes (action_move f.kind p.action s.turns s.host) None s' → CanGoOn (record { graph = f; stand = s'; left = n - 1 })
  still_on s' passes =
      let r = ready_at (record { graph = f; stand = s; left = n }) p on here in
      let at = goes_to (action_move f.kind p.action s.turns s.host) s' passes in
      record { sound = on.sound; lasts = rw at at r.lasts; sits = rw at at r.sits }

  pub came_more : (s₀ s' : Stand) (n₀ : ℕ) → Came (record { graph = f; stand = s₀; left = n₀ }) (record { graph = f; stand = s; left = n }) →
      Passes (action_move f.kind p.action s.turns s.host) None s' →
      Came (record { graph = f; stand = s₀; left = n₀ }) (record { graph = f; stand = s'; left = n - 1 })
  came_more s₀ s' n₀ came passes =
      let at = goes s' passes in
      let some = has_left (record { graph = f; stand = s; left = n }) on in
      record {
        same = refl;
        moves = suc came.moves;
        counted = omega (arith, came.counted, some);
        passed = (s, came.passed, at);
        leads = λ e rest path.
            came.leads e rest (roll f.kind f.points e s rest (inr (subst (λ m. Follows f.kind e (Path f.kind f.points e) m rest) (sym at) path)));
      }

  halts_at : (m : Move) (s' : Stand) (end : End) → Passes m (Some end) s' → m ≡ Halts (ending_of end)
  halts_at (Goes next) s' end passes = absurd passes
  halts_at (Does deed before next) s' end passes = absurd passes
  halts_at (Halts last) s' end passes = ap Halts passes

  pub halts : (s' : Stand) (end : End) → Passes (action_move f.kind p.action s.turns s.host) (Some end) s' → move_from f.kind f.points s ≡ Halts (ending_of end)
  halts s' end passes = here_is f s p here ∙ halts_at (action_move f.kind p.action s.turns s.host) s' end passes

  -- BY AN EVENT

  led_on : (m : Move) (s' : Stand) → m ≡ action_move f.kind p.action s.turns s.host → IsLedTo m s' → CanGoOn (record { graph = f; stand = s'; left = n - 1 })
  led_on (Goes next) s' at led = absurd led
  led_on (Does deed before next) s' at led =
      let r = ready_at (record { graph = f; stand = s; left = n }) p on here in
      let lasts = rw (← at) at r.lasts in
      let sits = rw (← at) at r.sits in
      subst (λ s. CanGoOn (record { graph = f; stand = s; left = n - 1 })) (sym led.2)
      (record { sound = on.sound; lasts = lasts led.0 led.1; sits = sits led.0 led.1 })
  led_on (Halts last) s' at led = absurd led

  pub went_on : (s' : Stand) → IsLedTo (action_move f.kind p.action s.turns s.host) s' → CanGoOn (record { graph = f; stand = s'; left = n - 1 })
  went_on s' led = led_on (action_move f.kind p.action s.turns s.host) s' refl led

  leads_by : (m : Move) (returned : Returned) (s' : Stand) → move_from f.kind f.points s ≡ m → Took f.kind m returned s' (Ok tt) →
      (held : List Block) (event : ScriptEvent) (seen : Return) →
      ToldAt m returned held event seen → LeadsBy f s ((event, seen) ∷ []) s'
  leads_by (Goes next) returned s' at took held event seen t = absurd t
  leads_by (Does deed before next) returned s' at took held event seen t = λ e rest path.
      let same = (took held event seen t).1 in
      let there : Path f.kind f.points e (next seen (host_after f.kind event seen before)) rest = subst (λ s. Path f.kind f.points e s rest) same path in
      roll f.kind f.points e s ((event, seen) ∷ rest)
      (inr (subst (λ m. Follows f.kind e (Path f.kind f.points e) m ((event, seen) ∷ rest)) (sym at) (event, seen, rest, t.is, t.fits, refl, there)))
  leads_by (Halts last) returned s' at took held event seen t = absurd t

  pub went : (returned : Returned) (s' : Stand) → Took f.kind (action_move f.kind p.action s.turns s.host) returned s' (Ok tt) →
      Went (record { graph = f; stand = s; left = n }) returned (record { graph = f; stand = s'; left = n - 1 })
  went returned s' took =
      let took_here : Took f.kind (move_from f.kind f.points s) returned s' (Ok tt) =
      subst (λ m. Took f.kind m returned s' (Ok tt)) (sym (here_is f s p here)) took in
      let some = has_left (record { graph = f; stand = s; left = n }) on in
      record {
        same = refl;
        counted = omega (arith, some);
        took = took_here;
        leads = leads_by (move_from f.kind f.points s) returned s' refl took_here;
      }

-- FROM THE START

plays_lead : (es : List Pair) (m m' : Machine) → Plays m es m' → (f : Graph) → m.graph ≡ f → (m'.graph ≡ f) × LeadsBy f m.stand es m'.stand
plays_lead [] m m' came f same = (came.same ∙ same, subst (λ f. LeadsBy f m.stand [] m'.stand) same came.leads)
plays_lead (q ∷ es) m m' plays f same =
    let here = plays.0 in
    let next = plays.1 in
    let came = plays.2 in
    let went = plays.3.3 in
    let here_same : here.graph ≡ f = came.same ∙ same in
    let to_here : LeadsBy f m.stand [] here.stand = subst (λ f. LeadsBy f m.stand [] here.stand) same came.leads in
    let by_event : LeadsBy f here.stand (q ∷ []) next.stand =
    subst (λ f. LeadsBy f here.stand (q ∷ []) next.stand) here_same (went.leads plays.3.1 q.0 q.1 plays.3.2) in
    let on = plays_lead es next m' plays.4 f (went.same ∙ here_same) in
    (on.0, λ e rest path. to_here e ((q ∷ es) ++ rest) (by_event e (es ++ rest) (on.1 e rest path)))

pub plays_are_walks : PlaysAreWalks
plays_are_walks f es m end plays ended =
    let leads = plays_lead es (at_start f) m plays f refl in
    let at : move_from f.kind f.points m.stand ≡ Halts (ending_of end) = subst (λ f. move_from f.kind f.points m.stand ≡ Halts (ending_of end)) leads.0 ended in
    let here : Path f.kind f.points (ending_of end) m.stand [] =
    roll f.kind f.points (ending_of end) m.stand []
    (inr (subst (λ m. Follows f.kind (ending_of end) (Path f.kind f.points (ending_of end)) m []) (sym at) (refl, refl))) in
    is_walk f (ending_of end) es (subst (λ es. Path f.kind f.points (ending_of end) (begin f) es) (append-nil es) (leads.1 (ending_of end) [] here))
