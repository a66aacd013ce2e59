-- Every run over a graph with a closed certificate is as it should be.
use Rattle.std.proofs.Common.{◌≡◌, ℕ, zero, suc, ◌<◌, ◌≤◌, ◌+◌, inl, inr, refl, sym, ap, ◌∙◌, subst, arith, List, [], ◌∷◌, ◌++◌, Option, Some, None, replicate, ◌↔◌}
use Rattle.std.specs.Prelude.{slice_get, MatchOption}
use Rattle.std.proofs.lemmas.List.{length-replicate}
use Rattle.std.proofs.lemmas.Option.{slice_get_within}
use Rattle.sdv_registers.specs.declared.kind.Kind.{Kind}
use Rattle.sdv_card.specs.Card.{Card, Block}
use Rattle.sdv_card.specs.Expected.{Expected}
use Rattle.sdv_card.specs.Host.{Host, host_after}
use Rattle.sdv_card.specs.Laws.{StartHolds}
use Rattle.sdv_card.specs.Port.{IsFine}
use Rattle.sdv_card.specs.Profile.{IsAtStart, host_at_start}
use Rattle.sdv_card.specs.ScriptEvent.{ScriptEvent, SendCommand, ReceiveBlocks, ReceiveRegister, GiveBlocks, AwaitReady, Return, Answered, BlocksIn, RegisterIn, BlocksOut, Waited, MayReturn}
use Rattle.sdv_card.specs.Shapes.{pair_code}
use Rattle.sdv_card.specs.Step.{Step}
use Rattle.sdv_graph.specs.Graph.{Graph, begin, WhereverTo, Lasts, EachRunEnds, HasWalks}
use Rattle.sdv_graph.specs.Nested.{Nested}
use Rattle.sdv_graph.specs.declared.graph.Target.{Target}
use Rattle.sdv_graph.specs.AddressSent.{position_of_command}
use Rattle.sdv_graph.specs.ValueOfLet.{value_of_let, with_number}
use Rattle.sdv_graph.specs.Path.{Action, sends, phases, lets, tests, flags, widths, heads, jumps, stops, Stand, arrive, turns_at, way_of, Move, Goes, Does, Halts, move_with, move_at_head, action_move, move, move_from, Follows, PathWithin, Path}
use Rattle.sdv_graph.specs.Tree.{Statements, Declared}
use Rattle.sdv_graph.specs.Walk.{Pair, Ending, Fell, Broke, Finished, Failed, Open, Stops, Deed, exactly, giving, IsDeed, command_deed, Walk}
use Rattle.sdv_graph.proofs.FewEvents.{few_events}
use Rattle.sdv_facts.specs.Facts.{PointFacts}
use Rattle.sdv_facts.specs.Beside.{StepsOf, commands_in, commands, Walks, IsOver, EndsWell, IsGood, RunsEnd, RunsWell}
use Rattle.sdv_facts.specs.Bounds.{bound, bound_at, bound_of}
use Rattle.sdv_facts.specs.Closed.{StartsAt, StartCovers, PointsMatch, Closed}
use Rattle.sdv_facts.specs.Keeps.{IsHonest}
use Rattle.sdv_facts.specs.Start.{start_numbers, start_var}
use Rattle.sdv_facts.specs.Stands.{EachActionSuits, Stands, Arrived, HaltsWell, MovesWell, IsMade, EachIsMade, IsKeptBy, StepsWell, StepsWellWhere}
use Rattle.sdv_facts.proofs.StartLaws.{start_holds}
use Rattle.sdv_facts.proofs.StepLaws.{Laws, has_point, steps_well}
use Rattle.sdv_facts.proofs.TestLaws.{target_holds}

-- LISTS

none_within : (front : List Pair) (x : Pair) (back : List Pair) → [] ≡ front ++ x ∷ back → ⊥
none_within [] x back e = cc
none_within (y ∷ front) x back e = cc

-- RUNS THAT ARE OVER, and open ones that have not begun

-- a run whose events are made by hosts that know nothing wrong
record WellMade (k : Kind) (most : ℕ) (e : Ending) (es : List Pair) (c : Card) : Type 0 where
  made : EachIsMade k es c
  sent : (last : Card) → StepsOf c es last → commands es ≤ most
  ends : (last : Card) → StepsOf c es last → EndsWell e last

good_of : (k : Kind) (most : ℕ) (e : Ending) (es : List Pair) (c : Card) → WellMade k most e es c → IsGood most e es c
good_of k most e es c w = record {
  allowed = λ front event returned back u is steps. (let m = w.made front event returned back u is steps in
      record { legal = m.fine.legal; bounds = m.fine.bounds });
  sent = w.sent;
  ends = w.ends;
}

stopped : (k : Kind) (most : ℕ) (e last : Ending) (es : List Pair) (c : Card) → Stops e last es → EndsWell last c → WellMade k most e es c
stopped k most e last es c stop well = record {
  made = λ front event returned back u is steps. absurd (none_within front (event, returned) back (sym stop.0 ∙ is));
  sent = λ u steps. subst (λ es. commands es ≤ most) (sym stop.0) (omega arith);
  ends = λ u steps. subst (λ e. EndsWell e u) (sym stop.1) (subst (λ v. EndsWell last v) (subst (λ es. StepsOf c es u) stop.0 steps) well);
}

more_room : (k : Kind) (a b : ℕ) (e : Ending) (es : List Pair) (c : Card) → a + 0 ≤ b → WellMade k a e es c → WellMade k b e es c
more_room k a b e es c le good = record { made = good.made; sent = λ u steps. (let s = good.sent u steps in omega (arith, s, le)); ends = good.ends }

halts : (last : Ending) (c : Card) → HaltsWell last c → WhereverTo (λ s. Unit {0}) (Halts last) → EndsWell last c
halts Finished c well w = well
halts (Failed name) c well w = tt
halts Fell c well w = absurd w
halts Broke c well w = absurd w
halts Open c well w = absurd w

halting : (last : Ending) (P : Stand → Type 0) → WhereverTo P (Halts last) → WhereverTo (λ s. Unit {0}) (Halts last)
halting Finished P w = tt
halting (Failed name) P w = tt
halting Fell P w = w
halting Broke P w = w
halting Open P w = w

is_over : (last : Ending) (P : Stand → Type 0) → WhereverTo P (Halts last) → IsOver last
is_over Finished P w = tt
is_over (Failed name) P w = tt
is_over Fell P w = absurd w
is_over Broke P w = absurd w
is_over Open P w = absurd w

may_return : (k : Kind) (event : ScriptEvent) (returned : Return) → Expected k event returned → MayReturn event returned
may_return k (SendCommand ask position argument) (Answered answer) e = tt
may_return k (SendCommand ask position argument) (BlocksIn end blocks) e = absurd e
may_return k (SendCommand ask position argument) (RegisterIn end bytes) e = absurd e
may_return k (SendCommand ask position argument) (BlocksOut end) e = absurd e
may_return k (SendCommand ask position argument) (Waited end) e = absurd e
may_return k (ReceiveBlocks lines count) returned e = e
may_return k (ReceiveRegister lines count) returned e = e
may_return k (GiveBlocks lines blocks) returned e = e
may_return k AwaitReady returned e = e

-- EVERY RUN, where an invariant holds

module _ (g : Graph) (ps : List PointFacts) (laws : Laws g.kind) (Inv : Stand → Card → Type 0) (well : StepsWellWhere Inv g ps) where
  -- what holds of each run from where it stands
  abbrev Later : (n j : ℕ) → Ending → Type 0
  Later n j e = (s : Stand) (es : List Pair) (c : Card) (at : Stands g ps s c) → Inv s c → PathWithin g.kind g.points e n s es
      → Lasts g.kind g.points j s → WellMade g.kind (bound at.facts s.turns) e es c

  came : (most : ℕ) (e : Ending) (event : ScriptEvent) (returned : Return) (rest : List Pair) (c : Card) (h : Host) (next : Return → Host → Stand)
      → IsFine g.kind event c h → IsHonest g.kind c h →
      ((u : Card) → Step event c returned u → (a : Arrived g ps most (commands_in event) (next returned (host_after g.kind event returned h)) u)
      × WellMade g.kind (bound a.stands.facts (next returned (host_after g.kind event returned h)).turns) e rest u) →
      WellMade g.kind most e ((event, returned) ∷ rest) c
  came most e event returned rest c h next fine honest later = record {
    made = made;
    sent = λ last steps. (
        let l = later steps.0 steps.1 in
        let s = l.1.sent last steps.2 in
        let f = l.0.falls in
        omega (arith, s, f));
    ends = λ last steps. (later steps.0 steps.1).1.ends last steps.2;
  }
    where
      made : (front : List Pair) (v : ScriptEvent) (r : Return) (back : List Pair) (u : Card) → (event, returned) ∷ rest ≡ front ++ (v, r) ∷ back
          → StepsOf c front u → IsMade g.kind v u
      made [] v r back u is steps =
          let both : (event, returned) ≡ (v, r) = cc in
          subst (λ v. IsMade g.kind v u) (ap (λ (p : Pair). p.0) both)
          (subst (λ u. IsMade g.kind event u) steps (record { host = h; fine = fine; honest = honest }))
      made (p ∷ front) v r back u is steps =
          let same : (event, returned) ≡ p = cc in
          let others : rest ≡ front ++ (v, r) ∷ back = cc in
          let step : Step event c returned steps.0 = subst (λ (p : Pair). Step p.0 c p.1 steps.0) (sym same) steps.1 in
          (later steps.0 step).1.made front v r back u others steps.2

  -- the host before an event is that of where the run stands
  abbrev HonestMove : Move → Card → Type 0
  HonestMove (Does deed h next) c = IsHonest g.kind c h
  HonestMove m c = Unit {0}

  honest_with : (o : Option ℕ) (on : ℕ → Move) (c : Card) → ((n : ℕ) → HonestMove (on n) c) → HonestMove (move_with o on) c
  honest_with None on c f = tt
  honest_with (Some n) on c f = f n

  honest_head : (ts : List ℕ) (body other : Target) (h : Host) (c : Card) → HonestMove (move_at_head ts body other h) c
  honest_head [] body other h c = tt
  honest_head (zero ∷ ts) body other h c = tt
  honest_head (suc t ∷ ts) body other h c = tt

  honest_action : (action : Action) (ts : List ℕ) (h : Host) (c : Card) → IsHonest g.kind c h → HonestMove (action_move g.kind action ts h) c
  honest_action (sends command ways other) ts h c hon = honest_with (position_of_command h command.address)
      (λ position. Does (command_deed g.kind command h position) h (λ returned h'. arrive (way_of g.kind ways other returned) ts h')) c (λ n. hon)
  honest_action (phases p well other) ts h c hon = hon
  honest_action (lets l t) ts h c hon = honest_with (value_of_let g.kind h l) (λ n. Goes (arrive t ts (with_number h l.target n))) c (λ n. tt)
  honest_action (tests x met unmet) ts h c hon = tt
  honest_action (flags flag on t) ts h c hon = tt
  honest_action (widths width t) ts h c hon = tt
  honest_action (heads n body other) ts h c hon = honest_head ts body other h c
  honest_action (jumps t) ts h c hon = tt
  honest_action (stops last) ts h c hon = tt

  honest_at : (s : Stand) (c : Card) → Stands g ps s c → HonestMove (move_from g.kind g.points s) c
  honest_at s c at = subst (λ o. HonestMove (move g.kind o s.turns s.host) c) (sym at.here) (honest_action at.place.action s.turns s.host c at.honest)

  followed : (m : Move) (most n j : ℕ) (e : Ending) (es : List Pair) (c : Card) → HonestMove m c → MovesWell g ps most m c
      → IsKeptBy Inv g.kind m c → WhereverTo (Lasts g.kind g.points j) m → Follows g.kind e (PathWithin g.kind g.points e n) m es → Later n j e → WellMade g.kind most e es c
  followed (Goes next) most n j e es c hon a i w f later = more_room g.kind (bound a.stands.facts next.turns) most e es c a.falls (later next es c a.stands i f w)
  followed (Does deed h next) most n j e es c hon a i w (event, returned, rest, is, may, same, on) later =
      let good = a event is in
      subst (λ es. WellMade g.kind most e es c) (sym same)
      (came most e event returned rest c h next good.0 hon (λ u step.
      let b = good.1 returned u step in (
        b,
        later (next returned (host_after g.kind event returned h)) rest u b.stands (i event is returned u step) on
            (w returned (host_after g.kind event returned h)),
      )))
  followed (Halts last) most n j e es c hon a i w f later = stopped g.kind most e last es c f (halts last c a (halting last (Lasts g.kind g.points j) w))

  each_run : (n j : ℕ) (e : Ending) → Later n j e
  each_run zero j e s es c at i path lasts = absurd path
  each_run (suc n) j e s es c at i (inl o) lasts = stopped g.kind (bound at.facts s.turns) e Open es c o tt
  each_run (suc n) zero e s es c at i (inr f) lasts = absurd lasts
  each_run (suc n) (suc j) e s es c at i (inr f) lasts =
      let m = well s c at i in
      followed (move_from g.kind g.points s) (bound at.facts s.turns) n j e es c (honest_at s c at) m.0 m.1 lasts f (each_run n j e)

  -- OPEN RUNS GO ON

  -- a run from there to its end
  record Whole (s : Stand) (c : Card) : Type 0 where
    end : Ending
    over : IsOver end
    more : List Pair
    last : Card
    steps : StepsOf c more last
    moves : ℕ
    path : PathWithin g.kind g.points end moves s more

  -- one of the events that a deed may be
  some_event : (deed : Deed) → (event : ScriptEvent) × IsDeed deed event
  some_event (exactly wanted) = (wanted, refl)
  some_event (giving lines count) = let blocks : List Block = replicate count [] in (GiveBlocks lines blocks, (blocks, length-replicate count [], refl))

  ending : (m : Move) (most j : ℕ) (s : Stand) (c : Card) → move_from g.kind g.points s ≡ m → MovesWell g ps most m c
      → IsKeptBy Inv g.kind m c → WhereverTo (Lasts g.kind g.points j) m →
      ((s : Stand) (c : Card) → Stands g ps s c → Inv s c → Lasts g.kind g.points j s → Whole s c) → Whole s c
  ending (Goes next) most j s c is a i w later =
      let l = later next c a.stands i w in
      record {
        end = l.end;
        over = l.over;
        more = l.more;
        last = l.last;
        steps = l.steps;
        moves = suc l.moves;
        path = inr (subst (λ m. Follows g.kind l.end (PathWithin g.kind g.points l.end l.moves) m l.more) (sym is) l.path);
      }
  ending (Does deed h next) most j s c is a i w later =
      let some = some_event deed in
      let event = some.0 in
      let good = a event some.1 in
      let step = laws.has_step event c h good.0.pair good.0.legal in
      let h' = host_after g.kind event step.returned h in
      let b = good.1 step.returned step.after step.step in
      let l = later (next step.returned h') step.after b.stands (i event some.1 step.returned step.after step.step) (w step.returned h') in
      record {
        end = l.end;
        over = l.over;
        more = (event, step.returned) ∷ l.more;
        last = l.last;
        steps = (step.after, step.step, l.steps);
        moves = suc l.moves;
        path = inr (subst (λ m. Follows g.kind l.end (PathWithin g.kind g.points l.end l.moves) m ((event, step.returned) ∷ l.more)) (sym is) (
          event,
          step.returned,
          l.more,
          some.1,
          may_return g.kind event step.returned
              (laws.steps_are_expected event c step.returned step.after good.0.pair.kind step.step),
          refl {a = (event, step.returned) ∷ l.more},
          l.path,
        ));
      }
  ending (Halts last) most j s c is a i w later =
      record {
        end = last;
        over = is_over last (Lasts g.kind g.points j) w;
        more = [];
        last = c;
        steps = refl;
        moves = 1;
        path = inr (subst (λ m. Follows g.kind last (PathWithin g.kind g.points last 0) m []) (sym is) (refl, refl));
      }

  whole_from : (j : ℕ) (s : Stand) (c : Card) → Stands g ps s c → Inv s c → Lasts g.kind g.points j s → Whole s c
  whole_from zero s c at i lasts = absurd lasts
  whole_from (suc j) s c at i lasts =
      let m = well s c at i in
      ending (move_from g.kind g.points s) (bound at.facts s.turns) j s c refl m.0 m.1 lasts (whole_from j)

  -- an open run from there, carried on to its end
  record CarriedOn (s : Stand) (es : List Pair) (c : Card) : Type 0 where
    end : Ending
    over : IsOver end
    more : List Pair
    last : Card
    steps : StepsOf c more last
    moves : ℕ
    path : PathWithin g.kind g.points end moves s (es ++ more)

  abbrev Carries : (n j : ℕ) → Type 0
  Carries n j = (s : Stand) (es : List Pair) (c last : Card) → Stands g ps s c → Inv s c → PathWithin g.kind g.points Open n s es
      → Lasts g.kind g.points j s → StepsOf c es last → CarriedOn s es last

  carrying : (m : Move) (most n j : ℕ) (s : Stand) (es : List Pair) (c last : Card) → move_from g.kind g.points s ≡ m → MovesWell g ps most m c
      → IsKeptBy Inv g.kind m c → WhereverTo (Lasts g.kind g.points j) m →
      Follows g.kind Open (PathWithin g.kind g.points Open n) m es → StepsOf c es last → Carries n j → CarriedOn s es last
  carrying (Goes next) most n j s es c last is a i w f steps later =
      let l = later next es c last a.stands i f w steps in
      record {
        end = l.end;
        over = l.over;
        more = l.more;
        last = l.last;
        steps = l.steps;
        moves = suc l.moves;
        path = inr (subst (λ m. Follows g.kind l.end (PathWithin g.kind g.points l.end l.moves) m (es ++ l.more)) (sym is) l.path);
      }
  carrying (Does deed h next) most n j s es c last is a i w (event, returned, rest, ev, may, same, on) steps later =
      let good = a event ev in
      let these : StepsOf c ((event, returned) ∷ rest) last = subst (λ es. StepsOf c es last) same steps in
      let b = good.1 returned these.0 these.1 in
      let h' = host_after g.kind event returned h in
      let l = later (next returned h') rest these.0 last b.stands (i event ev returned these.0 these.1) on (w returned h') these.2 in
      record {
        end = l.end;
        over = l.over;
        more = l.more;
        last = l.last;
        steps = l.steps;
        moves = suc l.moves;
        path = inr (subst (λ m. Follows g.kind l.end (PathWithin g.kind g.points l.end l.moves) m (es ++ l.more)) (sym is)
            (event, returned, rest ++ l.more, ev, may, ap (λ es. es ++ l.more) same, l.path));
      }
  carrying (Halts end) most n j s es c last is a i w f steps later = absurd (open_end end (sym f.1) w)
    where
      open_end : (end : Ending) → end ≡ Open → WhereverTo (Lasts g.kind g.points j) (Halts end) → ⊥
      open_end Open e w = w
      open_end Fell e w = w
      open_end Broke e w = w
      open_end Finished e w = cc
      open_end (Failed name) e w = cc

  carries_on : (n j : ℕ) → Carries n j
  carries_on zero j s es c last at i path lasts steps = absurd path
  carries_on (suc n) j s es c last at i (inl o) lasts steps =
      let here : c ≡ last = subst (λ es. StepsOf c es last) o.0 steps in
      let l = whole_from j s c at i lasts in
      record {
        end = l.end;
        over = l.over;
        more = l.more;
        last = l.last;
        steps = subst (λ c. StepsOf c l.more l.last) here l.steps;
        moves = l.moves;
        path = subst (λ es. PathWithin g.kind g.points l.end l.moves s (es ++ l.more)) (sym o.0) l.path;
      }
  carries_on (suc n) zero s es c last at i (inr f) lasts steps = absurd lasts
  carries_on (suc n) (suc j) s es c last at i (inr f) lasts steps =
      let m = well s c at i in
      carrying (move_from g.kind g.points s) (bound at.facts s.turns) n j s es c last refl m.0 m.1 lasts f steps (carries_on n j)

-- THE START

record First (g : Graph) (ps : List PointFacts) : Type 0 where
  facts : PointFacts
  known : slice_get ps 0 ≡ Some facts
  starts : StartsAt g facts

first_of : (g : Graph) (ps : List PointFacts) (o : Option PointFacts) → slice_get ps 0 ≡ o → MatchOption o ⊥ (λ p. StartsAt g p) → First g ps
first_of g ps None e m = absurd m
first_of g ps (Some p) e m = record { facts = p; known = e; starts = m }

-- where a run begins, with the bound of the certificate
record Begins (g : Graph) (ps : List PointFacts) (c : Card) : Type 0 where
  stands : Stands g ps (begin g) c
  bound_is : bound stands.facts (begin g).turns ≡ bound_of g ps

begins : (g : Graph) (ps : List PointFacts) → Laws g.kind → Nested g → PointsMatch g ps → StartCovers g ps → (c : Card) → g.kind ≡ c.kind → IsAtStart c
    → Begins g ps c
begins g ps laws nested points covers c kind start =
    let f : First g ps = first_of g ps (slice_get ps 0) refl covers in
    let there = has_point g.points 0 (subst (λ n. 0 < n) points.count (slice_get_within ps 0 f.facts f.known)) in
    let h : Host = host_at_start g.numbers in
    let s : StartHolds g.kind c h = laws.starts_hold c g.numbers kind start in
    let matches = points.each 0 there.0 f.facts there.1 f.known in
    record {
      stands = record {
        place = there.0;
        here = subst (λ i. slice_get g.points i ≡ Some there.0) (sym nested.first_point) there.1;
        facts = f.facts;
        known = subst (λ i. slice_get ps i ≡ Some f.facts) (sym nested.first_point) f.known;
        box = nested.first_turns there.0 there.1;
        holds = record {
          shape = f.starts.shapes (pair_code c h) s.shape;
          numbers = target_holds f.facts.facts.numbers (start_numbers g.numbers)
              (matches.variables ∙ sym (length-replicate g.numbers start_var)) f.starts.numbers c h (start_holds g.numbers c start.profile);
        };
        honest = record { pair = s.pair; profile = start.profile; sound = s.sound };
        on_card = s.on_card;
      };
      bound_is = ap (λ o. bound_at o (turns_at g.first [])) (sym f.known);
    }

-- EVERY RUN OVER THE PATHS OF A GRAPH, where an invariant holds at the start, and each move keeps it
pub runs_well_where : (g : Graph) (ps : List PointFacts) (Inv : Stand → Card → Type 0) → Laws g.kind → EachRunEnds g → Nested g → PointsMatch g ps
    → StartCovers g ps → ((c : Card) → g.kind ≡ c.kind → IsAtStart c → Inv (begin g) c) → StepsWellWhere Inv g ps
    → RunsWell g.kind (λ e es. Path g.kind g.points e (begin g) es) (bound_of g ps)
runs_well_where g ps Inv laws ends nested points covers first well =
    record {
      good = λ c kind start e es path. (
          let b = begins g ps laws nested points covers c kind start in
          subst (λ n. IsGood n e es c) b.bound_is
          (good_of g.kind _ e es c (each_run g ps laws Inv well path.0 g.steps e (begin g) es c b.stands (first c kind start) path.1 ends)));
      goes_on = λ c kind start es last path steps. (
          let b = begins g ps laws nested points covers c kind start in
          let l = carries_on g ps laws Inv well path.0 g.steps (begin g) es c last b.stands (first c kind start) path.1 ends steps in
          record { end = l.end; over = l.over; more = l.more; last = l.last; steps = l.steps; walk = (l.moves, l.path) });
    }

-- no invariant is asked for
abbrev Always : Stand → Card → Type 0
Always s c = Unit {0}

always_kept : (k : Kind) (m : Move) (c : Card) → IsKeptBy Always k m c
always_kept k (Goes next) c = tt
always_kept k (Does deed h next) c = λ event is returned u step. tt
always_kept k (Halts e) c = tt

always_well : (g : Graph) (ps : List PointFacts) → StepsWell g ps → StepsWellWhere Always g ps
always_well g ps well s c at i = (well s c at, always_kept g.kind (move_from g.kind g.points s) c)

-- THE HEADLINE, over the paths of a graph
pub runs_well : (g : Graph) (ps : List PointFacts) → Laws g.kind → EachRunEnds g → Nested g → EachActionSuits g → Closed g ps
    → RunsWell g.kind (λ e es. Path g.kind g.points e (begin g) es) (bound_of g ps)
runs_well g ps laws ends nested suits closed =
    runs_well_where g ps Always laws ends nested closed.points closed.start (λ c kind start. tt)
    (always_well g ps (steps_well g ps laws nested suits closed))

-- each event of a run is made by a host that knows nothing wrong of the card
pub each_is_made : (g : Graph) (ps : List PointFacts) → Laws g.kind → EachRunEnds g → Nested g → EachActionSuits g → Closed g ps → (c : Card) → g.kind ≡ c.kind
    → IsAtStart c →
    (e : Ending) (es : List Pair) → Path g.kind g.points e (begin g) es → EachIsMade g.kind es c
each_is_made g ps laws ends nested suits closed c kind start e es path =
    let b = begins g ps laws nested closed.points closed.start c kind start in
    (each_run g ps laws Always (always_well g ps (steps_well g ps laws nested suits closed)) path.0 g.steps e (begin g) es c b.stands tt path.1 ends).made

-- every path is over within the moves of the graph
pub runs_end : (g : Graph) → EachRunEnds g → RunsEnd (λ e es. Path g.kind g.points e (begin g) es) g.steps
runs_end g ends e es path = few_events g.kind g.points e path.0 g.steps (begin g) es path.1 ends

-- and every walk of the script, where they are the paths
pub walks_end : (g : Graph) (names : Declared) (script : Statements) → EachRunEnds g → HasWalks names script g → RunsEnd (Walk g.kind names script) g.steps
walks_end g names script ends walks e es walk = runs_end g ends e es ((walks e es).0 walk)

-- the same of other lists, where they are the paths
pub same_runs : (k : Kind) (v w : Walks) (most : ℕ) → ((e : Ending) (es : List Pair) → v e es ↔ w e es) → RunsWell k w most → RunsWell k v most
same_runs k v w most same well = record {
  good = λ c kind start e es walk. well.good c kind start e es ((same e es).0 walk);
  goes_on = λ c kind start es last walk steps. (
      let l = well.goes_on c kind start es last ((same Open es).0 walk) steps in
      record { end = l.end; over = l.over; more = l.more; last = l.last; steps = l.steps; walk = (same l.end (es ++ l.more)).1 l.walk });
}

-- and over the text of a script
pub text_runs_well : (g : Graph) (ps : List PointFacts) (names : Declared) (script : Statements) → Laws g.kind → EachRunEnds g → Nested g → EachActionSuits g
    → HasWalks names script g → Closed g ps →
    RunsWell g.kind (Walk g.kind names script) (bound_of g ps)
text_runs_well g ps names script laws ends nested suits walks closed =
    same_runs g.kind (Walk g.kind names script) (λ e es. Path g.kind g.points e (begin g) es) (bound_of g ps) walks
    (runs_well g ps laws ends nested suits closed)
