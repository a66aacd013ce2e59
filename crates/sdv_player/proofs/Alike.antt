-- A player that is told what the events of a path returned makes those events, and says what comes next there.
use Rattle.std.proofs.Common.{◌≡◌, ◌+◌, ◌≤◌, ℕ, zero, suc, List, [], ◌∷◌, ◌++◌, Some, Ok, Err, refl, sym, ap, ◌∙◌, subst, inl, inr, arith}
use Rattle.std.specs.Prelude.{◌⊎◌}
use Rattle.sdv_registers.specs.declared.kind.Kind.{Kind}
use Rattle.sdv_card.specs.Card.{Block}
use Rattle.sdv_card.specs.Host.{Host, host_after}
use Rattle.sdv_card.specs.ScriptEvent.{ScriptEvent, SendCommand, ReceiveBlocks, ReceiveRegister, GiveBlocks, AwaitReady, Return}
use Rattle.sdv_graph.specs.Walk.{Pair, Ending, Open, Stops, Deed, exactly, giving, IsDeed}
use Rattle.sdv_graph.specs.Path.{Stand, Move, Goes, Does, Halts, Follows, PathWithin, move_from}
use Rattle.sdv_graph.specs.Graph.{Graph}
use Rattle.sdv_facts.specs.Beside.{commands, commands_in, IsOver}
use Rattle.sdv_run.specs.declared.fault.RunFault.TheVariants.{Reply}
use Rattle.sdv_run.specs.declared.next_event.NextEvent.{NextEvent}
use Rattle.sdv_run.specs.declared.next_event.NextEvent.TheVariants as events
use Rattle.sdv_run.specs.declared.returned.Returned.{Returned}
use Rattle.sdv_run.specs.Asks.{AsksFor, IsTooWide, deed_of}
use Rattle.sdv_run.specs.Takes.{Told, Took}
use Rattle.sdv_run.specs.Machine.{PassesBy, now}
use Rattle.sdv_player.specs.declared.next_step.Next.{Next}
use Rattle.sdv_player.specs.declared.next_step.Next.TheVariants as nexts
use Rattle.sdv_player.specs.declared.state.State.{State}
use Rattle.sdv_player.specs.Passing.{EndsAs}
use Rattle.sdv_player.specs.Play.{Says, GoesOn}
use Rattle.sdv_player.specs.Plays.{TellsOne, Plays, IsEnding, returns_of, deed_by, deeds_of, SaysDeed, SaysRest, PlaysAreAlike}
use Rattle.sdv_player.specs.Seen.{Registers, no_registers, stand_of}
use Rattle.sdv_player.specs.StandsFor.{run_of, StandsFor}
use Rattle.sdv_player.proofs.Counted.{deed_alike, counted_from_start}

-- what a list begins with, and the rest
first_same : (p q : Pair) (fs : List Pair) (rs : List Return) → returns_of (q ∷ fs) ≡ p.1 ∷ rs → q.1 ≡ p.1
first_same p q fs rs e = cc

rest_same : (p q : Pair) (fs : List Pair) (rs : List Return) → returns_of (q ∷ fs) ≡ p.1 ∷ rs → returns_of fs ≡ rs
rest_same p q fs rs e = cc

no_pair : (x : Return) (rs : List Return) → returns_of [] ≡ x ∷ rs → ⊥
no_pair x rs e = absurd (cc)

-- a statement asks for one event, whichever blocks it gives
same_deed : (k : Kind) (deed : Deed) (e f : ScriptEvent) (returned : Return) (h : Host) → IsDeed deed e → IsDeed deed f →
    (deed_by e ≡ deed_by f) × (host_after k e returned h ≡ host_after k f returned h)
same_deed k (exactly wanted) e f returned h p q = let same : e ≡ f = p ∙ sym q in (ap deed_by same, ap (λ v. host_after k v returned h) same)
same_deed k (giving lines count) e f returned h p q = (
  ap deed_by p.2 ∙ ap (λ n. giving lines n) (p.1 ∙ sym q.1) ∙ sym (ap deed_by q.2),
  ap (λ v. host_after k v returned h) p.2 ∙ sym (ap (λ v. host_after k v returned h) q.2),
)

-- COMMANDS are counted by what is asked for

abbrev commands_by : Deed → ℕ
commands_by (exactly event) = commands_in event
commands_by (giving lines count) = 0

commands_by_deed : (event : ScriptEvent) → commands_by (deed_by event) ≡ commands_in event
commands_by_deed (SendCommand ask position argument) = refl
commands_by_deed (ReceiveBlocks lines count) = refl
commands_by_deed (ReceiveRegister lines count) = refl
commands_by_deed (GiveBlocks lines blocks) = refl
commands_by_deed AwaitReady = refl

abbrev commands_over : List Deed → ℕ
commands_over [] = 0
commands_over (d ∷ ds) = commands_by d + commands_over ds

commands_over_deeds : (es : List Pair) → commands_over (deeds_of es) ≡ commands es
commands_over_deeds [] = refl
commands_over_deeds (p ∷ es) =
    let one = commands_by_deed p.0 in
    let more = commands_over_deeds es in
    omega (arith, one, more)

commands_both : (ds bs : List Deed) → commands_over (ds ++ bs) ≡ commands_over ds + commands_over bs
commands_both [] bs = omega arith
commands_both (d ∷ ds) bs = let more = commands_both ds bs in omega (arith, more)

commands_parted : (fs es rest : List Pair) → deeds_of fs ≡ deeds_of es ++ deeds_of rest → commands fs ≡ commands es + commands rest
commands_parted fs es rest same =
    let all = commands_over_deeds fs in
    let parts : commands_over (deeds_of fs) ≡ commands_over (deeds_of es) + commands_over (deeds_of rest) =
    ap commands_over same ∙ commands_both (deeds_of es) (deeds_of rest) in
    let front = commands_over_deeds es in
    let back = commands_over_deeds rest in
    omega (arith, all, parts, front, back)

-- A PATH of the graph

-- it goes on from there, or stopped before
abbrev FromThere : Graph → Ending → Stand → List Pair → Type 0
FromThere g e s fs = ((n : ℕ) × PathWithin g.kind g.points e n s fs) ⊎ Stops e Open fs

-- some moves without an event are moves of it
silently : (g : Graph) (e : Ending) (fs : List Pair) (moves : ℕ) (s s' : Stand) (n : ℕ) → PassesBy g moves s s' →
    PathWithin g.kind g.points e n s fs → FromThere g e s' fs
silently g e fs zero s s' n same path = inl (n, subst (λ v. PathWithin g.kind g.points e n v fs) (sym same) path)
silently g e fs (suc moves) s s' n (between, before, goes) path =
    elim (silently g e fs moves s between n before path) [
      | inl on ↦ on_from on.0 on.1
      | inr stops ↦ inr stops
    ]
  where
    on_from : (m : ℕ) → PathWithin g.kind g.points e m between fs → FromThere g e s' fs
    on_from zero path = absurd path
    on_from (suc m) (inl stops) = inr stops
    on_from (suc m) (inr path) = inl (m, subst (λ v. Follows g.kind e (PathWithin g.kind g.points e m) v fs) goes path)

-- an event of it, which returned what the player was told
record OneOf (g : Graph) (e : Ending) (p q : Pair) (fs : List Pair) (s' : Stand) : Type 0 where
  path : FromThere g e s' fs
  deed : deed_by p.0 ≡ deed_by q.0

module _ (g : Graph) (e : Ending) (event : NextEvent) (returned : Returned) (held : List Block) (p q : Pair) (fs : List Pair) (s' : Stand) (n : ℕ)
    (same : q.1 ≡ p.1) (t : Told (deed_of event) returned held p.0 p.1) where
  one_does : (deed : Deed) (before : Host) (next : Return → Host → Stand) → deed ≡ deed_of event →
      Took g.kind (Does deed before next) returned s' (Ok tt) → Follows g.kind e (PathWithin g.kind g.points e n) (Does deed before next) (q ∷ fs) →
      OneOf g e p q fs s'
  one_does deed before next asks took (made, seen, rest, is, fits, list, path) =
      let here : Told deed returned held p.0 p.1 = subst (λ d. Told d returned held p.0 p.1) (sym asks) t in
      let there : s' ≡ next p.1 (host_after g.kind p.0 p.1 before) = (took held p.0 p.1 here).1 in
      let is_q : made ≡ q.0 = cc in
      let seen_q : seen ≡ p.1 = cc in
      let rest_q : rest ≡ fs = cc in
      let alike = same_deed g.kind deed made p.0 p.1 before is here.is in
      let stand : next seen (host_after g.kind made seen before) ≡ s' =
      ap (λ v. next v (host_after g.kind made v before)) seen_q ∙ ap (λ h. next p.1 h) alike.1 ∙ sym there in
      record {
        path = inl (n, subst (λ v. PathWithin g.kind g.points e n v fs) stand (subst (λ l. PathWithin g.kind g.points e n (next seen (host_after g.kind made seen before)) l) rest_q path));
        deed = sym alike.0 ∙ ap deed_by is_q;
      }

  one_event : (m : Move) → AsksFor m (Ok (Some event)) → Took g.kind m returned s' (Ok tt) →
      Follows g.kind e (PathWithin g.kind g.points e n) m (q ∷ fs) → OneOf g e p q fs s'
  one_event (Goes next) asks took path = absurd asks
  one_event (Does deed before next) asks took path = one_does deed before next asks took path
  one_event (Halts last) asks took path = absurd asks

-- THE PLAYER follows it

-- it stands where the path goes on, and says this
pub record Reached (g : Graph) (ws : List ℕ) (e : Ending) (es fs : List Pair) (s' : State) (said : Next) : Type 0 where
  pub registers : Registers
  pub says : Says (run_of g s' registers) s'.commands said
  pub rest : List Pair
  pub deeds : deeds_of fs ≡ deeds_of es ++ deeds_of rest
  pub path : FromThere g e (stand_of s' registers) rest

-- it has told one event
record ToldOne (g : Graph) (ws : List ℕ) (e : Ending) (p q : Pair) (fs : List Pair) (next : State) : Type 0 where
  registers : Registers
  stands : StandsFor g ws next registers
  one : OneOf g e p q fs (stand_of next registers)

-- the path makes a move there
one_move : (g : Graph) (e : Ending) (s : Stand) (q : Pair) (fs : List Pair) (n : ℕ) → PathWithin g.kind g.points e n s (q ∷ fs) →
    (m : ℕ) × Follows g.kind e (PathWithin g.kind g.points e m) (move_from g.kind g.points s) (q ∷ fs)
one_move g e s q fs zero path = absurd path
one_move g e s q fs (suc n) (inl stops) = let none = stops.0 in absurd (cc)
one_move g e s q fs (suc n) (inr path) = (n, path)

tells_one : (g : Graph) (ws : List ℕ) (e : Ending) (here next : State) (r : Registers) (said : Next) (p q : Pair) (fs : List Pair) (n : ℕ) →
    StandsFor g ws here r → Says (run_of g here r) here.commands said → TellsOne ws here next said p → q.1 ≡ p.1 →
    PathWithin g.kind g.points e n (stand_of here r) (q ∷ fs) → ToldOne g ws e p q fs next
tells_one g ws e here next r (nexts.Event event) p q fs n stands says (returned, held, t, takes, off) same path =
    let on : GoesOn g ws here next r returned = takes g r stands in
    let move = one_move g e (stand_of here r) q fs n path in
    record {
      registers = on.registers;
      stands = on.stands;
      one = one_event g e event returned held p q fs (stand_of next on.registers) move.0 same t (now (run_of g here r)) says on.went.took move.1;
    }
tells_one g ws e here next r nexts.Done p q fs n stands says one same path = absurd one
tells_one g ws e here next r (nexts.Fault name) p q fs n stands says one same path = absurd one
tells_one g ws e here next r nexts.Number p q fs n stands says one same path = absurd one
tells_one g ws e here next r nexts.Stopped p q fs n stands says one same path = absurd one

reached : (es : List Pair) (g : Graph) (ws : List ℕ) (e : Ending) (s s' : State) (r : Registers) (said : Next) (fs : List Pair) (later : List Return) →
    StandsFor g ws s r → Plays ws s es s' said → FromThere g e (stand_of s r) fs → returns_of fs ≡ returns_of es ++ later → Reached g ws e es fs s' said
reached [] g ws e s s' r said fs later stands (advances, keeps, never) (inl path) same =
    let to = advances g r stands in
    record {
      registers = r;
      says = to.says;
      rest = fs;
      deeds = refl;
      path = silently g e fs to.came.moves (stand_of s r) (stand_of s' r) path.0 to.came.passed path.1;
    }
reached [] g ws e s s' r said fs later stands (advances, keeps, never) (inr stops) same =
    let to = advances g r stands in
    record { registers = r; says = to.says; rest = fs; deeds = refl; path = inr stops }
reached (p ∷ ps) g ws e s s' r said [] later stands plays path same = absurd (no_pair p.1 (returns_of ps ++ later) same)
reached (p ∷ ps) g ws e s s' r said (q ∷ fs) later stands plays (inr stops) same = let none = stops.0 in absurd (cc)
reached (p ∷ ps) g ws e s s' r said (q ∷ fs) later stands (here, next, event, advances, keeps, stops, tells, plays) (inl path) same =
    let to = advances g r stands in
    elim (silently g e (q ∷ fs) to.came.moves (stand_of s r) (stand_of here r) path.0 to.came.passed path.1) [
      | inl on ↦
          let told = tells_one g ws e here next r event p q fs on.0 to.stands to.says tells (first_same p q fs (returns_of ps ++ later) same) on.1 in
          let rest = reached ps g ws e next s' told.registers said fs later told.stands plays told.one.path
          (rest_same p q fs (returns_of ps ++ later) same) in
          record {
            registers = rest.registers;
            says = rest.says;
            rest = rest.rest;
            deeds = ap (λ d. d ∷ deeds_of fs) (sym told.one.deed) ∙ ap (λ ds. deed_by p.0 ∷ ds) rest.deeds;
            path = rest.path;
          }
      | inr stops ↦ let none = stops.0 in absurd (cc)
    ]

-- WHAT IT SAYS THERE

deed_is : (event : NextEvent) (made : ScriptEvent) → IsDeed (deed_of event) made → deed_of event ≡ deed_by made
deed_is (events.Send ask position argument) made is = sym (ap deed_by is)
deed_is (events.ReceiveBlocks lines count) made is = sym (ap deed_by is)
deed_is (events.ReceiveRegister lines count) made is = sym (ap deed_by is)
deed_is (events.GiveBlocks lines count) made is = ap (λ n. giving lines n) (sym is.1) ∙ sym (ap deed_by is.2)
deed_is events.Wait made is = sym (ap deed_by is)

wide_is : (deed : Deed) (made : ScriptEvent) → IsTooWide deed → IsDeed deed made → IsTooWide (deed_by made)
wide_is (exactly (SendCommand ask position argument)) made wide is = subst (λ v. IsTooWide (deed_by v)) (sym is) wide
wide_is (exactly (ReceiveBlocks lines count)) made wide is = absurd wide
wide_is (exactly (ReceiveRegister lines count)) made wide is = absurd wide
wide_is (exactly (GiveBlocks lines blocks)) made wide is = absurd wide
wide_is (exactly AwaitReady) made wide is = absurd wide
wide_is (giving lines count) made wide is = absurd wide

module _ (g : Graph) (e : Ending) (n : ℕ) where
  abbrev On : Move → List Pair → Type 0
  On m es = Follows g.kind e (PathWithin g.kind g.points e n) m es

  -- where an event comes next
  event_first : (m : Move) (event : NextEvent) (p : Pair) (ps : List Pair) → AsksFor m (Ok (Some event)) → On m (p ∷ ps) → IsDeed (deed_of event) p.0
  event_first (Goes next) event p ps asks path = absurd asks
  event_first (Does deed before next) event p ps asks (made, seen, rest, is, fits, list, path) =
      let same : made ≡ p.0 = cc in
      subst (λ v. IsDeed (deed_of event) v) same (subst (λ d. IsDeed d made) asks is)
  event_first (Halts last) event p ps asks path = absurd asks

  wide_first : (m : Move) (p : Pair) (ps : List Pair) → AsksFor m (Err Reply) → On m (p ∷ ps) → IsTooWide (deed_by p.0)
  wide_first (Goes next) p ps asks path = absurd asks
  wide_first (Does deed before next) p ps asks (made, seen, rest, is, fits, list, path) =
      let same : made ≡ p.0 = cc in
      subst (λ v. IsTooWide (deed_by v)) same (wide_is deed made asks is)
  wide_first (Halts last) p ps asks path = absurd asks

  over_first : (last : Ending) (m : Move) (p : Pair) (ps : List Pair) → m ≡ Halts last → On m (p ∷ ps) → ⊥
  over_first last m p ps halts path =
      let stops : Stops e last (p ∷ ps) = subst (λ m. On m (p ∷ ps)) halts path in
      let none = stops.0 in
      absurd (cc)

  -- where none comes
  event_last : (m : Move) (event : NextEvent) → AsksFor m (Ok (Some event)) → On m [] → ⊥
  event_last (Goes next) event asks path = absurd asks
  event_last (Does deed before next) event asks (made, seen, rest, is, fits, list, path) = absurd (cc)
  event_last (Halts last) event asks path = absurd asks

  wide_last : (m : Move) → AsksFor m (Err Reply) → On m [] → ⊥
  wide_last (Goes next) asks path = absurd asks
  wide_last (Does deed before next) asks (made, seen, rest, is, fits, list, path) = absurd (cc)
  wide_last (Halts last) asks path = absurd asks

  over_last : (last : Ending) (m : Move) (said : Next) → m ≡ Halts last → EndsAs said last → On m [] → EndsAs said e
  over_last last m said halts how path =
      let stops : Stops e last [] = subst (λ m. On m []) halts path in
      subst (λ v. EndsAs said v) (sym stops.1) how

  module _ (s : State) (r : Registers) where
    says_first : (said : Next) (p : Pair) (ps : List Pair) → Says (run_of g s r) s.commands said → commands_in p.0 ≤ s.commands →
        On (now (run_of g s r)) (p ∷ ps) → SaysDeed (deed_by p.0) said
    says_first (nexts.Event event) p ps says few path = deed_is event p.0 (event_first (now (run_of g s r)) event p ps says path)
    says_first nexts.Done p ps says few path = over_first says.last (now (run_of g s r)) p ps says.halts path
    says_first (nexts.Fault name) p ps says few path = over_first says.last (now (run_of g s r)) p ps says.halts path
    says_first nexts.Number p ps says few path = over_first says.last (now (run_of g s r)) p ps says.halts path
    says_first nexts.Stopped p ps (inl asks) few path = wide_first (now (run_of g s r)) p ps asks path
    says_first nexts.Stopped p ps (inr one) few path =
        let same = deed_alike one.event p.0 (event_first (now (run_of g s r)) one.event p ps one.asks path) in
        let more = one.more in
        absurd (omega (arith, same, more, few))

    says_last : (said : Next) → Says (run_of g s r) s.commands said → On (now (run_of g s r)) [] → IsEnding said e
    says_last (nexts.Event event) says path = absurd (event_last (now (run_of g s r)) event says path)
    says_last nexts.Done says path = over_last says.last (now (run_of g s r)) nexts.Done says.halts says.how path
    says_last (nexts.Fault name) says path = over_last says.last (now (run_of g s r)) (nexts.Fault name) says.halts says.how path
    says_last nexts.Number says path = over_last says.last (now (run_of g s r)) nexts.Number says.halts says.how path
    says_last nexts.Stopped (inl asks) path = absurd (wide_last (now (run_of g s r)) asks path)
    says_last nexts.Stopped (inr one) path = absurd (event_last (now (run_of g s r)) one.event one.asks path)

open_is_not_over : (e : Ending) → e ≡ Open → IsOver e → ⊥
open_is_not_over e is over = subst IsOver is over

says_rest : (rest : List Pair) (g : Graph) (e : Ending) (s : State) (r : Registers) (said : Next) → Says (run_of g s r) s.commands said →
    commands rest ≤ s.commands → FromThere g e (stand_of s r) rest → SaysRest rest e said
says_rest [] g e s r said says few (inr stops) = λ over. absurd (open_is_not_over e stops.1 over)
says_rest [] g e s r said says few (inl (zero, path)) = absurd path
says_rest [] g e s r said says few (inl (suc n, inl stops)) = λ over. absurd (open_is_not_over e stops.1 over)
says_rest [] g e s r said says few (inl (suc n, inr path)) = λ over. says_last g e n s r said says path
says_rest (p ∷ ps) g e s r said says few (inr stops) = let none = stops.0 in absurd (cc)
says_rest (p ∷ ps) g e s r said says few (inl (zero, path)) = absurd path
says_rest (p ∷ ps) g e s r said says few (inl (suc n, inl stops)) = let none = stops.0 in absurd (cc)
says_rest (p ∷ ps) g e s r said says few (inl (suc n, inr path)) = says_first g e n s r said p ps says (omega (arith, few)) path

pub plays_are_alike : PlaysAreAlike
plays_are_alike g most ws es fs later s' said e table sound (s, starts, plays) walk same =
    let first = starts g most table sound in
    let from : FromThere g e (stand_of s no_registers) fs = subst (λ m. FromThere g e m.stand fs) (sym first.start) (inl walk.path) in
    let to = reached es g ws e s s' no_registers said fs later first.stands plays from same in
    record {
      rest = to.rest;
      events = to.deeds;
      says = λ few.
          let left = (counted_from_start g most ws es s' said table sound (s, starts, plays)).0 in
          let parts = commands_parted fs es to.rest to.deeds in
          says_rest to.rest g e s' to.registers said to.says (omega (arith, few, left, parts)) to.path;
    }
