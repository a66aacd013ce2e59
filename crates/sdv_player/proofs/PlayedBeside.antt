-- What is played by the table of an accepted script, beside a card.
use Rattle.std.proofs.Common.{◌≡◌, ◌+◌, ◌<◌, ◌≤◌, ◌^◌, ℕ, zero, suc, List, [], ◌∷◌, ◌++◌, Err, refl, sym, ap, ◌∙◌, subst, inl, inr, arith, add_assoc, length}
use Rattle.std.specs.Prelude.{true, false, Some, Ok}
use Rattle.sdv_card.specs.declared.answer.Answer.{Answer}
use Rattle.sdv_card.specs.declared.answer.Answer.TheVariants.{Sent}
use Rattle.sdv_card.specs.declared.answer.DataEnd.TheVariants as ends
use Rattle.sdv_card.specs.declared.answer.WaitEnd.TheVariants as waits
use Rattle.sdv_card.specs.Step.{Step}
use Rattle.sdv_card.specs.declared.event.Ask.{Ask}
use Rattle.sdv_card.specs.Card.{Card}
use Rattle.sdv_card.specs.Host.{Host, host_after}
use Rattle.sdv_card.specs.Expected.{Expected}
use Rattle.sdv_card.specs.Laws.{SomeStep}
use Rattle.sdv_card.specs.ScriptEvent.{ScriptEvent, SendCommand, ReceiveBlocks, ReceiveRegister, GiveBlocks, AwaitReady, Return, Answered, BlocksIn, RegisterIn, BlocksOut, Waited, MayReturn}
use Rattle.sdv_registers.specs.declared.kind.Kind.{Kind}
use Rattle.sdv_graph.specs.Walk.{Pair, Open, Deed, IsDeed, exactly, giving}
use Rattle.sdv_graph.specs.Path.{Stand, Path, Follows, Move, Goes, Does, Halts, move_from}
use Rattle.sdv_graph.specs.Graph.{Graph, begin}
use Rattle.sdv_graph.specs.GraphOf.{IsSound}
use Rattle.sdv_graph.proofs.Paths.{roll}
use Rattle.sdv_facts.specs.Facts.{PointFacts}
use Rattle.sdv_facts.specs.Beside.{StepsOf, IsAllowed, IsGood, MayStart, commands, commands_in}
use Rattle.sdv_facts.specs.Bounds.{bound_of}
use Rattle.sdv_facts.specs.Stands.{IsMade}
use Rattle.sdv_facts.specs.Closed.{Closed}
use Rattle.sdv_facts.proofs.ArgumentLaws.{narrow}
use Rattle.sdv_facts.proofs.Headline.{good_from, made_from}
use Rattle.sdv_facts.proofs.StepLaws.{Laws, laws_of}
use Rattle.sdv_run.specs.declared.fault.RunFault.TheVariants.{Reply}
use Rattle.sdv_run.specs.declared.next_event.NextEvent.{NextEvent}
use Rattle.sdv_run.specs.declared.next_event.NextEvent.TheVariants as events
use Rattle.sdv_run.specs.declared.returned.Returned.TheVariants as told
use Rattle.sdv_run.specs.Answers.{is_taken}
use Rattle.sdv_run.specs.Asks.{AsksFor, IsTooWide, deed_of}
use Rattle.sdv_run.specs.Takes.{Took}
use Rattle.sdv_run.specs.Machine.{LeadsBy, now}
use Rattle.sdv_run.proofs.OnCard.{taken}
use Rattle.sdv_player.specs.Play.{Says, IsAsked, commands_of}
use Rattle.sdv_player.specs.Plays.{PlaysAreGood}
use Rattle.sdv_player.specs.Seen.{stand_of}
use Rattle.sdv_player.specs.StandsFor.{run_of}
use Rattle.sdv_player.proofs.Counted.{deed_alike, counted_from_start}
use Rattle.sdv_player.proofs.Played.{open_here, from_start, plays_are_walks}

-- LISTS of events

commands_more : (es : List Pair) (made : ScriptEvent) (returned : Return) → commands (es ++ (made, returned) ∷ []) ≡ commands es + commands_in made
commands_more [] made returned = omega arith
commands_more (p ∷ es) made returned = ap (λ n. commands_in p.0 + n) (commands_more es made returned) ∙ sym (add_assoc (commands_in p.0) (commands es) (commands_in made))

steps_more : (es : List Pair) (c last u : Card) (made : ScriptEvent) (returned : Return) → StepsOf c es last → Step made last returned u →
    StepsOf c (es ++ (made, returned) ∷ []) u
steps_more [] c last u made returned on step = (u, subst (λ v. Step made v returned u) (sym on) step, refl)
steps_more (p ∷ es) c last u made returned (v, one, more) step = (v, one, steps_more es v last u made returned more step)

-- RETURNS

blanks : {A : Type 0} (a : A) (n : ℕ) → (xs : List A) × (length xs ≡ n)
blanks a zero = ([], refl)
blanks a (suc n) = let rest = blanks a n in (a ∷ rest.0, ap suc rest.1)

-- each event may return something
some_return : (event : ScriptEvent) → (returned : Return) × MayReturn event returned
some_return (SendCommand ask position argument) = (Answered Sent, tt)
some_return (ReceiveBlocks lines count) = let blocks = blanks [] count in (BlocksIn ends.Ok blocks.0, blocks.1)
some_return (ReceiveRegister lines count) = let bytes = blanks 0 count in (RegisterIn ends.Ok bytes.0, bytes.1)
some_return (GiveBlocks lines blocks) = (BlocksOut ends.Ok, tt)
some_return AwaitReady = (Waited waits.Ok, tt)

may_return : (k : Kind) (event : ScriptEvent) (returned : Return) → Expected k event returned → MayReturn event returned
may_return k (SendCommand ask position argument) (Answered answer) e = tt
may_return k (SendCommand ask position argument) (BlocksIn end blocks) e = absurd e
may_return k (SendCommand ask position argument) (RegisterIn end bytes) e = absurd e
may_return k (SendCommand ask position argument) (BlocksOut end) e = absurd e
may_return k (SendCommand ask position argument) (Waited end) e = absurd e
may_return k (ReceiveBlocks lines count) returned e = e
may_return k (ReceiveRegister lines count) returned e = e
may_return k (GiveBlocks lines blocks) returned e = e
may_return k AwaitReady returned e = e

-- a command that cannot be sent, where a run stands
record Wide (g : Graph) (s : Stand) : Type 0 where
  ask : Ask
  position : ℕ
  argument : ℕ
  wide : 2 ^ 32 ≤ argument
  path : Path g.kind g.points Open s ((SendCommand ask position argument, Answered Sent) ∷ [])

module _ (g : Graph) (s : Stand) where
  wide_deed : (deed : Deed) (before : Host) (next : Return → Host → Stand) → IsTooWide deed → move_from g.kind g.points s ≡ Does deed before next → Wide g s
  wide_deed (exactly (SendCommand ask position argument)) before next wide at = record {
    ask = ask;
    position = position;
    argument = argument;
    wide = wide;
    path =
        let event = SendCommand ask position argument in
        roll g.kind g.points Open s ((event, Answered Sent) ∷ [])
        (inr (subst (λ m. Follows g.kind Open (Path g.kind g.points Open) m ((event, Answered Sent) ∷ [])) (sym at)
        (event, Answered Sent, [], refl, tt, refl, open_here g (next (Answered Sent) (host_after g.kind event (Answered Sent) before)))));
  }
  wide_deed (exactly (ReceiveBlocks lines count)) before next wide at = absurd wide
  wide_deed (exactly (ReceiveRegister lines count)) before next wide at = absurd wide
  wide_deed (exactly (GiveBlocks lines blocks)) before next wide at = absurd wide
  wide_deed (exactly AwaitReady) before next wide at = absurd wide
  wide_deed (giving lines count) before next wide at = absurd wide

  wide_here : (m : Move) → AsksFor m (Err Reply) → move_from g.kind g.points s ≡ m → Wide g s
  wide_here (Goes next) asks at = absurd asks
  wide_here (Does deed before next) asks at = wide_deed deed before next asks at
  wide_here (Halts last) asks at = absurd asks

-- AN EVENT that is asked for where a run stands, and what it returned
module _ (g : Graph) (s : Stand) (event : NextEvent) (made : ScriptEvent) (returned : Return) (may : MayReturn made returned)
    (is : IsDeed (deed_of event) made) where
  made_here : (m : Move) → AsksFor m (Ok (Some event)) → move_from g.kind g.points s ≡ m → Path g.kind g.points Open s ((made, returned) ∷ [])
  made_here (Goes next) asks at = absurd asks
  made_here (Does deed before next) asks at =
      let there = next returned (host_after g.kind made returned before) in
      let is_deed : IsDeed deed made = subst (λ d. IsDeed d made) (sym asks) is in
      roll g.kind g.points Open s ((made, returned) ∷ [])
      (inr (subst (λ m. Follows g.kind Open (Path g.kind g.points Open) m ((made, returned) ∷ [])) (sym at)
      (made, returned, [], is_deed, may, refl, open_here g there)))
  made_here (Halts last) asks at = absurd asks

-- A COMMAND AND ITS ANSWER, where a run stands
module _ (g : Graph) (s : Stand) (ask : Ask) (position argument : ℕ) (answer : Answer) where
  abbrev event : ScriptEvent
  event = SendCommand ask position argument

  -- one that is refused is none that a run goes on with
  refused_by : (stand : Stand) (m : Move) → AsksFor m (Ok (Some (events.Send ask position argument))) →
      Took g.kind m (told.Answered answer) stand (Err Reply) → is_taken g.kind ask answer ≡ false
  refused_by stand (Goes next) asks took = absurd asks
  refused_by stand (Does deed before next) asks took =
      let is : IsDeed deed event = subst (λ d. IsDeed d event) (sym asks) refl in
      (took [] event (Answered answer) (record { is = is; fits = tt; tells = refl })).1
  refused_by stand (Halts last) asks took = absurd asks

module _ (g : Graph) (ps : List PointFacts) (laws : Laws g.kind) (sound : IsSound g) (closed : Closed g ps) where
  -- no argument is too wide beside a card
  never_wide : (es : List Pair) (s : Stand) (c last : Card) → g.kind ≡ c.kind → MayStart g.begins c → StepsOf c es last →
      LeadsBy g (begin g) es s → Wide g s → ⊥
  never_wide es s c last kind start steps leads wide =
      let event = SendCommand wide.ask wide.position wide.argument in
      let made = made_from g ps laws sound closed c kind start Open (es ++ (event, Answered Sent) ∷ [])
      (leads Open ((event, Answered Sent) ∷ []) wide.path) es event (Answered Sent) [] last refl steps in
      let small : wide.argument < 2 ^ 32 =
      narrow g.kind wide.ask wide.position wide.argument last made.host laws.asks_address made.fine made.honest.profile in
      let large = wide.wide in
      omega (arith, small, large)

  -- a card's answers are taken
  never_refused : (es : List Pair) (s : Stand) (c last after : Card) → g.kind ≡ c.kind → MayStart g.begins c → StepsOf c es last → LeadsBy g (begin g) es s →
      (ask : Ask) (position argument : ℕ) (answer : Answer) →
      Path g.kind g.points Open s ((SendCommand ask position argument, Answered answer) ∷ []) →
      Step (SendCommand ask position argument) last (Answered answer) after → is_taken g.kind ask answer ≡ false → ⊥
  never_refused es s c last after kind start steps leads ask position argument answer path step refused =
      let event = SendCommand ask position argument in
      let made = made_from g ps laws sound closed c kind start Open (es ++ (event, Answered answer) ∷ [])
      (leads Open ((event, Answered answer) ∷ []) path) es event (Answered answer) [] last refl steps in
      let takes : is_taken g.kind ask answer ≡ true = taken g.kind laws ask position argument last answer after made step in
      let clash : true ≡ false = sym takes ∙ refused in
      absurd (cc)

  -- THE EVENT THAT COMES NEXT

  comes : (es : List Pair) (s : Stand) → LeadsBy g (begin g) es s → (made : ScriptEvent) (returned : Return) →
      Path g.kind g.points Open s ((made, returned) ∷ []) → Path g.kind g.points Open (begin g) (es ++ (made, returned) ∷ [])
  comes es s leads made returned path = leads Open ((made, returned) ∷ []) path

  is_made : (es : List Pair) (c last : Card) → g.kind ≡ c.kind → MayStart g.begins c → StepsOf c es last → (made : ScriptEvent) (returned : Return) →
      Path g.kind g.points Open (begin g) (es ++ (made, returned) ∷ []) → IsMade g.kind made last
  is_made es c last kind start steps made returned path =
      made_from g ps laws sound closed c kind start Open (es ++ (made, returned) ∷ []) path es made returned [] last refl steps

  -- it is one more command, or none
  counted : (es : List Pair) (c last : Card) → g.kind ≡ c.kind → MayStart g.begins c → StepsOf c es last → (made : ScriptEvent) → IsMade g.kind made last →
      ((returned : Return) → MayReturn made returned → Path g.kind g.points Open (begin g) (es ++ (made, returned) ∷ [])) →
      commands es + commands_in made ≤ bound_of g ps
  counted es c last kind start steps made is path =
      let step : SomeStep made last = laws.has_step made last is.host is.honest.pair is.fine.legal in
      let may : MayReturn made step.returned =
      may_return g.kind made step.returned (laws.steps_are_expected made last step.returned step.after is.honest.pair.kind step.step) in
      let all : List Pair = es ++ (made, step.returned) ∷ [] in
      let good = good_from g ps laws sound closed c kind start Open all (path step.returned may) in
      subst (λ n. n ≤ bound_of g ps) (commands_more es made step.returned)
      (good.sent step.after (steps_more es c last step.after made step.returned steps step.step))

  next_is_good : (es : List Pair) (s : Stand) (c last : Card) → g.kind ≡ c.kind → MayStart g.begins c → StepsOf c es last → LeadsBy g (begin g) es s →
      (event : NextEvent) (made : ScriptEvent) (m : Move) → AsksFor m (Ok (Some event)) → move_from g.kind g.points s ≡ m → IsDeed (deed_of event) made →
      IsAllowed made last × (commands es + commands_in made ≤ bound_of g ps)
  next_is_good es s c last kind start steps leads event made m asks at is =
      let some = some_return made in
      let path : (returned : Return) → MayReturn made returned → Path g.kind g.points Open (begin g) (es ++ (made, returned) ∷ []) =
      λ returned may. comes es s leads made returned (made_here g s event made returned may is m asks at) in
      let is_made_there = is_made es c last kind start steps made some.0 (path some.0 some.1) in (
        record { legal = is_made_there.fine.legal; bounds = is_made_there.fine.bounds },
        counted es c last kind start steps made is_made_there path,
      )

-- a command that is one too many
made_of : (event : NextEvent) (left : ℕ) → left < commands_of event → (made : ScriptEvent) × IsDeed (deed_of event) made
made_of (events.Send ask position argument) left more = (SendCommand ask position argument, refl)
made_of (events.ReceiveBlocks lines count) left more = absurd (omega (arith, more))
made_of (events.ReceiveRegister lines count) left more = absurd (omega (arith, more))
made_of (events.GiveBlocks lines count) left more = absurd (omega (arith, more))
made_of events.Wait left more = absurd (omega (arith, more))

pub plays_are_good : PlaysAreGood
plays_are_good script certificate a ws es s said c last accepted table played kind start steps =
    let g = a.graph in
    let ps = accepted.facts.points in
    let sound = accepted.graph.graph.sound in
    let laws = laws_of g.kind in
    let run = plays_are_walks g a.bound ws es s said table sound played in
    let all = from_start g a.bound ws es s said table sound played in
    let m = run_of g s all.registers in
    let good : IsGood a.bound run.last es c =
    subst (λ n. IsGood n run.last es c) (sym accepted.bound) (good_from g ps laws sound accepted.closed c kind start run.last es run.walk.path) in
    record {
      end = run.last;
      how = run.how;
      good = good;
      sent = good.sent last steps;
      ends = good.ends last steps;
      next = λ event made is deed.
          let asks : AsksFor (now m) (Ok (Some event)) = subst (λ v. Says m s.commands v) is all.says in
          subst (λ n. IsAllowed made last × (commands es + commands_in made ≤ n)) (sym accepted.bound)
          (next_is_good g ps laws sound accepted.closed es (stand_of s all.registers) c last kind start steps all.leads event made (now m) asks refl deed);
      sends = λ is.
          elim (subst (λ v. Says m s.commands v) is all.says) [
            | inl asks ↦ never_wide g ps laws sound accepted.closed es (stand_of s all.registers) c last kind start steps all.leads
                (wide_here g (stand_of s all.registers) (now m) asks refl)
            | inr one ↦
                let made = made_of one.event s.commands one.more in
                let few = (next_is_good g ps laws sound accepted.closed es (stand_of s all.registers) c last kind start steps all.leads one.event made.0
                (now m) one.asks refl made.1).1 in
                let same = deed_alike one.event made.0 made.1 in
                let left = (counted_from_start g a.bound ws es s said table sound played).0 in
                let bound = accepted.bound in
                let more = one.more in
                omega (arith, few, same, left, bound, more)
          ];
      takes = λ ask position argument answer after s' is step takes.
          let asks : AsksFor (now m) (Ok (Some (events.Send ask position argument))) = subst (λ v. Says m s.commands v) is all.says in
          let asked : s.asked ≡ 0 → ⊥ = subst (λ v. IsAsked v s.asked) is all.asked in
          let refused = takes g all.registers all.stands asked in
          let path = made_here g (stand_of s all.registers) (events.Send ask position argument) (SendCommand ask position argument) (Answered answer) tt refl
          (now m) asks refl in
          never_refused g ps laws sound accepted.closed es (stand_of s all.registers) c last after kind start steps all.leads ask position argument answer
          path step (refused_by g (stand_of s all.registers) ask position argument answer m.stand (now m) asks refused);
    }
