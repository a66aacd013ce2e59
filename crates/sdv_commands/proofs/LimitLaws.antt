-- The limit on commands stops no run beside a card.
use Rattle.std.proofs.Common.{◌≡◌, ◌∙◌, ap, arith, refl, subst, sym, inl, inr, ◌+◌, ◌≤◌, ℕ, zero, suc, List, [], ◌∷◌, ◌++◌, Option, Some}
use Rattle.sdv_registers.specs.declared.kind.Kind.{Kind}
use Rattle.sdv_card.specs.Card.{Card}
use Rattle.sdv_card.specs.Host.{host_after}
use Rattle.sdv_card.specs.Damage.{KeepsTablesOverNoise}
use Rattle.sdv_card.specs.Port.{Call}
use Rattle.sdv_card.specs.Expected.{Expected}
use Rattle.sdv_card.specs.ScriptEvent.{ScriptEvent, SendCommand, ReceiveBlocks, ReceiveRegister, GiveBlocks, AwaitReady, Return, Answered, BlocksIn, RegisterIn, BlocksOut, Waited, MayReturn}
use Rattle.sdv_card.specs.Step.{Step}
use Rattle.sdv_graph.specs.Graph.{begin}
use Rattle.sdv_graph.specs.Path.{Does, Follows, Goes, Halts, Move, Path, PathWithin, Point, Stand, move_from}
use Rattle.sdv_graph.specs.Walk.{Ending, IsDeed, Open, Pair}
use Rattle.sdv_graph.proofs.Paths.{roll}
use Rattle.sdv_facts.specs.Beside.{StepsOf, commands, commands_in}
use Rattle.sdv_facts.specs.Stands.{EachIsMade, IsMade}
use Rattle.sdv_facts.proofs.Headline.{good_from, made_from}
use Rattle.sdv_facts.specs.Bounds.{bound_of}
use Rattle.sdv_facts.proofs.StepLaws.{laws_of}
use Rattle.sdv_run.proofs.OnCard.{Beside, beside}
use Rattle.sdv_lines.specs.Streams.{Spends}
use Rattle.sdv_commands.specs.BesideCard.{NoneIsStopped, ToldSteps}
use Rattle.sdv_commands.proofs.BesideLaws.{made_front, told_keeps, told_moved}
use Rattle.sdv_commands.proofs.TalkLaws.{call_counts, commands_append}

-- A PATH IS ONE WHATEVER ITS LAST EVENT RETURNS

module _ (k : Kind) (g : List Point) (e : Ending) (p : Pair) (later : List Pair) (returned : Return) (may : MayReturn p.0 returned) where
  abbrev Changed : Stand → List Pair → Type 0
  Changed s front = Path k g Open s (front ++ (p.0, returned) ∷ [])

  none_here : (front : List Pair) → front ++ p ∷ later ≡ [] → ⊥
  none_here [] is = cc
  none_here (q ∷ front) is = cc

  open_here : (s : Stand) → Path k g Open s []
  open_here s = (1, inl (refl, refl))

  changed_after : (n : ℕ) (m : Move) (front : List Pair) → Follows k e (PathWithin k g e n) m (front ++ p ∷ later) →
      ((s : Stand) (front : List Pair) → PathWithin k g e n s (front ++ p ∷ later) → Changed s front)
      → Follows k Open (Path k g Open) m (front ++ (p.0, returned) ∷ [])
  changed_after n (Goes next) front path more = more next front path
  changed_after n (Does deed h next) [] (event, gave, rest, is, may_give, same, on) more =
      let first : p ≡ (event, gave) = cc in
      let event_same : p.0 ≡ event = ap (λ (q : Pair). q.0) first in
      (p.0, returned, [], subst (λ v. IsDeed deed v) (sym event_same) is, may, refl, open_here _)
  changed_after n (Does deed h next) (q ∷ front) (event, gave, rest, is, may_give, same, on) more =
      let first : q ≡ (event, gave) = cc in
      let others : rest ≡ front ++ p ∷ later = cc in
      let s : Stand = next gave (host_after k event gave h) in
      (event, gave, front ++ (p.0, returned) ∷ [], is, may_give, ap (λ x. x ∷ (front ++ (p.0, returned) ∷ [])) first, more s front (subst (λ l. PathWithin k g e n s l) others on))
  changed_after n (Halts last) front path more = absurd (none_here front path.0)

  changed : (n : ℕ) (s : Stand) (front : List Pair) → PathWithin k g e n s (front ++ p ∷ later) → Changed s front
  changed zero s front path = absurd path
  changed (suc n) s front (inl stop) = absurd (none_here front stop.0)
  changed (suc n) s front (inr path) =
      roll k g Open s (front ++ (p.0, returned) ∷ []) (inr (changed_after n (move_from k g s) front path (changed n)))

-- A COMMAND MORE, beside a card

-- what a step of a card returns, the event may return
may_return : (k : Kind) (event : ScriptEvent) (returned : Return) → Expected k event returned → MayReturn event returned
may_return k (SendCommand ask position argument) (Answered answer) e = tt
may_return k (SendCommand ask position argument) (BlocksIn end blocks) e = absurd e
may_return k (SendCommand ask position argument) (RegisterIn end bytes) e = absurd e
may_return k (SendCommand ask position argument) (BlocksOut end) e = absurd e
may_return k (SendCommand ask position argument) (Waited end) e = absurd e
may_return k (ReceiveBlocks lines count) returned e = e
may_return k (ReceiveRegister lines count) returned e = e
may_return k (GiveBlocks lines blocks) returned e = e
may_return k AwaitReady returned e = e

steps_more : (front : List Pair) (x : Pair) (c u v : Card) → StepsOf c front u → Step x.0 u x.1 v → StepsOf c (front ++ x ∷ []) v
steps_more [] x c u v is step = (v, subst (λ w. Step x.0 w x.1 v) (sym is) step, refl)
steps_more (y ∷ front) x c u v (w, first, more) step = (w, first, steps_more front x w u v more step)

module _ {S : Type 0} (steps : S → Call → Return → S → Type 0) (card : S → Option Card) (keeps : KeepsTablesOverNoise steps card) where
  pub none_is_stopped : NoneIsStopped steps card
  none_is_stopped script certificate a last es s s' o o' c accepted walk broke does start =
      let g = a.graph in
      let ps = accepted.facts.points in
      let laws = laws_of g.kind in
      let sound = accepted.graph.graph.sound in
      let p = broke.unanswered in
      let made : EachIsMade g.kind es c = made_from g ps laws sound accepted.closed c start.kind start.start last es walk.path in
      let on : Beside card broke.earlier c o' = beside (ToldSteps steps) card (told_keeps steps card keeps) g.kind broke.earlier c o o'
      (made_front g.kind es broke.earlier (p ∷ broke.later) c broke.all made) start.shown
      (told_moved steps card keeps g.kind broke.earlier broke.talked.answers o o' broke.talked.are_answers does) in
      let one : IsMade g.kind p.0 on.last = made broke.earlier p.0 p.1 broke.later on.last broke.all on.steps in
      let step = laws.has_step p.0 on.last one.host one.fine.pair one.fine.legal in
      let may : MayReturn p.0 step.returned = may_return g.kind p.0 step.returned
      (laws.steps_are_expected p.0 on.last step.returned step.after one.fine.pair.kind step.step) in
      let next : List Pair = broke.earlier ++ (p.0, step.returned) ∷ [] in
      let path : Path g.kind g.points Open (begin g) next = changed g.kind g.points last p broke.later step.returned may walk.path.0 (begin g) broke.earlier
      (subst (λ l. PathWithin g.kind g.points last walk.path.0 (begin g) l) broke.all walk.path.1) in
      let good = good_from g ps laws sound accepted.closed c start.kind start.start Open next path in
      let sent : commands next ≤ bound_of g ps = good.sent step.after
      (steps_more broke.earlier (p.0, step.returned) c on.last step.after on.steps step.step) in
      let all : commands next ≡ commands broke.earlier + (commands_in p.0 + 0) = commands_append broke.earlier ((p.0, step.returned) ∷ []) in
      let command : commands_in p.0 ≡ 1 = sym (call_counts g.kind p.0) ∙ broke.broke.0 in
      let spent : Spends (commands broke.earlier) (Some a.bound) broke.before.left = broke.talked.spent in
      let none : Some spent.0 ≡ Some 0 = sym spent.1 ∙ broke.broke.1 in
      let rest : spent.0 ≡ 0 = cc in
      let bound : bound_of g ps ≡ commands broke.earlier + spent.0 = sym accepted.bound ∙ spent.2 in
      absurd (omega (arith, sent, all, command, rest, bound))
