-- A run of an accepted script over a port that shows a card.
use Rattle.std.proofs.Common.{◌≡◌, ℕ, ◌<◌, ◌^◌, inl, inr, refl, sym, ap, ◌∙◌, subst, arith, Bool, true, false, List, [], ◌∷◌, ◌++◌, Option, Some, None}
use Rattle.std.specs.Prelude.{◌&&◌, is_none, Result, Ok, Err}
use Rattle.std.proofs.Math.Logic.{∥∥₁_map, ∥∥₁_elim}
use Rattle.sdv_frames.specs.Bits.{bits_of}
use Rattle.sdv_frames.specs.declared.reply.Reply.TheVariants.{R1, R2, R3, R6, R7}
use Rattle.sdv_registers.specs.declared.kind.Kind.{Kind}
use Rattle.sdv_registers.specs.Csd.{fault}
use Rattle.sdv_card.specs.declared.answer.Answer.{Answer}
use Rattle.sdv_card.specs.declared.answer.Answer.TheVariants as answers
use Rattle.sdv_card.specs.declared.command.Order.{Order}
use Rattle.sdv_card.specs.declared.command.Order.TheVariants.{SendCsd}
use Rattle.sdv_card.specs.declared.event.Ask.{Ask}
use Rattle.sdv_card.specs.Card.{Card}
use Rattle.sdv_card.specs.CommandTable.{order_of, expect_of}
use Rattle.sdv_card.specs.Expected.{is_of_kind}
use Rattle.sdv_card.specs.Host.{Host, host_after_order}
use Rattle.sdv_card.proofs.AnswerKinds.{of_kind}
use Rattle.sdv_card.specs.Port.{Shows, Kept, KeepsTables}
use Rattle.sdv_card.specs.ScriptEvent.{SendCommand, Answered}
use Rattle.sdv_card.specs.Step.{Step}
use Rattle.sdv_graph.specs.Graph.{Graph, begin}
use Rattle.sdv_graph.specs.GraphOf.{IsSound}
use Rattle.sdv_graph.specs.Path.{Path}
use Rattle.sdv_graph.specs.Walk.{Pair, Ending, Open}
use Rattle.sdv_facts.specs.Facts.{PointFacts}
use Rattle.sdv_facts.specs.Beside.{StepsOf, IsGood}
use Rattle.sdv_facts.specs.Bounds.{bound_of}
use Rattle.sdv_facts.specs.Closed.{Closed}
use Rattle.sdv_facts.specs.Stands.{IsMade, EachIsMade}
use Rattle.sdv_facts.proofs.ArgumentLaws.{narrow}
use Rattle.sdv_facts.proofs.Headline.{good_from, made_from}
use Rattle.sdv_facts.proofs.StepLaws.{Laws, laws_of, honest_after}
use Rattle.sdv_trace.specs.declared.end.End.{End}
use Rattle.sdv_run.specs.declared.fault.RunFault.{RunFault}
use Rattle.sdv_run.specs.declared.fault.RunFault.TheVariants as faults
use Rattle.sdv_run.specs.Answers.{has_readable_csd, is_taken}
use Rattle.sdv_run.specs.Run.{Steps, RunMoved, ending_of}
use Rattle.sdv_run.specs.Step.{World}
use Rattle.sdv_run.specs.Ran.{Because, Ran}
use Rattle.sdv_run.specs.OnCard.{ShowsStart, OnCard, RanBeside}

-- ANSWERS OF A CARD are taken

-- a CSD that the host holds can be read
readable : (k : Kind) (o : Option Order) (answer : Answer) (h : Host) →
    ((bytes : List ℕ) → (host_after_order o answer h).csd ≡ Some bytes → fault k (bits_of bytes) ≡ None) → has_readable_csd k o answer ≡ true
readable k (Some SendCsd) (answers.Reply (R2 register)) h f = ap is_none (f register refl)
readable k (Some SendCsd) (answers.Reply (R1 i w)) h f = refl
readable k (Some SendCsd) (answers.Reply (R3 w)) h f = refl
readable k (Some SendCsd) (answers.Reply (R6 w)) h f = refl
readable k (Some SendCsd) (answers.Reply (R7 w)) h f = refl
readable k (Some SendCsd) answers.Sent h f = refl
readable k (Some SendCsd) answers.TimeOut h f = refl
readable k (Some SendCsd) (answers.Damaged d) h f = refl
readable k None answer h f = refl
readable k (Some order) answer h f = refl

both : (a b : Bool) → a ≡ true → b ≡ true → a && b ≡ true
both true b e f = f
both false b e f = absurd (cc)

pub taken : (k : Kind) → Laws k → (ask : Ask) (position argument : ℕ) (c : Card) (answer : Answer) (u : Card) → IsMade k (SendCommand ask position argument) c →
    Step (SendCommand ask position argument) c (Answered answer) u → is_taken k ask answer ≡ true
taken k laws ask position argument c answer u made step =
    let e = SendCommand ask position argument in
    let after = honest_after k laws e c made.host (Answered answer) u made.fine made.honest step in
    both (is_of_kind (expect_of k ask) answer) (has_readable_csd k (order_of k ask) answer)
    (of_kind (expect_of k ask) answer (laws.steps_are_expected e c (Answered answer) u made.fine.pair.kind step))
    (readable k (order_of k ask) answer made.host (λ bytes is.
    subst (λ j. fault j (bits_of bytes) ≡ None) (sym after.pair.kind) (ap (λ b. fault u.kind (bits_of b)) (after.sound.csd bytes is) ∙ after.profile.readable)))

-- STEP BY STEP

-- the steps of a card from what a port showed before, to what it shows behind the events
pub record Beside {S : Type 0} (card : S → Option Card) (es : List Pair) (c : Card) (s' : S) : Type 0 where
  pub last : Card
  pub steps : StepsOf c es last
  pub shown : Shows card s' last

pub beside : {S : Type 0} (steps : Steps S) (card : S → Option Card) → KeepsTables steps card → (k : Kind) (es : List Pair) (c : Card) (p p' : S) →
    EachIsMade k es c → Shows card p c → RunMoved k steps p es p' → Beside card es c p'
beside steps card keeps k [] c p p' made shown moved = record { last = c; steps = refl; shown = subst (λ s. Shows card s c) (sym moved) shown }
beside steps card keeps k ((event, returned) ∷ es) c p p' made shown (q, step, more) =
    let one : IsMade k event c = made [] event returned es c refl refl in
    let kept : Kept card event c returned q = keeps p q k event c one.host returned shown one.fine step in
    let rest = beside steps card keeps k es kept.after q p'
    (λ front v r back u is st. made ((event, returned) ∷ front) v r back u (ap (λ l. (event, returned) ∷ l) is) (kept.after, kept.step, st)) kept.shown
    more in
    record { last = rest.last; steps = (kept.after, kept.step, rest.steps); shown = rest.shown }

-- the last of some steps
pub record LastStep (c : Card) (front : List Pair) (x : Pair) (last : Card) : Type 0 where
  pub before : Card
  pub steps : StepsOf c front before
  pub step : Step x.0 before x.1 last

pub last_step : (front : List Pair) (x : Pair) (c last : Card) → StepsOf c (front ++ x ∷ []) last → LastStep c front x last
last_step [] x c last (u, step, e) = record { before = c; steps = refl; step = subst (λ v. Step x.0 c x.1 v) e step }
last_step (y ∷ front) x c last (u, step, more) =
    let l = last_step front x u last more in
    record { before = l.before; steps = (u, step, l.steps); step = l.step }

module _ {S : Type 0} (steps : Steps S) (card : S → Option Card) (keeps : KeepsTables steps card) (g : Graph) (ps : List PointFacts) (laws : Laws g.kind)
    (sound : IsSound g) (closed : Closed g ps) where
  on_card : (e : Ending) (es : List Pair) (s s' : S) (c : Card) → ShowsStart card g.kind g.begins s c → Path g.kind g.points e (begin g) es →
      RunMoved g.kind steps s es s' → OnCard card (bound_of g ps) e es c s'
  on_card e es s s' c start path moved =
      let made = made_from g ps laws sound closed c start.kind start.start e es path in
      let b = beside steps card keeps g.kind es c s s' made start.shown moved in
      let good : IsGood (bound_of g ps) e es c = good_from g ps laws sound closed c start.kind start.start e es path in
      record { last = b.last; steps = b.steps; shown = b.shown; good = good; sent = good.sent b.last b.steps; ends = good.ends b.last b.steps }

  -- a card's answers are taken, and the arguments of an accepted script have 32 bits
  no_reply : (es : List Pair) (w w' : World S) (c : Card) → ShowsStart card g.kind g.begins w.port c → Path g.kind g.points Open (begin g) es →
      OnCard card (bound_of g ps) Open es c w'.port → Because faults.Reply g es w w' → ⊥
  no_reply es w w' c start path on (inl refused) =
      let l = last_step refused.earlier (SendCommand refused.ask refused.position refused.argument, Answered refused.answer) c on.last
      (subst (λ es. StepsOf c es on.last) refused.last on.steps) in
      let made = made_from g ps laws sound closed c start.kind start.start Open es path refused.earlier
      (SendCommand refused.ask refused.position refused.argument) (Answered refused.answer) [] l.before refused.last l.steps in
      let t : is_taken g.kind refused.ask refused.answer ≡ true =
      taken g.kind laws refused.ask refused.position refused.argument l.before refused.answer on.last made l.step in
      let clash : true ≡ false = sym t ∙ refused.refused in
      absurd (cc)
  no_reply es w w' c start path on (inr wide) =
      let made = made_from g ps laws sound closed c start.kind start.start Open
      (es ++ (SendCommand wide.ask wide.position wide.argument, Answered answers.Sent) ∷ []) (wide.next answers.Sent) es
      (SendCommand wide.ask wide.position wide.argument) (Answered answers.Sent) [] on.last refl on.steps in
      let small : wide.argument < 2 ^ 32 =
      narrow g.kind wide.ask wide.position wide.argument on.last made.host laws.asks_address made.fine made.honest.profile in
      let big = wide.wide in
      absurd (omega (arith, small, big))

-- THE CERTIFICATE of an accepted script is known to be there

-- a certificate that is closed for the graph, with this bound
pub record HasCertificate (g : Graph) (most : ℕ) : Type 0 where
  pub points : List PointFacts
  pub closed : Closed g points
  pub bound : most ≡ bound_of g points

module _ {S : Type 0} (steps : Steps S) (card : S → Option Card) (keeps : KeepsTables steps card) (g : Graph) (most : ℕ) (sound : IsSound g)
    (has : ∥ HasCertificate g most ∥₁) where
  beside_card : (e : Ending) (es : List Pair) (s s' : S) (c : Card) → ShowsStart card g.kind g.begins s c → Path g.kind g.points e (begin g) es →
      RunMoved g.kind steps s es s' → HasCertificate g most → OnCard card most e es c s'
  beside_card e es s s' c start path moved h =
      subst (λ n. OnCard card n e es c s') (sym h.bound) (on_card steps card keeps g h.points (laws_of g.kind) sound h.closed e es s s' c start path moved)

  never_reply : (es : List Pair) (w w' : World S) (c : Card) → ShowsStart card g.kind g.begins w.port c → Path g.kind g.points Open (begin g) es →
      RunMoved g.kind steps w.port es w'.port → Because faults.Reply g es w w' → HasCertificate g most → ⊥
  never_reply es w w' c start path moved because h =
      no_reply steps card keeps g h.points (laws_of g.kind) sound h.closed es w w' c start path
      (on_card steps card keeps g h.points (laws_of g.kind) sound h.closed Open es w.port w'.port c start path moved) because

  pub ran_beside : (w w' : World S) (result : Result End RunFault) → Ran steps g w w' result → RanBeside steps card g most w w' result
  ran_beside w w' (Ok end) ran = (ran, λ c start. ∥∥₁_map has (beside_card (ending_of end) ran.events w.port w'.port c start ran.walk.path ran.happened.port))
  ran_beside w w' (Err fault) ran = (
    ran,
    λ c start. (
      ∥∥₁_map has (beside_card Open ran.events w.port w'.port c start ran.walk.path ran.happened.port),
      λ is. ∥∥₁_elim has (λ x y. absurd x)
          (never_reply ran.events w w' c start ran.walk.path ran.happened.port (subst (λ f. Because f g ran.events w w') is ran.because)),
    ),
  )
