-- A run over lines is a run of the other side, by what its answers tell.
use Rattle.std.proofs.Common.{◌≡◌, ◌∙◌, ap, refl, sym, subst, append_assoc, ℕ, List, [], ◌∷◌, ◌++◌, Option, None, Result, Ok, Err}
use Rattle.sdv_registers.specs.declared.kind.Kind.{Kind}
use Rattle.sdv_card.specs.Card.{Card}
use Rattle.sdv_card.specs.Damage.{KeepsTablesOverNoise}
use Rattle.sdv_card.specs.Port.{Call, Exchange, DataIn, DataInRegister, DataOut, WaitWhileBusy, Kept, KeepsTables, Shows, call_of}
use Rattle.sdv_card.specs.ScriptEvent.{Return}
use Rattle.sdv_graph.specs.Graph.{Graph}
use Rattle.sdv_graph.specs.Walk.{Pair}
use Rattle.sdv_facts.specs.Beside.{IsGood}
use Rattle.sdv_facts.specs.Stands.{EachIsMade}
use Rattle.sdv_facts.proofs.Headline.{good_from, made_from}
use Rattle.sdv_facts.proofs.StepLaws.{laws_of}
use Rattle.sdv_trace.specs.declared.end.End.{End}
use Rattle.sdv_run.specs.declared.fault.RunFault.{RunFault}
use Rattle.sdv_run.specs.Run.{RunMoved, ending_of}
use Rattle.sdv_run.specs.Step.{World}
use Rattle.sdv_run.specs.Ran.{Ran}
use Rattle.sdv_run.proofs.OnCard.{Beside, HasCertificate, beside, ran_beside}
use Rattle.sdv_commands.proofs.RunMaps.{moved_because}
use Rattle.sdv_lines.specs.Due.{Announces}
use Rattle.sdv_lines.specs.Streams.{Streams, LineSteps}
use Rattle.sdv_lines.specs.Partner.{Both, other_card}
use Rattle.sdv_lines.proofs.PartnerLaws.{shows_other}
use Rattle.sdv_commands.specs.Talk.{AreAnswers, events_of}
use Rattle.sdv_commands.specs.BesideCard.{AnswersAs, DrivesBesideOther, RunsBesideOther, ToldSteps, at_other}

-- the first events of a run are made as all are
pub made_front : (k : Kind) (es front back : List Pair) (c : Card) → es ≡ front ++ back → EachIsMade k es c → EachIsMade k front c
made_front k es front back c all made earlier event returned later u is steps =
    made earlier event returned (later ++ back) u (all ∙ ap (λ l. l ++ back) is ∙ append_assoc earlier ((event, returned) ∷ later) back) steps

no_due : (call : Call) → Announces call None
no_due (Exchange command expect) = tt
no_due (DataIn lines count) = refl
no_due (DataInRegister lines count) = refl
no_due (DataOut lines blocks) = refl
no_due WaitWhileBusy = refl

module _ {S : Type 0} (steps : S → Call → Return → S → Type 0) (card : S → Option Card) (keeps : KeepsTablesOverNoise steps card) where
  -- nothing is known of the streams
  abbrev beside_unknown : S → Both S
  beside_unknown o = record { streams = record { answers = None; requests = None; left = None; fault = None; unheard = None }; other = o }

  pub told_keeps : KeepsTables (ToldSteps steps) card
  told_keeps o o' k event c h returned shown fine told =
      let seen : Shows (other_card card) (beside_unknown o) c =
      record { shown = shown.shown; shows = shown.shows; same = shown.same; count = shown.count } in
      let kept : Kept (other_card card) event c returned (beside_unknown o') =
      (shows_other steps card keeps).0 (beside_unknown o) (beside_unknown o') k event c h returned seen fine (record {
        texts = told.texts;
        gave = told.gave;
        due = None;
        announced = no_due (call_of k event);
        written = tt;
        read = tt;
        heard = told.heard;
        told = told.tells;
        step = told.step;
        spent = refl;
        well = refl;
      }) in
      record {
        after = kept.after;
        step = kept.step;
        shown = record { shown = kept.shown.shown; shows = kept.shown.shows; same = kept.shown.same; count = kept.shown.count };
      }

  pub told_moved : (k : Kind) (es : List Pair) (answers : List (List (List ℕ))) (o o' : S) → AreAnswers k es answers → AnswersAs steps k es answers o o'
      → RunMoved k (ToldSteps steps) o es o'
  told_moved k [] [] o o' are does = does
  told_moved k [] (texts ∷ answers) o o' are does = absurd are
  told_moved k (p ∷ es) [] o o' are does = absurd are
  told_moved k (p ∷ es) (texts ∷ answers) o o' (heard, are) (gave, u, step, tells, does) = (
    u,
    record { texts = texts; heard = heard; gave = gave; tells = tells; step = step },
    told_moved k es answers u o' are does,
  )

  -- no event leaves the other side as it was
  same_other : (k : Kind) (es : List Pair) (answers : List (List (List ℕ))) (o o' : S) → es ≡ [] → AnswersAs steps k es answers o o' → o' ≡ o
  same_other k [] [] o o' none does = does
  same_other k [] (texts ∷ answers) o o' none does = absurd does
  same_other k (p ∷ es) answers o o' none does = absurd (cc none)

  module _ (g : Graph) (w w' : World Streams) (answers : List (List (List ℕ))) (o o' : S) where
    told_ran : (result : Result End RunFault) (ran : Ran LineSteps g w w' result) → AreAnswers g.kind (events_of LineSteps g w w' result ran) answers
        → AnswersAs steps g.kind (events_of LineSteps g w w' result ran) answers o o' → Ran (ToldSteps steps) g (at_other o w) (at_other o' w') result
    told_ran (Ok end) ran are does = record {
      events = ran.events;
      happened = record { port = told_moved g.kind ran.events answers o o' are does; input = ran.happened.input };
      walk = ran.walk;
      output = ran.output;
      trace = ran.trace;
    }
    told_ran (Err fault) ran are does = record {
      events = ran.events;
      happened = record { port = told_moved g.kind ran.events answers o o' are does; input = ran.happened.input };
      walk = ran.walk;
      because =
          moved_because o o' fault g ran.events w w' (λ none same. same_other g.kind ran.events answers o o' none does) ran.because;
    }

  pub runs_beside : RunsBesideOther steps card
  runs_beside script certificate a w w' result answers o o' accepted ran are does =
      let has : HasCertificate a.graph a.bound = record { points = accepted.facts.points; closed = accepted.closed; bound = accepted.bound } in
      ran_beside (ToldSteps steps) card told_keeps a.graph a.bound accepted.graph.graph.sound ∣ has ∣₁ (at_other o w) (at_other o' w') result
      (told_ran a.graph w w' answers o o' result ran are does)

  pub drives_beside : DrivesBesideOther steps card
  drives_beside script certificate a end es answers o o' c accepted walk are does start =
      let g = a.graph in
      let ps = accepted.facts.points in
      let laws = laws_of g.kind in
      let sound = accepted.graph.graph.sound in
      let made : EachIsMade g.kind es c = made_from g ps laws sound accepted.closed c start.kind start.start (ending_of end) es walk.path in
      let on : Beside card es c o' = beside (ToldSteps steps) card told_keeps g.kind es c o o' made start.shown
      (told_moved g.kind es answers o o' are does) in
      let good : IsGood a.bound (ending_of end) es c = subst (λ n. IsGood n (ending_of end) es c) (sym accepted.bound)
      (good_from g ps laws sound accepted.closed c start.kind start.start (ending_of end) es walk.path) in
      ∣ record {
        last = on.last;
        steps = on.steps;
        shown = on.shown;
        good = good;
        sent = good.sent on.last on.steps;
        ends = good.ends on.last on.steps;
      } ∣₁
