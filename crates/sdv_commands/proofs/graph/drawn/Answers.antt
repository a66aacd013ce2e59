use Rattle.std.proofs.Common.{◌≢◌, ◌∙◌, ap, rules, subst, sym, inr, Some, None}
use Rattle.sdv_certify.specs.declared.fault.CertifyFault.TheVariants as certifies
use Rattle.sdv_commands.specs.Explain.{IsTold, told_by}
use Rattle.sdv_commands.proofs.ExplainLaws.{told_by_survey}
use Rattle.sdv_commands.proofs.GraphLaws.{marks}
use Rattle.sdv_commands.proofs.graph.drawn.Goals as goal

pub returns-in-Ok-survey-clause-is : goal.returns-in-Ok-survey-clause-is
returns-in-Ok-survey-clause-is c =
    let s = c.args.script.now in
    let survey = c.in-Ok-survey.known in
    record {
      graph = c.in-Ok.graph;
      of_script = c.in-Ok.ensures;
      is_told = subst (IsTold s) (sym c.told_by-told.ensures.same)
          (told_by_survey s survey c.in-Ok-survey.ensures.certified c.in-Ok-survey.ensures.refusal c.in-Ok-survey.ensures.of_point);
      refusal = c.in_ok-refusal-in-Ok-survey.refusal;
      marks = marks s c.in-Ok.graph survey c.in-Ok-survey.ensures.survey c.in_ok-refusal-in-Ok-survey.refusal c.in_ok-refusal-in-Ok-survey.ensures.none
          c.in_ok-refusal-in-Ok-survey.ensures.refusal _ c.told_by-told.ensures.same;
      draws = c.in_ok-page-in-Ok-survey.ensures;
    }

pub returns-clause-is : goal.returns-clause-is
returns-clause-is c =
    let s = c.args.script.now in
    let other : c.in-Err.fault ≢ certifies.Memory = search rules in
    record {
      graph = c.in-Ok.graph;
      of_script = c.in-Ok.ensures;
      is_told = subst (IsTold s) (sym c.told_by-told-in-Err.ensures.same) (other, c.in-Err.ensures.refused);
      refusal = None;
      marks = inr (c.told_by-told-in-Err.ensures.same ∙ ap (λ f. told_by (Some f)) (c.in-Err.ensures.others other));
      draws = c.in_ok-page-in-Err.ensures;
    }
