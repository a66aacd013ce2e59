use Rattle.std.proofs.Common.{◌≢◌, rules, subst, sym}
use Rattle.sdv_certify.specs.declared.fault.CertifyFault.TheVariants as certifies
use Rattle.sdv_commands.specs.Explain.{IsTold}
use Rattle.sdv_commands.proofs.ExplainLaws.{told_by_survey}
use Rattle.sdv_commands.proofs.explain.script_explained.Goals as goal

pub returns-in-Ok-survey-clause-is : goal.returns-in-Ok-survey-clause-is
returns-in-Ok-survey-clause-is c =
    let known = c.in-Ok-survey.known in
    subst (IsTold c.args.script.now) (sym c.told_by-told.ensures.same)
    (told_by_survey c.args.script.now known c.in-Ok-survey.ensures.certified c.in-Ok-survey.ensures.refusal c.in-Ok-survey.ensures.of_point)

pub returns-clause-is : goal.returns-clause-is
returns-clause-is c =
    let other : c.in-Err.fault ≢ certifies.Memory = search rules in
    subst (IsTold c.args.script.now) (sym c.told_by-told-in-Err.ensures.same) (other, c.in-Err.ensures.refused)
