use Rattle.std.proofs.Common.{inl, inr}
use Rattle.sdv_commands.specs.Explain.{IsFaultPage, IsJudgement}
use Rattle.sdv_commands.proofs.ReportLaws.{if_ok_more}
use Rattle.sdv_commands.proofs.explain.judged.Goals as goal

pub returns-in-Err-clause-is : goal.returns-in-Err-clause-is
returns-in-Err-clause-is c =
    if_ok_more c.fault_shown.result (λ r. IsFaultPage c.args.text.now r.told r.page.items)
    (λ r. IsJudgement c.args.text.now c.args.certificate.now r.told r.page.items) (λ r is. inr is) c.fault_shown.ensures.is

pub returns-clause-is : goal.returns-clause-is
returns-clause-is c =
    let s = c.in-Ok.script in
    inl (
      c.in_ok-words.field-0,
      c.in_ok-words.ensures c.args.text.now
          (record { script = _; same = c.in-Ok.ensures.text; is_script = c.in-Ok.ensures.script; graph = c.in-Ok-graph.ensures }),
      c.fault_of-told.ensures.same,
    )
