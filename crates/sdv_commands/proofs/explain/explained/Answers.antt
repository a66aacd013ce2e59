use Rattle.std.proofs.Common.{inl, inr}
use Rattle.sdv_commands.specs.Explain.{IsExplanation, IsFaultPage, IsTold}
use Rattle.sdv_commands.proofs.ReportLaws.{if_ok_more}
use Rattle.sdv_commands.proofs.explain.explained.Goals as goal

pub returns-in-Ok-clause-is : goal.returns-in-Ok-clause-is
returns-in-Ok-clause-is c =
    let s = c.in-Ok.script in
    if_ok_more c.script_explained.result (λ r. IsTold s r.told) (λ r. IsExplanation c.args.text.now r.told r.page.items)
    (λ r is. inl (s, record { same = c.in-Ok.ensures.text; is_script = c.in-Ok.ensures.script }, is)) c.script_explained.ensures.is

pub returns-in-Err-clause-is : goal.returns-in-Err-clause-is
returns-in-Err-clause-is c =
    if_ok_more c.fault_shown.result (λ r. IsFaultPage c.args.text.now r.told r.page.items)
    (λ r. IsExplanation c.args.text.now r.told r.page.items) (λ r is. inr is) c.fault_shown.ensures.is
