use Rattle.std.proofs.Common.{inl, inr, refl, sym, subst, ℕ, List, Option, Result, Some, None}
use Rattle.clap.specs.Words.{Text}
use Rattle.sdv_program.specs.declared.fault.Fault.{Fault}
use Rattle.sdv_program.specs.declared.fault.Fault.TheVariants.{Output}
use Rattle.sdv_program.specs.Outcomes.{PrintsText, outcome_of}
use Rattle.sdv_program.proofs.OutcomeLaws.{failed}
use Rattle.sdv_commands.specs.Report.{PrintsReport}
use Rattle.sdv_commands.proofs.report.print_report.Goals as goal

-- a fault of the print alone
in_part : (page : Text) (told : Option Fault) (before after : Option (List ℕ)) (fault : Fault) → PrintsText page (Some fault) before after
    → PrintsReport page told (Some fault) before after
in_part page told before after Output was = inr (refl, was)
in_part page told before after _ was = absurd was

pub returns-in_err-print_text : goal.returns-in_err-print_text
returns-in_err-print_text g c =
    let page = c.args.page.now in
    let before = g.O.Write.contents c.args.out.now in
    let after = g.O.Write.contents c.print_text.new.out in
    let was : PrintsText page (Some c.in_err-print_text.field-0.0) before after =
    subst (λ (r : Result (Unit {0}) Fault). PrintsText page (outcome_of r) before after) c.in_err-print_text.was c.print_text.ensures in
    failed (λ outcome. PrintsReport page c.args.told outcome before after) _ c.from_residual.result c.from_residual.ensures.1
    (in_part page c.args.told before after c.in_err-print_text.field-0.0 was)

pub returns-in-None : goal.returns-in-None
returns-in-None g c =
    let page = c.args.page.now in
    let before = g.O.Write.contents c.args.out.now in
    let after = g.O.Write.contents c.print_text.new.out in
    let was : PrintsText page None before after =
    subst (λ (r : Result (Unit {0}) Fault). PrintsText page (outcome_of r) before after) c.in_ok-print_text.was c.print_text.ensures in
    inl (sym c.in-None.is, was)

pub returns-in-Some : goal.returns-in-Some
returns-in-Some g c =
    let page = c.args.page.now in
    let before = g.O.Write.contents c.args.out.now in
    let after = g.O.Write.contents c.print_text.new.out in
    let was : PrintsText page None before after =
    subst (λ (r : Result (Unit {0}) Fault). PrintsText page (outcome_of r) before after) c.in_ok-print_text.was c.print_text.ensures in
    inl (sym c.in-Some.is, was)
