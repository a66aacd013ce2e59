use Rattle.std.proofs.Common.{subst, Option, Some, None, Result, List, ℕ, option_map}
use Rattle.sdv_program.specs.declared.fault.Fault.{Fault}
use Rattle.sdv_program.specs.Outcomes.{outcome_of}
use Rattle.sdv_program.proofs.OutcomeLaws.{failed}
use Rattle.sdv_commands.specs.Decode.{AuditsGraph}
use Rattle.sdv_commands.specs.Report.{PrintsReport}
use Rattle.sdv_commands.proofs.DecodeLaws.{told_all, told_part, undecoded_so}
use Rattle.sdv_commands.proofs.decode.decode_graph.Goals as goal

pub returns-in-Err : goal.returns-in-Err
returns-in-Err g c =
    undecoded_so c.args.form c.args.graph.now c.args.traced.trace.now (option_map (λ bytes. bytes.now) c.args.traced.given)
    (g.O.Write.contents c.args.out.now) c.in-Err.fault c.in-Err.ensures.room c.fault_of.result c.fault_of.ensures

pub returns-in_err-print_report : goal.returns-in_err-print_report
returns-in_err-print_report g c =
    let decoded = c.in-Ok.decoded in
    let given : Option (List ℕ) = option_map (λ bytes. bytes.now) c.args.traced.given in
    let before = g.O.Write.contents c.args.out.now in
    let after = g.O.Write.contents c.print_report.new.out in
    let fault = c.in_err-print_report.field-0.0 in
    let was : PrintsReport c.deref.result.now c.told_off.result (Some fault) before after =
    subst (λ (r : Result (Unit {0}) Fault). PrintsReport c.deref.result.now c.told_off.result (outcome_of r) before after)
    c.in_err-print_report.was c.print_report.ensures in
    failed (λ outcome. AuditsGraph c.args.form c.args.graph.now c.args.traced.trace.now given outcome before after) fault
    c.from_residual.result c.from_residual.ensures.1
    (told_part c.args.form c.args.graph.now c.args.traced.trace.now given decoded.text.items decoded.off c.in-Ok.ensures.decodes
    c.told_off.result c.told_off.ensures.same fault before after (rw c.deref.ensures.value at was))

pub returns : goal.returns
returns g c =
    let decoded = c.in-Ok.decoded in
    let given : Option (List ℕ) = option_map (λ bytes. bytes.now) c.args.traced.given in
    let before = g.O.Write.contents c.args.out.now in
    let mid = g.O.Write.contents c.print_report.new.out in
    let was : PrintsReport c.deref.result.now c.told_off.result None before mid =
    subst (λ (r : Result (Unit {0}) Fault). PrintsReport c.deref.result.now c.told_off.result (outcome_of r) before mid)
    c.in_ok-print_report.was c.print_report.ensures in
    told_all c.args.form c.args.graph.now c.args.traced.trace.now given decoded.text.items decoded.off c.in-Ok.ensures.decodes
    c.told_off.result c.told_off.ensures.same before mid (g.O.Write.contents c.audit_in.new.out) _ (rw c.deref.ensures.value at was)
    c.audit_in.ensures
