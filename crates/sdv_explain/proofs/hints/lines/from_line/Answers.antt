use Rattle.std.proofs.Common.{◌-◌, ◌∙◌, sym, ap, arith}
use Rattle.sdv_explain.specs.Lines.{behind_line}
use Rattle.sdv_explain.proofs.LineLaws.{line_none, line_passed, nil_when, none_later}
use Rattle.sdv_explain.proofs.hints.lines.from_line.Goals as goal

pub loop-passed-init : goal.loop-passed-init
loop-passed-init c = sym (line_none c.args.text.now)

pub returns-then-is_empty : goal.returns-then-is_empty
returns-then-is_empty c =
    let e = nil_when _ (sym c.is_empty.ensures ∙ c.if-is_empty.true) in
    e ∙ sym (none_later (c.args.line - 1) c.loop-passed.passed c.args.text.now (omega arith) (sym c.loop-passed.invariant ∙ e))

pub loop-passed-preserved : goal.loop-passed-preserved
loop-passed-preserved c =
    c.behind_line-rest.ensures ∙ (ap behind_line c.loop-passed.invariant ∙ sym (line_passed c.loop-passed.passed c.args.text.now))
