use Rattle.std.proofs.Common.{◌≡◌}
use Rattle.sdv_explain.specs.Lines.{from_line}
use Rattle.sdv_explain.proofs.hints.lines.from_line.Given as goal

abbrev pub invariant-loop-passed : goal.invariant-loop-passed
invariant-loop-passed l = l.rest ≡ from_line l.passed l.text
