use Rattle.std.proofs.Common.{◌≡◌, length}
use Rattle.sdv_explain.proofs.drawing.statements_of.Given as goal

abbrev pub invariant-loop-number : goal.invariant-loop-number
invariant-loop-number l = length l.statements.items ≡ l.number
