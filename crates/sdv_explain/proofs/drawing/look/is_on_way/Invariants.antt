use Rattle.std.proofs.Common.{◌≡◌, None, drop}
use Rattle.sdv_explain.specs.Drawing.{steps_on}
use Rattle.sdv_explain.proofs.drawing.look.is_on_way.Given as goal

-- no step so far is from the one point to the other
abbrev pub invariant-loop-visit : goal.invariant-loop-visit
invariant-loop-visit l = steps_on l.before (drop l.visit-index l.way) l.from l.to ≡ steps_on None l.way l.from l.to
