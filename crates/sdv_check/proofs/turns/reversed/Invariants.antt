use Rattle.std.proofs.Common.{◌≡◌, take}
use Rattle.sdv_check.proofs.turns.reversed.Given as goal

abbrev pub invariant-loop-cost : goal.invariant-loop-cost
invariant-loop-cost l = l.all.items ≡ take l.cost-index l.turns.items
