use Rattle.std.proofs.Common.{◌≡◌, take}
use Rattle.sdv_audit.specs.AnyShape.{spread}
use Rattle.sdv_audit.proofs.running.spread.Given as goal

abbrev pub invariant-loop-shape : goal.invariant-loop-shape
invariant-loop-shape l = l.all.items ≡ spread l.numbers (take l.shape-index l.shapes)
