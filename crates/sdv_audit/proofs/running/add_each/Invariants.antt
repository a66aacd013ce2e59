use Rattle.std.proofs.Common.{◌≡◌, ◌++◌, take, map}
use Rattle.sdv_audit.specs.AnyShape.{with_field}
use Rattle.sdv_audit.proofs.running.add_each.Given as goal

abbrev pub invariant-loop-number : goal.invariant-loop-number
invariant-loop-number l = l.all.items ≡ l.fn.all.items ++ map (with_field l.shape) (take l.number-index l.numbers)
