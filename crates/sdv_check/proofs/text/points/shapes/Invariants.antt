use Rattle.std.proofs.Common.{◌≡◌, ◌-◌, ◌≤◌, length}
use Rattle.sdv_check.specs.Reading.{begins_shape, read_rising, read_shapes}
use Rattle.sdv_check.proofs.Lists.{left}
use Rattle.sdv_check.proofs.text.points.shapes.Given as goal

-- what is read and what is left are all
abbrev pub invariant-loop-last : goal.invariant-loop-last
invariant-loop-last l =
    (length l.shapes.items ≤ l.room) × (left begins_shape read_rising l.room l.shapes.items l.last l.at.rest.now ≡ read_shapes l.room l.fn.at.rest.now)

abbrev pub decreases-loop-last : goal.decreases-loop-last
decreases-loop-last l = l.room - length l.shapes.items
