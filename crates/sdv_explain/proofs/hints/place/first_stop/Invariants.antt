use Rattle.std.proofs.Common.{◌-◌, ◌≤◌, length}
use Rattle.sdv_explain.proofs.hints.place.first_stop.Given as goal

abbrev pub invariant-loop-low : goal.invariant-loop-low
invariant-loop-low l = l.high ≤ length l.spots

abbrev pub decreases-loop-low : goal.decreases-loop-low
decreases-loop-low l = l.high - l.low
