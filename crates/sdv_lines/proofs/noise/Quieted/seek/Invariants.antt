use Rattle.std.specs.Io.KnownBytes.{Keeps}
use Rattle.sdv_lines.specs.Noise.{quiets}
use Rattle.sdv_lines.specs.Fronts.{room_left}
use Rattle.sdv_lines.proofs.noise.Quieted.seek.Given as goal

-- what is left of the bytes stays the same
abbrev pub invariant-loop-self : goal.invariant-loop-self
invariant-loop-self g l =
    let remaining = g.R.Read.remaining in
    Keeps (quiets l.fn.self.front.most l.fn.self.front.held.items (remaining l.fn.self.reader))
    (quiets l.self.front.most l.self.front.held.items (remaining l.self.reader))

abbrev pub decreases-loop-self : goal.decreases-loop-self
decreases-loop-self g l = room_left l.self.front
