use Rattle.std.proofs.Common.{◌≡◌, drop, map}
use Rattle.sdv_verdict.specs.Allowed.{are_quiet}
use Rattle.sdv_verdict.proofs.allowed.Allowed.are_quiet.Given as goal

-- the findings so far are quiet
abbrev pub invariant-loop-finding : goal.invariant-loop-finding
invariant-loop-finding l =
    are_quiet l.self.text.now (map (λ kind. kind.now) l.self.kinds.now) l.graph (drop l.finding-index l.found)
    ≡ are_quiet l.self.text.now (map (λ kind. kind.now) l.self.kinds.now) l.graph l.found
