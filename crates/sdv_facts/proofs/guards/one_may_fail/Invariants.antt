use Rattle.std.proofs.Common.{◌≡◌, drop}
use Rattle.sdv_facts.specs.Edges.{one_may_fail}
use Rattle.sdv_facts.proofs.guards.one_may_fail.Given as goal

abbrev pub invariant-loop-guard : goal.invariant-loop-guard
invariant-loop-guard l = one_may_fail (drop l.guard-index l.guards) l.seen ≡ one_may_fail l.guards l.seen
