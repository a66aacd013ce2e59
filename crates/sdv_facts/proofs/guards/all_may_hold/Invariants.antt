use Rattle.std.proofs.Common.{◌≡◌, drop}
use Rattle.sdv_facts.specs.Edges.{all_may_hold}
use Rattle.sdv_facts.proofs.guards.all_may_hold.Given as goal

abbrev pub invariant-loop-guard : goal.invariant-loop-guard
invariant-loop-guard l = all_may_hold (drop l.guard-index l.guards) l.seen ≡ all_may_hold l.guards l.seen
