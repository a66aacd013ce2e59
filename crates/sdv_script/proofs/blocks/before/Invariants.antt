use Rattle.std.proofs.Common.{◌≡◌, vec_len, map}
use Rattle.sdv_graph.specs.Tree.{ways_of, before}
use Rattle.sdv_script.specs.GuardedOf.{guarded_of}
use Rattle.sdv_script.proofs.blocks.before.Given as goal

-- the cases that are left, before those that were put together, are all
abbrev pub invariant-loop-guards : goal.invariant-loop-guards
invariant-loop-guards l = before (map guarded_of l.first.items) (ways_of l.all) ≡ before (map guarded_of l.initial.first.items) (ways_of l.initial.all)

abbrev pub decreases-loop-guards : goal.decreases-loop-guards
decreases-loop-guards l = vec_len l.first
