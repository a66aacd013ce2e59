use Rattle.std.proofs.Common.{◌≡◌, ◌++◌, map}
use Rattle.sdv_graph.specs.Tree.{statements_of, ways_of}
use Rattle.sdv_certify.specs.Blocks.{blocks_of}
use Rattle.sdv_certify.proofs.bounds.blocks_of.Given as goal

-- the blocks so far, and those of the rest, are all
abbrev pub invariant-loop-rest : goal.invariant-loop-rest
invariant-loop-rest l = map (λ b. statements_of b.now) l.blocks.items ++ blocks_of (ways_of l.rest) ≡ blocks_of (ways_of l.cases)
