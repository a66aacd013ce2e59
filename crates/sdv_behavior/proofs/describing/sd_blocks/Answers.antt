use Rattle.std.proofs.Common.{nat_le}
use Rattle.std.proofs.lemmas.Bool.{and_parts}
use Rattle.sdv_behavior.specs.Grammar.{rca_fits}
use Rattle.sdv_behavior.proofs.DescribedLaws.{sd_blocks_described}
use Rattle.sdv_behavior.proofs.describing.sd_blocks.Goals as goal

pub invariant_of-result : goal.invariant_of-result
invariant_of-result c =
    let p = and_parts (nat_le c.args.c_size 4194303) (rca_fits c.args.rca) c.requires in
    record { described = rw (c.from.ensures, c.block_csd.ensures) (sd_blocks_described c.args.c_size c.args.rca p.0 p.1) }
