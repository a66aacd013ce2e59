use Rattle.std.proofs.Common.{nat_le, ◌&&◌}
use Rattle.std.proofs.lemmas.Bool.{and_parts}
use Rattle.sdv_behavior.specs.Grammar.{boot_fits}
use Rattle.sdv_behavior.proofs.DescribedLaws.{emmc_blocks_described}
use Rattle.sdv_behavior.proofs.describing.emmc_blocks.Goals as goal

pub invariant_of-result : goal.invariant_of-result
invariant_of-result c =
    let q = and_parts (nat_le 1 c.args.sectors && nat_le c.args.sectors 4294967295) (boot_fits c.args.boot) c.requires in
    let p = and_parts (nat_le 1 c.args.sectors) (nat_le c.args.sectors 4294967295) q.0 in
    record { described = rw (c.from.ensures, c.byte_csd.ensures) (emmc_blocks_described c.args.sectors c.args.boot p.0 p.1 q.1) }
