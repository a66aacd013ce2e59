use Rattle.std.proofs.Common.{◌≡◌, ◌*◌, ◌%◌, ◌^◌}
use Rattle.std.proofs.lemmas.Bool.{and_parts}
use Rattle.sdv_behavior.specs.Grammar.{size_fits, boot_fits}
use Rattle.sdv_behavior.proofs.DescribedLaws.{is_size, shifted, emmc_bytes_described}
use Rattle.sdv_behavior.proofs.describing.emmc_bytes.Goals as goal

pub invariant_of-result : goal.invariant_of-result
invariant_of-result c =
    let size = c.args.size in
    let p = and_parts (size_fits size) (boot_fits c.args.boot) c.requires.ranges in
    let length : 1 * 2 ^ size.read_bl_len % 65536 ≡ 2 ^ size.read_bl_len = shifted size.read_bl_len ((is_size size p.0).most) in
    record { described = rw (c.size_blocks.ensures, c.byte_csd.ensures, length) (emmc_bytes_described size c.args.boot p.0 p.1 c.requires.capacity) }
