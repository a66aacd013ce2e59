use Rattle.std.proofs.Common.{◌≡◌, ◌*◌, ◌%◌, ◌^◌, ◌==◌, ◌&&◌, ◌||◌}
use Rattle.std.proofs.lemmas.Bool.{and_parts}
use Rattle.sdv_behavior.specs.Grammar.{size_fits, rca_fits}
use Rattle.sdv_behavior.proofs.DescribedLaws.{is_size, shifted, sd_bytes_described}
use Rattle.sdv_behavior.proofs.describing.sd_bytes.Goals as goal

pub invariant_of-result : goal.invariant_of-result
invariant_of-result c =
    let version = c.args.version in
    let size = c.args.size in
    let p = and_parts (((version == 1) || (version == 2)) && size_fits size) (rca_fits c.args.rca) c.requires in
    let q = and_parts ((version == 1) || (version == 2)) (size_fits size) p.0 in
    let length : 1 * 2 ^ size.read_bl_len % 65536 ≡ 2 ^ size.read_bl_len = shifted size.read_bl_len ((is_size size q.1).most) in
    record { described = rw (c.size_blocks.ensures, c.byte_csd.ensures, length) (sd_bytes_described version c.args.rca size q.0 q.1 p.1) }
