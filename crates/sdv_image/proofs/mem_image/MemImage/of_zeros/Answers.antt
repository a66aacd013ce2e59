use Rattle.std.proofs.Common.{◌≡◌, ◌*◌, replicate, rules}
use Rattle.sdv_image.proofs.ZeroLaws.{zero_shown}
use Rattle.sdv_image.proofs.mem_image.MemImage.of_zeros.Goals as goal

pub returns-clause-zeros : goal.returns-clause-zeros
returns-clause-zeros c =
    let items : c.in_ok-bytes.bytes.items ≡ replicate (c.args.blocks * 512) 0 = search rules in
    zero_shown (record { bytes = c.in_ok-bytes.bytes }) c.args.blocks items
