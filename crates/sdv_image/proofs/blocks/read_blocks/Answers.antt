use Rattle.std.proofs.Common.{◌∙◌, arith}
use Rattle.sdv_image.proofs.BlockLaws.{read_more}
use Rattle.sdv_image.proofs.blocks.read_blocks.Goals as goal

pub loop-i-preserved : goal.loop-i-preserved
loop-i-preserved g c =
    let inv = c.loop-i.invariant in
    let e = c.in_ok-read_block.ensures in
    record {
      size = e.size ∙ inv.size;
      same = e.same ∙ inv.same;
      failed = e.no_fault ∙ inv.failed;
      read = read_more c.args.first c.loop-i.i c.loop-i.blocks c.read_block.new.block _ _ (omega arith) inv.read inv.same e.read;
    }
