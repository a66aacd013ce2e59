use Rattle.std.proofs.Common.{rules}
use Rattle.sdv_lines.proofs.SendLaws.{blocks_more, blocks_failed}
use Rattle.sdv_lines.proofs.digits.put_blocks.Goals as goal

pub returns-in_err-put_block : goal.returns-in_err-put_block
returns-in_err-put_block g c =
    let failed = c.in_err-put_block.ensures in
    let front = blocks_failed (g.W.Write.contents c.args.writer.now) (g.W.Write.contents c.loop-block.writer) (g.W.Write.contents c.put_block.new.writer)
    c.args.blocks.now c.loop-block.block-index _ c.loop-block-test.true c.loop-block.invariant failed.1 in
    search rules

pub loop-block-preserved : goal.loop-block-preserved
loop-block-preserved g c =
    blocks_more _ _ _ c.args.blocks.now c.loop-block.block-index _ c.loop-block-test.true c.loop-block.invariant c.in_ok-put_block.ensures
