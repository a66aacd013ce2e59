use Rattle.std.proofs.Common.{◌∙◌, ◌+◌, refl, arith}
use Rattle.sdv_image.proofs.BlockLaws.{write_more, only_more}
use Rattle.sdv_image.proofs.blocks.write_blocks.Goals as goal

pub returns-in_err-write_block-clause-others : goal.returns-in_err-write_block-clause-others
returns-in_err-write_block-clause-others g c =
    only_more c.args.first _ (c.args.first + c.loop-i.i) _ _ _ (omega arith) (omega arith) c.loop-i.invariant.others c.in_err-write_block.ensures.others

pub loop-i-preserved : goal.loop-i-preserved
loop-i-preserved g c =
    let inv = c.loop-i.invariant in
    let e = c.in_ok-write_block.ensures in
    record {
      size = e.size ∙ inv.size;
      failed = e.no_fault ∙ inv.failed;
      written = write_more c.args.first c.loop-i.i _ _ _ _ (omega arith) refl inv.written e.others e.written;
      others = only_more c.args.first _ (c.args.first + c.loop-i.i) _ _ _ (omega arith) (omega arith) inv.others e.others;
      fit = λ h. e.fit (inv.fit h);
    }
