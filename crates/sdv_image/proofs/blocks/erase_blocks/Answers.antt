use Rattle.std.proofs.Common.{◌∙◌, ◌-◌, refl, subst, arith}
use Rattle.std.proofs.lemmas.Result.{err_from_is_err_and}
use Rattle.sdv_image.specs.Images.{Shown, OnlyAt, zeros}
use Rattle.sdv_image.proofs.BlockLaws.{only_none, only_more, only_wider, erase_none, erase_more, erase_cut, erased_count}
use Rattle.sdv_image.proofs.blocks.erase_blocks.Goals as goal

pub loop-place-init : goal.loop-place-init
loop-place-init g c = record { size = refl; failed = refl; erased = erase_none c.args.first _; others = only_none _ _ _; none = λ h. refl; fit = λ h. h }

pub returns-in_err-write_block-clause-cut : goal.returns-in_err-write_block-clause-cut
returns-in_err-write_block-clause-cut g c =
    let inv = c.loop-place.invariant in
    let p = err_from_is_err_and c.from_residual.result c.from_residual.ensures.1 in
    rw p.1 (erase_cut c.args.first c.args.end c.loop-place.place _ _ _ (omega arith) (omega arith) inv.erased inv.others c.in_err-write_block.ensures.others)

pub returns-in_err-write_block-clause-others : goal.returns-in_err-write_block-clause-others
returns-in_err-write_block-clause-others g c =
    let inv = c.loop-place.invariant in
    only_more c.args.first _ c.loop-place.place _ _ _ (omega arith) (omega arith) (only_wider c.args.first _ _ _ _ (omega arith) inv.others)
    c.in_err-write_block.ensures.others

pub loop-place-preserved : goal.loop-place-preserved
loop-place-preserved g c =
    let inv = c.loop-place.invariant in
    let e = c.in_ok-write_block.ensures in
    record {
      size = e.size ∙ inv.size;
      failed = e.no_fault ∙ inv.failed;
      erased = erase_more c.args.first c.loop-place.place _ _ (omega arith) inv.erased e.others e.written;
      others = only_more c.args.first _ c.loop-place.place _ _ _ (omega arith) (omega arith)
          (only_wider c.args.first (c.loop-place.place - c.args.first) _ _ _ (omega arith) inv.others) e.others;
      none = λ h. absurd (omega (arith, h));
      fit = λ h. e.fit (inv.fit h);
    }

pub returns-clause-erased : goal.returns-clause-erased
returns-clause-erased g c =
    subst (λ n. Shown c.args.first (zeros n) (g.I.Image.blocks c.loop-place.image))
    (erased_count c.args.first c.args.end c.loop-place.place (omega arith) c.loop-place.auto.place-end c.loop-place.invariant.none)
    c.loop-place.invariant.erased

pub returns-clause-others : goal.returns-clause-others
returns-clause-others g c =
    subst (λ n. OnlyAt c.args.first n (g.I.Image.blocks c.args.image.now) (g.I.Image.blocks c.loop-place.image))
    (erased_count c.args.first c.args.end c.loop-place.place (omega arith) c.loop-place.auto.place-end c.loop-place.invariant.none)
    c.loop-place.invariant.others
