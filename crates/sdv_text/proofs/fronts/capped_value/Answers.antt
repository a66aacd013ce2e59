use Rattle.std.proofs.Common.{◌∙◌, sym, arith}
use Rattle.sdv_text.proofs.FrontLaws.{capped_more, capped_end}
use Rattle.sdv_text.proofs.fronts.capped_value.Goals as goal

pub loop-digit-preserved : goal.loop-digit-preserved
loop-digit-preserved c = (
  omega arith,
  capped_more c.args.most c.loop-digit.value _ c.loop-digit.digit-index c.args.digits.now (omega arith) (cc) ∙ c.loop-digit.invariant.1,
)

pub returns : goal.returns
returns c =
    sym (capped_end c.args.most c.loop-digit.value c.loop-digit.digit-index c.args.digits.now (omega arith) c.loop-digit.invariant.0)
    ∙ c.loop-digit.invariant.1
