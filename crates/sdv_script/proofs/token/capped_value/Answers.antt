use Rattle.std.proofs.Common.{◌∙◌, sym, arith}
use Rattle.sdv_script.proofs.TokenLaws.{capped_more, capped_end}
use Rattle.sdv_script.proofs.token.capped_value.Goals as goal

pub loop-byte-preserved : goal.loop-byte-preserved
loop-byte-preserved c = (
  omega arith,
  capped_more c.args.base c.loop-byte.value _ c.loop-byte.byte-index c.args.digits.now c.requires.low (omega arith) (cc)
      ∙ c.loop-byte.invariant.1,
)

pub returns : goal.returns
returns c =
    sym (capped_end c.args.base c.loop-byte.value c.loop-byte.byte-index c.args.digits.now (omega arith) c.loop-byte.invariant.0)
    ∙ c.loop-byte.invariant.1
