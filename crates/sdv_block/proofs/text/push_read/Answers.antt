use Rattle.std.proofs.Common.{codes}
use Rattle.std.proofs.lemmas.Result.{IfOk-weaker}
use Rattle.std.specs.Fmt.{decimal}
use Rattle.std.specs.Prelude.{string_bytes}
use Rattle.sdv_block.proofs.Growing.{counted, not_single_read, read_tail}
use Rattle.sdv_block.proofs.text.push_read.Goals as goal

pub returns-else-count-eq1 : goal.returns-else-count-eq1
returns-else-count-eq1 c =
    IfOk-weaker c.push_counted.result _ _
    (λ done is others. counted (string_bytes c.args.text.now) (string_bytes c.push_counted.new.text) (codes "send 18 at by hc ") (decimal c.args.first)
    (codes " count ") (decimal c.args.count) read_tail others _ is
    (not_single_read c.args.first c.args.count others c.if-count-eq1.false))
    c.push_counted.ensures
