use Rattle.std.proofs.Common.{None}
use Rattle.sdv_card.specs.Port.{DataOut}
use Rattle.sdv_card.specs.ScriptEvent.{BlocksOut}
use Rattle.sdv_lines.proofs.AskLaws.{then_heard}
use Rattle.sdv_lines.proofs.ask.data_out.Goals as goal

pub returns : goal.returns
returns g c =
    then_heard None (DataOut c.args.lines c.args.blocks.now) (λ end. BlocksOut end) _ _ _ _ c.hear_data_end.result c.in_ok-send_blocks.ensures
    (c.hear_data_end.ensures c.args.lines c.args.blocks.now)
