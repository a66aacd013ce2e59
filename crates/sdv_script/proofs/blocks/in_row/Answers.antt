use Rattle.std.proofs.Common.{◌∙◌}
use Rattle.sdv_script.proofs.RowLaws.{row_last}
use Rattle.sdv_script.proofs.blocks.in_row.Goals as goal

pub loop-last-preserved : goal.loop-last-preserved
loop-last-preserved c =
    rw c.in_ok-new.ensures.ok (row_last c.pop.new.self.items c.loop-last.statements.items c.in-Some.last _ c.in-Some.ensures.items ∙ c.loop-last.invariant)
