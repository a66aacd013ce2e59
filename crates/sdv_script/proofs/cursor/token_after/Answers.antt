use Rattle.std.proofs.Common.{◌∙◌}
use Rattle.sdv_script.proofs.LineLaws.{behind_gap}
use Rattle.sdv_script.proofs.cursor.token_after.Goals as goal

pub returns-clause-lines : goal.returns-clause-lines
returns-clause-lines c room =
    c.token_here.ensures.lines
    ∙ behind_gap c.args.line c.gap_len.result c.args.text.now _ _ c.line_after.result _ c.gap_len.ensures.within c.split_at.ensures.front
    c.split_at.ensures.back c.gap_len.ensures.gap c.line_after.ensures room
