use Rattle.sdv_lines.proofs.AnswerLaws.{not_told}
use Rattle.sdv_lines.proofs.answer.response_of.Goals as goal

pub returns-in-None : goal.returns-in-None
returns-in-None c = not_told c.args.expect c.args.text.now c.if-is_lost.ensures c.in-None.ensures
