use Rattle.std.proofs.Common.{refl}
use Rattle.sdv_text.proofs.FrontLaws.{after_some, after_none}
use Rattle.sdv_check.proofs.text.cursor.takes.Goals as goal

pub returns-in-Some : goal.returns-in-Some
returns-in-Some c = rw c.in-Some.ensures.cases.1 (after_some c.args.word.now c.args.at.now.rest.now c.in-Some.ensures.cases.0)

pub returns-in-None : goal.returns-in-None
returns-in-None c = (after_none c.args.word.now c.args.at.now.rest.now c.in-None.ensures.cases, refl)
