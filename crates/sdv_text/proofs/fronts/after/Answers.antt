use Rattle.std.proofs.Common.{sym}
use Rattle.sdv_text.proofs.FrontLaws.{after_some, after_none}
use Rattle.sdv_text.proofs.fronts.after.Goals as goal

pub returns-in-Some : goal.returns-in-Some
returns-in-Some c = rw c.in-Some.ensures.cases.1 (sym (after_some c.args.word.now c.args.text.now c.in-Some.ensures.cases.0))

pub returns-in-None : goal.returns-in-None
returns-in-None c = sym (after_none c.args.word.now c.args.text.now c.in-None.ensures.cases)
