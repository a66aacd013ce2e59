use Rattle.std.proofs.Common.{rules}
use Rattle.sdv_card.proofs.guard.Guard.may_hold.Goals as goal

pub returns-then-not-doubt : goal.returns-then-not-doubt
returns-then-not-doubt c = search rules
