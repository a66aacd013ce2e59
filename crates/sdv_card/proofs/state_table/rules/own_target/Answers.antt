use Rattle.std.proofs.Common.{rules}
use Rattle.sdv_card.proofs.state_table.rules.own_target.Goals as goal

pub returns-in_default : goal.returns-in_default
returns-in_default c = search rules
