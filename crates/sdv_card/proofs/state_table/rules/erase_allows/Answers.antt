use Rattle.std.proofs.Common.{rules}
use Rattle.sdv_card.proofs.state_table.rules.erase_allows.Goals as goal

pub returns-in-Cmd33-default-2 : goal.returns-in-Cmd33-default-2
returns-in-Cmd33-default-2 c = search rules

pub returns-in-Cmd33-Begun-2 : goal.returns-in-Cmd33-Begun-2
returns-in-Cmd33-Begun-2 c = search rules
