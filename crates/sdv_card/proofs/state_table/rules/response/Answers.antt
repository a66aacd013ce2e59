use Rattle.std.proofs.Common.{rules}
use Rattle.sdv_card.proofs.state_table.rules.response.Goals as goal

pub returns-in-Cmd3Sd : goal.returns-in-Cmd3Sd
returns-in-Cmd3Sd c = search rules
