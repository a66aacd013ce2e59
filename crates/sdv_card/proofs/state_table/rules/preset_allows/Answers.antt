use Rattle.std.proofs.Common.{rules}
use Rattle.sdv_card.proofs.state_table.rules.preset_allows.Goals as goal

pub returns-else-preset-eq0 : goal.returns-else-preset-eq0
returns-else-preset-eq0 c = search rules
