use Rattle.std.proofs.Common.{rules}
use Rattle.sdv_card.proofs.state_table.modes.same_width.Goals as goal

pub returns : goal.returns
returns c = search rules
