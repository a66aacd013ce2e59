use Rattle.std.proofs.Common.{rules}
use Rattle.sdv_card.proofs.state_table.by_rows.order_legal.Goals as goal

pub returns-in-Some : goal.returns-in-Some
returns-in-Some g c = search rules
