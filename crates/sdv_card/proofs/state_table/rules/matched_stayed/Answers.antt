use Rattle.std.proofs.Common.{rules}
use Rattle.sdv_card.proofs.state_table.rules.matched_stayed.Goals as goal

pub returns-in-Ident-clause-matches : goal.returns-in-Ident-clause-matches
returns-in-Ident-clause-matches c = search rules
