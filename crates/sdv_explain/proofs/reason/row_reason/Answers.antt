use Rattle.std.proofs.Common.{rules}
use Rattle.sdv_explain.proofs.reason.row_reason.Goals as goal

pub returns-then-not-erase_allows-clause-reason : goal.returns-then-not-erase_allows-clause-reason
returns-then-not-erase_allows-clause-reason g c = search rules
