use Rattle.std.proofs.Common.{rules}
use Rattle.sdv_behavior.proofs.heard.does.Goals as goal

pub returns-in-Takes-clause-heard : goal.returns-in-Takes-clause-heard
returns-in-Takes-clause-heard c = search rules
