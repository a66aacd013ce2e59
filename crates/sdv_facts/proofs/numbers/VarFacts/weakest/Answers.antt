use Rattle.std.proofs.Common.{rules}
use Rattle.sdv_facts.proofs.numbers.VarFacts.weakest.Goals as goal

pub returns : goal.returns
returns c = search rules
