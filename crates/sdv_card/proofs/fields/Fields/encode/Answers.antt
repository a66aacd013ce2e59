use Rattle.std.proofs.Common.{rules}
use Rattle.sdv_card.proofs.fields.Fields.encode.Goals as goal

pub returns-clause-code : goal.returns-clause-code
unfolding Rattle.sdv_card.specs.Code.code_of
returns-clause-code c = search rules
