use Rattle.std.proofs.Common.{rules}
use Rattle.sdv_card.proofs.shape.Shape.decode.Goals as goal

pub returns-then-eq-clause-fields : goal.returns-then-eq-clause-fields
returns-then-eq-clause-fields c = search rules

pub returns-then-eq-clause-read_back : goal.returns-then-eq-clause-read_back
returns-then-eq-clause-read_back c = search rules
