use Rattle.std.proofs.Common.{rules}
use Rattle.sdv_card.proofs.shape.Shape.has_block_addresses.Goals as goal

pub returns : goal.returns
unfolding Rattle.sdv_card.specs.Code.digits
returns c = search rules
