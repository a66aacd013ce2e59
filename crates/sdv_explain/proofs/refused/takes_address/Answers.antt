use Rattle.sdv_explain.proofs.RefusedLaws.{at_one_shape, iff_twice}
use Rattle.sdv_explain.specs.Refused.{TakesAddress}
use Rattle.sdv_explain.proofs.refused.takes_address.Goals as goal

pub returns : goal.returns
unfolding TakesAddress
returns c = iff_twice c.addresses_on_card.ensures (at_one_shape c.args.shape)
