use Rattle.std.proofs.lemmas.List.Elements.{All-from_get_or}
use Rattle.sdv_card.specs.Card.{IsByte}
use Rattle.sdv_sim.proofs.making.are_bytes.Goals as goal

pub returns-clause-fit : goal.returns-clause-fit
returns-clause-fit c = All-from_get_or IsByte c.args.bytes.now 0 (λ i h. (c.type_inv.bytes i).fits)
