use Rattle.std.proofs.Common.{◌≡◌, true, rules}
use Rattle.sdv_facts.specs.Facts.{facts_with}
use Rattle.sdv_facts.specs.AddressFits.{address_fits}
use Rattle.sdv_facts.proofs.AddressLaws.{on_card}
use Rattle.sdv_facts.proofs.address.fits_on_card.Goals as goal

pub returns-then-fits-clause-on_card : goal.returns-then-fits-clause-on_card
returns-then-fits-clause-on_card c held =
    let rule : address_fits (facts_with c.args.shapes.now c.args.numbers.now) c.args.address.now c.args.blocks ≡ true = search rules in
    on_card (facts_with c.args.shapes.now c.args.numbers.now) c.args.address.now c.args.blocks rule
