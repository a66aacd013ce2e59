use Rattle.std.proofs.Common.{◌≡◌, drop}
use Rattle.sdv_facts.specs.AddressFits.{each_fits}
use Rattle.sdv_facts.specs.Facts.{facts_with}
use Rattle.sdv_facts.proofs.address.each_fits.Given as goal

abbrev pub invariant-loop-shape : goal.invariant-loop-shape
invariant-loop-shape l =
    each_fits (facts_with (drop l.shape-index l.shapes) l.numbers) l.position l.blocks ≡ each_fits (facts_with l.shapes l.numbers) l.position l.blocks
