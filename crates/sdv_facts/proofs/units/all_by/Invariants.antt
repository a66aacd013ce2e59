use Rattle.std.proofs.Common.{◌≡◌, drop}
use Rattle.sdv_graph.specs.declared.tree.Unit.TheVariants.{By}
use Rattle.sdv_facts.specs.AddressFits.{unit_fits}
use Rattle.sdv_facts.proofs.units.all_by.Given as goal

abbrev pub invariant-loop-shape : goal.invariant-loop-shape
invariant-loop-shape l = unit_fits (drop l.shape-index l.shapes) (By l.flag) ≡ unit_fits l.shapes (By l.flag)
