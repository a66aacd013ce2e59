use Rattle.std.proofs.Common.{◌≡◌, drop}
use Rattle.sdv_facts.specs.AfterLet.{all_block_unit}
use Rattle.sdv_facts.proofs.units.all_block.Given as goal

abbrev pub invariant-loop-shape : goal.invariant-loop-shape
invariant-loop-shape l = all_block_unit (drop l.shape-index l.shapes) ≡ all_block_unit l.shapes
