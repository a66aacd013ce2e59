use Rattle.std.proofs.Common.{◌≡◌, drop}
use Rattle.sdv_facts.specs.AfterLet.{all_byte_unit}
use Rattle.sdv_facts.proofs.units.all_byte.Given as goal

abbrev pub invariant-loop-shape : goal.invariant-loop-shape
invariant-loop-shape l = all_byte_unit (drop l.shape-index l.shapes) ≡ all_byte_unit l.shapes
