use Rattle.std.proofs.Common.{take}
use Rattle.sdv_table.specs.Fits.{counts_of}
use Rattle.sdv_table.proofs.Growing.{Done}
use Rattle.sdv_table.proofs.encoding.points_of.Given as goal

abbrev pub invariant-loop-number : goal.invariant-loop-number
invariant-loop-number l = Done l.graph.kind (counts_of l.graph) l.start (take l.number l.graph.points) l.heads.items l.rows.items
