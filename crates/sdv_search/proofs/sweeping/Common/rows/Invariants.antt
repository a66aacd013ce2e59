use Rattle.sdv_search.specs.Swept.{AreRows}
use Rattle.sdv_search.proofs.sweeping.Common.rows.Given as goal

-- the rows so far
abbrev pub invariant-loop-number : goal.invariant-loop-number
invariant-loop-number g l = AreRows l.self.graph.now l.self.desc l.self.image.now l.self.input.now l.number l.rows.items
