use Rattle.std.proofs.Common.{◌≡◌, map}
use Rattle.std.specs.Prelude.{All, filter}
use Rattle.sdv_search.specs.Swept.{IsCell}
use Rattle.sdv_search.specs.Table.{can_have_code, codes_below}
use Rattle.sdv_search.specs.declared.sweeping.Cell.{Cell}
use Rattle.sdv_search.proofs.sweeping.Common.cells.Given as goal

-- the runs so far, with the mishaps up to this place that the event can have
abbrev pub invariant-loop-code : goal.invariant-loop-code
invariant-loop-code l = (map (λ (cell : Cell). cell.code) l.cells.items ≡ filter (can_have_code l.next) (codes_below l.code))
    × All (IsCell l.self.graph.now l.self.desc l.self.image.now l.self.input.now l.number) l.cells.items
