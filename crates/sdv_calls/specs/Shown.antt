-- Parts of what the checker holds, as lists.
use Rattle.std.specs.Prelude.{List}
use Rattle.sdv_calls.specs.declared.said.Said.{Said}
use Rattle.sdv_facts.specs.Facts.{Facts, PointFacts}
use Rattle.sdv_facts.specs.Shared.{facts_in, points_in}

-- what is said of each point
abbrev pub points_said : Said → List PointFacts
points_said said = points_in said.table.now said.points.now

-- and between calls
abbrev pub rest_said : Said → Facts
rest_said said = facts_in said.table.now said.rest.now
