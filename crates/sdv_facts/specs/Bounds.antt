-- How many commands a certificate allows from a point on, by the turns left of the loops round it.
-- Bounds are this project's own.
use Rattle.std.specs.Prelude.{◌+◌, ◌*◌, ◌≤◌, ℕ, List, [], ◌∷◌, reverse, slice_get, Option, Some, None}
use Rattle.sdv_graph.specs.declared.graph.Target.{Target}
use Rattle.sdv_graph.specs.Graph.{Graph}
use Rattle.sdv_graph.specs.Nested.{Pass, InBox, Turned}
use Rattle.sdv_graph.specs.Path.{Action, sends, turns_at}
use Rattle.sdv_facts.specs.Facts.{PointFacts}

-- so many for each turn left, the innermost loop first
abbrev pub turns_cost : (each turns : List ℕ) → ℕ
turns_cost [] ts = 0
turns_cost (c ∷ cs) [] = 0
turns_cost (c ∷ cs) (t ∷ ts) = c * t + turns_cost cs ts

-- a certificate names the outermost loop first
abbrev pub bound : PointFacts → List ℕ → ℕ
bound p ts = p.base + turns_cost (reverse p.turns.items) ts

-- the commands that a statement sends
abbrev pub commands_of : Action → ℕ
commands_of (sends c ways other) = 1
commands_of action = 0

-- along an edge the bound falls by the commands sent, for all turns that can be left
abbrev pub BoundFalls : (source target : PointFacts) → (most : List ℕ) → (sent : ℕ) → Pass → Target → Type 0
BoundFalls p q most sent pass t =
    (ts us : List ℕ) → InBox ts most → Turned pass ts us → bound q (turns_at t us) + sent ≤ bound p ts

abbrev pub bound_at : Option PointFacts → List ℕ → ℕ
bound_at None ts = 0
bound_at (Some p) ts = bound p ts

-- the bound of a certificate: that at point 0, with all turns of a loop that begins there
abbrev pub bound_of : Graph → List PointFacts → ℕ
bound_of g ps = bound_at (slice_get ps 0) (turns_at g.first [])
