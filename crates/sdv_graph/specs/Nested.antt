-- How the loops of a graph are NESTED: wherever a run stands, the turns left are those that the point allows.
use Rattle.std.specs.Prelude.{◌≡◌, ℕ, zero, suc, ◌≤◌, List, [], ◌∷◌, slice_get, Some}
use Rattle.sdv_graph.specs.declared.graph.Target.{Target}
use Rattle.sdv_graph.specs.Path.{Case, Action, Point, sends, phases, lets, tests, flags, widths, heads, jumps, stops, turns_at}
use Rattle.sdv_graph.specs.Graph.{Graph}

-- turns left that a point can have, the innermost loop first: as many as there are loops round it, and none above the
-- most
abbrev pub InBox : (turns most : List ℕ) → Type 0
InBox [] [] = Unit {0}
InBox (t ∷ ts) (n ∷ most) = (t ≤ n) × InBox ts most
InBox ts most = ⊥

-- how the turns left change before an edge is taken: not at all, or at a loop's head, where a turn begins or none is
-- left
pub data Pass : Type 0 where
  Same : Pass
  Again : Pass
  Over : Pass

abbrev pub Turned : Pass → (before after : List ℕ) → Type 0
Turned Same ts us = ts ≡ us
Turned Again (suc t ∷ ts) us = (t ∷ ts) ≡ us
Turned Over (zero ∷ ts) us = (zero ∷ ts) ≡ us
Turned pass ts us = ⊥

-- a fact of each target of a node
abbrev pub EachCase : List Case → (Pass → Target → Type 0) → Type 0
EachCase [] P = Unit {0}
EachCase (w ∷ ws) P = P Same w.target × EachCase ws P

abbrev pub EachTarget : Action → (Pass → Target → Type 0) → Type 0
EachTarget (sends c ways other) P = EachCase ways P × P Same other
EachTarget (phases p well other) P = P Same well × P Same other
EachTarget (lets l t) P = P Same t
EachTarget (tests c holds other) P = P Same holds × P Same other
EachTarget (flags f on t) P = P Same t
EachTarget (widths width t) P = P Same t
EachTarget (heads n body other) P = P Again body × P Over other
EachTarget (jumps t) P = P Same t
EachTarget (stops last) P = Unit {0}

-- a head stands in its own loop, and can have all its turns left
abbrev pub HeadFits : Action → (most : List ℕ) → Type 0
HeadFits (heads n body other) (m ∷ most) = m ≡ n
HeadFits (heads n body other) [] = ⊥
HeadFits action most = Unit {0}

-- a target is reached with turns left that its point can have
abbrev pub Lands : List Point → (most : List ℕ) → Pass → Target → Type 0
Lands g most pass t =
    (p : Point) → slice_get g t.to ≡ Some p → (ts us : List ℕ) → InBox ts most → Turned pass ts us
    → InBox (turns_at t us) p.most

pub record Nested (g : Graph) : Type 0 where
  -- a run begins at point 0, in no loop but its own
  pub first_point : g.first.to ≡ 0
  pub first_leave : g.first.leave ≡ 0
  pub first_turns : (p : Point) → slice_get g.points 0 ≡ Some p → InBox (turns_at g.first []) p.most
  pub heads_fit : (i : ℕ) (p : Point) → slice_get g.points i ≡ Some p → HeadFits p.action p.most
  pub lands : (i : ℕ) (p : Point) → slice_get g.points i ≡ Some p → EachTarget p.action (Lands g.points p.most)
