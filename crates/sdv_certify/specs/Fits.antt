-- What a script's rules say of its points, as far as facts are carried there: numbers of scripts are at most 2^40, a
-- script has at most 4 flags and 8 number variables, and it has a statement.
use Rattle.std.specs.Prelude.{◌≡◌, ◌≤◌, ◌<◌, ℕ, slice_get, Some}
use Rattle.sdv_graph.specs.Graph.{Graph}
use Rattle.sdv_graph.specs.Path.{Action, Point, lets, flags}
use Rattle.sdv_facts.specs.Limits.{AtomInLimits}

abbrev pub ActionFits : Action → Type 0
ActionFits (lets l t) = AtomInLimits l.atom
ActionFits (flags flag on t) = flag < 4
ActionFits action = Unit {0}

pub record GraphFits (g : Graph) : Type 0 where
  pub few : g.numbers ≤ 8
  pub actions : (i : ℕ) (place : Point) → slice_get g.points i ≡ Some place → ActionFits place.action
