-- What the checker asks at once: rules of an edge, and what a point is asked at one of its shapes.
use Rattle.std.specs.Prelude.{◌≡◌, ◌<◌, ℕ, List, slice_get, Option, Some, None}
use Rattle.sdv_registers.specs.declared.kind.Kind.{Kind}
use Rattle.sdv_card.specs.declared.shape.Shape.{Shape}
use Rattle.sdv_card.specs.Lists.{May}
use Rattle.sdv_graph.specs.Graph.{seen_point}
use Rattle.sdv_script.specs.Nested as nested
use Rattle.sdv_graph.specs.Path.{Action, Point, lets, flags}
use Rattle.sdv_facts.specs.declared.numbers.Numbers.{Numbers}
use Rattle.sdv_facts.specs.declared.certificate.PointFacts.{PointFacts as SharedPoint}
use Rattle.sdv_facts.specs.AfterLet.{after_let}
use Rattle.sdv_facts.specs.Bounds.{BoundFalls, commands_of}
use Rattle.sdv_facts.specs.Closed.{LegalAt, EndsAt, ShapeRule, NumberRule, BoundRule}
use Rattle.sdv_facts.specs.Covers.{Covers}
use Rattle.sdv_facts.specs.Edges.{Rule, EachEdge}
use Rattle.sdv_facts.specs.Facts.{Facts, PointFacts}
use Rattle.sdv_facts.specs.Shared.{point_in, points_in}
use Rattle.sdv_check.specs.declared.source.Pass.{Pass}
use Rattle.sdv_check.specs.declared.source.Pass.TheVariants.{Same, Again, Over}
use Rattle.sdv_check.specs.declared.source.Rules.{Rules}
use Rattle.sdv_check.specs.declared.source.Rules.TheVariants as rules
use Rattle.sdv_check.specs.declared.source.Asked.{Asked}
use Rattle.sdv_check.specs.declared.source.Asked.TheVariants as asks
use Rattle.sdv_check.specs.declared.source.Source.{Source}

abbrev pub pass_of : Pass → nested.Pass
pass_of Same = nested.Same
pass_of Again = nested.Again
pass_of Over = nested.Over

-- the rules at a target of which the certificate says q
abbrev pub RuleAt : Rules → Point → (p q : PointFacts) → Rule
RuleAt rules.Shape place p q pass t s ns = May q.facts.shapes s
RuleAt rules.Number place p q pass t s ns = Covers q.facts.numbers ns
RuleAt rules.Bound place p q pass t s ns = BoundFalls p q place.most (commands_of place.action) pass t
RuleAt rules.All place p q pass t s ns =
    May q.facts.shapes s × Covers q.facts.numbers ns × BoundFalls p q place.most (commands_of place.action) pass t

abbrev pub RuleOf : Rules → List PointFacts → Point → PointFacts → Rule
RuleOf rules.Shape ps place p = ShapeRule ps
RuleOf rules.Number ps place p = NumberRule ps
RuleOf rules.Bound ps place p = BoundRule ps place p
RuleOf rules.All ps place p = λ pass t s ns. ShapeRule ps pass t s ns × NumberRule ps pass t s ns
    × BoundRule ps place p pass t s ns

abbrev pub AskedAt : Asked → Kind → List PointFacts → Point → PointFacts → Shape → Type 0
AskedAt asks.Legal k ps place p s = LegalAt k place.action s
AskedAt (asks.Edges r) k ps place p s = EachEdge k p.facts place.action s (RuleOf r ps place p)
AskedAt asks.EndState k ps place p s = EndsAt place.action s
AskedAt asks.All k ps place p s =
    LegalAt k place.action s × EachEdge k p.facts place.action s (RuleOf rules.All ps place p)
    × EndsAt place.action s

-- the same of a source
abbrev pub place_at : Source → Point
place_at at = seen_point at.point.now

-- what the certificate says of a point, with the shapes of its set
abbrev pub there_in : Source → SharedPoint → PointFacts
there_in at q = point_in at.table.now q

abbrev pub here : Source → PointFacts
here at = there_in at at.facts.now

abbrev pub all_points : Source → List PointFacts
all_points at = points_in at.table.now at.certificate.now

abbrev pub RuleFrom : Rules → Source → Rule
RuleFrom r at = RuleOf r (all_points at) (place_at at) (here at)

abbrev pub AskedFrom : Asked → Kind → Source → Shape → Type 0
AskedFrom asked k at s = AskedAt asked k (all_points at) (place_at at) (here at) s

-- the numbers after a `let`, of a point that is one
abbrev pub numbers_set : Kind → Facts → Action → Option Numbers
numbers_set k known (lets l t) = after_let k known l
numbers_set k known action = None

-- a flag that is set or cleared is one of those that a shape shows
abbrev pub FlagFits : Action → Type 0
FlagFits (flags flag on t) = flag < 4
FlagFits action = Unit {0}

-- what holds of each point before one, with its facts
abbrev pub EachBelow : List Point → List PointFacts → ℕ → (Point → PointFacts → Type 0) → Type 0
EachBelow g ps n P = (i : ℕ) (place : Point) (p : PointFacts) → i < n → slice_get g i ≡ Some place
    → slice_get ps i ≡ Some p → P place p
