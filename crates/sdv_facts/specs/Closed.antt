-- When a certificate is CLOSED for a graph: what it says of each point holds at the start, and goes along each edge.
--
-- Each clause has a name, and is asked of each shape of a point: a point without shapes is one that no run reaches.
use Rattle.std.specs.Prelude.{◌≡◌, ◌<◌, ℕ, List, [], ◌∷◌, IsTrue, IfSome, length, slice_get, MatchOption, Option, Some, None}
use Rattle.sdv_registers.specs.declared.kind.Kind.{Kind}
use Rattle.sdv_card.specs.declared.event.Event.TheVariants.{Send}
use Rattle.sdv_card.specs.declared.shape.Shape.{Shape}
use Rattle.sdv_card.specs.CommandTable.{addressed_blocks}
use Rattle.sdv_card.specs.Code.{digits}
use Rattle.sdv_card.specs.declared.state.State.TheVariants.{Tran}
use Rattle.sdv_card.specs.LegalShapes.{legal_code}
use Rattle.sdv_card.specs.Lists.{May}
use Rattle.sdv_card.specs.Shapes.{start_codes}
use Rattle.sdv_graph.specs.declared.tree.Address.{Address}
use Rattle.sdv_graph.specs.Graph.{Graph}
use Rattle.sdv_graph.specs.Path.{Action, Point, sends, phases, stops}
use Rattle.sdv_graph.specs.Walk.{Finished}
use Rattle.sdv_facts.specs.declared.clause.Clause.{Clause}
use Rattle.sdv_facts.specs.declared.clause.Clause.TheVariants.{Illegal, Address as AddressOff, Shape as ShapeMissing, Number, Bound, EndState}
use Rattle.sdv_facts.specs.Facts.{Facts, PointFacts}
use Rattle.sdv_facts.specs.AddressFits.{address_fits}
use Rattle.sdv_facts.specs.Covers.{Covers}
use Rattle.sdv_facts.specs.Start.{start_numbers}
use Rattle.sdv_facts.specs.Edges.{Rule, EachEdge, event_of_phase}
use Rattle.sdv_facts.specs.Bounds.{BoundFalls, commands_of}

-- THE CLAUSES OF A POINT, at a shape

-- Illegal: the event is not legal there
abbrev pub LegalAt : Kind → Action → Shape → Type 0
LegalAt k (sends c ways other) s = IsTrue (legal_code k s.0 (Send c.ask))
LegalAt k (phases p well other) s = IsTrue (legal_code k s.0 (event_of_phase p))
LegalAt k action s = Unit {0}

-- Address: a command's blocks are not known to lie on the card, or are addressed in another unit than the card's
abbrev pub AddressKnown : Facts → Option Address → ℕ → Type 0
AddressKnown known None blocks = ⊥
AddressKnown known (Some a) blocks = IsTrue (address_fits known a blocks)

abbrev pub AddressAt : Facts → Action → Type 0
AddressAt known (sends c ways other) = IfSome (addressed_blocks c.ask) (λ blocks. AddressKnown known c.address blocks)
AddressAt known action = Unit {0}

-- Shape: the target of an edge has not the shape after it
abbrev pub ShapeRule : List PointFacts → Rule
ShapeRule ps pass t s ns = MatchOption (slice_get ps t.to) ⊥ (λ q. May q.facts.shapes s)

-- Number: the numbers of the target say more than the edge carries
abbrev pub NumberRule : List PointFacts → Rule
NumberRule ps pass t s ns = IfSome (slice_get ps t.to) (λ q. Covers q.facts.numbers ns)

-- Bound: the bound does not fall along an edge as it should
abbrev pub BoundRule : List PointFacts → Point → PointFacts → Rule
BoundRule ps place p pass t s ns = IfSome (slice_get ps t.to)
    (λ q. BoundFalls p q place.most (commands_of place.action) pass t)

-- EndState: the card is not in the transfer state at a `done`
abbrev pub EndsAt : Action → Shape → Type 0
EndsAt (stops Finished) s = (digits s.0).state ≡ Tran
EndsAt action s = Unit {0}

abbrev pub HoldsAt : Clause → Kind → List PointFacts → Point → PointFacts → Shape → Type 0
HoldsAt Illegal k ps place p s = LegalAt k place.action s
HoldsAt AddressOff k ps place p s = AddressAt p.facts place.action
HoldsAt ShapeMissing k ps place p s = EachEdge k p.facts place.action s (ShapeRule ps)
HoldsAt Number k ps place p s = EachEdge k p.facts place.action s (NumberRule ps)
HoldsAt Bound k ps place p s = EachEdge k p.facts place.action s (BoundRule ps place p)
HoldsAt EndState k ps place p s = EndsAt place.action s

-- what is known of a card of this shape
abbrev pub known_of_shape : Facts → Shape → Facts
known_of_shape known s = record known { shapes = s ∷ [] }

-- all clauses of a point hold of cards of one shape
pub record ClosedAt (k : Kind) (ps : List PointFacts) (place : Point) (p : PointFacts) (s : Shape) : Type 0 where
  pub legal : LegalAt k place.action s
  pub address : AddressAt (known_of_shape p.facts s) place.action
  pub shape : EachEdge k p.facts place.action s (ShapeRule ps)
  pub number : EachEdge k p.facts place.action s (NumberRule ps)
  pub bound : EachEdge k p.facts place.action s (BoundRule ps place p)
  pub end_state : EndsAt place.action s

-- a clause of a point holds: at each of its shapes
abbrev pub ClauseHolds : Clause → Kind → List PointFacts → Point → PointFacts → Type 0
ClauseHolds clause k ps place p = (s : Shape) → May p.facts.shapes s → HoldsAt clause k ps place p s

-- all clauses of a point hold
pub record PointClosed (k : Kind) (ps : List PointFacts) (place : Point) (p : PointFacts) : Type 0 where
  pub legal : ClauseHolds Illegal k ps place p
  pub address : ClauseHolds AddressOff k ps place p
  pub shape : ClauseHolds ShapeMissing k ps place p
  pub number : ClauseHolds Number k ps place p
  pub bound : ClauseHolds Bound k ps place p
  pub end_state : ClauseHolds EndState k ps place p

-- A CERTIFICATE

-- one coefficient for each loop round the point, and facts of each number variable
pub record PointMatches (g : Graph) (place : Point) (p : PointFacts) : Type 0 where
  pub loops : length p.turns.items ≡ length place.most
  pub variables : length p.facts.numbers.vars.items ≡ g.numbers

-- Points: the certificate is not of the graph's points
pub record PointsMatch (g : Graph) (ps : List PointFacts) : Type 0 where
  pub count : length ps ≡ length g.points
  pub each : (i : ℕ) (place : Point) (p : PointFacts) → slice_get g.points i ≡ Some place → slice_get ps i ≡ Some p
      → PointMatches g place p

-- point 0 has the shapes of a card before the first command, and says no more of numbers than is known then
pub record StartsAt (g : Graph) (p : PointFacts) : Type 0 where
  pub shapes : (code : ℕ) → May start_codes code → May p.facts.shapes (record { 0 = code })
  pub numbers : Covers p.facts.numbers (start_numbers g.numbers)

-- Start: point 0 says more than holds there
abbrev pub StartCovers : Graph → List PointFacts → Type 0
StartCovers g ps = MatchOption (slice_get ps 0) ⊥ (λ p. StartsAt g p)

pub record Closed (g : Graph) (ps : List PointFacts) : Type 0 where
  pub points : PointsMatch g ps
  pub start : StartCovers g ps
  pub each : (i : ℕ) (place : Point) (p : PointFacts) → slice_get g.points i ≡ Some place → slice_get ps i ≡ Some p
      → PointClosed g.kind ps place p

-- WHICH CLAUSE FAILS FIRST

abbrev pub FirstFails : Clause → Kind → List PointFacts → Point → PointFacts → Type 0
FirstFails Illegal k ps place p = ClauseHolds Illegal k ps place p → ⊥
FirstFails AddressOff k ps place p = ClauseHolds Illegal k ps place p × (ClauseHolds AddressOff k ps place p → ⊥)
FirstFails ShapeMissing k ps place p =
    ClauseHolds Illegal k ps place p × ClauseHolds AddressOff k ps place p × (ClauseHolds ShapeMissing k ps place p → ⊥)
FirstFails Number k ps place p =
    ClauseHolds Illegal k ps place p × ClauseHolds AddressOff k ps place p × ClauseHolds ShapeMissing k ps place p
    × (ClauseHolds Number k ps place p → ⊥)
FirstFails Bound k ps place p =
    ClauseHolds Illegal k ps place p × ClauseHolds AddressOff k ps place p × ClauseHolds ShapeMissing k ps place p
    × ClauseHolds Number k ps place p × (ClauseHolds Bound k ps place p → ⊥)
FirstFails EndState k ps place p =
    ClauseHolds Illegal k ps place p × ClauseHolds AddressOff k ps place p × ClauseHolds ShapeMissing k ps place p
    × ClauseHolds Number k ps place p × ClauseHolds Bound k ps place p × (ClauseHolds EndState k ps place p → ⊥)

-- the lowest point that fails, with the first of its clauses that does
pub record FailsAt (g : Graph) (ps : List PointFacts) (clause : Clause) (i : ℕ) : Type 0 where
  pub before : (j : ℕ) (place : Point) (p : PointFacts) → j < i → slice_get g.points j ≡ Some place
      → slice_get ps j ≡ Some p → PointClosed g.kind ps place p
  pub place : Point
  pub here : slice_get g.points i ≡ Some place
  pub facts : PointFacts
  pub known : slice_get ps i ≡ Some facts
  pub fails : FirstFails clause g.kind ps place facts
