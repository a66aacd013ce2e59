-- When what a certificate says is CLOSED for a driver: of each entry it holds where the entry is called, and goes along
-- each edge, and at each `done` it says no less than what is said of the time between calls.
use Rattle.std.specs.Prelude.{◌≡◌, ◌≤◌, ◌+◌, ◌⊎◌, ℕ, List, [], ◌∷◌, true, length, take, drop, slice_get, MatchOption, IfSome, Some}
use Rattle.sdv_registers.specs.declared.kind.Kind.{Kind}
use Rattle.sdv_card.specs.declared.shape.Shape.{Shape}
use Rattle.sdv_card.specs.declared.state.State.TheVariants.{Tran}
use Rattle.sdv_card.specs.Code.{digits}
use Rattle.sdv_card.specs.Lists.{May}
use Rattle.sdv_graph.specs.Graph.{Graph}
use Rattle.sdv_graph.specs.Limits.{all_keep_limits}
use Rattle.sdv_graph.specs.Path.{Action, Point, stops}
use Rattle.sdv_graph.specs.Walk.{Finished}
use Rattle.sdv_facts.specs.declared.clause.Clause.{Clause}
use Rattle.sdv_facts.specs.declared.clause.Clause.TheVariants.{Illegal, Address, Shape as ShapeMissing, Number, Bound, EndState}
use Rattle.sdv_facts.specs.Closed.{ClauseHolds, PointsMatch, StartCovers}
use Rattle.sdv_facts.specs.declared.numbers.Numbers.{Numbers}
use Rattle.sdv_facts.specs.Covers.{Covers}
use Rattle.sdv_facts.specs.Facts.{Facts, PointFacts}
use Rattle.sdv_check.specs.Asked.{EachBelow}
use Rattle.sdv_driver.specs.Tree.{Entry}
use Rattle.sdv_calls.specs.Between.{with_input, numbers_called, first_numbers}

-- THE PARTS of a certificate: what it says of the points of each entry, one entry behind the other, and then one point
-- more, which stands for the time between calls

abbrev pub points_here : Graph → List PointFacts → List PointFacts
points_here g ps = take (length g.points) ps

abbrev pub points_behind : Graph → List PointFacts → List PointFacts
points_behind g ps = drop (length g.points) ps

-- what is known between calls, of so many number variables
abbrev pub IsRest : (numbers : ℕ) → List PointFacts → Type 0
IsRest n [] = ⊥
IsRest n (rest ∷ []) = length rest.facts.numbers.vars.items ≡ n
IsRest n ps = ⊥

-- Points: the certificate is of the points of the graphs
abbrev pub PartsMatch : (numbers : ℕ) → List Graph → List PointFacts → Type 0
PartsMatch n [] ps = IsRest n ps
PartsMatch n (g ∷ gs) ps = PointsMatch g (points_here g ps) × PartsMatch n gs (points_behind g ps)

-- nothing, where there is no such point
abbrev pub none_known : Facts
none_known = record { shapes = []; numbers = record { m = 0; mb = 0; vars = record { items = [] } } }

abbrev pub last_facts : List PointFacts → Facts
last_facts (rest ∷ []) = rest.facts
last_facts ps = none_known

abbrev pub rest_of : List Graph → List PointFacts → Facts
rest_of [] ps = last_facts ps
rest_of (g ∷ gs) ps = rest_of gs (points_behind g ps)

-- WHERE AN ENTRY IS CALLED

-- a shape and numbers that are known where it is called are known at a point
abbrev pub IsKnownAt : PointFacts → Numbers → Shape → Type 0
IsKnownAt p ns s = May p.facts.shapes s × Covers p.facts.numbers ns

-- what is known between calls, with an input that is allowed, is known at the first point
abbrev pub IsCalledAt : Entry → (rest : Facts) → PointFacts → Type 0
IsCalledAt e rest p = IfSome (numbers_called e rest.numbers) (λ ns. (s : Shape) → May rest.shapes s → IsKnownAt p ns s)

abbrev pub CallCovers : Entry → (rest : Facts) → List PointFacts → Type 0
CallCovers e rest ps = MatchOption (slice_get ps 0) ⊥ (IsCalledAt e rest)

-- Start: the first entry is called before the first command of a card, and each other one between calls
abbrev pub LaterCovers : List Entry → List Graph → (rest : Facts) → List PointFacts → Type 0
LaterCovers (e ∷ es) (g ∷ gs) rest ps =
    CallCovers e rest (points_here g ps) × LaterCovers es gs rest (points_behind g ps)
LaterCovers es gs rest ps = Unit {0}

abbrev pub CallsCover : List Entry → List Graph → (rest : Facts) → List PointFacts → Type 0
CallsCover (e ∷ es) (g ∷ gs) rest ps =
    StartCovers g (points_here g ps) × LaterCovers es gs rest (points_behind g ps)
CallsCover es gs rest ps = Unit {0}

-- each graph has its points, and its number variables are those that are known between calls and its input
abbrev pub CallsFit : List Entry → List Graph → (rest : Numbers) → List PointFacts → Type 0
CallsFit (e ∷ es) (g ∷ gs) rest ps =
    PointsMatch g (points_here g ps) × (g.numbers ≡ length (with_input e.input rest).vars.items) × (g.numbers ≤ 8)
    × CallsFit es gs rest (points_behind g ps)
CallsFit es gs rest ps = Unit {0}

-- AT A `done`

-- the shape is known between calls
abbrev pub ShapeRests : Action → (rest : Facts) → Shape → Type 0
ShapeRests (stops Finished) rest s = (digits s.0).state ≡ Tran → May rest.shapes s
ShapeRests action rest s = Unit {0}

-- no more is known of numbers between calls than is carried there
abbrev pub NumbersRest : Action → (rest : Facts) → (carried : Numbers) → Shape → Type 0
NumbersRest (stops Finished) rest carried s = (digits s.0).state ≡ Tran → Covers rest.numbers carried
NumbersRest action rest carried s = Unit {0}

abbrev pub ShapesRest : Action → (rest : Facts) → List Shape → Type 0
ShapesRest action rest shapes = (s : Shape) → May shapes s → ShapeRests action rest s

abbrev pub EachRests : Action → (rest : Facts) → (carried : Numbers) → List Shape → Type 0
EachRests action rest carried shapes = (s : Shape) → May shapes s → NumbersRest action rest carried s

-- as many numbers are carried as are known between calls: the input is forgotten
abbrev pub carried_to : (rest : Facts) → Numbers → Numbers
carried_to rest ns = first_numbers (length rest.numbers.vars.items) ns

-- THE CLAUSES OF A POINT: those of scripts, and what is asked at a `done`
abbrev pub HoldsHere : (rest : Facts) → Kind → List PointFacts → Point → PointFacts → Clause → Type 0
HoldsHere rest k ps place p ShapeMissing =
    ClauseHolds ShapeMissing k ps place p × ShapesRest place.action rest p.facts.shapes
HoldsHere rest k ps place p Number =
    ClauseHolds Number k ps place p × EachRests place.action rest (carried_to rest p.facts.numbers) p.facts.shapes
HoldsHere rest k ps place p clause = ClauseHolds clause k ps place p

-- each clause holds
abbrev pub EachHolds : (Clause → Type 0) → Type 0
EachHolds holds =
    holds Illegal × holds Address × holds ShapeMissing × holds Number × holds Bound × holds EndState

-- this is the first one that fails
abbrev pub FirstFailing : (Clause → Type 0) → Clause → Type 0
FirstFailing holds Illegal = holds Illegal → ⊥
FirstFailing holds Address = holds Illegal × (holds Address → ⊥)
FirstFailing holds ShapeMissing = holds Illegal × holds Address × (holds ShapeMissing → ⊥)
FirstFailing holds Number = holds Illegal × holds Address × holds ShapeMissing × (holds Number → ⊥)
FirstFailing holds Bound =
    holds Illegal × holds Address × holds ShapeMissing × holds Number × (holds Bound → ⊥)
FirstFailing holds EndState =
    holds Illegal × holds Address × holds ShapeMissing × holds Number × holds Bound × (holds EndState → ⊥)

-- A GRAPH, with what is said of its points

-- each point of the graph before this one
abbrev pub ClosedBelow : (rest : Facts) → Graph → List PointFacts → ℕ → Type 0
ClosedBelow rest g ps n = EachBelow g.points ps n (λ place p. EachHolds (HoldsHere rest g.kind ps place p))

abbrev pub GraphClosed : (rest : Facts) → Graph → List PointFacts → Type 0
GraphClosed rest g ps = ClosedBelow rest g ps (length g.points)

-- a point fails by a clause, and no point before it
pub record GraphFails (rest : Facts) (g : Graph) (ps : List PointFacts) (clause : Clause) (i : ℕ) : Type 0 where
  pub place : Point
  pub here : slice_get g.points i ≡ Some place
  pub facts : PointFacts
  pub known : slice_get ps i ≡ Some facts
  pub fails : FirstFailing (HoldsHere rest g.kind ps place facts) clause
  pub below : ClosedBelow rest g ps i

-- a graph of an entry of a driver for such cards, of which so many number variables are not the input
pub record IsOfDriver (k : Kind) (numbers : ℕ) (g : Graph) : Type 0 where
  pub kind : k ≡ g.kind
  pub few : numbers ≤ g.numbers
  pub limits : all_keep_limits g.points ≡ true

abbrev pub AreOfDriver : Kind → (numbers : ℕ) → List Graph → Type 0
AreOfDriver k n [] = Unit {0}
AreOfDriver k n (g ∷ gs) = IsOfDriver k n g × AreOfDriver k n gs

-- A DRIVER, the points of which are counted through all entries
abbrev pub PartsClosed : (rest : Facts) → List Graph → List PointFacts → Type 0
PartsClosed rest [] ps = Unit {0}
PartsClosed rest (g ∷ gs) ps = GraphClosed rest g (points_here g ps) × PartsClosed rest gs (points_behind g ps)

abbrev pub PartsFail : (rest : Facts) → List Graph → List PointFacts → (from : ℕ) → Clause → ℕ → Type 0
PartsFail rest [] ps from clause i = ⊥
PartsFail rest (g ∷ gs) ps from clause i =
    ((at : ℕ) × (i ≡ from + at) × GraphFails rest g (points_here g ps) clause at)
    ⊎ (GraphClosed rest g (points_here g ps) × PartsFail rest gs (points_behind g ps) (from + length g.points) clause i)

pub record DriverClosed (numbers : ℕ) (es : List Entry) (gs : List Graph) (ps : List PointFacts) : Type 0 where
  pub points : PartsMatch numbers gs ps
  pub start : CallsCover es gs (rest_of gs ps) ps
  pub each : PartsClosed (rest_of gs ps) gs ps
