-- The bound forms PAY FOR EACH EDGE: along it the bound falls by the commands sent, for all turns left.
use Rattle.std.specs.Prelude.{◌≡◌, ℕ, ◌+◌, ◌≤◌, List, length, reverse, slice_get, Some}
use Rattle.sdv_graph.specs.declared.graph.Target.{Target}
use Rattle.sdv_graph.specs.Tree.{Statements}
use Rattle.sdv_graph.specs.Nested.{Pass, Turned, EachTarget}
use Rattle.sdv_graph.specs.Path.{Point, turns_at}
use Rattle.sdv_graph.specs.Points.{points_of}
use Rattle.sdv_facts.specs.Facts.{PointFacts}
use Rattle.sdv_facts.specs.Bounds.{turns_cost, commands_of, BoundFalls}
use Rattle.sdv_certify.specs.declared.form.Form.{Form}
use Rattle.sdv_certify.specs.Forms.{forms_of, with_loops}

-- the bound with these turns left, the innermost loop first
abbrev pub worth : Form → List ℕ → ℕ
worth f ts = f.base + turns_cost f.each ts

-- to a point with one of these forms; past the last one nothing is asked
abbrev pub Falls : List Form → (source : Form) → (sent : ℕ) → Pass → Target → Type 0
Falls forms f sent pass t =
    (g : Form) → slice_get forms t.to ≡ Some g → (ts us : List ℕ) → Turned pass ts us
    → worth g (turns_at t us) + sent ≤ worth f ts

-- each point's form pays for each of its targets
abbrev pub FormsPay : Statements → Type 0
FormsPay script =
    (i : ℕ) (p : Point) (f : Form) → slice_get (points_of script) i ≡ Some p → slice_get (forms_of script) i ≡ Some f
    → EachTarget p.action (Falls (forms_of script) f (commands_of p.action))

-- IN A CERTIFICATE

-- a point of a certificate has this form, the outermost loop first
pub record HasForm (f : Form) (place : Point) (p : PointFacts) : Type 0 where
  pub base : p.base ≡ f.base
  pub turns : reverse p.turns.items ≡ (with_loops (length place.most) f).each

-- each point of a certificate has its form
pub record HasForms (script : Statements) (ps : List PointFacts) : Type 0 where
  pub count : length ps ≡ length (points_of script)
  pub each : (i : ℕ) (place : Point) (p : PointFacts) → slice_get (points_of script) i ≡ Some place
      → slice_get ps i ≡ Some p
      → (f : Form) × (slice_get (forms_of script) i ≡ Some f) × HasForm f place p

-- the bounds of a certificate fall along each edge
abbrev pub BoundsFall : Statements → List PointFacts → Type 0
BoundsFall script ps =
    (i : ℕ) (place : Point) (p : PointFacts) → slice_get (points_of script) i ≡ Some place → slice_get ps i ≡ Some p
    → EachTarget place.action (λ pass t. ((q : PointFacts) → slice_get ps t.to ≡ Some q
    → BoundFalls p q place.most (commands_of place.action) pass t))
