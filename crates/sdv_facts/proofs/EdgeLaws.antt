-- What is asked of the edges of a point, put together.
use Rattle.std.proofs.Common.{◌≡◌, refl, Bool, true, false, List, [], ◌∷◌, Option, Some, None}
use Rattle.std.specs.Prelude.{slice_get, MatchOption, IfSome, if◌then◌else◌}
use Rattle.sdv_registers.specs.declared.kind.Kind.{Kind}
use Rattle.sdv_card.specs.declared.event.Event.{Event}
use Rattle.sdv_card.specs.declared.event.Event.TheVariants.{Send}
use Rattle.sdv_card.specs.declared.event.Seen.{Seen}
use Rattle.sdv_card.specs.declared.shape.Shape.{Shape}
use Rattle.sdv_card.specs.Lists.{May}
use Rattle.sdv_graph.specs.declared.graph.Target.{Target}
use Rattle.sdv_graph.specs.declared.tree.Condition.{Condition}
use Rattle.sdv_graph.specs.declared.tree.Condition.TheVariants as conditions
use Rattle.sdv_graph.specs.Nested.{Pass, Same, EachCase, EachTarget, Lands}
use Rattle.sdv_graph.specs.Path.{Case, Action, sends, phases, lets, tests, flags, widths, heads, jumps, stops, Point}
use Rattle.sdv_facts.specs.declared.numbers.Numbers.{Numbers}
use Rattle.sdv_facts.specs.declared.test.Test.{Test}
use Rattle.sdv_facts.specs.declared.test.Test.TheVariants.{AtLeast, Below}
use Rattle.sdv_facts.specs.Facts.{Facts, PointFacts}
use Rattle.sdv_card.specs.ShapeBits.{has_flag}
use Rattle.sdv_facts.specs.AfterLet.{after_let}
use Rattle.sdv_facts.specs.AfterTest.{after_test}
use Rattle.sdv_facts.specs.Bounds.{BoundFalls, commands_of}
use Rattle.sdv_facts.specs.Closed.{ShapeRule, NumberRule, BoundRule, ClosedAt}
use Rattle.sdv_facts.specs.Covers.{Covers}
use Rattle.sdv_facts.specs.Edges.{EachWay, well_or, event_of_phase, Rule, EachOutcome, EachTest, EachCondition, EachEdge}

-- BOTH OF TWO RULES

on_both : {A : Type 0} (o : Option A) (P Q : A → Type 0) → IfSome o P → IfSome o Q → IfSome o (λ x. P x × Q x)
on_both None P Q p q = tt
on_both (Some x) P Q p q = (p, q)

ways_both : (ws : List Case) (other : Target) (seen : Seen) (P Q : Target → Type 0) → EachWay ws other seen P → EachWay ws other seen Q
    → EachWay ws other seen (λ t. P t × Q t)
ways_both [] other seen P Q p q = (p, q)
ways_both (w ∷ ws) other seen P Q p q = (λ e. (p.0 e, q.0 e), λ e. ways_both ws other seen P Q (p.1 e) (q.1 e))

outcomes_both : (k : Kind) (event : Event) (ways : List Case) (other : Target) (ns : Numbers) (s : Shape) (P Q : Rule) → EachOutcome k event ways other ns s P
    → EachOutcome k event ways other ns s Q →
    EachOutcome k event ways other ns s (λ p t s n. P p t s n × Q p t s n)
outcomes_both k event ways other ns s P Q p q = λ l o m. ways_both ways other o.seen (λ t. P Same t o.shape ns) (λ t. Q Same t o.shape ns) (p l o m) (q l o m)

test_both : (ns : Numbers) (holds fails : Test) (met unmet : Target) (s : Shape) (P Q : Rule) → EachTest ns holds fails met unmet s P
    → EachTest ns holds fails met unmet s Q →
    EachTest ns holds fails met unmet s (λ p t s n. P p t s n × Q p t s n)
test_both ns holds fails met unmet s P Q p q = (
  on_both (after_test ns holds) (λ n. P Same met s n) (λ n. Q Same met s n) p.0 q.0,
  on_both (after_test ns fails) (λ n. P Same unmet s n) (λ n. Q Same unmet s n) p.1 q.1,
)

condition_both : (c : Condition) (met unmet : Target) (ns : Numbers) (s : Shape) (P Q : Rule) → EachCondition c met unmet ns s P
    → EachCondition c met unmet ns s Q →
    EachCondition c met unmet ns s (λ p t s n. P p t s n × Q p t s n)
condition_both (conditions.Flag flag) met unmet ns s P Q p q = (p, q)
condition_both (conditions.AtLeast x n) met unmet ns s P Q p q = test_both ns (AtLeast x n) (Below x n) met unmet s P Q p q
condition_both (conditions.Below x n) met unmet ns s P Q p q = test_both ns (Below x n) (AtLeast x n) met unmet s P Q p q

pub edges_both : (k : Kind) (known : Facts) (action : Action) (s : Shape) (P Q : Rule) → EachEdge k known action s P → EachEdge k known action s Q
    → EachEdge k known action s (λ p t s n. P p t s n × Q p t s n)
edges_both k known (sends c ways other) s P Q p q = outcomes_both k (Send c.ask) ways other known.numbers s P Q p q
edges_both k known (phases ph well other) s P Q p q = outcomes_both k (event_of_phase ph) (well_or well) other known.numbers s P Q p q
edges_both k known (lets l t) s P Q p q = on_both (after_let k known l) (λ n. P Same t s n) (λ n. Q Same t s n) p q
edges_both k known (tests c met unmet) s P Q p q = condition_both c met unmet known.numbers s P Q p q
edges_both k known (flags flag on t) s P Q p q = (p, q)
edges_both k known (widths width t) s P Q p q = (p, q)
edges_both k known (heads n body other) s P Q p q = ((p.0, q.0), (p.1, q.1))
edges_both k known (jumps t) s P Q p q = (p, q)
edges_both k known (stops last) s P Q p q = tt

-- A WEAKER RULE

on_map : {A : Type 0} (o : Option A) (P Q : A → Type 0) → ((x : A) → P x → Q x) → IfSome o P → IfSome o Q
on_map None P Q f p = tt
on_map (Some x) P Q f p = f x p

ways_map : (ws : List Case) (other : Target) (seen : Seen) (P Q : Target → Type 0) → ((t : Target) → P t → Q t) → EachWay ws other seen P
    → EachWay ws other seen Q
ways_map [] other seen P Q f p = f other p
ways_map (w ∷ ws) other seen P Q f p = (λ e. f w.target (p.0 e), λ e. ways_map ws other seen P Q f (p.1 e))

module _ (P Q : Rule) (f : (p : Pass) (t : Target) (s : Shape) (n : Numbers) → P p t s n → Q p t s n) where
  outcomes_map : (k : Kind) (event : Event) (ways : List Case) (other : Target) (ns : Numbers) (s : Shape) → EachOutcome k event ways other ns s P
      → EachOutcome k event ways other ns s Q
  outcomes_map k event ways other ns s p = λ l o m. ways_map ways other o.seen (λ t. P Same t o.shape ns) (λ t. Q Same t o.shape ns) (λ t. f Same t o.shape ns)
      (p l o m)

  test_map : (ns : Numbers) (holds fails : Test) (met unmet : Target) (s : Shape) → EachTest ns holds fails met unmet s P
      → EachTest ns holds fails met unmet s Q
  test_map ns holds fails met unmet s p = (
    on_map (after_test ns holds) (λ n. P Same met s n) (λ n. Q Same met s n) (λ n. f Same met s n) p.0,
    on_map (after_test ns fails) (λ n. P Same unmet s n) (λ n. Q Same unmet s n) (λ n. f Same unmet s n) p.1,
  )

  condition_map : (c : Condition) (met unmet : Target) (ns : Numbers) (s : Shape) → EachCondition c met unmet ns s P → EachCondition c met unmet ns s Q
  condition_map (conditions.Flag flag) met unmet ns s p = f _ _ _ _ p
  condition_map (conditions.AtLeast x n) met unmet ns s p = test_map ns (AtLeast x n) (Below x n) met unmet s p
  condition_map (conditions.Below x n) met unmet ns s p = test_map ns (Below x n) (AtLeast x n) met unmet s p

  pub edges_map : (k : Kind) (known : Facts) (action : Action) (s : Shape) → EachEdge k known action s P → EachEdge k known action s Q
  edges_map k known (sends c ways other) s p = outcomes_map k (Send c.ask) ways other known.numbers s p
  edges_map k known (phases ph well other) s p = outcomes_map k (event_of_phase ph) (well_or well) other known.numbers s p
  edges_map k known (lets l t) s p = on_map (after_let k known l) (λ n. P Same t s n) (λ n. Q Same t s n) (λ n. f Same t s n) p
  edges_map k known (tests c met unmet) s p = condition_map c met unmet known.numbers s p
  edges_map k known (flags flag on t) s p = f _ _ _ _ p
  edges_map k known (widths width t) s p = f _ _ _ _ p
  edges_map k known (heads n body other) s p = (f _ _ _ _ p.0, f _ _ _ _ p.1)
  edges_map k known (jumps t) s p = f _ _ _ _ p
  edges_map k known (stops last) s p = tt

-- A RULE OF TARGETS ALONE

on_all : {A : Type 0} (o : Option A) (P : A → Type 0) → ((x : A) → P x) → IfSome o P
on_all None P f = tt
on_all (Some x) P f = f x

chosen : (b : Bool) (t u : Target) (P : Target → Type 0) → P t → P u → P (if b then t else u)
chosen true t u P p q = p
chosen false t u P p q = q

module _ (L : Pass → Target → Type 0) where
  ways_targets : (ws : List Case) (other : Target) (seen : Seen) → EachCase ws L → L Same other → EachWay ws other seen (λ t. L Same t)
  ways_targets [] other seen p q = q
  ways_targets (w ∷ ws) other seen p q = (λ e. p.0, λ e. ways_targets ws other seen p.1 q)

  test_targets : (ns : Numbers) (holds fails : Test) (met unmet : Target) (s : Shape) → L Same met → L Same unmet
      → EachTest ns holds fails met unmet s (λ p t s n. L p t)
  test_targets ns holds fails met unmet s p q = (
    on_all (after_test ns holds) (λ n. L Same met) (λ n. p),
    on_all (after_test ns fails) (λ n. L Same unmet) (λ n. q),
  )

  condition_targets : (c : Condition) (met unmet : Target) (ns : Numbers) (s : Shape) → L Same met → L Same unmet
      → EachCondition c met unmet ns s (λ p t s n. L p t)
  condition_targets (conditions.Flag flag) met unmet ns s p q = chosen (has_flag s flag) met unmet (L Same) p q
  condition_targets (conditions.AtLeast x n) met unmet ns s p q = test_targets ns (AtLeast x n) (Below x n) met unmet s p q
  condition_targets (conditions.Below x n) met unmet ns s p q = test_targets ns (Below x n) (AtLeast x n) met unmet s p q

  pub edges_targets : (k : Kind) (known : Facts) (action : Action) (s : Shape) → EachTarget action L → EachEdge k known action s (λ p t s n. L p t)
  edges_targets k known (sends c ways other) s p = λ l o m. ways_targets ways other o.seen p.0 p.1
  edges_targets k known (phases ph well other) s p = λ l o m. ways_targets (well_or well) other o.seen (p.0, tt) p.1
  edges_targets k known (lets l t) s p = on_all (after_let k known l) (λ n. L Same t) (λ n. p)
  edges_targets k known (tests c met unmet) s p = condition_targets c met unmet known.numbers s p.0 p.1
  edges_targets k known (flags flag on t) s p = p
  edges_targets k known (widths width t) s p = p
  edges_targets k known (heads n body other) s p = p
  edges_targets k known (jumps t) s p = p
  edges_targets k known (stops last) s p = tt

-- ALL THAT IS KNOWN OF AN EDGE

pub record Reaches (places : List Point) (ps : List PointFacts) (place : Point) (p : PointFacts) (pass : Pass) (t : Target) (s : Shape)
    (ns : Numbers) : Type 0 where
  pub facts : PointFacts
  pub known : slice_get ps t.to ≡ Some facts
  pub shape : May facts.facts.shapes s
  pub numbers : Covers facts.facts.numbers ns
  pub bounds : BoundFalls p facts place.most (commands_of place.action) pass t
  pub lands : Lands places place.most pass t

gathers : (places : List Point) (ps : List PointFacts) (place : Point) (p : PointFacts) (pass : Pass) (t : Target) (s : Shape) (ns : Numbers)
    (o : Option PointFacts) → slice_get ps t.to ≡ o →
    MatchOption o ⊥ (λ q. May q.facts.shapes s) → IfSome o (λ q. Covers q.facts.numbers ns)
    → IfSome o (λ q. BoundFalls p q place.most (commands_of place.action) pass t) →
    Lands places place.most pass t → Reaches places ps place p pass t s ns
gathers places ps place p pass t s ns None e a b c l = absurd a
gathers places ps place p pass t s ns (Some q) e a b c l = record { facts = q; known = e; shape = a; numbers = b; bounds = c; lands = l }

-- the clauses of a point, as one thing known of each edge
pub edges : (k : Kind) (places : List Point) (ps : List PointFacts) (place : Point) (p : PointFacts) (s : Shape) → ClosedAt k ps place p s
    → EachTarget place.action (Lands places place.most) →
    EachEdge k p.facts place.action s (Reaches places ps place p)
edges k places ps place p s closed lands =
    let A : Rule = ShapeRule ps in
    let B : Rule = NumberRule ps in
    let C : Rule = BoundRule ps place p in
    let L : Rule = λ pass t s n. Lands places place.most pass t in
    let AB : Rule = λ pass t s n. A pass t s n × B pass t s n in
    let CL : Rule = λ pass t s n. C pass t s n × L pass t s n in
    edges_map (λ pass t s n. AB pass t s n × CL pass t s n) (Reaches places ps place p)
    (λ pass t s n r. gathers places ps place p pass t s n (slice_get ps t.to) refl r.0.0 r.0.1 r.1.0 r.1.1)
    k p.facts place.action s
    (edges_both k p.facts place.action s AB CL
    (edges_both k p.facts place.action s A B closed.shape closed.number)
    (edges_both k p.facts place.action s C L closed.bound (edges_targets (Lands places place.most) k p.facts place.action s lands)))
