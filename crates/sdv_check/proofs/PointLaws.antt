-- The clauses of a point, from what is asked of its shapes in one pass.
use Rattle.std.proofs.Common.{◌≡◌, ℕ, ◌+◌, ◌<◌, List, length, take, get_or, refl, sym, ap, ◌∙◌, subst, Bool, true, false, IsTrue, ◌↔◌, Option, Some, None, inl, inr}
use Rattle.std.specs.Prelude.{slice_get, map}
use Rattle.std.specs.Borrow.{Bor}
use Rattle.std.specs.Slice.{IsItemAt}
use Rattle.std.proofs.lemmas.Option.{slice_get_read}
use Rattle.sdv_card.specs.declared.event.Seen.{Seen}
use Rattle.sdv_graph.specs.declared.graph.Case.{Case as CodeCase}
use Rattle.sdv_graph.specs.Graph.{seen_case}
use Rattle.sdv_check.specs.declared.exits.Exits.{Exits}
use Rattle.sdv_check.specs.declared.exits.Exits.TheVariants.{Cases}
use Rattle.sdv_check.specs.Exits.{cases_of_exits}
use Rattle.std.proofs.lemmas.List.{take_more}
use Rattle.sdv_registers.specs.declared.kind.Kind.{Kind}
use Rattle.sdv_card.specs.declared.shape.Shape.{Shape}
use Rattle.sdv_card.specs.Lists.{May}
use Rattle.sdv_card.proofs.Distinct.{May-push_cases, May-at}
use Rattle.sdv_graph.specs.declared.graph.Target.{Target}
use Rattle.sdv_graph.specs.Nested.{Pass}
use Rattle.sdv_graph.specs.Path.{Point}
use Rattle.sdv_facts.specs.Facts.{PointFacts}
use Rattle.sdv_facts.specs.declared.clause.Clause.TheVariants.{Address as AddressOff}
use Rattle.sdv_facts.specs.declared.numbers.Numbers.{Numbers}
use Rattle.sdv_facts.specs.Closed.{ShapeRule, NumberRule, BoundRule, ClauseHolds, PointClosed}
use Rattle.sdv_facts.specs.Edges.{Rule, EachWay}
use Rattle.sdv_facts.proofs.EdgeLaws.{edges_both, edges_map}
use Rattle.sdv_check.specs.declared.source.Rules.{Rules}
use Rattle.sdv_check.specs.declared.source.Rules.TheVariants as rules
use Rattle.sdv_check.specs.declared.source.Asked.TheVariants as asks
use Rattle.sdv_check.specs.Asked.{RuleAt, RuleOf, AskedAt}

-- LISTS

-- a test of each element, which fails at one
pub fails_at : {A : Type 0} (P : A → Type 0) (xs : List A) (i : ℕ) (d : A) (r : Bool) → i < length xs → (IsTrue r ↔ P (get_or xs i d)) → r ≡ false
    → IsTrue false ↔ ((x : A) → May xs x → P x)
fails_at P xs i d r lt test bad = ((λ e. absurd (cc)), (λ all. let t : r ≡ true = test.1 (all (get_or xs i d) (May-at xs i d (get_or xs i d) lt refl)) in cc))

-- what holds of each element so far, and of the next
pub each_more : {A : Type 0} → (P : A → Type 0) (xs : List A) (i : ℕ) (d : A) → i < length xs → ((x : A) → May (take i xs) x → P x) → P (get_or xs i d)
    → (x : A) → May (take (i + 1) xs) x → P x
each_more P xs i d h n e x m =
    elim (May-push_cases (take i xs) (get_or xs i d) x (subst (λ v. May v x) (take_more xs i d h) m)) [ inl k ↦ n x k | inr f ↦ subst P f e ]

-- RULES

-- the item that `get` lends
pub item_there : {X : Type 0} (xs : List X) (i : ℕ) (r : Option (Bor X)) (b : Bor X) → IsItemAt xs i r → r ≡ Some b → slice_get xs i ≡ Some b.now
item_there xs i None b h e = absurd (cc)
item_there xs i (Some c) b h e =
    let same : c ≡ b = cc in
    slice_get_read xs (length xs) i c.now refl h.3.0 h.1 ∙ ap (λ (x : Bor _). Some x.now) same

-- rules of an edge whose target has facts
pub rules_there : (r : Rules) (ps : List PointFacts) (place : Point) (p q : PointFacts) (pass : Pass) (t : Target) (s : Shape) (ns : Numbers) (b : Bool)
    → slice_get ps t.to ≡ Some q →
    (IsTrue b ↔ RuleAt r place p q pass t s ns) → IsTrue b ↔ RuleOf r ps place p pass t s ns
rules_there rules.Shape ps place p q pass t s ns b there test = rw there test
rules_there rules.Number ps place p q pass t s ns b there test = rw there test
rules_there rules.Bound ps place p q pass t s ns b there test = rw there test
rules_there rules.All ps place p q pass t s ns b there test = rw there test

-- the ways on of a command
pub cases_of_command : (exits : Exits) (cases : Bor (List CodeCase)) (other : Target) (seen : Seen) (P : Target → Type 0) (r : Bool) → exits ≡ Cases cases →
    (IsTrue r ↔ EachWay (map seen_case cases.now) other seen P) → IsTrue r ↔ EachWay (cases_of_exits exits) other seen P
cases_of_command exits cases other seen P r is test = subst (λ v. IsTrue r ↔ EachWay (cases_of_exits v) other seen P) (sym is) test

-- THE CLAUSES

module _ (k : Kind) (ps : List PointFacts) (place : Point) (p : PointFacts) where
  together : PointClosed k ps place p → (s : Shape) → May p.facts.shapes s → AskedAt asks.All k ps place p s
  together closed s m =
      let A : Rule = ShapeRule ps in
      let B : Rule = NumberRule ps in
      let C : Rule = BoundRule ps place p in
      let AB : Rule = λ pass t s ns. A pass t s ns × B pass t s ns in
      let all = edges_both k p.facts place.action s AB C (edges_both k p.facts place.action s A B (closed.shape s m) (closed.number s m))
      (closed.bound s m) in (
        closed.legal s m,
        edges_map (λ pass t s ns. AB pass t s ns × C pass t s ns) (RuleOf rules.All ps place p)
            (λ pass t s ns r. (r.0.0, r.0.1, r.1)) k p.facts place.action s all,
        closed.end_state s m,
      )

  apart : ClauseHolds AddressOff k ps place p → ((s : Shape) → May p.facts.shapes s → AskedAt asks.All k ps place p s) → PointClosed k ps place p
  apart address all = record {
    legal = λ s m. (all s m).0;
    address = address;
    shape = λ s m. edges_map (RuleOf rules.All ps place p) (ShapeRule ps) (λ pass t s ns r. r.0) k p.facts place.action s (all s m).1;
    number = λ s m. edges_map (RuleOf rules.All ps place p) (NumberRule ps) (λ pass t s ns r. r.1) k p.facts place.action s (all s m).1;
    bound = λ s m. edges_map (RuleOf rules.All ps place p) (BoundRule ps place p) (λ pass t s ns r. r.2) k p.facts place.action s (all s m).1;
    end_state = λ s m. (all s m).2;
  }

  -- one pass decides all clauses
  pub closed_at_once : (a b : Bool) → (IsTrue a ↔ ClauseHolds AddressOff k ps place p)
      → (IsTrue b ↔ ((s : Shape) → May p.facts.shapes s → AskedAt asks.All k ps place p s)) →
      (a ≡ true × b ≡ true) ↔ PointClosed k ps place p
  closed_at_once a b address all =
      ((λ both. apart (address.0 both.0) (all.0 both.1)), (λ closed. (address.1 closed.address, all.1 (together closed))))
