-- What is so of the graphs of a driver, and of a certificate that is of their points.
use Rattle.std.proofs.Common.{◌≡◌, ◌+◌, ◌≤◌, ◌<◌, ℕ, List, [], ◌∷◌, ◌++◌, length, drop, refl, sym, ap, subst, ◌∙◌, arith, ◌⊎◌, inl, inr, Option, Some, None}
use Rattle.std.proofs.Props.{props}
use Rattle.std.proofs.Math.Logic.{∥∥₁_elim}
use Rattle.std.proofs.Math.Seq.{drop-nil}
use Rattle.std.proofs.Math.ListN.{drop_of_length-le}
use Rattle.std.specs.Prelude.{slice_get}
use Rattle.std.proofs.lemmas.Bool.{cases_lt}
use Rattle.std.proofs.lemmas.List.{drop-append-le, length-append}
use Rattle.sdv_registers.specs.declared.kind.Kind.{Kind}
use Rattle.sdv_graph.specs.Graph.{Graph}
use Rattle.sdv_graph.specs.Tree.{Declared}
use Rattle.sdv_facts.specs.declared.numbers.Numbers.{Numbers}
use Rattle.sdv_facts.specs.Facts.{PointFacts}
use Rattle.sdv_driver.specs.declared.tree.Input.{Input}
use Rattle.sdv_driver.specs.declared.driver.Driver.{Driver}
use Rattle.sdv_driver.specs.Driver.{IsDriver}
use Rattle.sdv_driver.specs.Shown.{shown}
use Rattle.sdv_driver.proofs.LinesFound.{parts}
use Rattle.sdv_facts.specs.declared.clause.Clause.{Clause}
use Rattle.sdv_facts.specs.declared.clause.Clause.TheVariants as clauses
use Rattle.sdv_check.specs.Faults.{fault_of}
use Rattle.sdv_calls.specs.Checked.{FailsAtPoint, DriverFails}
use Rattle.sdv_driver.specs.Fits.{input_count, EachFits}
use Rattle.sdv_driver.specs.Lines.{lines_behind, AreGraphs}
use Rattle.sdv_driver.specs.Tree.{Entry}
use Rattle.sdv_calls.specs.Between.{with_input}
use Rattle.sdv_calls.specs.Closed.{points_behind, IsRest, PartsMatch, last_facts, rest_of, CallsFit, AreOfDriver}

-- NUMBER VARIABLES

abbrev pub NumbersFit : ℕ → List Entry → List Graph → Type 0
NumbersFit n (e ∷ es) (g ∷ gs) = (g.numbers ≡ n + input_count e.input) × (g.numbers ≤ 8) × NumbersFit n es gs
NumbersFit n es gs = Unit {0}

numbers_prop : (n : ℕ) (es : List Entry) (gs : List Graph) → IsProp (NumbersFit n es gs)
numbers_prop n [] gs = hlevel props
numbers_prop n (e ∷ es) [] = hlevel props
numbers_prop n (e ∷ es) (g ∷ gs) = hlevel (props, numbers_prop n es gs)

numbers_fit : (names : Declared) (es : List Entry) (gs : List Graph) (lines : List ℕ) → EachFits names es → AreGraphs es lines gs
    → NumbersFit (length names.numbers) es gs
numbers_fit names [] [] lines fit are = tt
numbers_fit names [] (g ∷ gs) lines fit are = tt
numbers_fit names (e ∷ es) [] lines fit are = tt
numbers_fit names (e ∷ es) (g ∷ gs) lines fit are = (
  are.0.numbers_same ∙ fit.0.numbers,
  (let few = fit.0.script.names_fit.few_numbers in omega (arith, few, are.0.numbers_same)),
  numbers_fit names es gs (lines_behind e lines) fit.1 are.1,
)

of_driver_prop : (k : Kind) (n : ℕ) (gs : List Graph) → IsProp (AreOfDriver k n gs)
of_driver_prop k n [] = hlevel props
of_driver_prop k n (g ∷ gs) = hlevel (props, of_driver_prop k n gs)

of_driver : (names : Declared) (es : List Entry) (gs : List Graph) (lines : List ℕ) → EachFits names es → AreGraphs es lines gs
    → AreOfDriver names.kind (length names.numbers) gs
of_driver names [] [] lines fit are = tt
of_driver names [] (g ∷ gs) lines fit are = absurd are
of_driver names (e ∷ es) [] lines fit are = tt
of_driver names (e ∷ es) (g ∷ gs) lines fit are = (
  record {
    kind = sym (are.0.kind_same ∙ fit.0.kind);
    few = omega (arith, are.0.numbers_same, fit.0.numbers);
    limits = are.0.sound.limits;
  },
  of_driver names es gs (lines_behind e lines) fit.1 are.1,
)

-- CERTIFICATES

with_one : (input : Option Input) (ns : Numbers) → length (with_input input ns).vars.items ≡ length ns.vars.items + input_count input
with_one None ns = omega arith
with_one (Some i) ns = length-append ns.vars.items (_ ∷ [])

pub calls_fit : (n : ℕ) (es : List Entry) (gs : List Graph) (ns : Numbers) (ps : List PointFacts) → PartsMatch n gs ps → NumbersFit n es gs
    → length ns.vars.items ≡ n → CallsFit es gs ns ps
calls_fit n [] gs ns ps match fit len = tt
calls_fit n (e ∷ es) [] ns ps match fit len = tt
calls_fit n (e ∷ es) (g ∷ gs) ns ps match fit len = (
  match.0,
  (let all = with_one e.input ns in omega (arith, all, fit.0, len)),
  fit.1,
  calls_fit n es gs ns (points_behind g ps) match.1 fit.2 len,
)

-- a certificate of these points has a last one, which stands for the time between calls
pub not_empty : (n : ℕ) (gs : List Graph) → PartsMatch n gs [] → ⊥
not_empty n [] match = match
not_empty n (g ∷ gs) match = not_empty n gs (subst (λ (ps : List PointFacts). PartsMatch n gs ps) (drop-nil (length g.points)) match.1)

alone : (n : ℕ) (front ps : List PointFacts) (last : PointFacts) → ps ≡ front ++ last ∷ [] → IsRest n ps
    → (last_facts ps ≡ last.facts) × (length last.facts.numbers.vars.items ≡ n)
alone n [] ps last e rest = rw e (refl, subst (λ (l : List PointFacts). IsRest n l) e rest)
alone n (x ∷ []) ps last e rest = absurd (subst (λ (l : List PointFacts). IsRest n l) e rest)
alone n (x ∷ y ∷ front) ps last e rest = absurd (subst (λ (l : List PointFacts). IsRest n l) e rest)

behind_front : (n : ℕ) (g : Graph) (gs : List Graph) (front : List PointFacts) (last : PointFacts) → PartsMatch n gs (points_behind g (front ++ last ∷ []))
    → (length front < length g.points) ⊎ (length g.points ≤ length front) → points_behind g (front ++ last ∷ []) ≡ drop (length g.points) front ++ last ∷ []
behind_front n g gs front last match (inr le) = drop-append-le (length g.points) front (last ∷ []) le
behind_front n g gs front last match (inl lt) =
    let size : length (front ++ last ∷ []) ≡ length front + 1 = length-append front (last ∷ []) in
    let none : points_behind g (front ++ last ∷ []) ≡ [] = drop_of_length-le (front ++ last ∷ []) (omega arith) in
    absurd (not_empty n gs (subst (λ (l : List PointFacts). PartsMatch n gs l) none match))

-- what is said of the time between calls is what is said of the last point
pub last_is : (n : ℕ) (gs : List Graph) (front ps : List PointFacts) (last : PointFacts) → ps ≡ front ++ last ∷ [] → PartsMatch n gs ps
    → (rest_of gs ps ≡ last.facts) × (length last.facts.numbers.vars.items ≡ n)
last_is n [] front ps last e match = alone n front ps last e match
last_is n (g ∷ gs) front ps last e match =
    let behind : PartsMatch n gs (points_behind g (front ++ last ∷ [])) = subst (λ (l : List PointFacts). PartsMatch n gs (points_behind g l)) e match.1 in
    last_is n gs (drop (length g.points) front) (points_behind g ps) last
    (ap (λ (l : List PointFacts). points_behind g l) e ∙ behind_front n g gs front last behind (cases_lt (length front) (length g.points))) match.1

pub last_there : {X : Type 0} (front : List X) (x : X) → slice_get (front ++ x ∷ []) (length front) ≡ Some x
last_there [] x = refl
last_there (y ∷ front) x = last_there front x

-- DRIVERS

module _ (d : Driver) (gs : List Graph) (lines : List ℕ) (are : AreGraphs (shown d).tree.entries lines gs) where
  pub driver_numbers : NumbersFit (length (shown d).tree.names.numbers) (shown d).tree.entries gs
  driver_numbers =
      ∥∥₁_elim d.is_driver (numbers_prop (length (shown d).tree.names.numbers) (shown d).tree.entries gs)
      (λ (is : IsDriver (shown d)). numbers_fit (shown d).tree.names (shown d).tree.entries gs lines (parts (shown d) is).1 are)

  pub driver_graphs : AreOfDriver (shown d).tree.names.kind (length (shown d).tree.names.numbers) gs
  driver_graphs =
      ∥∥₁_elim d.is_driver (of_driver_prop (shown d).tree.names.kind (length (shown d).tree.names.numbers) gs)
      (λ (is : IsDriver (shown d)). of_driver (shown d).tree.names (shown d).tree.entries gs lines (parts (shown d) is).1 are)

pub fails_as : (n : ℕ) (es : List Entry) (gs : List Graph) (ps : List PointFacts) (clause : Clause) (i : ℕ) → FailsAtPoint n es gs ps clause i
    → DriverFails n es gs ps (fault_of clause i)
fails_as n es gs ps clauses.Illegal i f = f
fails_as n es gs ps clauses.Address i f = f
fails_as n es gs ps clauses.Shape i f = f
fails_as n es gs ps clauses.Number i f = f
fails_as n es gs ps clauses.Bound i f = f
fails_as n es gs ps clauses.EndState i f = f
