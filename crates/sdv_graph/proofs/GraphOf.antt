-- The graph of statements that can be run.
use Rattle.std.proofs.Common.{◌≡◌, Bool, ℕ, List, [], length, refl, sym, ap, ◌∙◌}
use Rattle.sdv_registers.specs.declared.kind.Kind.{Kind}
use Rattle.sdv_card.specs.Profile.{host_at_start}
use Rattle.sdv_graph.specs.declared.graph.Target.{Target}
use Rattle.sdv_graph.specs.Path.{Point}
use Rattle.sdv_graph.specs.Tree.{Statements, Declared}
use Rattle.sdv_graph.specs.Begins.{begins}
use Rattle.sdv_graph.specs.Points.{past, points_of, first_of}
use Rattle.sdv_graph.specs.Counts.{statements_count}
use Rattle.sdv_graph.specs.Graph.{Graph}
use Rattle.sdv_graph.specs.GraphOf.{CanRun, SuitsKind, IsSound, IsGraphOf}
use Rattle.sdv_graph.specs.Moves.{statements_moves}
use Rattle.sdv_graph.proofs.Begun.{walks_begin}
use Rattle.sdv_graph.proofs.Ends.{each_run_ends}
use Rattle.sdv_graph.proofs.Nesting.{nested}
use Rattle.sdv_graph.proofs.Paths.{walks_are_paths}
use Rattle.sdv_graph.proofs.Standing.{statements_length}

abbrev pub parts : Declared → List Point → List ℕ → Target → (steps : ℕ) → (begins : Bool) → Graph
parts names ps lines t m z = record {
  kind = names.kind;
  numbers = length names.numbers;
  flags = length names.flags;
  names = names;
  points = ps;
  lines = lines;
  first = t;
  steps = m;
  begins = z;
}

abbrev pub graph_of_body : Declared → Statements → List ℕ → Graph
graph_of_body names b lines = parts names (points_of b) lines (first_of b) (statements_moves b) (begins names.kind b)

-- a graph of these parts
pub graph_is : (names : Declared) (b : Statements) (lines : List ℕ) {ps : List Point} {t : Target} {m : ℕ} {z : Bool} → ps ≡ points_of b → t ≡ first_of b
    → m ≡ statements_moves b → z ≡ begins names.kind b → parts names ps lines t m z ≡ graph_of_body names b lines
graph_is names b lines {ps} {t} {m} {z} p q r s =
    ap (λ ps. parts names ps lines t m z) p ∙ ap (λ t. parts names (points_of b) lines t m z) q
    ∙ ap (λ m. parts names (points_of b) lines (first_of b) m z) r
    ∙ ap (λ z. parts names (points_of b) lines (first_of b) (statements_moves b) z) s

-- a graph has no other parts
abbrev Same : Graph → Graph → Type 0
Same g h = g ≡ h

same_fields : (k k' : Kind) (n n' f f' : ℕ) (d d' : Declared) (ps ps' : List Point) (ls ls' : List ℕ) (t t' : Target) (m m' : ℕ) (z z' : Bool)
    → k ≡ k' → n ≡ n' → f ≡ f' → d ≡ d' → ps ≡ ps' → ls ≡ ls' → t ≡ t' → m ≡ m' → z ≡ z'
    → Same (record { kind = k; numbers = n; flags = f; names = d; points = ps; lines = ls; first = t; steps = m; begins = z })
    (record { kind = k'; numbers = n'; flags = f'; names = d'; points = ps'; lines = ls'; first = t'; steps = m'; begins = z' })
same_fields k k' n n' f f' d d' ps ps' ls ls' t t' m m' z z' a b c e g h i j l = cc

pub only_graph : (names : Declared) (b : Statements) (lines : List ℕ) (g : Graph) → IsGraphOf names b lines g → g ≡ graph_of_body names b lines
only_graph names b lines g of =
    same_fields g.kind names.kind g.numbers (length names.numbers) g.flags (length names.flags) g.names names g.points (points_of b) g.lines lines
    g.first (first_of b) g.steps (statements_moves b) g.begins (begins names.kind b) of.kind_same of.numbers_same of.flags_same of.names_same of.points_same of.lines_same
    of.first_same of.steps_same of.begins_same

pub sound : (names : Declared) (b : Statements) (lines : List ℕ) → CanRun b → SuitsKind names.kind b → length lines ≡ statements_count b
    → IsSound (graph_of_body names b lines)
sound names b lines can suits located = record {
  ends = each_run_ends names.kind b (host_at_start (length names.numbers)) can.ends can.inside;
  nested = nested names b lines (statements_moves b) (begins names.kind b);
  limits = can.limits;
  suits = suits;
  located = located ∙ sym (statements_length b 0 (past b) (past b) []);
  begun = λ is e es path. walks_begin names.kind names b is e es ((walks_are_paths names.kind names b e es can.inside).1 path);
}

pub is_graph_of : (names : Declared) (b : Statements) (lines : List ℕ) → CanRun b → SuitsKind names.kind b → length lines ≡ statements_count b
    → IsGraphOf names b lines (graph_of_body names b lines)
is_graph_of names b lines can suits located = record {
  kind_same = refl;
  names_same = refl;
  numbers_same = refl;
  flags_same = refl;
  points_same = refl;
  lines_same = refl;
  first_same = refl;
  steps_same = refl;
  begins_same = refl;
  walks = λ e es. walks_are_paths names.kind names b e es can.inside;
  sound = sound names b lines can suits located;
}
