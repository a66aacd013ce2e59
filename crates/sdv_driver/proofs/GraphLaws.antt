-- The graphs of a driver's entries, one after another.
use Rattle.std.proofs.Common.{◌≡◌, ℕ, ◌+◌, ◌-◌, List, [], ◌∷◌, ◌++◌, length, take, drop, ap, sym, subst, refl, ◌∙◌, arith, append_assoc, Result, Ok, Err}
use Rattle.std.specs.Prelude.{IfOk}
use Rattle.std.proofs.Math.Seq.{take-length}
use Rattle.std.proofs.lemmas.List.{length-drop}
use Rattle.sdv_graph.specs.Counts.{statements_count}
use Rattle.sdv_graph.specs.Graph.{Graph}
use Rattle.sdv_graph.specs.GraphOf.{IsGraphOf}
use Rattle.sdv_driver.specs.Lines.{within_count, begun_count, lines_here, lines_behind, AreGraphs, Adds}
use Rattle.sdv_driver.specs.Tree.{Entry}

-- the rest of a list, from a place on
rest_is : (at n : ℕ) (lines : List ℕ) → n ≡ length lines - at → take n (drop at lines) ≡ drop at lines
rest_is at n lines e = subst (λ (m : ℕ). take m (drop at lines) ≡ drop at lines) (length-drop at lines ∙ sym e) (take-length (drop at lines))

-- there are as many lines behind an entry as later ones need
pub lines_left : (one : Entry) (es : List Entry) (lines : List ℕ) (at n : ℕ) → at ≡ within_count one.within + statements_count one.body
    → n ≡ length lines - at → length lines ≡ begun_count (one ∷ es) → length (take n (drop at lines)) ≡ begun_count es
lines_left one es lines at n here same all = ap length (rest_is at n lines same) ∙ length-drop at lines ∙ omega (arith, here, all)

-- the lines of the entry, and those of later ones
pub own_lines : (one : Entry) (lines : List ℕ) (at n : ℕ) → at ≡ within_count one.within → n ≡ statements_count one.body
    → take n (drop at lines) ≡ lines_here one lines
own_lines one lines at n here count = rw (here, count) refl

pub later_lines : (one : Entry) (es : List Entry) (lines : List ℕ) (at n : ℕ) → at ≡ within_count one.within + statements_count one.body
    → n ≡ length lines - at → take n (drop at lines) ≡ lines_behind one lines
later_lines one es lines at n here same = rest_is at n lines same ∙ ap (λ (m : ℕ). drop m lines) here

pub on_ok : {A E : Type 0} (r : Result A E) (P Q : A → Type 0) → IfOk r P → ((a : A) → P a → Q a) → IfOk r Q
on_ok (Ok a) P Q p q = q a p
on_ok (Err e) P Q p q = tt

-- a further graph
pub adds_more : (e : Entry) (es : List Entry) (lines own others : List ℕ) (g : Graph) (before middle after : List Graph) → own ≡ lines_here e lines
    → others ≡ lines_behind e lines → IsGraphOf e.names e.body own g → middle ≡ before ++ g ∷ [] → Adds es others middle after
    → Adds (e ∷ es) lines before after
adds_more e es lines own others g before middle after here behind is same adds = record {
  graphs = g ∷ adds.graphs;
  behind = adds.behind ∙ ap (λ (m : List Graph). m ++ adds.graphs) same ∙ append_assoc before (g ∷ []) adds.graphs;
  are = (
    subst (λ (ls : List ℕ). IsGraphOf e.names e.body ls g) here is,
    subst (λ (ls : List ℕ). AreGraphs es ls adds.graphs) behind adds.are,
  );
}
