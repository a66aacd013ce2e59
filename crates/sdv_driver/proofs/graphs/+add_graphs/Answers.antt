use Rattle.std.proofs.Common.{rules, ◌≡◌, subst, sym, refl, arith, length}
use Rattle.std.proofs.Math.Logic.{∥∥₁_elim, ∥∥₁_map}
use Rattle.std.proofs.Props.{props}
use Rattle.std.specs.Prelude.{List, ◌∷◌}
use Rattle.sdv_script.proofs.GraphOf.{can_run, suits_kind}
use Rattle.sdv_graph.specs.Tree.{Declared}
use Rattle.sdv_driver.specs.Fits.{EachFits, FitADriver}
use Rattle.sdv_driver.specs.Lines.{begun_count, Adds}
use Rattle.sdv_driver.specs.Views.{entry_of, entries_of}
use Rattle.sdv_driver.specs.declared.tree.Entry.{Entry as Kept}
use Rattle.sdv_driver.proofs.GraphLaws.{lines_left, own_lines, later_lines, adds_more, on_ok}
use Rattle.sdv_driver.proofs.graphs.+add_graphs.Goals as goal

pub graph_of-requires-clause-runs : goal.graph_of-requires-clause-runs
graph_of-requires-clause-runs t c =
    let fits = subst (λ (es : List Kept). FitADriver (entries_of es)) c.in-Some.ensures.cases.0 c.requires.fits in
    let one = entry_of c.in-Some.entry.now in
    ∥∥₁_elim fits (hlevel props) (λ (h : (names : Declared) × EachFits names (one ∷ entries_of c.in-Some.others.now)). can_run one.names one.body h.1.0.script)

pub graph_of-requires-clause-suits : goal.graph_of-requires-clause-suits
graph_of-requires-clause-suits t c =
    let fits = subst (λ (es : List Kept). FitADriver (entries_of es)) c.in-Some.ensures.cases.0 c.requires.fits in
    let one = entry_of c.in-Some.entry.now in
    ∥∥₁_elim fits (hlevel props) (λ (h : (names : Declared) × EachFits names (one ∷ entries_of c.in-Some.others.now)). suits_kind one.names one.body h.1.0.script)

pub add_graphs-requires : goal.add_graphs-requires
add_graphs-requires t c =
    let one = entry_of c.in-Some.entry.now in
    let fits = subst (λ (es : List Kept). FitADriver (entries_of es)) c.in-Some.ensures.cases.0 c.requires.fits in
    let all = subst (λ (es : List Kept). length c.args.lines.now ≡ begun_count (entries_of es)) c.in-Some.ensures.cases.0 c.requires.located in (
      search rules,
      (
        ∥∥₁_map fits (λ (h : (names : Declared) × EachFits names (one ∷ entries_of c.in-Some.others.now)). (h.0, h.1.1)),
        lines_left one (entries_of c.in-Some.others.now) c.args.lines.now _ _ (omega (arith, c.begun_before-from.ensures, c.in-Some.entry.now.counted)) refl all,
      ),
    )

pub returns : goal.returns
returns t c =
    let one = entry_of c.in-Some.entry.now in
    let all = subst (λ (es : List Kept). length c.args.lines.now ≡ begun_count (entries_of es)) c.in-Some.ensures.cases.0 c.requires.located in
    on_ok c.add_graphs.result _ _ c.add_graphs.ensures (λ done adds.
    subst (λ (es : List Kept). Adds (entries_of es) c.args.lines.now c.args.graphs.now.items c.add_graphs.new.graphs.items) (sym c.in-Some.ensures.cases.0)
    (adds_more one (entries_of c.in-Some.others.now) c.args.lines.now _ _ c.in_ok-graph.graph c.args.graphs.now.items c.push.new.self.items c.add_graphs.new.graphs.items
    (own_lines one c.args.lines.now _ _ c.begun_before-from.ensures (omega (arith, c.in-Some.entry.now.counted)))
    (later_lines one (entries_of c.in-Some.others.now) c.args.lines.now _ _ (omega (arith, c.begun_before-from.ensures, c.in-Some.entry.now.counted)) refl)
    c.in_ok-graph.ensures c.in_ok-push.ensures.items adds))
