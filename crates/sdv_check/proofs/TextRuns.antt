-- What is promised of the paths of a graph holds of the runs of its script, and of each script of the same text.
use Rattle.std.proofs.Common.{◌≡◌, ℕ, List, sym, subst, ◌∙◌}
use Rattle.sdv_registers.specs.declared.kind.Kind.{Kind}
use Rattle.sdv_graph.specs.Graph.{Graph, begin}
use Rattle.sdv_graph.specs.Moves.{statements_moves}
use Rattle.sdv_graph.specs.Path.{Path}
use Rattle.sdv_script.specs.OneGraph.{IsGraphOfScript}
use Rattle.sdv_script.specs.Script.{Parsed}
use Rattle.sdv_graph.specs.Tree.{Statements, Declared}
use Rattle.sdv_graph.specs.Walk.{Walk}
use Rattle.sdv_graph.proofs.FaultNames.{names_fault}
use Rattle.sdv_script.proofs.ScriptLaws.{one_tree_lem}
use Rattle.sdv_facts.specs.Facts.{PointFacts}
use Rattle.sdv_facts.specs.Beside.{RunsEnd, RunsWell}
use Rattle.sdv_facts.proofs.AnyStart.{scripts_anywhere}
use Rattle.sdv_facts.proofs.RunLaws.{same_runs, walks_end}
use Rattle.sdv_check.specs.Headline.{EachRun, EachRunOf}
use Rattle.sdv_check.specs.Promised.{Promised}
use Rattle.sdv_check.specs.Verified.{IsGraphOfText}

of_kind : (k l : Kind) (names : Declared) (body : Statements) (most : ℕ) → k ≡ l → RunsWell k (Walk k names body) most → RunsWell l (Walk l names body) most
of_kind k l names body most is runs = subst (λ k. RunsWell k (Walk k names body) most) is runs

ends_of_kind : (k l : Kind) (names : Declared) (body : Statements) (n m : ℕ) → k ≡ l → n ≡ m → RunsEnd (Walk k names body) n → RunsEnd (Walk l names body) m
ends_of_kind k l names body n m is same ends = subst (λ m. RunsEnd (Walk l names body) m) same (subst (λ k. RunsEnd (Walk k names body) n) is ends)

-- the walks of a script over its graph are its runs
pub runs_of_script : (s : Parsed) (g : Graph) (most : ℕ) → IsGraphOfScript s g → RunsWell g.kind (Walk g.kind s.names s.body) most → EachRun s most
runs_of_script s g most of walks =
    let k : Kind = s.names.kind in
    let runs : RunsWell k (Walk k s.names s.body) most = of_kind g.kind k s.names s.body most of.kind_same walks in
    record {
      runs = runs;
      anywhere = λ begins. scripts_anywhere k s.names s.body most begins runs;
      ends =
          ends_of_kind g.kind k s.names s.body g.steps (statements_moves s.body) of.kind_same of.steps_same
          (walks_end g s.names s.body of.sound.ends of.walks);
      faults = λ e es walk. names_fault k s.names s.body e es walk;
    }

-- a script of the same tree has the same runs
pub runs_of_tree : (s t : Parsed) (most : ℕ) → (s.names ≡ t.names) × (s.body ≡ t.body) → EachRun s most → EachRun t most
runs_of_tree s t most tree each = record {
  runs = runs;
  anywhere = λ begins. scripts_anywhere t.names.kind t.names t.body most begins runs;
  ends =
      subst (λ b. RunsEnd (Walk t.names.kind t.names b) (statements_moves b)) tree.1
      (subst (λ (n : Declared). RunsEnd (Walk n.kind n s.body) (statements_moves s.body)) tree.0 each.ends);
  faults = λ e es walk. names_fault t.names.kind t.names t.body e es walk;
}
  where
    runs : RunsWell t.names.kind (Walk t.names.kind t.names t.body) most
    runs =
        subst (λ b. RunsWell t.names.kind (Walk t.names.kind t.names b) most) tree.1
        (subst (λ (n : Declared). RunsWell n.kind (Walk n.kind n s.body) most) tree.0 each.runs)

pub runs_of_text : (text : List ℕ) (g : Graph) (ps : List PointFacts) (most : ℕ) → IsGraphOfText text g → Promised g ps most → EachRunOf text most
runs_of_text text g ps most of promised s same is_script =
    let t : Parsed = of.script in
    let tree = one_tree_lem t s of.is_script is_script (of.same ∙ sym same) in
    let walks : RunsWell g.kind (Walk g.kind t.names t.body) most =
    same_runs g.kind (Walk g.kind t.names t.body) (λ e es. Path g.kind g.points e (begin g) es) most of.graph.walks promised.runs in
    runs_of_tree t s most tree (runs_of_script t g most of.graph walks)
