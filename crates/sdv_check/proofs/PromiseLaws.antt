-- A certificate that is closed for a graph keeps what the checker promises.
use Rattle.std.proofs.Common.{ℕ, List, sym, subst}
use Rattle.std.specs.Prelude.{Result, Ok, Err, IfOk}
use Rattle.sdv_graph.specs.Graph.{Graph, begin}
use Rattle.sdv_graph.specs.GraphOf.{IsSound}
use Rattle.sdv_graph.specs.Path.{Path}
use Rattle.sdv_facts.specs.Facts.{PointFacts}
use Rattle.sdv_facts.specs.Beside.{RunsWell}
use Rattle.sdv_facts.proofs.Headline.{each_step, each_path}
use Rattle.sdv_facts.proofs.RunLaws.{runs_end}
use Rattle.sdv_facts.proofs.StepLaws.{Laws}
use Rattle.sdv_check.specs.declared.fault.CheckFault.{CheckFault}
use Rattle.sdv_check.specs.Checked.{Checked}
use Rattle.sdv_check.specs.Promised.{Promised}

pub promised : (g : Graph) (ps : List PointFacts) → Laws g.kind → IsSound g → (r : Result ℕ CheckFault) → Checked g ps r → IfOk r (λ most. Promised g ps most)
promised g ps laws sound (Ok b) checked = record {
  steps = each_step g ps laws sound checked.0;
  runs = subst (λ n. RunsWell g.kind (λ e es. Path g.kind g.points e (begin g) es) n) (sym checked.1) (each_path g ps laws sound checked.0);
  ends = runs_end g sound.ends;
}
promised g ps laws sound (Err fault) checked = tt
