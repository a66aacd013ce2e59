-- WHAT IS TOLD of a text: whether it is a script that is accepted, of which nothing counts.
-- This project's own.
use Rattle.std.specs.Prelude.{◌≡◌, ◌⊎◌, Bool, false, List}
use Rattle.sdv_script.specs.OneGraph.{IsGraphOfScript}
use Rattle.sdv_script.specs.declared.script.Script.{Script}
use Rattle.sdv_script.specs.Script.{IsScript}
use Rattle.sdv_script.specs.Shown.{shown}
use Rattle.sdv_graph.specs.Graph.{Graph}
use Rattle.sdv_check.specs.Verified.{IsNoScript}
use Rattle.sdv_telling.specs.Statements.{Text}
use Rattle.sdv_verdict.specs.Allowed.{is_clear}
use Rattle.sdv_verdict.specs.Judged.{IsVerdict}
use Rattle.sdv_verdict.specs.declared.judging.Verdict.{Verdict}

-- by a verdict on the script that the text is
pub record IsToldByVerdict (text : Text) (kinds : List Text) (clear : Bool) : Type 0 where
  pub script : Script
  pub same : (shown script).text ≡ text
  pub is_script : IsScript (shown script)
  pub graph : Graph
  pub of : IsGraphOfScript (shown script) graph
  pub verdict : Verdict
  pub judged : IsVerdict script graph verdict
  pub counts : clear ≡ is_clear text kinds graph verdict

abbrev pub IsTold : (text : Text) (kinds : List Text) → (clear : Bool) → Type 0
IsTold text kinds clear = (IsNoScript text × (clear ≡ false)) ⊎ IsToldByVerdict text kinds clear
