-- `explain --dot SCRIPT [--no-faults]`: the graph of the script of a file is printed, in the language of Graphviz.
use Rattle.std.specs.Prelude.{◌≡◌, ◌⊎◌, Bool, Option, Some, None}
use Rattle.clap.specs.Words.{Text}
use Rattle.sdv_script.specs.declared.script.Script.{Script as Tree}
use Rattle.sdv_script.specs.OneGraph.{IsGraphOfScript}
use Rattle.sdv_script.specs.Shown.{shown}
use Rattle.sdv_graph.specs.Graph.{Graph}
use Rattle.sdv_certify.specs.Assembled.{SurveyOf}
use Rattle.sdv_certify.specs.declared.assembling.ScriptSurvey.{ScriptSurvey}
use Rattle.sdv_certify.specs.declared.fault.CertifyFault.TheVariants.{TooMany}
use Rattle.sdv_check.specs.Verified.{IsNoScript}
use Rattle.sdv_explain.specs.declared.refusal.Refusal.{Refusal}
use Rattle.sdv_explain.specs.Drawing.{Draws}
use Rattle.sdv_explain.specs.Explained.{IsRefusal}
use Rattle.sdv_program.specs.Requests.{GraphNames}
use Rattle.sdv_program.specs.Files.{Files}
use Rattle.sdv_program.specs.Outcomes.{Ending, OverText, Reports}
use Rattle.sdv_program.specs.declared.fault.Fault.{Fault}
use Rattle.sdv_program.specs.declared.fault.Fault.TheVariants.{Script, Uncertified}
use Rattle.sdv_commands.specs.Certify.{IsTextOfScript}
use Rattle.sdv_commands.specs.Explain.{IsTold, told_by}

-- what is known of a script, in which a refusal is marked, or none where there is none
pub record IsMarked (s : Tree) (g : Graph) (told : Option Fault) (refusal : Refusal) : Type 0 where
  pub survey : ScriptSurvey
  pub of_script : SurveyOf s survey.known.points
  pub is_refusal : IsRefusal g survey refusal
  pub same : told ≡ told_by (Some refusal.fault)

-- where too much is known of the script nothing is marked
abbrev pub Marks : Tree → Graph → (told : Option Fault) → Option Refusal → Type 0
Marks s g told (Some refusal) = IsMarked s g told refusal
Marks s g told None = (told ≡ None) ⊎ (told ≡ Some (Uncertified TooMany))

-- the text is that of the drawing of the script's graph, in which the point is marked that is refused so, if one is
pub record IsDrawingOf (no_faults : Bool) (s : Tree) (told : Option Fault) (text : Text) : Type 0 where
  pub graph : Graph
  pub of_script : IsGraphOfScript (shown s) graph
  pub is_told : IsTold s told
  pub refusal : Option Refusal
  pub marks : Marks s graph told refusal
  pub draws : Draws graph refusal no_faults text

abbrev pub IsDrawing : (no_faults : Bool) → (script : Text) → (told : Option Fault) → (text : Text) → Type 0
IsDrawing no_faults script told text = (s : Tree) × IsTextOfScript script s × IsDrawingOf no_faults s told text

-- why there is none
abbrev pub IsUndrawn : (script : Text) → Fault → Type 0
IsUndrawn script (Script fault) = IsNoScript script
IsUndrawn script fault = ⊥

abbrev pub GraphEnds : Files → GraphNames → Ending
GraphEnds files names =
    OverText files names.script (λ script. Reports (IsDrawing names.no_faults script) (IsUndrawn script))
