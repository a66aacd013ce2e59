-- What a drawing marks is the refusal of the script's survey.
use Rattle.std.proofs.Common.{◌≡◌, ◌∙◌, ap, inl, Option, Some, None}
use Rattle.std.specs.Prelude.{IfNone, IfSome}
use Rattle.sdv_graph.specs.Graph.{Graph}
use Rattle.sdv_script.specs.declared.script.Script.{Script as Tree}
use Rattle.sdv_certify.specs.Assembled.{SurveyOf}
use Rattle.sdv_certify.specs.declared.assembling.ScriptSurvey.{ScriptSurvey}
use Rattle.sdv_explain.specs.declared.refusal.Refusal.{Refusal}
use Rattle.sdv_explain.specs.Explained.{IsRefusal}
use Rattle.sdv_program.specs.declared.fault.Fault.{Fault}
use Rattle.sdv_commands.specs.Explain.{told_by}
use Rattle.sdv_commands.specs.Graph.{Marks}

pub marks : (s : Tree) (g : Graph) (survey : ScriptSurvey) → SurveyOf s survey.known.points → (refusal : Option Refusal) →
    IfNone refusal (survey.refusal ≡ None) → IfSome refusal (IsRefusal g survey) → (told : Option Fault) → told ≡ told_by survey.refusal →
    Marks s g told refusal
marks s g survey of None none is told same = inl (same ∙ ap told_by none)
marks s g survey of (Some refusal) none is told same = record {
  survey = survey;
  of_script = of;
  is_refusal = is;
  same = same ∙ ap told_by is.fault;
}
