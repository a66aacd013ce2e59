-- `explain SCRIPT [CERT] [--why]`: what is known at each point of the script of a file is printed, and why the script is
-- refused, with a run that refutes it, if one was found; of a text that is no script, the page of its fault; of a
-- certificate, what the checker says of it. No clause says which words tell of it.
use Rattle.std.specs.Prelude.{◌≡◌, ◌≢◌, ◌⊎◌, List, Option, Some, None}
use Rattle.clap.specs.Words.{Text}
use Rattle.sdv_script.specs.declared.script.Script.{Script as Tree}
use Rattle.sdv_facts.specs.Facts.{PointFacts}
use Rattle.sdv_certify.specs.Assembled.{CertificateOf, RefusedFor}
use Rattle.sdv_certify.specs.declared.fault.CertifyFault.{CertifyFault}
use Rattle.sdv_certify.specs.declared.fault.CertifyFault.TheVariants.{Memory as NoMemory}
use Rattle.sdv_check.specs.Verified.{IsNoScript}
use Rattle.sdv_explain.specs.declared.judging.CertificateRefusal.{CertificateRefusal}
use Rattle.sdv_explain.specs.declared.judging.CertificateRefusal.TheVariants.{NoCertificate, Open}
use Rattle.sdv_explain.specs.declared.judging.Verdict.{Verdict}
use Rattle.sdv_explain.specs.Judged.{Judges}
use Rattle.sdv_explain.specs.Page.{Tells}
use Rattle.sdv_script.specs.declared.fault.ScriptFault.{ScriptFault}
use Rattle.sdv_program.specs.Requests.{ExplainNames}
use Rattle.sdv_program.specs.Files.{Files}
use Rattle.sdv_program.specs.Outcomes.{Ending, OverText, Reports}
use Rattle.sdv_program.specs.declared.fault.Fault.{Fault}
use Rattle.sdv_program.specs.declared.fault.Fault.TheVariants.{Script, Certificate, Refused, Uncertified}
use Rattle.sdv_commands.specs.Certify.{IsTextOfScript}

-- the script has a certificate, or it is told why it has none
abbrev pub IsTold : Tree → (told : Option Fault) → Type 0
IsTold s None = (ps : List PointFacts) × CertificateOf s ps
IsTold s (Some (Uncertified fault)) = (fault ≢ NoMemory) × RefusedFor s fault
IsTold s told = ⊥

-- how a refusal is told
abbrev pub told_by : Option CertifyFault → Option Fault
told_by None = None
told_by (Some fault) = Some (Uncertified fault)

-- the text is a script, of which this is told
abbrev pub IsExplained : (script : Text) → (told : Option Fault) → Type 0
IsExplained script told = (s : Tree) × IsTextOfScript script s × IsTold s told

-- the text is the page of this fault of what is no script
abbrev pub IsFaultPage : (script : Text) → (told : Option Fault) → (text : Text) → Type 0
IsFaultPage script told text =
    (fault : ScriptFault) × (told ≡ Some (Script fault)) × IsNoScript script × Tells script fault text

abbrev pub IsExplanation : (script : Text) → (told : Option Fault) → (text : Text) → Type 0
IsExplanation script told text = IsExplained script told ⊎ IsFaultPage script told text

-- what the checker answers by a verdict
abbrev pub fault_of_refusal : Option CertificateRefusal → Option Fault
fault_of_refusal None = None
fault_of_refusal (Some (NoCertificate fault)) = Some (Certificate fault)
fault_of_refusal (Some (Open fault)) = Some (Refused fault)

-- the verdict on a script and a certificate is told, or the text is the page of what is no script
abbrev pub IsJudgement : (script certificate : Text) → (told : Option Fault) → (text : Text) → Type 0
IsJudgement script certificate told text =
    ((verdict : Verdict) × Judges script certificate verdict × (told ≡ fault_of_refusal verdict.refusal))
    ⊎ IsFaultPage script told text

-- nothing is left without a report
abbrev pub HasNoAnswer : Fault → Type 0
HasNoAnswer fault = ⊥

-- the file of the certificate is read only where that of the script gave a text
abbrev pub ExplainsText : Files → (script : Text) → (certificate : Option Text) → Ending
ExplainsText files script None = Reports (IsExplanation script) HasNoAnswer
ExplainsText files script (Some file) =
    OverText files file (λ certificate. Reports (IsJudgement script certificate) HasNoAnswer)

abbrev pub ExplainEnds : Files → ExplainNames → Ending
ExplainEnds files names = OverText files names.script (λ script. ExplainsText files script names.certificate)
