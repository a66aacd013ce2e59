-- `certify SCRIPT`: the certificate of the script of a file is printed.
use Rattle.std.specs.Prelude.{◌≡◌, ◌≢◌}
use Rattle.clap.specs.Words.{Text}
use Rattle.sdv_script.specs.declared.script.Script.{Script as Tree}
use Rattle.sdv_script.specs.Graph.{Graph}
use Rattle.sdv_script.specs.Script.{IsScript}
use Rattle.sdv_script.specs.Shown.{shown}
use Rattle.sdv_facts.specs.Facts.{Certificate}
use Rattle.sdv_facts.specs.CertificateText.{text_of, WithinLimits}
use Rattle.sdv_facts.specs.Closed.{Closed}
use Rattle.sdv_check.specs.Verified.{IsGraphOfText, IsNoScript}
use Rattle.sdv_certify.specs.declared.fault.CertifyFault.{CertifyFault}
use Rattle.sdv_certify.specs.declared.fault.CertifyFault.TheVariants.{Memory as NoMemory}
use Rattle.sdv_certify.specs.Assembled.{CertificateOf, VersionFor, RefusedFor}
use Rattle.sdv_program.specs.Files.{Files}
use Rattle.sdv_program.specs.Outcomes.{Ending, OverText, Prints}
use Rattle.sdv_program.specs.declared.fault.Fault.{Fault}
use Rattle.sdv_program.specs.declared.fault.Fault.TheVariants.{Script, Uncertified}

-- TEXTS

-- the text is that of the script
pub record IsTextOfScript (text : Text) (s : Tree) : Type 0 where
  pub same : (shown s).text ≡ text
  pub is_script : IsScript (shown s)

-- the text is a script, and this is its certificate, which is of the script's version, closed for its graph, and within
-- the limits
pub record IsCertificateOfText (text : Text) (c : Certificate) : Type 0 where
  pub script : Tree
  pub is : IsTextOfScript text script
  pub certificate : CertificateOf script c.points
  pub version : VersionFor script c.version
  pub closed : (g : Graph) → IsGraphOfText text g → Closed g c.points
  pub limits : WithinLimits c

-- the text is a script that has no certificate, for this reason
pub record HasNoCertificate (text : Text) (fault : CertifyFault) : Type 0 where
  pub script : Tree
  pub is : IsTextOfScript text script
  pub reason : fault ≢ NoMemory
  pub refused : RefusedFor script fault

-- THE ANSWER

-- the text is that of the script's certificate
abbrev pub IsCertificate : (script text : Text) → Type 0
IsCertificate script text = (facts : Certificate) × IsCertificateOfText script facts × (text ≡ text_of facts)

-- why there is none
abbrev pub HasNone : (script : Text) → Fault → Type 0
HasNone script (Script fault) = IsNoScript script
HasNone script (Uncertified fault) = HasNoCertificate script fault
HasNone script fault = ⊥

abbrev pub CertifyEnds : Files → (script_file : Text) → Ending
CertifyEnds files script_file = OverText files script_file (λ script. Prints (IsCertificate script) (HasNone script))
