-- What is answered of the texts of a script and a certificate.
use Rattle.std.specs.Prelude.{◌≡◌, ℕ, List, Result, Ok, Err}
use Rattle.sdv_script.specs.OneGraph.{IsGraphOfScript}
use Rattle.sdv_script.specs.declared.fault.ScriptFault.{ScriptFault}
use Rattle.sdv_script.specs.declared.fault.FaultKind.{FaultKind}
use Rattle.sdv_script.specs.declared.fault.FaultKind.TheVariants.{Memory as NoMemory}
use Rattle.sdv_script.specs.Script.{Parsed, IsScript}
use Rattle.sdv_graph.specs.Graph.{Graph}
use Rattle.sdv_facts.specs.Facts.{Certificate as Facts}
use Rattle.sdv_facts.specs.Bounds.{bound_of}
use Rattle.sdv_facts.specs.CertificateText.{text_of, WithinLimits}
use Rattle.sdv_facts.specs.Closed.{Closed}
use Rattle.sdv_check.specs.declared.fault.CheckFault.{CheckFault}
use Rattle.sdv_check.specs.declared.fault.VerifyFault.{VerifyFault}
use Rattle.sdv_check.specs.declared.fault.VerifyFault.TheVariants.{Script, Certificate, Check, Memory}
use Rattle.sdv_check.specs.Checked.{Fails}

-- the text is a script, and this is its graph
pub record IsGraphOfText (text : List ℕ) (g : Graph) : Type 0 where
  pub script : Parsed
  pub same : script.text ≡ text
  pub is_script : IsScript script
  pub graph : IsGraphOfScript script g

-- the text is that of this certificate, which is within the limits
pub record IsTextOf (text : List ℕ) (c : Facts) : Type 0 where
  pub limits : WithinLimits c
  pub written : text ≡ text_of c

abbrev pub IsNoScript : List ℕ → Type 0
IsNoScript text = (s : Parsed) → s.text ≡ text → IsScript s → ⊥

abbrev pub IsNoCertificate : List ℕ → Type 0
IsNoCertificate text = (c : Facts) → WithinLimits c → text ≡ text_of c → ⊥

-- a graph, and a bound of its runs
pub record Acceptance : Type 0 where
  pub graph : Graph
  pub bound : ℕ

-- the certificate is closed for the graph of the script, and has the bound
pub record IsAccepted (script certificate : List ℕ) (a : Acceptance) : Type 0 where
  pub graph : IsGraphOfText script a.graph
  pub facts : Facts
  pub text : IsTextOf certificate facts
  pub closed : Closed a.graph facts.points
  pub bound : a.bound ≡ bound_of a.graph facts.points

-- texts with which a graph and a bound were accepted
pub record Texts (a : Acceptance) : Type 0 where
  pub script : List ℕ
  pub certificate : List ℕ
  pub accepted : IsAccepted script certificate a

-- there are such texts
abbrev pub WasAccepted : Acceptance → Type 0
WasAccepted a = ∥ Texts a ∥₁

-- the certificate is not closed for the graph of the script, by this fault
pub record IsOpen (script certificate : List ℕ) (fault : CheckFault) : Type 0 where
  pub flow : Graph
  pub graph : IsGraphOfText script flow
  pub facts : Facts
  pub text : IsTextOf certificate facts
  pub fails : Fails flow facts.points fault

-- the script comes before the certificate, and both before what is checked; want of memory tells nothing
abbrev pub Verified : (script certificate : List ℕ) → Result Acceptance VerifyFault → Type 0
Verified script certificate (Ok a) = IsAccepted script certificate a
Verified script certificate (Err (Script fault)) = IsNoScript script
Verified script certificate (Err (Certificate fault)) =
    ((g : Graph) × IsGraphOfText script g) × IsNoCertificate certificate
Verified script certificate (Err (Check fault)) = IsOpen script certificate fault
Verified script certificate (Err Memory) = Unit {0}

abbrev pub fault_of_script : FaultKind → ScriptFault → VerifyFault
fault_of_script NoMemory fault = Memory
fault_of_script kind fault = Script fault
