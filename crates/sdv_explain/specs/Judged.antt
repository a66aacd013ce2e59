-- WHAT THE CHECKER SAYS of the texts of a script and a certificate.
use Rattle.std.specs.Prelude.{◌≡◌, ◌++◌, ℕ, Option, Some, None, codes, decimal}
use Rattle.sdv_graph.specs.Graph.{Graph}
use Rattle.sdv_check.specs.Verified.{Acceptance, IsAccepted, IsGraphOfText, IsNoCertificate, IsOpen}
use Rattle.sdv_telling.specs.Statements.{Text}
use Rattle.sdv_explain.specs.declared.judging.CertificateRefusal.{CertificateRefusal}
use Rattle.sdv_explain.specs.declared.judging.CertificateRefusal.TheVariants.{NoCertificate, Open}
use Rattle.sdv_explain.specs.declared.judging.Verdict.{Verdict}

abbrev pub accepted_words : (bound : ℕ) → Text
accepted_words bound = codes "accepted " ++ (decimal bound ++ codes "\n")

-- the pair is accepted, which the words tell, or it is not
abbrev pub Says : (script certificate : Text) → Option CertificateRefusal → (words : Text) → Type 0
Says script certificate None words =
    (a : Acceptance) × IsAccepted script certificate a × (words ≡ accepted_words a.bound)
Says script certificate (Some (NoCertificate fault)) words = IsNoCertificate certificate
Says script certificate (Some (Open fault)) words = IsOpen script certificate fault

-- the first text is a script, and this is said of the second
pub record Judges (script certificate : Text) (verdict : Verdict) : Type 0 where
  pub graph : Graph
  pub is_graph : IsGraphOfText script graph
  pub says : Says script certificate verdict.refusal verdict.words.items
