-- The certificate of a script is that of its text, and what came of writing it.
use Rattle.std.proofs.Common.{◌≡◌, ◌≢◌, ◌∙◌, sym, subst, ℕ, List, Option, Some}
use Rattle.clap.specs.Words.{Text}
use Rattle.sdv_script.specs.OneGraph.{IsGraphOfScript}
use Rattle.sdv_script.specs.declared.script.Script.{Script as Tree}
use Rattle.sdv_script.specs.Graph.{Graph}
use Rattle.sdv_script.specs.Script.{Parsed, IsScript}
use Rattle.sdv_script.specs.Tree.{Statements, Declared}
use Rattle.sdv_script.specs.Shown.{shown}
use Rattle.sdv_script.proofs.ScriptLaws.{one_tree_lem}
use Rattle.sdv_facts.specs.Facts.{Certificate}
use Rattle.sdv_facts.specs.CertificateText.{WithinLimits}
use Rattle.sdv_check.specs.Verified.{IsGraphOfText}
use Rattle.sdv_certify.specs.Assembled.{CertificateOf, VersionFor, ClosedFor, RefusedFor}
use Rattle.sdv_certify.specs.declared.fault.CertifyFault.{CertifyFault}
use Rattle.sdv_certify.specs.declared.fault.CertifyFault.TheVariants as certifies
use Rattle.sdv_program.specs.Fault.{fault_of_certify}
use Rattle.sdv_program.specs.Outcomes.{Prints}
use Rattle.sdv_program.proofs.StartLaws.{keeps_same}
use Rattle.sdv_commands.specs.Certify.{HasNoCertificate, HasNone, IsCertificate, IsCertificateOfText, IsTextOfScript}

abbrev Same : Parsed → Parsed → Type 0
Same p q = p ≡ q

same_parts : (t u : Text) (m n : Declared) (b c : Statements) → t ≡ u → m ≡ n → b ≡ c
    → Same (record { text = t; names = m; body = b }) (record { text = u; names = n; body = c })
same_parts t u m n b c x y z = cc

-- a graph of the text is one of the script, since a text has one tree
graph_of_script : (text : Text) (s : Tree) (g : Graph) → IsTextOfScript text s → IsGraphOfText text g → IsGraphOfScript (shown s) g
graph_of_script text s g is of =
    let p : Parsed = of.script in
    let tree = one_tree_lem p (shown s) of.is_script is.is_script (of.same ∙ sym is.same) in
    let same = same_parts p.text (shown s).text p.names (shown s).names p.body (shown s).body (of.same ∙ sym is.same) tree.0 tree.1 in
    subst (λ (q : Parsed). IsGraphOfScript q g) same of.graph

pub certificate_of_text : (text : Text) (s : Tree) (c : Certificate) → (shown s).text ≡ text → IsScript (shown s) → CertificateOf s c.points
    → VersionFor s c.version → ClosedFor s c.points → WithinLimits c → IsCertificateOfText text c
certificate_of_text text s c same is_script certificate version closed limits =
    let is : IsTextOfScript text s = record { same = same; is_script = is_script } in
    record {
      script = s;
      is = is;
      certificate = certificate;
      version = version;
      closed = λ g graph. closed g (graph_of_script text s g is graph);
      limits = limits;
    }

-- WHAT CAME OF IT

module _ (text : Text) (s : Tree) (same : (shown s).text ≡ text) (is_script : IsScript (shown s)) (known : Option (List ℕ)) where
  -- a refusal is so of the text
  pub no_certificate : (fault : CertifyFault) → fault ≢ certifies.Memory → RefusedFor s fault → HasNoCertificate text fault
  no_certificate fault other because =
      record { script = s; is = record { same = same; is_script = is_script }; reason = other; refused = because }

  pub refused : (fault : CertifyFault) → RefusedFor s fault
      → Prints (IsCertificate text) (HasNone text) (Some (fault_of_certify fault)) known known
  refused certifies.Memory because = keeps_same known
  refused (certifies.Illegal point shape) because = (no_certificate (certifies.Illegal point shape) (λ e. cc) because, keeps_same known)
  refused (certifies.Address point) because = (no_certificate (certifies.Address point) (λ e. cc) because, keeps_same known)
  refused (certifies.EndState point) because = (no_certificate (certifies.EndState point) (λ e. cc) because, keeps_same known)
  refused certifies.TooMany because = (no_certificate certifies.TooMany (λ e. cc) because, keeps_same known)
