-- The text of a driver's certificate is read as the lines of one of version 2 are.
use Rattle.std.proofs.Common.{◌≡◌, ◌≢◌, ◌≤◌, ℕ, Bool, true, List, [], ◌++◌, length, take, drop, cond, refl, sym, ap, ◌∙◌, Option, Some, None}
use Rattle.std.specs.Str.{bytes_eq}
use Rattle.std.proofs.lemmas.Bool.{le-leb}
use Rattle.std.proofs.lemmas.List.{take-append-drop}
use Rattle.std.proofs.lemmas.Slice.Eq.{bytes_eq-Decides}
use Rattle.sdv_text.specs.Fronts.{◌>>=◌}
use Rattle.sdv_facts.specs.CertificateText.{max_bytes}
use Rattle.sdv_facts.specs.Facts.{PointFacts, Certificate}
use Rattle.sdv_facts.specs.declared.certificate.Version.TheVariants.{Two}
use Rattle.sdv_facts.specs.declared.words.TheConstants.{VERSION_2}
use Rattle.sdv_check.specs.Reading.{Fails, read_version, read_lines, read_certificate, read_text}
use Rattle.sdv_check.specs.declared.text.fault.CertFault.{CertFault}
use Rattle.sdv_check.specs.declared.text.fault.CertFault.TheVariants.{Header, Syntax, Order, Limit, Memory}
use Rattle.sdv_check.proofs.Texts.{text_takes, text_again}
use Rattle.sdv_calls.specs.declared.text.TheConstants.{VERSION_3}
use Rattle.sdv_calls.specs.Text.{lines_of, driver_text, saying, WithinDriverLimits}

-- the same lines behind the first line of version 2
as_two : (bs : List ℕ) → read_version (VERSION_2.now ++ bs) ≡ Some (Two, bs)
unfolding read_version
as_two bs = refl

certificate_two : (bs : List ℕ) → read_certificate (VERSION_2.now ++ bs) ≡ (read_lines Two bs >>= λ ps. Some (saying ps))
unfolding read_certificate
certificate_two bs = rw (as_two bs) refl

text_two : (bs : List ℕ) → length (VERSION_2.now ++ bs) ≤ max_bytes → read_text (VERSION_2.now ++ bs) ≡ (read_lines Two bs >>= λ ps. Some (saying ps))
unfolding read_text
text_two bs le =
    ap (λ (b : Bool). cond b (read_certificate (VERSION_2.now ++ bs)) None) (le-leb _ _ le) ∙ certificate_two bs

pub lines_said : (bs : List ℕ) (ps : List PointFacts) → length (VERSION_2.now ++ bs) ≤ max_bytes → read_lines Two bs ≡ Some ps
    → WithinDriverLimits ps × (bs ≡ lines_of ps)
lines_said bs ps le e =
    let t = text_takes (VERSION_2.now ++ bs) (saying ps) (text_two bs le ∙ ap (λ (o : Option (List PointFacts)). o >>= λ ps. Some (saying ps)) e) in
    (t.0, ap (λ (all : List ℕ). drop 11 all) t.1)

abbrev said_of : Option Certificate → List PointFacts
said_of None = []
said_of (Some c) = c.points

points_same : (qs ps : List PointFacts) → Some (saying qs) ≡ Some (saying ps) → qs ≡ ps
points_same qs ps e = ap said_of e

from_bind : (o : Option (List PointFacts)) (ps : List PointFacts) → (o >>= λ qs. Some (saying qs)) ≡ Some (saying ps) → o ≡ Some ps
from_bind None ps e = absurd cc
from_bind (Some qs) ps e = ap (λ (l : List PointFacts). Some l) (points_same qs ps e)

lines_again : (ps : List PointFacts) → WithinDriverLimits ps → read_lines Two (lines_of ps) ≡ Some ps
lines_again ps within =
    from_bind (read_lines Two (lines_of ps)) ps (sym (text_two (lines_of ps) within.bytes) ∙ text_again (saying ps) within)

abbrev some_said : Option (List PointFacts) → List PointFacts
some_said None = []
some_said (Some ps) = ps

-- no text is that of two certificates
pub one_text : (ps qs : List PointFacts) → WithinDriverLimits ps → WithinDriverLimits qs → driver_text ps ≡ driver_text qs → ps ≡ qs
one_text ps qs within other same =
    let lines : lines_of ps ≡ lines_of qs = ap (λ (all : List ℕ). drop 11 all) same in
    ap some_said (sym (lines_again ps within) ∙ ap (λ (l : List ℕ). read_lines Two l) lines ∙ lines_again qs other)

clash : (f : CertFault) (r : Option (List PointFacts)) (ps : List PointFacts) → Fails f r → f ≢ Memory → r ≡ Some ps → ⊥
clash Header r ps fails other given = cc
clash (Syntax line) r ps fails other given = cc
clash (Order line) r ps fails other given = cc
clash Limit r ps fails other given = cc
clash Memory r ps fails other given = other refl

-- what the text begins with, and what follows
pub begins : (text bs rest : List ℕ) → bs ≡ text → bytes_eq (take 11 bs) VERSION_3.now ≡ true → rest ≡ drop 11 bs → text ≡ VERSION_3.now ++ rest
begins text bs rest whole same tail =
    sym whole ∙ sym (take-append-drop 11 bs) ∙ ap (λ (front : List ℕ). front ++ drop 11 bs) ((bytes_eq-Decides (take 11 bs) VERSION_3.now).0 same)
    ∙ ap (λ (back : List ℕ). VERSION_3.now ++ back) (sym tail)

-- lines that are refused are those of no certificate
pub refused : (f : CertFault) (text bs : List ℕ) → text ≡ VERSION_3.now ++ bs → Fails f (read_lines Two bs) → f ≢ Memory → (ps : List PointFacts)
    → WithinDriverLimits ps → text ≡ driver_text ps → ⊥
refused f text bs here fails other ps within e =
    let same : bs ≡ lines_of ps = ap (λ (all : List ℕ). drop 11 all) (sym here ∙ e) in
    clash f (read_lines Two bs) ps fails other (ap (λ (l : List ℕ). read_lines Two l) same ∙ lines_again ps within)
