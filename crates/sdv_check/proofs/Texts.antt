-- The text of a certificate: what is read is what was written, and what was written is read again.
use Rattle.std.proofs.Common.{◌≡◌, ◌≢◌, ℕ, ◌≤◌, Bool, true, cond, nat_eq, nat_le, List, [], ◌∷◌, ◌++◌, length, Option, Some, None, All, refl, sym, ap, subst, ◌∙◌, arith, eqb-true, le-leb, leb-true}
use Rattle.std.specs.List.{AllByRecursion}
use Rattle.std.proofs.lemmas.List.{nil_from_length}
use Rattle.std.proofs.lemmas.List.Elements.{All-from_recursion, recursion_from_All}
use Rattle.sdv_text.proofs.FrontLaws.{bind_some, some_is, tested, after_takes}
use Rattle.sdv_text.specs.Fronts.{◌>>=◌, after}
use Rattle.sdv_facts.specs.declared.certificate.Version.{Version}
use Rattle.sdv_facts.specs.declared.certificate.Version.TheVariants.{One, Two}
use Rattle.sdv_facts.specs.Facts.{PointFacts, Certificate}
use Rattle.sdv_facts.specs.Versions.{FitsVersion}
use Rattle.sdv_facts.specs.Limits.{PointInLimits}
use Rattle.sdv_facts.specs.CertificateText.{number_written, points_written, version_written, text_of, max_bytes, max_points, max_shapes, shape_count, PointFits, WithinLimits}
use Rattle.sdv_facts.specs.declared.words.TheConstants.{VERSION_1, VERSION_2, POINTS}
use Rattle.sdv_check.specs.declared.text.fault.CertFault.{CertFault}
use Rattle.sdv_check.specs.declared.text.fault.CertFault.TheVariants.{Header, Syntax, Order, Limit, Memory}
use Rattle.sdv_check.specs.Reading.{Fails, read_number, read_count, read_points, read_lines, version_from, read_version, read_certificate, read_text}
use Rattle.sdv_check.proofs.Numbers.{number_takes, number_again}
use Rattle.sdv_check.proofs.TextPoints.{points_take, points_again}

count_takes : (bs : List ℕ) (n : ℕ) (rest : List ℕ) → read_count bs ≡ Some (n, rest) → (bs ≡ POINTS.now ++ number_written n (10 ∷ rest)) × (n ≤ max_points)
unfolding read_count
count_takes bs n rest e =
    let a = bind_some (after POINTS.now bs) _ (n, rest) e in
    let b = bind_some (read_number a.0) (λ count. cond (nat_le count.0 max_points) (after (10 ∷ []) count.1 >>= λ bs. Some (count.0, bs)) None) (n, rest) a.2 in
    let t = tested (nat_le b.0.0 max_points) (after (10 ∷ []) b.0.1 >>= λ bs. Some (b.0.0, bs)) (n, rest) b.2 in
    let c = bind_some (after (10 ∷ []) b.0.1) (λ bs. Some (b.0.0, bs)) (n, rest) t.1 in
    let k = number_takes a.0 b.0.0 b.0.1 b.1 in
    let few : b.0.0 ≤ max_points = leb-true _ _ t.0 in
    subst (λ (y : ℕ × List ℕ). (bs ≡ POINTS.now ++ number_written y.0 (10 ∷ y.1)) × (y.0 ≤ max_points)) (some_is (b.0.0, c.0) (n, rest) c.2) (
      after_takes POINTS.now bs a.0 a.1 ∙ ap (λ (l : List ℕ). POINTS.now ++ l)
          (k.0 ∙ ap (number_written b.0.0) (after_takes (10 ∷ []) b.0.1 c.0 c.1)),
      few,
    )

count_again : (n : ℕ) (rest : List ℕ) → n ≤ max_points → read_count (POINTS.now ++ number_written n (10 ∷ rest)) ≡ Some (n, rest)
unfolding read_count
count_again n rest le = rw (number_again n (10 ∷ rest) (omega arith) refl, le-leb n max_points le) refl

abbrev lines_written : Version → List PointFacts → List ℕ
lines_written version ps = POINTS.now ++ number_written (length ps) (10 ∷ points_written version 0 ps)

lines_take : (version : Version) (bs : List ℕ) (ps : List PointFacts) → read_lines version bs ≡ Some ps
    → (bs ≡ lines_written version ps) × (length ps ≤ max_points) × (shape_count ps ≤ max_shapes) × AllByRecursion PointFits ps
    × AllByRecursion (FitsVersion version) ps
unfolding read_lines
lines_take version bs c e =
    let a = bind_some (read_count bs) _ c e in
    let b = bind_some (read_points version a.0.0 0 max_shapes a.0.1) (λ ps. cond (nat_eq (length ps.1) 0) (Some ps.0) None) c a.2 in
    let t = tested (nat_eq (length b.0.1) 0) (Some b.0.0) c b.2 in
    let nothing : b.0.1 ≡ [] = nil_from_length b.0.1 (eqb-true _ _ t.0) in
    let k = count_takes bs a.0.0 a.0.1 a.1 in
    let ps = points_take version a.0.0 0 max_shapes a.0.1 b.0.0 b.0.1 nothing b.1 in
    subst (λ (y : List PointFacts). (bs ≡ lines_written version y) × (length y ≤ max_points) × (shape_count y ≤ max_shapes) × AllByRecursion PointFits y
    × AllByRecursion (FitsVersion version) y)
    (some_is b.0.0 c t.1) (
      k.0 ∙ ap (λ (n : ℕ). POINTS.now ++ number_written n (10 ∷ a.0.1)) (sym ps.1)
          ∙ ap (λ (l : List ℕ). POINTS.now ++ number_written (length b.0.0) (10 ∷ l)) ps.0,
      omega (arith, ps.1, k.1),
      ps.2,
      ps.3,
      ps.4,
    )

lines_again : (c : Certificate) → WithinLimits c → read_lines c.version (lines_written c.version c.points) ≡ Some c.points
unfolding read_lines
lines_again c within = rw (
  count_again (length c.points) (points_written c.version 0 c.points) within.points,
  points_again c.version 0 max_shapes c.points (omega (arith, within.points)) within.shapes within.each
      (recursion_from_All (FitsVersion c.version) c.points within.version),
) refl

-- THE VERSION

version_from_takes : (o : Option (List ℕ)) (bs : List ℕ) (version : Version) (rest : List ℕ) → after VERSION_1.now bs ≡ o
    → version_from o bs ≡ Some (version, rest) → bs ≡ version_written version ++ rest
version_from_takes (Some r) bs version rest e given =
    subst (λ (y : Version × List ℕ). bs ≡ version_written y.0 ++ y.1) (some_is (One, r) (version, rest) given) (after_takes VERSION_1.now bs r e)
version_from_takes None bs version rest e given =
    let a = bind_some (after VERSION_2.now bs) (λ rest. Some (Two, rest)) (version, rest) given in
    subst (λ (y : Version × List ℕ). bs ≡ version_written y.0 ++ y.1) (some_is (Two, a.0) (version, rest) a.2)
    (after_takes VERSION_2.now bs a.0 a.1)

version_takes : (bs : List ℕ) (version : Version) (rest : List ℕ) → read_version bs ≡ Some (version, rest) → bs ≡ version_written version ++ rest
unfolding read_version
version_takes bs version rest e = version_from_takes (after VERSION_1.now bs) bs version rest refl e

version_again : (version : Version) (rest : List ℕ) → read_version (version_written version ++ rest) ≡ Some (version, rest)
unfolding read_version
version_again One rest = refl
version_again Two rest = refl

-- THE WHOLE TEXT

certificate_takes : (bs : List ℕ) (c : Certificate) → read_certificate bs ≡ Some c
    → (bs ≡ text_of c) × (length c.points ≤ max_points) × (shape_count c.points ≤ max_shapes) × AllByRecursion PointFits c.points
    × AllByRecursion (FitsVersion c.version) c.points
unfolding read_certificate
certificate_takes bs c e =
    let a = bind_some (read_version bs) _ c e in
    let b = bind_some (read_lines a.0.0 a.0.1) (λ ps. Some (record { version = a.0.0; points = ps })) c a.2 in
    let l = lines_take a.0.0 a.0.1 b.0 b.1 in
    let made : Certificate = record { version = a.0.0; points = b.0 } in
    let whole : bs ≡ text_of made = version_takes bs a.0.0 a.0.1 a.1 ∙ ap (λ (x : List ℕ). version_written a.0.0 ++ x) l.0 in
    subst (λ (y : Certificate). (bs ≡ text_of y) × (length y.points ≤ max_points) × (shape_count y.points ≤ max_shapes) × AllByRecursion PointFits y.points
    × AllByRecursion (FitsVersion y.version) y.points) (some_is made c b.2) (whole, l.1, l.2, l.3, l.4)

certificate_again : (c : Certificate) → WithinLimits c → read_certificate (text_of c) ≡ Some c
unfolding read_certificate
certificate_again c within = rw (version_again c.version (lines_written c.version c.points), lines_again c within) refl

pub text_takes : (bs : List ℕ) (c : Certificate) → read_text bs ≡ Some c → WithinLimits c × (bs ≡ text_of c)
unfolding read_text
text_takes bs c e =
    let t = tested (nat_le (length bs) max_bytes) (read_certificate bs) c e in
    let l = certificate_takes bs c t.1 in
    let short : length bs ≤ max_bytes = leb-true _ _ t.0 in
    let len : length bs ≡ length (text_of c) = ap length l.0 in (
      record {
        bytes = rw (← len) short;
        points = l.1;
        shapes = l.2;
        each = l.3;
        version = All-from_recursion (FitsVersion c.version) c.points l.4;
      },
      l.0,
    )

pub text_again : (c : Certificate) → WithinLimits c → read_text (text_of c) ≡ Some c
unfolding read_text
text_again c within =
    let short : nat_le (length (text_of c)) max_bytes ≡ true = le-leb _ _ within.bytes in
    ap (λ (b : Bool). cond b (read_certificate (text_of c)) None) short ∙ certificate_again c within

pub one_text : (a b : Certificate) → WithinLimits a → WithinLimits b → text_of a ≡ text_of b → a ≡ b
one_text a b within other same = some_is a b (sym (text_again a within) ∙ ap read_text same ∙ text_again b other)

clash : (f : CertFault) (r : Option Certificate) (c : Certificate) → Fails f r → f ≢ Memory → r ≡ Some c → ⊥
clash Header r c fails other given = cc
clash (Syntax line) r c fails other given = cc
clash (Order line) r c fails other given = cc
clash Limit r c fails other given = cc
clash Memory r c fails other given = other refl

-- a text that is refused is no certificate's
pub refused : (f : CertFault) (bs : List ℕ) → Fails f (read_text bs) → f ≢ Memory → (c : Certificate) → WithinLimits c → bs ≡ text_of c → ⊥
refused f bs fails other c within e = clash f (read_text bs) c fails other (ap read_text e ∙ text_again c within)

each_limited : (ps : List PointFacts) → AllByRecursion PointFits ps → AllByRecursion PointInLimits ps
each_limited [] fits = tt
each_limited (p ∷ ps) fits = (fits.0.numbers, each_limited ps fits.1)

pub points_in_limits : (ps : List PointFacts) → AllByRecursion PointFits ps → All PointInLimits ps
points_in_limits ps fits = All-from_recursion PointInLimits ps (each_limited ps fits)
