-- Lines of points, read one after the other as a loop does.
use Rattle.std.proofs.Common.{◌≡◌, ℕ, suc, ◌+◌, ◌-◌, ◌<◌, ◌≤◌, List, [], ◌∷◌, ◌++◌, length, Some, None, refl, sym, ap, ◌∙◌, append_assoc, arith}
use Rattle.std.proofs.lemmas.List.{append-nil}
use Rattle.sdv_text.specs.Fronts.{◌>>=◌, Read}
use Rattle.sdv_facts.specs.declared.certificate.Version.{Version}
use Rattle.sdv_facts.specs.Facts.{PointFacts}
use Rattle.sdv_check.specs.declared.text.fault.CertFault.{CertFault}
use Rattle.sdv_check.specs.Reading.{Fails, read_point, read_points}
use Rattle.sdv_check.proofs.Lists.{fails_with}

-- what was read before, and what is still read
abbrev pub with_points : List PointFacts → Read (List PointFacts) → Read (List PointFacts)
with_points front read = read >>= λ x. Some (front ++ x.0, x.1)

abbrev pub points_left : Version → (count place room : ℕ) → List PointFacts → List ℕ → Read (List PointFacts)
points_left version count place room front bs = with_points front (read_points version (count - place) place room bs)

regroup : (front : List PointFacts) (p : PointFacts) (read : Read (List PointFacts))
    → with_points front (read >>= λ ps. Some (p ∷ ps.0, ps.1)) ≡ with_points (front ++ p ∷ []) read
regroup front p (Some ps) = ap (λ (l : List PointFacts). Some (l, ps.1)) (sym (append_assoc front (p ∷ []) ps.0))
regroup front p None = refl

pub points_more : (version : Version) (count place room : ℕ) (front : List PointFacts) (bs : List ℕ) (p : PointFacts) (after : List ℕ) (total : Read (List PointFacts))
    → place < count → read_point version place room bs ≡ Some (p, after)
    → points_left version count place room front bs ≡ total → points_left version count (place + 1) (room - length p.facts.shapes) (front ++ p ∷ []) after ≡ total
unfolding read_points
points_more version count place room front bs p after total lt e so_far =
    let more : count - place ≡ suc (count - (place + 1)) = omega arith in
    let next : place + 1 ≡ suc place = omega arith in
    let one : points_left version count place room front bs ≡ points_left version count (place + 1) (room - length p.facts.shapes) (front ++ p ∷ []) after =
    rw (more, e, next) (regroup front p (read_points version (count - suc place) (suc place) (room - length p.facts.shapes) after)) in
    sym one ∙ so_far

fails_at : (version : Version) (count place room : ℕ) (bs : List ℕ) → place < count → read_point version place room bs ≡ None → read_points version (count - place) place room bs ≡ None
unfolding read_points
fails_at version count place room bs lt e =
    let more : count - place ≡ suc (count - (place + 1)) = omega arith in
    rw (more, e) refl

pub points_fail : (f : CertFault) (version : Version) (count place room : ℕ) (front : List PointFacts) (bs : List ℕ) (total : Read (List PointFacts)) → place < count
    → Fails f (read_point version place room bs) → points_left version count place room front bs ≡ total → Fails f total
points_fail f version count place room front bs total lt e so_far =
    fails_with f (read_point version place room bs) total e (λ none. sym so_far ∙ ap (with_points front) (fails_at version count place room bs lt none))

pub points_done : (version : Version) (count place room : ℕ) (front : List PointFacts) (bs : List ℕ) (total : Read (List PointFacts)) → count ≤ place
    → points_left version count place room front bs ≡ total → total ≡ Some (front, bs)
unfolding read_points
points_done version count place room front bs total le so_far =
    let none : count - place ≡ 0 = omega arith in
    let one : points_left version count place room front bs ≡ Some (front, bs) = rw none (ap (λ (l : List PointFacts). Some (l, bs)) (append-nil front)) in
    sym so_far ∙ one
