-- What is found at a point is added there, and what is among the findings was found at a point.
use Rattle.std.proofs.Common.{◌≡◌, ℕ, zero, suc, ◌+◌, ◌<◌, inl, inr, refl, sym, ap, ◌∙◌, subst, arith, List, [], ◌∷◌, ◌++◌, length, get_or, append_assoc, Bool, true, false, Option, Some, None}
use Rattle.std.specs.Prelude.{◌⊎◌, slice_get, if◌then◌else◌}
use Rattle.std.proofs.lemmas.List.{length-map}
use Rattle.std.proofs.lemmas.Bool.{cases_lt}
use Rattle.std.proofs.lemmas.Option.{slice_get_read, slice_get_within}
use Rattle.sdv_card.specs.declared.shape.Shape.{Shape}
use Rattle.sdv_card.specs.Lists.{May, IsOneOf}
use Rattle.sdv_graph.specs.Graph.{Graph}
use Rattle.sdv_graph.specs.Path.{Point}
use Rattle.sdv_facts.specs.declared.certificate.PointFacts.{PointFacts as SharedPoint}
use Rattle.sdv_facts.specs.declared.numbers.Numbers.{Numbers}
use Rattle.sdv_facts.specs.Facts.{PointFacts, facts_with}
use Rattle.sdv_facts.specs.Shared.{facts_in, point_in, points_in}
use Rattle.sdv_facts.specs.SharedSets.{members}
use Rattle.sdv_facts.proofs.SharedLaws.{seen_there}
use Rattle.sdv_review.specs.declared.finding.Finding.{Finding}
use Rattle.sdv_review.specs.declared.finding.Matter.{Matter}
use Rattle.sdv_review.specs.declared.finding.Matter.TheVariants.{Unread}
use Rattle.sdv_review.specs.declared.finding.Name.{Name}
use Rattle.sdv_review.specs.declared.finding.Name.TheVariants.{Number, Flag}
use Rattle.sdv_review.specs.Names.{is_read}
use Rattle.sdv_review.specs.Findings.{matter_of, finding_if, findings_at, findings_before, unread, name_findings, names_before, findings_of}
use Rattle.sdv_review.proofs.ListLaws.{in_front, behind, in_either}

-- AT A POINT

pub added_there : (sets : List (List Shape)) (qs : List SharedPoint) (points : List Point) (ps : List PointFacts) (point : ℕ) (place : Point) (q : SharedPoint)
    (set : ℕ) (shapes : List Shape) (numbers : Numbers) (matter : Option Matter) (old new : List Finding) → points_in sets qs ≡ ps
    → slice_get points point ≡ Some place → q ≡ get_or qs point q → point < length ps → set ≡ (get_or qs point q).facts.set → shapes ≡ members sets set
    → numbers ≡ (get_or qs point q).facts.numbers → matter ≡ matter_of place.action (facts_with shapes numbers) → new ≡ old ++ finding_if point matter
    → new ≡ old ++ findings_at point (slice_get points point) (slice_get ps point)
added_there sets qs points ps point place q set shapes numbers matter old new same there read within named shown told is added =
    let sizes : length ps ≡ length qs = ap length (sym same) ∙ length-map qs (point_in sets) in
    let at : slice_get qs point ≡ Some q = slice_get_read qs (length ps) point q sizes within read in
    let known : slice_get ps point ≡ Some (point_in sets q) = ap (λ l. slice_get l point) (sym same) ∙ seen_there sets qs point q at in
    let facts : facts_with shapes numbers ≡ facts_in sets q.facts =
    ap (λ l. facts_with l numbers) (shown ∙ ap (members sets) (named ∙ ap (λ (x : SharedPoint). x.facts.set) (sym read)))
    ∙ ap (facts_with (members sets q.facts.set)) (told ∙ ap (λ (x : SharedPoint). x.facts.numbers) (sym read)) in
    let here : findings_at point (slice_get points point) (slice_get ps point) ≡ finding_if point (matter_of place.action (facts_in sets q.facts)) =
    ap (findings_at point (slice_get points point)) known ∙ ap (λ o. findings_at point o (Some (point_in sets q))) there in
    added ∙ ap (λ (m : Option Matter). old ++ finding_if point m) (is ∙ ap (matter_of place.action) facts) ∙ ap (λ (l : List Finding). old ++ l) (sym here)

-- all of them were added, one point after another
pub one_more : (old so_far new : List Finding) (points : List Point) (ps : List PointFacts) (i : ℕ) → so_far ≡ old ++ findings_before points ps i
    → new ≡ so_far ++ findings_at i (slice_get points i) (slice_get ps i) → new ≡ old ++ findings_before points ps (i + 1)
one_more old so_far new points ps i e f =
    let on : suc i ≡ i + 1 = omega arith in
    f ∙ ap (λ (l : List Finding). l ++ findings_at i (slice_get points i) (slice_get ps i)) e
    ∙ append_assoc old (findings_before points ps i) (findings_at i (slice_get points i) (slice_get ps i))
    ∙ ap (λ (n : ℕ). old ++ findings_before points ps n) on

pub one_name_more : (old so_far new : List Finding) (name : ℕ → Name) (points : List Point) (i : ℕ) → so_far ≡ old ++ names_before name points i
    → new ≡ so_far ++ name_findings (name i) points → new ≡ old ++ names_before name points (i + 1)
one_name_more old so_far new name points i e f =
    let on : suc i ≡ i + 1 = omega arith in
    f ∙ ap (λ (l : List Finding). l ++ name_findings (name i) points) e
    ∙ append_assoc old (names_before name points i) (name_findings (name i) points)
    ∙ ap (λ (n : ℕ). old ++ names_before name points n) on

-- WHAT IS AMONG THEM

-- it was found at this point, by what is known there
pub record FoundAt (points : List Point) (ps : List PointFacts) (f : Finding) : Type 0 where
  pub at : ℕ
  pub point : f.point ≡ Some at
  pub place : Point
  pub here : slice_get points at ≡ Some place
  pub facts : PointFacts
  pub known : slice_get ps at ≡ Some facts
  pub matter : matter_of place.action facts.facts ≡ Some f.matter

of_matter : (points : List Point) (ps : List PointFacts) (n : ℕ) (place : Point) (p : PointFacts) (m : Option Matter) → slice_get points n ≡ Some place
    → slice_get ps n ≡ Some p → matter_of place.action p.facts ≡ m → (f : Finding) → IsOneOf (finding_if n m) f → FoundAt points ps f
of_matter points ps n place p None here known is f one = absurd one
of_matter points ps n place p (Some m) here known is f (inl e) = record {
  at = n;
  point = sym (ap (λ (x : Finding). x.point) e);
  place = place;
  here = here;
  facts = p;
  known = known;
  matter = is ∙ ap (λ (x : Finding). Some x.matter) e;
}
of_matter points ps n place p (Some m) here known is f (inr none) = absurd none

found_there : (points : List Point) (ps : List PointFacts) (n : ℕ) (o : Option Point) (q : Option PointFacts) → slice_get points n ≡ o → slice_get ps n ≡ q
    → (f : Finding) → IsOneOf (findings_at n o q) f → FoundAt points ps f
found_there points ps n None q here known f one = absurd one
found_there points ps n (Some place) None here known f one = absurd one
found_there points ps n (Some place) (Some p) here known f one =
    of_matter points ps n place p (matter_of place.action p.facts) here known refl f one

found_before : (points : List Point) (ps : List PointFacts) (n : ℕ) (f : Finding) → IsOneOf (findings_before points ps n) f → FoundAt points ps f
found_before points ps zero f one = absurd one
found_before points ps (suc n) f one =
    in_either (FoundAt points ps) (findings_before points ps n) (findings_at n (slice_get points n) (slice_get ps n)) (found_before points ps n)
    (found_there points ps n (slice_get points n) (slice_get ps n) refl refl) f one

-- or of a name
abbrev IsOfName : Finding → Type 0
IsOfName f = (name : Name) × (f.matter ≡ Unread name)

of_name : (name : Name) (points : List Point) (read : Bool) (f : Finding) → IsOneOf (if read then [] else unread name points ∷ []) f → IsOfName f
of_name name points true f one = absurd one
of_name name points false f (inl e) = (name, sym (ap (λ (x : Finding). x.matter) e))
of_name name points false f (inr none) = absurd none

names_found : (name : ℕ → Name) (points : List Point) (n : ℕ) (f : Finding) → IsOneOf (names_before name points n) f → IsOfName f
names_found name points zero f one = absurd one
names_found name points (suc n) f one =
    in_either IsOfName (names_before name points n) (name_findings (name n) points) (names_found name points n)
    (of_name (name n) points (is_read (name n) points)) f one

abbrev Either : List Point → List PointFacts → Finding → Type 0
Either points ps f = FoundAt points ps f ⊎ IsOfName f

-- each finding is one or the other
pub found : (g : Graph) (ps : List PointFacts) (f : Finding) → May (findings_of g ps) f → Either g.points ps f
found g ps f may =
    in_either (Either g.points ps) (findings_before g.points ps (length g.points) ++ names_before Number g.points g.numbers)
    (names_before Flag g.points g.flags)
    (in_either (Either g.points ps) (findings_before g.points ps (length g.points)) (names_before Number g.points g.numbers)
    (λ x m. inl (found_before g.points ps (length g.points) x m)) (λ x m. inr (names_found Number g.points g.numbers x m)))
    (λ x m. inr (names_found Flag g.points g.flags x m)) f may.one

-- what is found at a point is among the findings
at_point : (points : List Point) (ps : List PointFacts) (at : ℕ) (place : Point) (p : PointFacts) (m : Matter) → slice_get points at ≡ Some place
    → slice_get ps at ≡ Some p → matter_of place.action p.facts ≡ Some m
    → IsOneOf (findings_at at (slice_get points at) (slice_get ps at)) (record { point = Some at; matter = m })
at_point points ps at place p m here known is =
    subst (λ l. IsOneOf l (record { point = Some at; matter = m }))
    (sym (ap (findings_at at (slice_get points at)) known ∙ ap (λ o. findings_at at o (Some p)) here ∙ ap (finding_if at) is)) (inl refl)

before_all : (points : List Point) (ps : List PointFacts) (n at : ℕ) → at < n → (f : Finding)
    → IsOneOf (findings_at at (slice_get points at) (slice_get ps at)) f → IsOneOf (findings_before points ps n) f
before_all points ps zero at lt f one = absurd (omega (arith, lt))
before_all points ps (suc n) at lt f one =
    elim (cases_lt at n) [
      | inl less ↦ in_front (findings_before points ps n) (findings_at n (slice_get points n) (slice_get ps n)) f (before_all points ps n at less f one)
      | inr more ↦
          let same : at ≡ n = omega (arith, lt, more) in
          behind (findings_before points ps n) (findings_at n (slice_get points n) (slice_get ps n)) f
          (subst (λ i. IsOneOf (findings_at i (slice_get points i) (slice_get ps i)) f) same one)
    ]

pub is_found : (g : Graph) (ps : List PointFacts) (at : ℕ) (place : Point) (p : PointFacts) (m : Matter) → slice_get g.points at ≡ Some place
    → slice_get ps at ≡ Some p → matter_of place.action p.facts ≡ Some m → May (findings_of g ps) (record { point = Some at; matter = m })
is_found g ps at place p m here known is =
    let f : Finding = record { point = Some at; matter = m } in
    let points = findings_before g.points ps (length g.points) in
    let numbers = names_before Number g.points g.numbers in
    record {
      one = in_front (points ++ numbers) (names_before Flag g.points g.flags) f (in_front points numbers f
          (before_all g.points ps (length g.points) at (slice_get_within g.points at place here) f (at_point g.points ps at place p m here known is)));
    }

-- at the points, of the variables and of the flags
pub all_found : (g : Graph) (ps : List PointFacts) (none points numbers flags : List Finding) → none ≡ []
    → points ≡ none ++ findings_before g.points ps (length g.points) → numbers ≡ points ++ names_before Number g.points g.numbers
    → flags ≡ numbers ++ names_before Flag g.points g.flags → flags ≡ findings_of g ps
all_found g ps none points numbers flags e f h i =
    i ∙ ap (λ (l : List Finding). l ++ names_before Flag g.points g.flags)
    (h ∙ ap (λ (l : List Finding). l ++ names_before Number g.points g.numbers)
    (f ∙ ap (λ (l : List Finding). l ++ findings_before g.points ps (length g.points)) e))
