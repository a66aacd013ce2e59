-- Points that name sets of a table, and what becomes of them while the table grows.
use Rattle.std.proofs.Common.{◌≡◌, ℕ, zero, suc, List, [], ◌∷◌, ◌++◌, All, Contains, get_or, Some, None, refl, sym, ap, ◌∙◌, subst, arith}
use Rattle.std.specs.Prelude.{slice_get, option_map}
use Rattle.std.proofs.lemmas.List.{get_or_default, map-append}
use Rattle.std.proofs.lemmas.List.Elements.{All-map, All-append}
use Rattle.std.proofs.lemmas.List.Sums.{fold-append}
use Rattle.std.proofs.lemmas.Option.{slice_get-map, get_or_from_slice_get, slice_get_within}
use Rattle.sdv_card.specs.declared.shape.Shape.{Shape}
use Rattle.sdv_facts.specs.declared.certificate.PointFacts.{PointFacts as SharedPoint}
use Rattle.sdv_facts.specs.SharedSets.{members, with_set, Interned}
use Rattle.sdv_facts.specs.declared.certificate.Version.{Version}
use Rattle.sdv_facts.specs.Shared.{point_in, points_in, certificate_in, sets_of, IsNamed, IsShared, HasSetsOf}
use Rattle.sdv_facts.specs.Facts.{PointFacts, Certificate}
use Rattle.sdv_facts.proofs.InternLaws.{members_stay, members_new, not_fewer, set_there}

-- IN THEIR TABLE

-- the shapes of each point are a set of the table
pub has_sets : (sets : List (List Shape)) (ps : List SharedPoint) → All (IsNamed sets) ps → HasSetsOf sets (points_in sets ps)
has_sets sets ps named = All-map (λ p. Contains sets p.facts.shapes) (point_in sets) ps (λ k d lt.
    let p = get_or ps k d in
    (p.facts.set, named k d lt, get_or_default sets p.facts.set _ [] (named k d lt)))

-- the table is that of the points that a certificate is seen to have
pub table_seen : (sets : List (List Shape)) (version : Version) (ps : List SharedPoint) (seen : Certificate) → IsShared sets ps
    → certificate_in sets version ps ≡ seen → sets ≡ sets_of seen.points
table_seen sets version ps seen shared view = shared.table ∙ ap (λ c. sets_of c.points) view

-- and in it they are seen so
pub points_seen : (sets : List (List Shape)) (version : Version) (ps shown : List SharedPoint) (seen : Certificate) → IsShared sets ps
    → certificate_in sets version ps ≡ seen → shown ≡ ps → points_in (sets_of seen.points) shown ≡ seen.points
points_seen sets version ps shown seen shared view is =
    ap (λ s. points_in s shown) (sym (table_seen sets version ps seen shared view)) ∙ ap (points_in sets) is ∙ ap (λ c. c.points) view

-- where each names a set
pub named_seen : (sets : List (List Shape)) (version : Version) (ps shown : List SharedPoint) (seen : Certificate) → IsShared sets ps
    → certificate_in sets version ps ≡ seen → shown ≡ ps → All (IsNamed (sets_of seen.points)) shown
named_seen sets version ps shown seen shared view is =
    subst (λ s. All (IsNamed s) shown) (table_seen sets version ps seen shared view) (subst (All (IsNamed sets)) (sym is) shared.named)

-- the point in a place
pub seen_there : (sets : List (List Shape)) (ps : List SharedPoint) (i : ℕ) (p : SharedPoint) → slice_get ps i ≡ Some p
    → slice_get (points_in sets ps) i ≡ Some (point_in sets p)
seen_there sets ps i p there = slice_get-map (point_in sets) ps i ∙ ap (option_map (point_in sets)) there

-- and none past the last
pub seen_nowhere : (sets : List (List Shape)) (ps : List SharedPoint) (i : ℕ) → slice_get ps i ≡ None → slice_get (points_in sets ps) i ≡ None
seen_nowhere sets ps i none = slice_get-map (point_in sets) ps i ∙ ap (option_map (point_in sets)) none

pub named_there : (sets : List (List Shape)) (ps : List SharedPoint) (i : ℕ) (p : SharedPoint) → All (IsNamed sets) ps → slice_get ps i ≡ Some p → IsNamed sets p
named_there sets ps i p named there =
    subst (IsNamed sets) (get_or_from_slice_get ps i p p there) (named i p (slice_get_within ps i p there))

-- WHILE THE TABLE GROWS

point_stays : (old new : List (List Shape)) (p : SharedPoint) → members new p.facts.set ≡ members old p.facts.set → point_in new p ≡ point_in old p
point_stays old new p e = ap (λ s. record { facts = record { shapes = s; numbers = p.facts.numbers }; base = p.base; turns = p.turns }) e

-- points keep their lists
pub points_stay : (old new : List (List Shape)) (shapes : List Shape) (place : ℕ) (ps : List SharedPoint) → Interned old shapes new place
    → All (IsNamed old) ps → points_in new ps ≡ points_in old ps
points_stay old new shapes place [] i h = refl
points_stay old new shapes place (p ∷ ps) i h =
    let e : point_in new p ≡ point_in old p = point_stays old new p (members_stay old new shapes place p.facts.set i (h 0 p (omega arith))) in
    let f : points_in new ps ≡ points_in old ps = points_stay old new shapes place ps i (λ k d lt. h (suc k) d (omega arith)) in
    cc

-- and with one point more, which the new name is given to
pub one_point_more : (old new : List (List Shape)) (shapes : List Shape) (place : ℕ) (ps : List SharedPoint) (p : SharedPoint) → Interned old shapes new place
    → All (IsNamed old) ps → points_in new (ps ++ p ∷ []) ≡ points_in old ps ++ point_in new p ∷ []
one_point_more old new shapes place ps p i h =
    map-append (point_in new) ps (p ∷ []) ∙ ap (λ v. v ++ point_in new p ∷ []) (points_stay old new shapes place ps i h)

-- each of them is named
pub all_named_more : (old new : List (List Shape)) (shapes : List Shape) (place : ℕ) (ps : List SharedPoint) (p : SharedPoint) → Interned old shapes new place
    → All (IsNamed old) ps → IsNamed new p → All (IsNamed new) (ps ++ p ∷ [])
all_named_more old new shapes place ps p i h n =
    let l = not_fewer old new shapes place i in
    All-append (IsNamed new) ps (p ∷ []) (λ k d lt. let m = h k d lt in omega (arith, l, m)) (λ k d lt. one k d lt)
  where
    one : All (IsNamed new) (p ∷ [])
    one zero d lt = n
    one (suc k) d lt = absurd (omega arith)

-- the table is that of the points
pub table_more : (old new : List (List Shape)) (shapes : List Shape) (ps : List SharedPoint) (p : SharedPoint) → Interned old shapes new p.facts.set
    → All (IsNamed old) ps → old ≡ sets_of (points_in old ps) → new ≡ sets_of (points_in new (ps ++ p ∷ []))
table_more old new shapes ps p i h e =
    let add : List (List Shape) → PointFacts → List (List Shape) = λ sets q. with_set sets q.facts.shapes in
    let seen : points_in new (ps ++ p ∷ []) ≡ points_in old ps ++ point_in new p ∷ [] = one_point_more old new shapes p.facts.set ps p i h in
    let more : sets_of (points_in new (ps ++ p ∷ [])) ≡ with_set (sets_of (points_in old ps)) (members new p.facts.set) =
    ap sets_of seen ∙ fold-append add [] (points_in old ps) (point_in new p ∷ []) in
    set_there old new shapes p.facts.set i
    ∙ ap (λ s. with_set s shapes) e
    ∙ ap (with_set (sets_of (points_in old ps))) (sym (members_new old new shapes p.facts.set i))
    ∙ sym more
