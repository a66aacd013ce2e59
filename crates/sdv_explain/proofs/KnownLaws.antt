-- What is known of a point, read from the points of a certificate.
use Rattle.std.proofs.Common.{◌≡◌, ℕ, List, Option, Some, None, length, refl, ap, sym, ◌∙◌, slice_get}
use Rattle.std.specs.Borrow.{Bor}
use Rattle.std.specs.Slice.{IsItemAt}
use Rattle.std.proofs.lemmas.Option.{slice_get_past, slice_get_read}
use Rattle.sdv_card.specs.declared.shape.Shape.{Shape}
use Rattle.sdv_facts.specs.declared.certificate.PointFacts.{PointFacts as SharedPoint}
use Rattle.sdv_facts.specs.Facts.{PointFacts, facts_with}
use Rattle.sdv_facts.specs.Shared.{point_in, points_in}
use Rattle.sdv_facts.specs.SharedSets.{members}
use Rattle.sdv_facts.proofs.SharedLaws.{seen_nowhere, seen_there}
use Rattle.sdv_explain.specs.declared.known.Known.{Known}
use Rattle.sdv_explain.specs.Known.{IsKnownAt}

-- the element that is lent is the one in the place
pub item_there : {X : Type 0} (xs : List X) (i : ℕ) (r : Option (Bor X)) (b : Bor X) → IsItemAt xs i r → r ≡ Some b
    → slice_get xs i ≡ Some b.now
item_there xs i None b h e = absurd (cc)
item_there xs i (Some c) b h e =
    let same : c ≡ b = cc in
    slice_get_read xs (length xs) i c.now refl h.3.0 h.1 ∙ ap (λ (x : Bor _). Some x.now) same

-- and none is lent past the last
pub none_there : {X : Type 0} (xs : List X) (i : ℕ) (r : Option (Bor X)) → IsItemAt xs i r → r ≡ None → slice_get xs i ≡ None
none_there xs i None h e = slice_get_past xs i h.3
none_there xs i (Some c) h e = absurd (cc)

-- the point that a certificate has there, with the members of its set
pub known_there : (sets : List (List Shape)) (qs : List SharedPoint) (ps : List PointFacts) (point : ℕ) (q : SharedPoint) (here : Known)
    → points_in sets qs ≡ ps → slice_get qs point ≡ Some q
    → here.shapes.now ≡ members sets q.facts.set → here.numbers.now ≡ q.facts.numbers → IsKnownAt ps point here
known_there sets qs ps point q here same there shapes numbers = record {
  facts = point_in sets q;
  there = ap (λ l. slice_get l point) (sym same) ∙ seen_there sets qs point q there;
  same = sym (ap (λ l. facts_with l here.numbers.now) shapes ∙ ap (facts_with (members sets q.facts.set)) numbers);
}

-- or it has none
pub nothing_there : (sets : List (List Shape)) (qs : List SharedPoint) (ps : List PointFacts) (point : ℕ) → points_in sets qs ≡ ps
    → slice_get qs point ≡ None → slice_get ps point ≡ None
nothing_there sets qs ps point same none = ap (λ l. slice_get l point) (sym same) ∙ seen_nowhere sets qs point none
