-- The cards of a list of matches, one match more.
use Rattle.std.proofs.Common.{◌≡◌, ◌<◌, ◌+◌, ◌∙◌, ℕ, refl, ap, List, [], ◌∷◌, ◌++◌, length, take, get_or, append_assoc, Bool, false}
use Rattle.std.proofs.lemmas.List.{append-nil, take_more}
use Rattle.sdv_card.specs.declared.fields.Fields.{Fields}
use Rattle.sdv_card.specs.Lists.{each}
use Rattle.sdv_card.specs.Outcomes.{with_presets, with_matches}

each-append : {A B : Type 0} (f : A → List B) (xs ys : List A) → each (xs ++ ys) f ≡ each xs f ++ each ys f
each-append f [] ys = refl
each-append f (x ∷ xs) ys = rw (each-append f xs ys) (rw append_assoc refl)

pub with_matches-more : (t : Fields) (matches : List Bool) (presets : List ℕ) (i : ℕ) → i < length matches →
    with_matches t (take (i + 1) matches) presets
    ≡ with_matches t (take i matches) presets ++ with_presets (record t { matched = get_or matches i false }) presets
with_matches-more t matches presets i below =
    ap (λ v. with_matches t v presets) (take_more matches i false below)
    ∙ (each-append _ (take i matches) (get_or matches i false ∷ []) ∙ ap (λ v. with_matches t (take i matches) presets ++ v) (append-nil _))
