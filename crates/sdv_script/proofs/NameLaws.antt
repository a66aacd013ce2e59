-- The places of names.
use Rattle.std.proofs.Common.{◌≡◌, ℕ, suc, ◌+◌, ◌<◌, ◌≤◌, true, false, List, [], ◌∷◌, length, drop, get_or, refl, sym, ◌∙◌, arith, cond, add-one, drop-cons, Some, None}
use Rattle.std.proofs.Math.Seq.{drop-length}
use Rattle.std.proofs.lemmas.List.{length-map, get_or-map}
use Rattle.std.specs.Borrow.{Bor}
use Rattle.sdv_script.specs.Place.{texts}
use Rattle.std.specs.Str.{bytes_eq}
use Rattle.sdv_script.specs.Rules.{place_from}

from_cons : (k : ℕ) (name : List ℕ) (all : List (List ℕ)) (n : List ℕ) (ns : List (List ℕ)) → all ≡ n ∷ ns
    → place_from k name all ≡ cond (bytes_eq n name) (Some k) (place_from (suc k) name ns)
unfolding place_from
from_cons k name all n ns e = rw e refl

pub place_here : (i : ℕ) (name : List ℕ) (names : List (List ℕ)) → i < length names → bytes_eq (get_or names i []) name ≡ true
    → place_from i name (drop i names) ≡ Some i
place_here i name names lt e = from_cons i name (drop i names) (get_or names i []) (drop (suc i) names) (drop-cons names i [] lt) ∙ rw e refl

pub place_next : (i : ℕ) (name : List ℕ) (names : List (List ℕ)) → i < length names → bytes_eq (get_or names i []) name ≡ false
    → place_from (i + 1) name (drop (i + 1) names) ≡ place_from i name (drop i names)
place_next i name names lt e = rw add-one (sym (from_cons i name (drop i names) (get_or names i []) (drop (suc i) names) (drop-cons names i [] lt) ∙ rw e refl))

pub place_end : (i : ℕ) (name : List ℕ) (names : List (List ℕ)) → i ≡ length names → place_from i name (drop i names) ≡ None
unfolding place_from
place_end i name names e = rw (e, drop-length names) refl

-- THE SAME of names that stand in memory

pub length-texts : (names : List (Bor (List ℕ))) → length (texts names) ≡ length names
length-texts names = length-map names (λ n. n.now)

text_at : (i : ℕ) (names : List (Bor (List ℕ))) (d : Bor (List ℕ)) → i < length names → get_or (texts names) i [] ≡ (get_or names i d).now
text_at i names d lt = get_or-map (λ n. n.now) names i d [] lt

pub text_here : (i : ℕ) (name : List ℕ) (names : List (Bor (List ℕ))) (d : Bor (List ℕ)) → i < length names → bytes_eq (get_or names i d).now name ≡ true
    → place_from i name (drop i (texts names)) ≡ Some i
text_here i name names d lt e =
    place_here i name (texts names) (omega (arith, length-texts names)) (rw (text_at i names d lt) e)

pub text_next : (i : ℕ) (name : List ℕ) (names : List (Bor (List ℕ))) (d : Bor (List ℕ)) → i < length names → bytes_eq (get_or names i d).now name ≡ false
    → place_from (i + 1) name (drop (i + 1) (texts names)) ≡ place_from i name (drop i (texts names))
text_next i name names d lt e =
    place_next i name (texts names) (omega (arith, length-texts names)) (rw (text_at i names d lt) e)

pub text_end : (i : ℕ) (name : List ℕ) (names : List (Bor (List ℕ))) → i ≤ length names → length names ≤ i → place_from i name (drop i (texts names)) ≡ None
text_end i name names le ge = place_end i name (texts names) (omega (arith, length-texts names))
