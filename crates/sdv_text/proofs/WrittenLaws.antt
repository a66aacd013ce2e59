-- Bytes that a writer is known to hold: one text after another.
use Rattle.std.proofs.Common.{◌≡◌, ℕ, suc, ◌+◌, ◌-◌, ◌≤◌, ◌<◌, List, [], ◌∷◌, ◌++◌, length, Option, Some, None, take, drop, sym, ap, ◌∙◌, append_assoc, arith, length-drop, length-append, subst, get_or, drop-cons, flat_map}
use Rattle.std.proofs.lemmas.List.{append-nil, take_all, take-append-drop, take_more}
use Rattle.std.proofs.lemmas.List.Concat.{flat_map-append, flat_map-cons}
use Rattle.std.proofs.Common.{Result, Ok, Err}
use Rattle.std.specs.Io.KnownBytes.{Appends}
use Rattle.sdv_text.specs.Written.{AppendsPart, Writes}

-- nothing
pub appends_none : (known : Option (List ℕ)) → Appends known known []
appends_none None = tt
appends_none (Some xs) = sym (append-nil xs)

-- a text, and then one more
pub appends_more : (old mid new : Option (List ℕ)) (a b : List ℕ) → Appends old mid a → Appends mid new b → Appends old new (a ++ b)
appends_more None mid new a b p q = tt
appends_more (Some xs) None new a b p q = absurd p
appends_more (Some xs) (Some ys) None a b p q = absurd q
appends_more (Some xs) (Some ys) (Some zs) a b p q = q ∙ ap (λ l. l ++ b) p ∙ append_assoc xs a b

-- a text, and then a part of one more
pub part_after : (old mid new : Option (List ℕ)) (a b : List ℕ) → Appends old mid a → AppendsPart mid new b → AppendsPart old new (a ++ b)
part_after old mid new a b p q = (a ++ q.0, q.1, ap (λ l. a ++ l) q.2 ∙ sym (append_assoc a q.0 q.1), q.3, appends_more old mid new a q.0 p q.4)

-- a part of a text is a part of a longer one
pub part_before : (old new : Option (List ℕ)) (a b : List ℕ) → AppendsPart old new a → AppendsPart old new (a ++ b)
part_before old new a b p =
    let longer : 0 < length (p.1 ++ b) = omega (arith, p.3, length-append p.1 b) in
    (p.0, p.1 ++ b, ap (λ l. l ++ b) p.2 ∙ append_assoc p.0 p.1 b, longer, p.4)

-- a text, and then one more, or a part of it
pub then_more : {E : Type 0} (r : Result (Unit {0}) E) (old mid new : Option (List ℕ)) (a b : List ℕ) → Appends old mid a → Writes mid new r b
    → Writes old new r (a ++ b)
then_more (Ok x) old mid new a b p q = appends_more old mid new a b p q
then_more (Err f) old mid new a b p q = part_after old mid new a b p q

-- bytes go over from what is left to what is written
pub rest_split : (n : ℕ) (bs w rest : List ℕ) → n ≤ length rest → bs ≡ w ++ rest → bs ≡ (w ++ take n rest) ++ take (length rest - n) (drop n rest)
rest_split n bs w rest le e =
    let all : take (length rest - n) (drop n rest) ≡ drop n rest = take_all (length rest - n) (drop n rest) (omega (arith, length-drop n rest)) in
    e ∙ ap (λ l. w ++ l) (sym (take-append-drop n rest) ∙ ap (λ l. take n rest ++ l) (sym all))
    ∙ sym (append_assoc w (take n rest) (take (length rest - n) (drop n rest)))

-- TEXTS one after another: those before a place, that at the place, and those after it

module _ {X : Type 0} (text : X → List ℕ) where
  pub texts_more : (xs : List X) (i : ℕ) (d : X) → i < length xs → flat_map text (take (i + 1) xs) ≡ flat_map text (take i xs) ++ text (get_or xs i d)
  texts_more xs i d lt =
      ap (flat_map text) (take_more xs i d lt)
      ∙ flat_map-append text (take i xs) (get_or xs i d ∷ [])
      ∙ ap (λ l. flat_map text (take i xs) ++ l) (flat_map-cons text (get_or xs i d) [] ∙ append-nil (text (get_or xs i d)))

  pub texts_split : (xs : List X) (i : ℕ) (d : X) → i < length xs
      → flat_map text xs ≡ flat_map text (take i xs) ++ (text (get_or xs i d) ++ flat_map text (drop (suc i) xs))
  texts_split xs i d lt =
      ap (flat_map text) (sym (take-append-drop i xs) ∙ ap (λ l. take i xs ++ l) (drop-cons xs i d lt))
      ∙ flat_map-append text (take i xs) (get_or xs i d ∷ drop (suc i) xs)
      ∙ ap (λ l. flat_map text (take i xs) ++ l) (flat_map-cons text (get_or xs i d) (drop (suc i) xs))

  pub text_written : (old mid new : Option (List ℕ)) (xs : List X) (i : ℕ) (d : X) → i < length xs → Appends old mid (flat_map text (take i xs))
      → Appends mid new (text (get_or xs i d)) → Appends old new (flat_map text (take (i + 1) xs))
  text_written old mid new xs i d lt p q =
      subst (λ (l : List ℕ). Appends old new l) (sym (texts_more xs i d lt)) (appends_more old mid new _ _ p q)

  pub text_failed : (old mid new : Option (List ℕ)) (xs : List X) (i : ℕ) (d : X) → i < length xs → Appends old mid (flat_map text (take i xs))
      → AppendsPart mid new (text (get_or xs i d)) → AppendsPart old new (flat_map text xs)
  text_failed old mid new xs i d lt p q =
      subst (λ (l : List ℕ). AppendsPart old new l) (sym (texts_split xs i d lt))
      (part_after old mid new (flat_map text (take i xs)) (text (get_or xs i d) ++ flat_map text (drop (suc i) xs)) p
      (part_before mid new (text (get_or xs i d)) (flat_map text (drop (suc i) xs)) q))
