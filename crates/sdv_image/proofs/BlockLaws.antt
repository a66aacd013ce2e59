-- Blocks of an image that are read and written one after another.
use Rattle.std.proofs.Common.{◌≡◌, ◌⊎◌, ℕ, zero, suc, ◌<◌, ◌≤◌, ◌+◌, ◌-◌, inl, inr, refl, sym, ap, subst, ◌∙◌, List, [], ◌∷◌, ◌++◌, length, take, drop, Option, Some, None, arith, add-one, get_or, set, replicate, length-append, length-take-le}
use Rattle.std.proofs.lemmas.List.{drop-drop, drop-take, take_more_set, length-replicate}
use Rattle.std.proofs.Math.Seq.{take-add, take-suc}
use Rattle.sdv_card.specs.Card.{Block}
use Rattle.sdv_image.specs.Images.{Shown, OnlyThese, OnlyAt, ErasedUpTo, zeros}

-- no blocks are shown by any image
pub shown_none : (first : ℕ) (b : Option (List Block)) → Shown first [] b
shown_none first None = tt
shown_none first (Some all) = refl

pub shown_more : (first : ℕ) (xs : List Block) (x : Block) (b : Option (List Block)) → Shown first xs b → Shown (first + length xs) (x ∷ []) b →
    Shown first (xs ++ x ∷ []) b
shown_more first xs x None h k = tt
shown_more first xs x (Some all) h k =
    ap (λ l. l ++ x ∷ []) h ∙ (ap (λ l. take (length xs) (drop first all) ++ l) k
    ∙ (ap (λ l. take (length xs) (drop first all) ++ take 1 l) (sym (drop-drop (length xs) first all))
    ∙ (sym (take-add (length xs) 1 (drop first all)) ∙ ap (λ n. take n (drop first all)) (sym (length-append xs (x ∷ []))))))

-- A WRITE BEHIND what was written

pub kept_front : {A : Type 0} → (first n : ℕ) (old new : List A) → take (first + n) old ≡ take (first + n) new →
    take n (drop first old) ≡ take n (drop first new)
kept_front first n old new e = sym (drop-take first n old) ∙ (ap (λ l. drop first l) e ∙ drop-take first n new)

pub shown_kept : (first count : ℕ) (xs : List Block) (b c : Option (List Block)) → OnlyAt (first + length xs) count b c → Shown first xs b → Shown first xs c
shown_kept first count xs None c o h = subst (λ v. Shown first xs v) o tt
shown_kept first count xs (Some old) c o h = subst (λ v. Shown first xs v) o.1 (h ∙ kept_front first (length xs) old o.0 o.2.below)

pub only_none : (first count : ℕ) (b : Option (List Block)) → OnlyAt first count b b
only_none first count None = refl
only_none first count (Some all) = (all, refl, record { size = refl; below = refl; above = refl })

-- fronts of equal fronts, and backs of equal backs
take_prefix : {A : Type 0} → (m n : ℕ) (l : List A) → m ≤ n → take m (take n l) ≡ take m l
take_prefix zero n l h = refl
take_prefix (suc m) zero l h = absurd (omega (arith, h))
take_prefix (suc m) (suc n) [] h = refl
take_prefix (suc m) (suc n) (x ∷ l) h = ap (λ t. x ∷ t) (take_prefix m n l (omega (arith, h)))

pub shorter : {A : Type 0} → (m n : ℕ) (old new : List A) → m ≤ n → take n old ≡ take n new → take m old ≡ take m new
shorter m n old new h e = sym (take_prefix m n old h) ∙ (ap (λ l. take m l) e ∙ take_prefix m n new h)

further : (m n : ℕ) (old new : List Block) → n ≤ m → drop n old ≡ drop n new → drop m old ≡ drop m new
further m n old new h e =
    let same : n + (m - n) ≡ m = omega (arith, h) in
    subst (λ k. drop k old ≡ drop k new) same (sym (drop-drop (m - n) n old) ∙ (ap (λ l. drop (m - n) l) e ∙ drop-drop (m - n) n new))

only_both : (first count place : ℕ) (a b c : List Block) → first ≤ place → place + 1 ≤ first + count → OnlyThese first count a b → OnlyThese place 1 b c →
    OnlyThese first count a c
only_both first count place a b c l r x y = record {
  size = x.size ∙ y.size;
  below = x.below ∙ shorter first place b c l y.below;
  above = x.above ∙ further (first + count) (place + 1) b c r y.above;
}

-- one more write, within
pub only_more : (first count place : ℕ) (a b c : Option (List Block)) → first ≤ place → place + 1 ≤ first + count → OnlyAt first count a b →
    OnlyAt place 1 b c → OnlyAt first count a c
only_more first count place None b c l r x y = subst (λ v. OnlyAt place 1 v c) (sym x) y
only_more first count place (Some a) b c l r x y = go (subst (λ v. OnlyAt place 1 v c) (sym x.1) y)
  where
    go : OnlyAt place 1 (Some x.0) c → OnlyAt first count (Some a) c
    go y = (y.0, y.1, only_both first count place a x.0 y.0 l r x.2 y.2)

-- more blocks than those may be others
pub only_wider : (first count more : ℕ) (a b : Option (List Block)) → count ≤ more → OnlyAt first count a b → OnlyAt first more a b
only_wider first count more None b h o = o
only_wider first count more (Some a) b h o = (
  o.0,
  o.1,
  record { size = o.2.size; below = o.2.below; above = further (first + more) (first + count) a o.0 (omega (arith, h)) o.2.above },
)

-- ONE TURN of a loop over blocks

pub read_more : (first i : ℕ) (blocks : List Block) (b : Block) (shown now : Option (List Block)) → i < length blocks → Shown first (take i blocks) shown →
    now ≡ shown → Shown (first + i) (b ∷ []) now →
    Shown first (take (i + 1) (set blocks i b)) shown
read_more first i blocks b shown now within before same k =
    subst (λ l. Shown first l shown) (sym (take_more_set blocks i b within))
    (shown_more first (take i blocks) b shown before
    (subst (λ n. Shown (first + n) (b ∷ []) shown) (sym (length-take-le i blocks (omega (arith, within)))) (subst (λ v. Shown (first + i) (b ∷ []) v) same k)))

pub write_more : (first i : ℕ) (blocks : List Block) (b : Block) (old new : Option (List Block)) → i < length blocks → b ≡ get_or blocks i [] →
    Shown first (take i blocks) old → OnlyAt (first + i) 1 old new →
    Shown (first + i) (b ∷ []) new → Shown first (take (i + 1) blocks) new
write_more first i blocks b old new within is before only k =
    let n : length (take i blocks) ≡ i = length-take-le i blocks (omega (arith, within)) in
    let one : take (i + 1) blocks ≡ take i blocks ++ b ∷ [] =
    ap (λ m. take m blocks) (add-one i) ∙ (take-suc blocks i [] within ∙ ap (λ x. take i blocks ++ x ∷ []) (sym is)) in
    subst (λ l. Shown first l new) (sym one)
    (shown_more first (take i blocks) b new
    (shown_kept first 1 (take i blocks) old new (subst (λ m. OnlyAt (first + m) 1 old new) (sym n) only) before)
    (subst (λ m. Shown (first + m) (b ∷ []) new) (sym n) k))

-- ZEROS

length-zeros : (n : ℕ) → length (zeros n) ≡ n
unfolding zeros
length-zeros n = length-replicate n (replicate 512 0)

more_zeros : (n : ℕ) → zeros (n + 1) ≡ zeros n ++ replicate 512 0 ∷ []
unfolding zeros
more_zeros n = replicate_more n (replicate 512 0)
  where
    replicate_more : (n : ℕ) (x : Block) → replicate (n + 1) x ≡ replicate n x ++ x ∷ []
    replicate_more n x = ap (λ m. replicate m x) (add-one n) ∙ go n
      where
        go : (n : ℕ) → replicate (suc n) x ≡ replicate n x ++ x ∷ []
        go zero = refl
        go (suc n) = ap (λ l. x ∷ l) (go n)

pub erase_none : (first : ℕ) (b : Option (List Block)) → Shown first (zeros (first - first)) b
unfolding zeros
erase_none first b = let none : first - first ≡ 0 = omega arith in subst (λ n. Shown first (zeros n) b) (sym none) (shown_none first b)

pub erase_more : (first place : ℕ) (old new : Option (List Block)) → first ≤ place → Shown first (zeros (place - first)) old → OnlyAt place 1 old new →
    Shown place (replicate 512 0 ∷ []) new →
    Shown first (zeros (place + 1 - first)) new
erase_more first place old new h before only k =
    let n : place ≡ first + length (zeros (place - first)) = let l = length-zeros (place - first) in omega (arith, h, l) in
    let m : place - first + 1 ≡ place + 1 - first = omega (arith, h) in
    subst (λ v. Shown first (zeros v) new) m (subst (λ l. Shown first l new) (sym (more_zeros (place - first)))
    (shown_more first (zeros (place - first)) (replicate 512 0) new
    (shown_kept first 1 (zeros (place - first)) old new (subst (λ v. OnlyAt v 1 old new) n only) before)
    (subst (λ v. Shown v (replicate 512 0 ∷ []) new) n k)))

-- the write at a place failed
pub erase_cut : (first end place : ℕ) (start old new : Option (List Block)) → first ≤ place → place < end → Shown first (zeros (place - first)) old →
    OnlyAt first (place - first) start old → OnlyAt place 1 old new → ErasedUpTo first end start new
erase_cut first end place start old new h below before others only =
    let n : place ≡ first + length (zeros (place - first)) = let l = length-zeros (place - first) in omega (arith, h, l) in
    record {
      place = place;
      from = h;
      below = below;
      zeroed = shown_kept first 1 (zeros (place - first)) old new (subst (λ v. OnlyAt v 1 old new) n only) before;
      others = only_more first (place - first + 1) place start old new h (omega (arith, h))
          (only_wider first (place - first) (place - first + 1) start old (omega arith) others) only;
    }

le-or-lt : (a b : ℕ) → (a ≤ b) ⊎ (b < a)
le-or-lt zero b = inl (omega arith)
le-or-lt (suc a) zero = inr (omega arith)
le-or-lt (suc a) (suc b) = elim (le-or-lt a b) [ inl h ↦ inl (omega (arith, h)) | inr h ↦ inr (omega (arith, h)) ]

-- where the loop ends
pub erased_count : (first end place : ℕ) → end ≤ place → (first ≤ end → place ≤ end) → (end < first → place ≡ first) → place - first ≡ end - first
erased_count first end place low high none = elim (le-or-lt first end) [ inl l ↦ reached (high l) | inr l ↦ empty l (none l) ]
  where
    reached : place ≤ end → place - first ≡ end - first
    reached h = omega (arith, h, low)

    empty : end < first → place ≡ first → place - first ≡ end - first
    empty l e = omega (arith, l, e)
