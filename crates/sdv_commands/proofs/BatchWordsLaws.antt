-- Words that write requests, three words each.
use Rattle.std.proofs.Common.{◌≡◌, ℕ, zero, suc, ◌+◌, ◌*◌, ◌/◌, ◌%◌, ◌<◌, refl, sym, subst, arith, List, [], ◌∷◌, ◌++◌, length, length-append, get_or, inl, inr}
use Rattle.std.specs.Prelude.{◌⊎◌}
use Rattle.sdv_block.specs.declared.request.Request.{Request as Blocks}
use Rattle.sdv_block.specs.declared.request.Request.TheVariants.{Read}
use Rattle.sdv_commands.specs.Batch.{Words, word, IsRequest, NoRequest, AreRequests}

-- the first words write these requests
pub record AreSoFar (words : Words) (rs : List Blocks) (i : ℕ) : Type 0 where
  pub size : length rs ≡ i
  pub each : (j : ℕ) → j < length rs → IsRequest (word words (3 * j)) (word words (3 * j + 1)) (word words (3 * j + 2)) (get_or rs j (Read 0 0))

pub none_so_far : (words : Words) → AreSoFar words [] 0
none_so_far words = record { size = refl; each = λ j lt. absurd (omega (arith, lt)) }

get_or-front : (rs : List Blocks) (r : Blocks) (j : ℕ) → j < length rs → get_or (rs ++ r ∷ []) j (Read 0 0) ≡ get_or rs j (Read 0 0)
get_or-front [] r j lt = absurd (omega (arith, lt))
get_or-front (x ∷ rs) r zero lt = refl
get_or-front (x ∷ rs) r (suc j) lt = get_or-front rs r j (omega (arith, lt))

get_or-last : (rs : List Blocks) (r : Blocks) (j : ℕ) → j ≡ length rs → get_or (rs ++ r ∷ []) j (Read 0 0) ≡ r
get_or-last [] r zero e = refl
get_or-last [] r (suc j) e = absurd (omega (arith, e))
get_or-last (x ∷ rs) r zero e = absurd (omega (arith, e))
get_or-last (x ∷ rs) r (suc j) e = get_or-last rs r j (omega (arith, e))

before_or_at : (j n : ℕ) → j < n + 1 → (j < n) ⊎ (j ≡ n)
before_or_at zero zero lt = inr refl
before_or_at zero (suc n) lt = inl (omega arith)
before_or_at (suc j) zero lt = absurd (omega (arith, lt))
before_or_at (suc j) (suc n) lt = go (before_or_at j n (omega (arith, lt)))
  where
    go : (j < n) ⊎ (j ≡ n) → (suc j < suc n) ⊎ (suc j ≡ suc n)
    go (inl l) = inl (omega (arith, l))
    go (inr e) = inr (omega (arith, e))

pub one_more : (words : Words) (rs : List Blocks) (i : ℕ) (r : Blocks) → AreSoFar words rs i
    → IsRequest (word words (3 * i)) (word words (3 * i + 1)) (word words (3 * i + 2)) r →
    AreSoFar words (rs ++ r ∷ []) (i + 1)
one_more words rs i r far is = record {
  size = let n = length-append rs (r ∷ []) in let size = far.size in omega (arith, n, size);
  each = λ j lt. go j (before_or_at j (length rs) (let n = length-append rs (r ∷ []) in omega (arith, n, lt)));
}
  where
    go : (j : ℕ) → (j < length rs) ⊎ (j ≡ length rs) → IsRequest (word words (3 * j)) (word words (3 * j + 1)) (word words (3 * j + 2))
        (get_or (rs ++ r ∷ []) j (Read 0 0))
    go j (inl lt) =
        subst (λ b. IsRequest (word words (3 * j)) (word words (3 * j + 1)) (word words (3 * j + 2)) b) (sym (get_or-front rs r j lt)) (far.each j lt)
    go j (inr e) =
        let at : i ≡ j = (let size = far.size in omega (arith, size, e)) in
        subst (λ b. IsRequest (word words (3 * j)) (word words (3 * j + 1)) (word words (3 * j + 2)) b) (sym (get_or-last rs r j e))
        (subst (λ j. IsRequest (word words (3 * j)) (word words (3 * j + 1)) (word words (3 * j + 2)) r) at is)

pub all_so_far : (words : Words) (rs : List Blocks) (i : ℕ) → AreSoFar words rs i → length words % 3 ≡ 0 → length words / 3 ≡ i → AreRequests words rs
all_so_far words rs i far even end = record { size = (let size = far.size in omega (arith, size, even, end)); each = far.each }

-- three words for each
pub uneven : (words : Words) → (length words % 3 ≡ 0 → ⊥) → (rs : List Blocks) → AreRequests words rs → ⊥
uneven words odd rs are = odd (let size = are.size in omega (arith, size))

-- three words that write none
pub none_here : (words : Words) (i : ℕ) → i < length words / 3 → NoRequest (word words (3 * i)) (word words (3 * i + 1)) (word words (3 * i + 2))
    → (rs : List Blocks) → AreRequests words rs → ⊥
none_here words i lt none rs are = none (get_or rs i (Read 0 0)) (are.each i (let size = are.size in omega (arith, size, lt)))
