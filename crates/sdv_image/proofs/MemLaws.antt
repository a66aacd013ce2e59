-- Blocks that bytes hold one after another, where one of them is read or stored.
use Rattle.std.proofs.Common.{◌≡◌, ℕ, zero, suc, ◌<◌, ◌≤◌, ◌+◌, ◌-◌, ◌*◌, ◌/◌, refl, sym, ap, subst, ◌∙◌, List, [], ◌∷◌, length, take, drop, All, ◌++◌, append_assoc, length-append, arith, length-take-le, length-drop}
use Rattle.std.proofs.lemmas.List.{drop-drop}
use Rattle.std.proofs.lemmas.List.Elements.{All-nil, All-cons, All-take, All-drop}
use Rattle.std.proofs.Math.Seq.{take-append_seam, drop-append_seam}
use Rattle.sdv_card.specs.Card.{Block, IsByte, IsRegister, AreBlocks}
use Rattle.sdv_image.specs.Images.{OnlyThese}
use Rattle.sdv_image.specs.MemBlocks.{blocks_in}
use Rattle.sdv_image.proofs.BlockLaws.{shorter, kept_front}

pub length-blocks_in : (n : ℕ) (bytes : List ℕ) → length (blocks_in n bytes) ≡ n
length-blocks_in zero bytes = refl
length-blocks_in (suc n) bytes = ap (λ k. suc k) (length-blocks_in n (drop 512 bytes))

later : (place : ℕ) (bytes : List ℕ) → drop (place * 512) (drop 512 bytes) ≡ drop (suc place * 512) bytes
later place bytes = let e : 512 + place * 512 ≡ suc place * 512 = omega arith in drop-drop (place * 512) 512 bytes ∙ ap (λ k. drop k bytes) e

-- the block at a place
pub block_at : (place n : ℕ) (bytes : List ℕ) → place < n → take 1 (drop place (blocks_in n bytes)) ≡ take 512 (drop (place * 512) bytes) ∷ []
block_at place zero bytes h = absurd (omega (arith, h))
block_at zero (suc n) bytes h = ap (λ k. take 512 (drop k bytes) ∷ []) (zero_times)
  where
    zero_times : 0 ≡ 0 * 512
    zero_times = omega arith
block_at (suc place) (suc n) bytes h = block_at place n (drop 512 bytes) (omega (arith, h)) ∙ ap (λ l. take 512 l ∷ []) (later place bytes)

-- what stands before a place, and behind it
pub before : (place n : ℕ) (old new : List ℕ) → take (place * 512) old ≡ take (place * 512) new → take place (blocks_in n old) ≡ take place (blocks_in n new)
before zero n old new e = refl
before (suc place) zero old new e = refl
before (suc place) (suc n) old new e =
    let same : suc place * 512 ≡ 512 + place * 512 = omega arith in
    let e' : take (512 + place * 512) old ≡ take (512 + place * 512) new = subst (λ k. take k old ≡ take k new) same e in
    let first : take 512 old ≡ take 512 new = shorter 512 (512 + place * 512) old new (omega arith) e' in
    ap (λ (b : Block). b ∷ take place (blocks_in n (drop 512 old))) first
    ∙ ap (λ (l : List Block). take 512 new ∷ l) (before place n (drop 512 old) (drop 512 new) (kept_front 512 (place * 512) old new e'))

pub behind : (place n : ℕ) (old new : List ℕ) → drop (place * 512) old ≡ drop (place * 512) new → drop place (blocks_in n old) ≡ drop place (blocks_in n new)
behind zero n old new e = let z : 0 * 512 ≡ 0 = omega arith in ap (λ l. blocks_in n l) (subst (λ k. drop k old ≡ drop k new) z e)
behind (suc place) zero old new e = refl
behind (suc place) (suc n) old new e = behind place n (drop 512 old) (drop 512 new) (later place old ∙ (e ∙ sym (later place new)))

pub blocks_fit : (n : ℕ) (bytes : List ℕ) → n * 512 ≤ length bytes → All IsByte bytes → All (IsRegister 512) (blocks_in n bytes)
blocks_fit zero bytes h fit = All-nil _
blocks_fit (suc n) bytes h fit =
    let one : IsRegister 512 (take 512 bytes) = record { size = length-take-le 512 bytes (omega (arith, h)); bytes_fit = All-take IsByte 512 bytes fit } in
    All-cons (IsRegister 512) _ _ one
    (blocks_fit n (drop 512 bytes) (let l = length-drop 512 bytes in omega (arith, h, l)) (All-drop IsByte 512 bytes fit))

-- A BLOCK STORED between a front and a back
module _ (start : ℕ) (block old new : List ℕ) (size : length block ≡ 512) (room : start + 512 ≤ length old)
    (e : new ≡ take start old ++ block ++ drop (start + 512) old) where
  front_size : length (take start old) ≡ start
  front_size = length-take-le start old (omega (arith, room))

  both : new ≡ take start old ++ (block ++ drop (start + 512) old)
  both = e ∙ append_assoc (take start old) block (drop (start + 512) old)

  pub front_is : take start new ≡ take start old
  front_is = ap (λ l. take start l) both
      ∙ subst (λ k. take k (take start old ++ (block ++ drop (start + 512) old)) ≡ take start old) front_size
      (take-append_seam (take start old) (block ++ drop (start + 512) old))

  rest_is : drop start new ≡ block ++ drop (start + 512) old
  rest_is = ap (λ l. drop start l) both ∙ subst (λ k. drop k (take start old ++ (block ++ drop (start + 512) old)) ≡ block ++ drop (start + 512) old) front_size
      (drop-append_seam (take start old) (block ++ drop (start + 512) old))

  pub block_is : take 512 (drop start new) ≡ block
  block_is = ap (λ l. take 512 l) rest_is ∙ subst (λ k. take k (block ++ drop (start + 512) old) ≡ block) size (take-append_seam block (drop (start + 512) old))

  pub back_is : drop (start + 512) new ≡ drop (start + 512) old
  back_is = sym (drop-drop 512 start new)
      ∙ (ap (λ l. drop 512 l) rest_is
      ∙ subst (λ k. drop k (block ++ drop (start + 512) old) ≡ drop (start + 512) old) size (drop-append_seam block (drop (start + 512) old)))

  pub size_is : length new ≡ length old
  size_is = ap length e ∙ (length-append (take start old ++ block) (drop (start + 512) old)
      ∙ sizes (length-append (take start old) block) (length-drop (start + 512) old))
    where
      sizes : length (take start old ++ block) ≡ length (take start old) + length block → length (drop (start + 512) old) ≡ length old - (start + 512) →
          length (take start old ++ block) + length (drop (start + 512) old) ≡ length old
      sizes a b = let f = front_size in omega (arith, a, b, f, size, room)

pub only_stored : (place n : ℕ) (old new : List ℕ) → take (place * 512) new ≡ take (place * 512) old →
    drop (place * 512 + 512) new ≡ drop (place * 512 + 512) old → OnlyThese place 1 (blocks_in n old) (blocks_in n new)
only_stored place n old new low high = record {
  size = length-blocks_in n old ∙ sym (length-blocks_in n new);
  below = before place n old new (sym low);
  above = let e : place * 512 + 512 ≡ (place + 1) * 512 = omega arith in behind (place + 1) n old new (subst (λ k. drop k old ≡ drop k new) e (sym high));
}

pub all_fit : (bytes : List ℕ) → All IsByte bytes → AreBlocks (length bytes / 512) (blocks_in (length bytes / 512) bytes)
all_fit bytes fit = record { size = length-blocks_in (length bytes / 512) bytes; blocks_fit = blocks_fit (length bytes / 512) bytes (omega arith) fit }

-- A BLOCK WRITTEN into whole blocks, as a vector gives the slice back
module _ (place len : ℕ) (block items x : List ℕ) (size : length block ≡ 512) (within : place < length items / 512) (all : len ≡ length items)
    (e : x ≡ take (place * 512) items ++ block ++ drop (place * 512 + 512) items) where
  abbrev given_back : List ℕ
  given_back = take len (x ++ drop (length x) items)

  room : place * 512 + 512 ≤ length items
  room = omega (arith, within)

  same_size : length x ≡ length items
  same_size = size_is (place * 512) block items x size room e

  whole : given_back ≡ x
  whole = ap (λ k. take k (x ++ drop (length x) items)) (all ∙ sym same_size) ∙ take-append_seam x (drop (length x) items)

  pub written_law : ◌≡◌ {A = List Block} (block ∷ []) (take 1 (drop place (blocks_in (length given_back / 512) given_back)))
  written_law =
      subst (λ l. ◌≡◌ {A = List Block} (block ∷ []) (take 1 (drop place (blocks_in (length l / 512) l)))) (sym whole)
      (ap (λ (b : Block). b ∷ []) (sym (block_is (place * 512) block items x size room e))
      ∙ sym (block_at place (length x / 512) x (subst (λ k. place < k / 512) (sym same_size) within)))

  pub others_law : OnlyThese place 1 (blocks_in (length items / 512) items) (blocks_in (length given_back / 512) given_back)
  others_law =
      subst (λ l. OnlyThese place 1 (blocks_in (length items / 512) items) (blocks_in (length l / 512) l)) (sym whole)
      (subst (λ k. OnlyThese place 1 (blocks_in (length items / 512) items) (blocks_in (k / 512) x)) (sym same_size)
      (only_stored place (length items / 512) items x (front_is (place * 512) block items x size room e) (back_is (place * 512) block items x size room e)))

  pub fit_law : All IsByte x → AreBlocks (length given_back / 512) (blocks_in (length given_back / 512) given_back)
  fit_law fit = subst (λ l. AreBlocks (length l / 512) (blocks_in (length l / 512) l)) (sym whole) (all_fit x fit)
