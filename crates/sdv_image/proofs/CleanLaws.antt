-- Buffers that are empty, or have what the file has: the image shows the file.
use Rattle.std.proofs.Common.{◌≡◌, ℕ, zero, suc, ◌<◌, ◌+◌, inl, inr, refl, sym, ap, subst, ◌∙◌, List, [], ◌∷◌, length, get_or, set, replicate, Option, Some, None, Bool, cond, All, arith}
use Rattle.std.proofs.lemmas.List.{ext_get_or, length-replicate}
use Rattle.std.proofs.lemmas.List.Elements.{All-replicate}
use Rattle.std.proofs.lemmas.Bool.{cases_eq}
use Rattle.sdv_card.specs.Card.{Block, IsByte, IsRegister}
use Rattle.sdv_image.specs.Images.{AreSized}
use Rattle.sdv_image.specs.declared.buffer.Held.TheVariants.{Changed}
use Rattle.sdv_image.specs.declared.buffer.Buffer.{Buffer}
use Rattle.sdv_image.specs.Buffers.{place_of, no_buffer, buffer_at, block_shown, blocks_from, shown_over, written_back, HasPlace, AreSound, IsUnwritten}
use Rattle.sdv_image.proofs.ShownLaws.{place_cases, same_place, other_place, length-blocks_from, at_place}
use Rattle.sdv_image.proofs.SoundLaws.{set_beside}
use Rattle.sdv_image.proofs.FindLaws.{has_index}
use Rattle.sdv_image.proofs.HoldLaws.{held_unchanged, is_written}

-- the buffers that have a block have it as it is
agrees : (bs : List Buffer) (place : ℕ) (x : Block) → ((i : ℕ) → HasPlace bs i place → (buffer_at bs i).block ≡ x) → block_shown bs place x ≡ x
agrees [] place x f = refl
agrees (b ∷ bs) place x f =
    elim (place_cases place (place_of b.held)) [
      | inl h ↦ ap (λ (t : Bool). cond t b.block (block_shown bs place x)) (same_place place (place_of b.held) h) ∙ f zero h
      | inr n ↦ ap (λ (t : Bool). cond t b.block (block_shown bs place x)) (other_place place (place_of b.held) n) ∙ agrees bs place x (λ i h. f (suc i) h)
    ]

all_agree : (bs : List Buffer) (all : List Block) → ((place i : ℕ) → HasPlace bs i place → (buffer_at bs i).block ≡ get_or all place []) →
    blocks_from bs 0 all ≡ all
all_agree bs all f = ext_get_or [] (blocks_from bs 0 all) all (length-blocks_from bs 0 all)
    (λ place h. at_place bs all place [] (let n = length-blocks_from bs 0 all in omega (arith, h, n)) ∙ agrees bs place (get_or all place [])
    (λ i p. f place i p))

-- no buffer is changed
pub shown_clean : (bs : List Buffer) (size : ℕ) (file : Option (List Block)) → AreSound bs size file →
    ((i place : ℕ) → i < 16 → (buffer_at bs i).held ≡ Changed place → ⊥) → shown_over bs file ≡ file
shown_clean bs size None s clean = refl
shown_clean bs size (Some all) s clean = ap (λ (l : List Block). Some l) (all_agree bs all (λ place i p.
    let within : i < 16 = let n = s.count in let l = has_index bs i place p in omega (arith, n, l) in
    s.same all refl i place (held_unchanged (buffer_at bs i).held place p (λ q c. clean i q within c))))

-- one more buffer is written back
pub clean_more : (bs cs : List Buffer) (n : ℕ) → length bs ≡ 16 → n < 16 → cs ≡ set bs n (written_back (buffer_at bs n)) →
    ((i place : ℕ) → i < n → (buffer_at bs i).held ≡ Changed place → ⊥) →
    (i place : ℕ) → i < n + 1 → (buffer_at cs i).held ≡ Changed place → ⊥
clean_more bs cs n l h e before i place within c = elim (cases_eq i n) [ inl s ↦ here s | inr o ↦ there o ]
  where
    here : i ≡ n → ⊥
    here s = is_written bs cs n l h e place (ap (λ (k : ℕ). (buffer_at cs k).held) (sym s) ∙ c)

    there : (i ≡ n → ⊥) → ⊥
    there o =
        let below : i < n = let ne : i ≡ n → ⊥ = o in omega (arith, within, ne) in
        let same : buffer_at cs i ≡ buffer_at bs i = ap (λ (k : List Buffer). buffer_at k i) e ∙ set_beside bs n i (written_back (buffer_at bs n)) o in
        before i place below (ap (λ (b : Buffer). b.held) (sym same) ∙ c)

-- EMPTY BUFFERS

empty_at : (n i : ℕ) (b : Buffer) → get_or (replicate n b) i b ≡ b
empty_at zero i b = refl
empty_at (suc n) zero b = refl
empty_at (suc n) (suc i) b = empty_at n i b

module _ (bs : List Buffer) (e : bs ≡ replicate 16 no_buffer) where
  none_at : (i : ℕ) → buffer_at bs i ≡ no_buffer
  none_at i = ap (λ (l : List Buffer). buffer_at l i) e ∙ empty_at 16 i no_buffer

  no_place : (i place : ℕ) → HasPlace bs i place → ⊥
  no_place i place h = let clash : None ≡ Some place = ap (λ (b : Buffer). place_of b.held) (sym (none_at i)) ∙ h in cc

  pub shown_empty : (file : Option (List Block)) → shown_over bs file ≡ file
  shown_empty None = refl
  shown_empty (Some all) = ap (λ (l : List Block). Some l) (all_agree bs all (λ place i p. absurd (no_place i place p)))

  pub none_unwritten : (place : ℕ) → IsUnwritten bs place → ⊥
  none_unwritten place (i, u) = no_place i place (ap place_of u)

  zeros_fit : IsRegister 512 (replicate 512 0)
  zeros_fit = record { size = length-replicate {A = ℕ} 512 0; bytes_fit = All-replicate IsByte 512 0 (omega arith) }

  pub sound_empty : (size : ℕ) (file : Option (List Block)) → AreSized size file → AreSound bs size file
  sound_empty size file s = record {
    count = ap length e ∙ length-replicate 16 no_buffer;
    sized = λ all f. sized_by file s all f;
    fit = subst (λ (l : List Buffer). All (λ (b : Buffer). IsRegister 512 b.block) l) (sym e)
        (All-replicate (λ (b : Buffer). IsRegister 512 b.block) 16 no_buffer zeros_fit);
    within = λ i place p. absurd (no_place i place p);
    distinct = λ i j place p q. absurd (no_place i place p);
    same = λ all f i place u. absurd (no_place i place (ap place_of u));
  }
    where
      sized_by : (file : Option (List Block)) → AreSized size file → (all : List Block) → file ≡ Some all → length all ≡ size
      sized_by None s all f = absurd (cc)
      sized_by (Some was) s all f = let same : was ≡ all = cc in ap length (sym same) ∙ s.size
