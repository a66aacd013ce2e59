-- A buffer that is given up, loaded from the file, or given another block.
use Rattle.std.proofs.Common.{◌≡◌, ℕ, ◌<◌, inl, inr, refl, sym, ap, subst, ◌∙◌, List, [], length, get_or, set, Option, Some, None, arith, option_map}
use Rattle.std.proofs.lemmas.List.{ext_get_or, get_or-set_same, get_or-set_other, length-set}
use Rattle.std.proofs.lemmas.Bool.{cases_eq}
use Rattle.sdv_card.specs.Card.{Block}
use Rattle.sdv_image.specs.declared.buffer.Held.{Held}
use Rattle.sdv_image.specs.declared.buffer.Held.TheVariants.{Nothing, Unchanged, Changed}
use Rattle.sdv_image.specs.declared.buffer.Buffer.{Buffer}
use Rattle.sdv_image.specs.Buffers.{place_of, buffer_at, block_shown, blocks_from, shown_over, written_back, unchanged, HasPlace, AreSound, IsFreeFor}
use Rattle.sdv_image.proofs.ShownLaws.{Apart, place_cases, shown_found, shown_absent, shown_other, length-blocks_from, at_place, same_blocks}
use Rattle.sdv_image.proofs.SoundLaws.{apart, set_at, set_beside}

-- the same size and blocks of the file, said anew
pub sound_same : (bs : List Buffer) (size size' : ℕ) (old new : Option (List Block)) → AreSound bs size old → size' ≡ size → new ≡ old → AreSound bs size' new
sound_same bs size size' old new s e f = subst (λ (n : ℕ). AreSound bs n new) (sym e) (subst (λ (o : Option (List Block)). AreSound bs size o) (sym f) s)

pub held_unchanged : (held : Held) (q : ℕ) → place_of held ≡ Some q → ((p : ℕ) → held ≡ Changed p → ⊥) → held ≡ Unchanged q
held_unchanged Nothing q e n = let clash : None ≡ Some q = e in absurd (cc)
held_unchanged (Unchanged p) q e n = let same : p ≡ q = cc in ap (λ (k : ℕ). Unchanged k) same
held_unchanged (Changed p) q e n = absurd (n p refl)

pub not_changed : (held : Held) (p : ℕ) → unchanged held ≡ Changed p → ⊥
not_changed Nothing p e = cc
not_changed (Unchanged q) p e = cc
not_changed (Changed q) p e = cc

-- a buffer that was written back is not changed
pub is_written : (bs cs : List Buffer) (i : ℕ) → length bs ≡ 16 → i < 16 → cs ≡ set bs i (written_back (buffer_at bs i)) → (p : ℕ) →
    (buffer_at cs i).held ≡ Changed p → ⊥
is_written bs cs i n h e p u =
    let here : buffer_at cs i ≡ written_back (buffer_at bs i) = ap (λ (l : List Buffer). buffer_at l i) e ∙ set_at bs i (written_back (buffer_at bs i))
    (omega (arith, n, h)) in
    not_changed (buffer_at bs i).held p (ap (λ (b : Buffer). b.held) (sym here) ∙ u)

module _ (bs : List Buffer) (i size : ℕ) (b : Buffer) (file : Option (List Block)) (s : AreSound bs size file) (h : i < 16) where
  within : i < length bs
  within = let n = s.count in omega (arith, h, n)

  -- GIVEN UP
  module _ (empty : b.held ≡ Nothing) (clean : (p : ℕ) → (buffer_at bs i).held ≡ Changed p → ⊥) where
    gone : (q : ℕ) → HasPlace bs i q → (j : ℕ) → HasPlace (set bs i b) j q → ⊥
    gone q has j p = elim (cases_eq j i) [
      | inl e ↦ here e
      | inr n ↦ n
          (s.distinct j i q (ap (λ (x : Buffer). place_of x.held) (sym (set_beside bs i j b n)) ∙ p) has)
    ]
      where
        here : j ≡ i → ⊥
        here e =
            let none : None ≡ Some q = sym (ap place_of empty)
            ∙ (ap (λ (x : Buffer). place_of x.held) (sym (set_at bs i b within))
            ∙ (ap (λ (n : ℕ). place_of (buffer_at (set bs i b) n).held) (sym e) ∙ p)) in
            cc

    given_up : (all : List Block) → file ≡ Some all → blocks_from (set bs i b) 0 all ≡ blocks_from bs 0 all
    given_up all f = same_blocks (set bs i b) bs all all refl (λ q l. elim (place_cases q (place_of (buffer_at bs i).held)) [
      | inl has ↦ shown_absent (set bs i b) q (get_or all q []) (gone q has)
          ∙ (sym (s.same all f i q (held_unchanged (buffer_at bs i).held q has clean)) ∙ sym (shown_found bs i q (get_or all q []) s.distinct has))
      | inr n ↦ shown_other bs i b q (get_or all q []) n (λ (e : place_of b.held ≡ Some q). let none : None ≡ Some q = sym (ap place_of empty) ∙ e in cc)
    ])

  -- GIVEN THE BLOCK at a place
  module _ (place : ℕ) (free : IsFreeFor bs i place) (held : place_of b.held ≡ Some place) where
    at_place_only : (q : ℕ) → place_of b.held ≡ Some q → place ≡ q
    at_place_only q e = let both : Some place ≡ Some q = sym held ∙ e in cc

    still_apart : Apart (set bs i b)
    still_apart = apart bs i size b file s h (λ j q e p. free.alone j (subst (λ (n : ℕ). HasPlace bs j n) (sym (at_place_only q e)) p))

    has_it : (q : ℕ) → q ≡ place → HasPlace (set bs i b) i q
    has_it q e = ap (λ (x : Buffer). place_of x.held) (set_at bs i b within) ∙ (held ∙ ap (λ (n : ℕ). Some n) (sym e))

    stored : (all : List Block) → blocks_from (set bs i b) 0 all ≡ set (blocks_from bs 0 all) place b.block
    stored all = ext_get_or [] _ _ lengths (λ q l. at_index q (let n = length-blocks_from (set bs i b) 0 all in omega (arith, l, n)))
      where
        here : (q : ℕ) → q < length all → q ≡ place → block_shown (set bs i b) q (get_or all q []) ≡ get_or (set (blocks_from bs 0 all) place b.block) q []
        here q l e =
            let room : place < length (blocks_from bs 0 all) = let n = length-blocks_from bs 0 all in omega (arith, l, n, e) in
            shown_found (set bs i b) i q (get_or all q []) still_apart (has_it q e)
            ∙ (ap (λ (x : Buffer). x.block) (set_at bs i b within)
            ∙ (sym (get_or-set_same (blocks_from bs 0 all) place b.block [] room)
            ∙ ap (λ (n : ℕ). get_or (set (blocks_from bs 0 all) place b.block) n []) (sym e)))

        beside : (q : ℕ) → q < length all → (q ≡ place → ⊥) →
            block_shown (set bs i b) q (get_or all q []) ≡ get_or (set (blocks_from bs 0 all) place b.block) q []
        beside q l n =
            shown_other bs i b q (get_or all q []) (λ (p : HasPlace bs i q). n (free.own q p)) (λ (e : place_of b.held ≡ Some q). n (sym (at_place_only q e)))
            ∙ (sym (at_place bs all q [] l) ∙ sym (get_or-set_other (blocks_from bs 0 all) place q b.block [] n))

        lengths : length (blocks_from (set bs i b) 0 all) ≡ length (set (blocks_from bs 0 all) place b.block)
        lengths = length-blocks_from (set bs i b) 0 all ∙ (sym (length-blocks_from bs 0 all) ∙ sym (length-set (blocks_from bs 0 all) place b.block))

        at_index : (q : ℕ) → q < length all → get_or (blocks_from (set bs i b) 0 all) q [] ≡ get_or (set (blocks_from bs 0 all) place b.block) q []
        at_index q l = at_place (set bs i b) all q [] l ∙ elim (cases_eq q place) [ inl e ↦ here q l e | inr n ↦ beside q l n ]

-- OVER A FILE that shows its blocks or not

pub given_up_shown : (bs : List Buffer) (i size : ℕ) (b : Buffer) (file : Option (List Block)) → AreSound bs size file → i < 16 → b.held ≡ Nothing →
    ((p : ℕ) → (buffer_at bs i).held ≡ Changed p → ⊥) →
    shown_over (set bs i b) file ≡ shown_over bs file
given_up_shown bs i size b None s h empty clean = refl
given_up_shown bs i size b (Some all) s h empty clean = ap (λ (l : List Block). Some l) (given_up bs i size b (Some all) s h empty clean all refl)

pub held_shown : (bs : List Buffer) (i size : ℕ) (b : Buffer) (file : Option (List Block)) → AreSound bs size file → i < 16 → (place : ℕ) →
    IsFreeFor bs i place → place_of b.held ≡ Some place →
    shown_over (set bs i b) file ≡ option_map (λ (blocks : List Block). set blocks place b.block) (shown_over bs file)
held_shown bs i size b None s h place free held = refl
held_shown bs i size b (Some all) s h place free held = ap (λ (l : List Block). Some l) (stored bs i size b (Some all) s h place free held all)
