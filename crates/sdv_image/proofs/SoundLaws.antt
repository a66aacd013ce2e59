-- Buffers stay sound: where the file is written, and where one of them gets another block.
use Rattle.std.proofs.Common.{◌≡◌, ◌⊎◌, ℕ, ◌<◌, ◌+◌, inl, inr, refl, sym, ap, subst, ◌∙◌, List, [], ◌∷◌, length, take, drop, get_or, set, Option, Some, None, arith}
use Rattle.std.proofs.lemmas.List.{get_or-take, get_or-drop, get_or_read, get_or-set_same, get_or-set_other, length-set}
use Rattle.std.proofs.lemmas.List.Elements.{All-set}
use Rattle.std.proofs.lemmas.Bool.{cases_eq}
use Rattle.sdv_card.specs.Card.{Block, IsRegister}
use Rattle.sdv_image.specs.Images.{Shown, OnlyAt}
use Rattle.sdv_image.specs.declared.buffer.Held.TheVariants.{Unchanged, Changed}
use Rattle.sdv_image.specs.declared.buffer.Buffer.{Buffer}
use Rattle.sdv_image.specs.Buffers.{place_of, buffer_at, HasPlace, AreSound}
use Rattle.sdv_image.proofs.ShownLaws.{Apart, kept_at}

-- THE FILE IS WRITTEN at the block of a changed buffer
pub sound_write : (bs : List Buffer) (size size' i place : ℕ) (old new : Option (List Block)) → AreSound bs size old → (buffer_at bs i).held ≡ Changed place →
    OnlyAt place 1 old new → size' ≡ size → AreSound bs size' new
sound_write bs size size' i place old new s h o e = record {
  count = s.count;
  sized = λ all n. same_length old s.sized o all n;
  fit = s.fit;
  within = λ j q p. subst (λ (n : ℕ). q < n) (sym e) (s.within j q p);
  distinct = s.distinct;
  same = λ all n j q u. same_in old s.same o all n j q u;
}
  where
    same_length : (old : Option (List Block)) → ((all : List Block) → old ≡ Some all → length all ≡ size) → OnlyAt place 1 old new → (all : List Block) →
        new ≡ Some all → length all ≡ size'
    same_length None f o all n = let clash : None ≡ Some all = o ∙ n in absurd (cc)
    same_length (Some was) f o all n = let left : o.0 ≡ all = let both : Some o.0 ≡ Some all = o.1 ∙ n in cc in ap length (sym left)
        ∙ (sym o.2.size ∙ (f was refl ∙ sym e))

    here : HasPlace bs i place
    here = ap place_of h

    other : (j q : ℕ) → (buffer_at bs j).held ≡ Unchanged q → q ≡ place → ⊥
    other j q u f =
        let there : HasPlace bs j place = ap place_of u ∙ ap (λ (n : ℕ). Some n) f in
        let same : j ≡ i = s.distinct j i place there here in
        let clash : Unchanged q ≡ Changed place = sym u ∙ (ap (λ (n : ℕ). (buffer_at bs n).held) same ∙ h) in
        cc

    same_in : (old : Option (List Block)) → ((all : List Block) → old ≡ Some all → (j q : ℕ) → (buffer_at bs j).held ≡ Unchanged q →
        (buffer_at bs j).block ≡ get_or all q []) → OnlyAt place 1 old new → (all : List Block) → new ≡ Some all → (j q : ℕ) →
        (buffer_at bs j).held ≡ Unchanged q → (buffer_at bs j).block ≡ get_or all q []
    same_in None f o all n j q u = let clash : None ≡ Some all = o ∙ n in absurd (cc)
    same_in (Some was) f o all n j q u =
        let left : o.0 ≡ all = let both : Some o.0 ≡ Some all = o.1 ∙ n in cc in
        f was refl j q u ∙ (kept_at place was o.0 o.2 q (other j q u) ∙ ap (λ (l : List Block). get_or l q []) left)

-- WHAT A READ OR A WRITE GIVES

first_of : (place : ℕ) (x : Block) (all : List Block) → x ∷ [] ≡ take 1 (drop place all) → x ≡ get_or all place []
first_of place x all e =
    let zero_more : place + 0 ≡ place = omega arith in
    let first : 0 < 1 = omega arith in
    ap (λ (l : List Block). get_or l 0 []) e ∙ (get_or-take 1 (drop place all) 0 [] first
    ∙ (get_or-drop place all 0 [] ∙ ap (λ (n : ℕ). get_or all n []) zero_more))

pub shown_block : (place : ℕ) (x : Block) (file : Option (List Block)) (all : List Block) → Shown place (x ∷ []) file → file ≡ Some all →
    x ≡ get_or all place []
shown_block place x None all s e = absurd (cc)
shown_block place x (Some was) all s e = let left : was ≡ all = cc in first_of place x was s ∙ ap (λ (l : List Block). get_or l place []) left

-- ONE BUFFER gets another block
pub set_at : (bs : List Buffer) (i : ℕ) (b : Buffer) → i < length bs → buffer_at (set bs i b) i ≡ b
set_at bs i b h = get_or-set_same bs i b _ h

pub set_beside : (bs : List Buffer) (i j : ℕ) (b : Buffer) → (j ≡ i → ⊥) → buffer_at (set bs i b) j ≡ buffer_at bs j
set_beside bs i j b n = get_or-set_other bs i j b _ n

module _ (bs : List Buffer) (i size : ℕ) (b : Buffer) (file : Option (List Block)) (s : AreSound bs size file) (h : i < 16) where
  in_range : i < length bs
  in_range = let n = s.count in omega (arith, h, n)

  -- where a buffer is, after one of them changed
  here_or_beside : (j : ℕ) → ((j ≡ i) × (buffer_at (set bs i b) j ≡ b)) ⊎ ((j ≡ i → ⊥) × (buffer_at (set bs i b) j ≡ buffer_at bs j))
  here_or_beside j = elim (cases_eq j i) [
    | inl e ↦ inl (e, ap (λ (n : ℕ). buffer_at (set bs i b) n) e ∙ set_at bs i b in_range)
    | inr n ↦ inr
        (n, set_beside bs i j b n)
  ]

  module _ (alone : (j q : ℕ) → place_of b.held ≡ Some q → HasPlace bs j q → j ≡ i) where
    place_here : (j q : ℕ) → buffer_at (set bs i b) j ≡ b → HasPlace (set bs i b) j q → place_of b.held ≡ Some q
    place_here j q e p = ap (λ (x : Buffer). place_of x.held) (sym e) ∙ p

    place_beside : (j q : ℕ) → buffer_at (set bs i b) j ≡ buffer_at bs j → HasPlace (set bs i b) j q → HasPlace bs j q
    place_beside j q e p = ap (λ (x : Buffer). place_of x.held) (sym e) ∙ p

    pub apart : Apart (set bs i b)
    apart j k q u v = elim (here_or_beside j) [
      | inl a ↦ elim (here_or_beside k) [
        | inl c ↦ a.0 ∙ sym c.0
        | inr c ↦ a.0 ∙ sym (alone k q (place_here j q a.1 u) (place_beside k q c.1 v))
      ]
      | inr a ↦ elim (here_or_beside k) [
        | inl c ↦ alone j q (place_here k q c.1 v) (place_beside j q a.1 u) ∙ sym c.0
        | inr c ↦ s.distinct j k q (place_beside j q a.1 u) (place_beside k q c.1 v)
      ]
    ]

    pub sound_set : IsRegister 512 b.block → ((q : ℕ) → place_of b.held ≡ Some q → q < size) →
        ((all : List Block) → file ≡ Some all → (q : ℕ) → b.held ≡ Unchanged q → b.block ≡ get_or all q []) →
        AreSound (set bs i b) size file
    sound_set fit within same = record {
      count = length-set bs i b ∙ s.count;
      sized = s.sized;
      fit = All-set (λ (x : Buffer). IsRegister 512 x.block) bs i b fit s.fit;
      within = λ j q p. elim (here_or_beside j) [ inl a ↦ within q (place_here j q a.1 p) | inr a ↦ s.within j q (place_beside j q a.1 p) ];
      distinct = apart;
      same = λ all e j q u. elim (here_or_beside j) [
        | inl a ↦ ap (λ (x : Buffer). x.block) a.1 ∙ same all e q (ap (λ (x : Buffer). x.held) (sym a.1) ∙ u)
        | inr a ↦ ap (λ (x : Buffer). x.block) a.1 ∙ s.same all e j q (ap (λ (x : Buffer). x.held) (sym a.1) ∙ u)
      ];
    }

-- what a read of the buffers gave, at the default of `buffer_at`
pub read_at_index : (bs : List Buffer) (i : ℕ) (b : Buffer) → length bs ≡ 16 → i < 16 → b ≡ get_or bs i b → b ≡ buffer_at bs i
read_at_index bs i b n h e = get_or_read bs i b (omega (arith, h, n)) e _
