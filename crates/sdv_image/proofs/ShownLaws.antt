-- What an image shows over its buffers, where one of them gets another block or the file does.
use Rattle.std.proofs.Common.{◌≡◌, ◌⊎◌, ℕ, zero, suc, ◌<◌, ◌+◌, ◌-◌, inl, inr, refl, sym, ap, subst, ◌∙◌, List, [], ◌∷◌, length, get_or, set, Option, Some, None, Bool, true, false, cond, arith}
use Rattle.std.proofs.lemmas.List.{get_or-take, get_or-drop, ext_get_or}
use Rattle.std.proofs.lemmas.Bool.{eq-eqb, ne_eqb, cases_eq, cases_order}
use Rattle.sdv_card.specs.Card.{Block}
use Rattle.sdv_image.specs.Images.{OnlyThese, OnlyAt}
use Rattle.sdv_image.specs.declared.buffer.Buffer.{Buffer}
use Rattle.sdv_image.specs.Buffers.{place_of, is_place, block_shown, blocks_from, shown_over, buffer_at, HasPlace}

-- PLACES

pub same_place : (place : ℕ) (held : Option ℕ) → held ≡ Some place → is_place place held ≡ true
same_place place None e = cc
same_place place (Some q) e = let s : q ≡ place = cc in eq-eqb q place s

pub other_place : (place : ℕ) (held : Option ℕ) → (held ≡ Some place → ⊥) → is_place place held ≡ false
other_place place None n = refl
other_place place (Some q) n = ne_eqb q place (λ (e : q ≡ place). n (ap (λ (v : ℕ). Some v) e))

pub place_cases : (place : ℕ) (held : Option ℕ) → (held ≡ Some place) ⊎ (held ≡ Some place → ⊥)
place_cases place None = inr (λ (e : None ≡ Some place). cc)
place_cases place (Some q) = elim (cases_eq q place) [ inl e ↦ inl (ap (λ (v : ℕ). Some v) e) | inr n ↦ inr (λ (e : Some q ≡ Some place). n (cc)) ]

-- no two buffers have one block of the file
abbrev pub Apart : List Buffer → Type 0
Apart bs = (i j place : ℕ) → HasPlace bs i place → HasPlace bs j place → i ≡ j

-- ONE BLOCK

pub shown_found : (bs : List Buffer) (i place : ℕ) (x : Block) → Apart bs → HasPlace bs i place → block_shown bs place x ≡ (buffer_at bs i).block
shown_found [] i place x d h = cc
shown_found (b ∷ bs) zero place x d h = ap (λ (t : Bool). cond t b.block (block_shown bs place x)) (same_place place (place_of b.held) h)
shown_found (b ∷ bs) (suc i) place x d h =
    ap (λ (t : Bool). cond t b.block (block_shown bs place x))
    (other_place place (place_of b.held) (λ (e : place_of b.held ≡ Some place). let z : zero ≡ suc i = d zero (suc i) place e h in omega (arith, z)))
    ∙ shown_found bs i place x (λ j k q u v. let z : suc j ≡ suc k = d (suc j) (suc k) q u v in omega (arith, z)) h

pub shown_absent : (bs : List Buffer) (place : ℕ) (x : Block) → ((i : ℕ) → HasPlace bs i place → ⊥) → block_shown bs place x ≡ x
shown_absent [] place x n = refl
shown_absent (b ∷ bs) place x n = ap (λ (t : Bool). cond t b.block (block_shown bs place x)) (other_place place (place_of b.held) (n zero))
    ∙ shown_absent bs place x (λ i. n (suc i))

pub shown_other : (bs : List Buffer) (i : ℕ) (b : Buffer) (place : ℕ) (x : Block) → (HasPlace bs i place → ⊥) → (place_of b.held ≡ Some place → ⊥) →
    block_shown (set bs i b) place x ≡ block_shown bs place x
shown_other [] i b place x n m = refl
shown_other (c ∷ bs) zero b place x n m =
    ap (λ (t : Bool). cond t b.block (block_shown bs place x)) (other_place place (place_of b.held) m)
    ∙ sym (ap (λ (t : Bool). cond t c.block (block_shown bs place x)) (other_place place (place_of c.held) n))
shown_other (c ∷ bs) (suc i) b place x n m = ap (λ (y : Block). cond (is_place place (place_of c.held)) c.block y) (shown_other bs i b place x n m)

shown_same : (bs : List Buffer) (i : ℕ) (b : Buffer) (place : ℕ) (x : Block) → place_of b.held ≡ place_of (buffer_at bs i).held → b.block ≡
    (buffer_at bs i).block →
    block_shown (set bs i b) place x ≡ block_shown bs place x
shown_same [] i b place x e f = refl
shown_same (c ∷ bs) zero b place x e f =
    ap (λ (o : Option ℕ). cond (is_place place o) b.block (block_shown bs place x)) e ∙ ap
    (λ (y : Block). cond (is_place place (place_of c.held)) y (block_shown bs place x)) f
shown_same (c ∷ bs) (suc i) b place x e f = ap (λ (y : Block). cond (is_place place (place_of c.held)) c.block y) (shown_same bs i b place x e f)

-- ALL BLOCKS

pub length-blocks_from : (bs : List Buffer) (k : ℕ) (xs : List Block) → length (blocks_from bs k xs) ≡ length xs
length-blocks_from bs k [] = refl
length-blocks_from bs k (x ∷ xs) = ap (λ (n : ℕ). suc n) (length-blocks_from bs (k + 1) xs)

from_place : (bs : List Buffer) (k : ℕ) (xs : List Block) (i : ℕ) (d : Block) → i < length xs → get_or (blocks_from bs k xs) i d ≡ block_shown bs (k + i)
    (get_or xs i d)
from_place bs k [] i d h = absurd (omega (arith, h))
from_place bs k (x ∷ xs) zero d h = let e : k ≡ k + 0 = omega arith in ap (λ (n : ℕ). block_shown bs n x) e
from_place bs k (x ∷ xs) (suc i) d h =
    let e : k + 1 + i ≡ k + suc i = omega arith in
    from_place bs (k + 1) xs i d (omega (arith, h)) ∙ ap (λ (n : ℕ). block_shown bs n (get_or xs i d)) e

pub at_place : (bs : List Buffer) (xs : List Block) (i : ℕ) (d : Block) → i < length xs → get_or (blocks_from bs 0 xs) i d ≡ block_shown bs i (get_or xs i d)
at_place bs xs i d h = let e : 0 + i ≡ i = omega arith in from_place bs 0 xs i d h ∙ ap (λ (n : ℕ). block_shown bs n (get_or xs i d)) e

pub same_blocks : (bs cs : List Buffer) (xs ys : List Block) → length xs ≡ length ys →
    ((i : ℕ) → i < length xs → block_shown bs i (get_or xs i []) ≡ block_shown cs i (get_or ys i [])) →
    blocks_from bs 0 xs ≡ blocks_from cs 0 ys
same_blocks bs cs xs ys e f = ext_get_or [] (blocks_from bs 0 xs) (blocks_from cs 0 ys) (length-blocks_from bs 0 xs ∙ (e ∙ sym (length-blocks_from cs 0 ys)))
    (λ i h. let l : i < length xs = let n = length-blocks_from bs 0 xs in omega (arith, h, n) in let m : i < length ys = omega (arith, l, e) in
    at_place bs xs i [] l ∙ (f i l ∙ sym (at_place cs ys i [] m)))

-- A WRITE of the file at one place
pub kept_at : (place : ℕ) (old new : List Block) → OnlyThese place 1 old new → (q : ℕ) → (q ≡ place → ⊥) → get_or old q [] ≡ get_or new q []
kept_at place old new o q n = elim (cases_order q place) [ inl e ↦ absurd (n e) | inr l ↦ elim l [ inl b ↦ below b | inr a ↦ above a ] ]
  where
    below : q < place → get_or old q [] ≡ get_or new q []
    below h = sym (get_or-take place old q [] h) ∙ (ap (λ (l : List Block). get_or l q []) o.below ∙ get_or-take place new q [] h)

    above : place < q → get_or old q [] ≡ get_or new q []
    above h =
        let e : place + 1 + (q - (place + 1)) ≡ q = omega (arith, h) in
        subst (λ (k : ℕ). get_or old k [] ≡ get_or new k []) e
        (sym (get_or-drop (place + 1) old (q - (place + 1)) [])
        ∙ (ap (λ (l : List Block). get_or l (q - (place + 1)) []) o.above ∙ get_or-drop (place + 1) new (q - (place + 1)) []))

hidden : (bs : List Buffer) (i place : ℕ) (old new : List Block) → Apart bs → HasPlace bs i place → OnlyThese place 1 old new →
    blocks_from bs 0 new ≡ blocks_from bs 0 old
hidden bs i place old new d h o = same_blocks bs bs new old (sym o.size)
    (λ q l. elim (cases_eq q place) [ inl e ↦ buffered q e | inr n ↦ ap (λ (x : Block). block_shown bs q x) (sym (kept_at place old new o q n)) ])
  where
    buffered : (q : ℕ) → q ≡ place → block_shown bs q (get_or new q []) ≡ block_shown bs q (get_or old q [])
    buffered q e = let h' : HasPlace bs i q = subst (λ (k : ℕ). HasPlace bs i k) (sym e) h in shown_found bs i q (get_or new q []) d h' ∙ sym
        (shown_found bs i q (get_or old q []) d h')

-- a write of the file shows nowhere, where a buffer has that block
pub write_hidden : (bs : List Buffer) (i place : ℕ) (old new : Option (List Block)) → Apart bs → HasPlace bs i place → OnlyAt place 1 old new →
    shown_over bs new ≡ shown_over bs old
write_hidden bs i place None new d h o = subst (λ (v : Option (List Block)). shown_over bs v ≡ None) o refl
write_hidden bs i place (Some old) new d h o = subst (λ (v : Option (List Block)). shown_over bs v ≡ Some (blocks_from bs 0 old)) o.1
    (ap (λ (l : List Block). Some l) (hidden bs i place old o.0 d h o.2))

-- A BUFFER THAT CHANGES

-- another buffer with the same block
pub same_block : (bs : List Buffer) (i : ℕ) (b : Buffer) (file : Option (List Block)) → place_of b.held ≡ place_of (buffer_at bs i).held → b.block ≡
    (buffer_at bs i).block → shown_over (set bs i b) file ≡ shown_over bs file
same_block bs i b None e f = refl
same_block bs i b (Some all) e f = ap (λ (l : List Block). Some l) (same_blocks (set bs i b) bs all all refl (λ q l. shown_same bs i b q (get_or all q []) e f))
