-- What calls of an image give and leave, by what its buffers and its file show.
use Rattle.std.proofs.Common.{◌≡◌, ℕ, ◌<◌, ◌+◌, refl, sym, ap, subst, ◌∙◌, List, [], ◌∷◌, length, take, drop, get_or, set, Option, Some, None, Bool, true, false, cond, All, arith, option_map}
use Rattle.std.proofs.lemmas.List.{drop_more, drop-set, drop-set-lt, take-set, get_or_read, set-get_or, length-set, length-drop}
use Rattle.std.proofs.lemmas.List.Elements.{All-nil, All-cons, All-head, All-tail, All-set}
use Rattle.sdv_card.specs.Card.{Block, IsRegister}
use Rattle.sdv_image.specs.Images.{Shown, OnlyThese, OnlyAt, AreSized}
use Rattle.sdv_image.specs.declared.buffer.Buffer.{Buffer}
use Rattle.sdv_image.specs.Buffers.{is_place, place_of, block_shown, blocks_from, shown_over, buffer_at, HasPlace, AreSound}
use Rattle.sdv_image.proofs.ShownLaws.{length-blocks_from, at_place, shown_found, shown_absent}
use Rattle.sdv_image.proofs.FindLaws.{has_index}
use Rattle.sdv_image.proofs.SoundLaws.{shown_block}

-- EVERY BLOCK SHOWN has 512 bytes

either_fits : (t : Bool) (x y : Block) → IsRegister 512 x → IsRegister 512 y → IsRegister 512 (cond t x y)
either_fits true x y h k = h
either_fits false x y h k = k

shown_fits : (bs : List Buffer) (place : ℕ) (x : Block) → All (λ (b : Buffer). IsRegister 512 b.block) bs → IsRegister 512 x →
    IsRegister 512 (block_shown bs place x)
shown_fits [] place x h k = k
shown_fits (b ∷ bs) place x h k =
    let P : Buffer → Type 0 = λ (b : Buffer). IsRegister 512 b.block in
    either_fits (is_place place (place_of b.held)) b.block (block_shown bs place x) (All-head P b bs h) (shown_fits bs place x (All-tail P b bs h) k)

blocks_fit : (bs : List Buffer) (k : ℕ) (xs : List Block) → All (λ (b : Buffer). IsRegister 512 b.block) bs → All (IsRegister 512) xs →
    All (IsRegister 512) (blocks_from bs k xs)
blocks_fit bs k [] h f = All-nil _
blocks_fit bs k (x ∷ xs) h f = All-cons (IsRegister 512) _ _ (shown_fits bs k x h (All-head (IsRegister 512) x xs f))
    (blocks_fit bs (k + 1) xs h (All-tail (IsRegister 512) x xs f))

pub sized_shown : (bs : List Buffer) (size : ℕ) (file : Option (List Block)) → All (λ (b : Buffer). IsRegister 512 b.block) bs → AreSized size file →
    AreSized size (shown_over bs file)
sized_shown bs size None h s = tt
sized_shown bs size (Some all) h s = record { size = length-blocks_from bs 0 all ∙ s.size; blocks_fit = blocks_fit bs 0 all h s.blocks_fit }

-- ONE BLOCK of a list

shown_at : (place : ℕ) (x : Block) (all : List Block) → place < length all → x ≡ get_or all place [] → x ∷ [] ≡ take 1 (drop place all)
shown_at place x all h e = ap (λ (b : Block). b ∷ []) e ∙ sym (ap (λ (l : List Block). take 1 l) (drop_more all place [] h))

within_shown : (place : ℕ) (x : Block) (all : List Block) → x ∷ [] ≡ take 1 (drop place all) → place < length all
within_shown place x all e = go (drop place all) refl e
  where
    go : (l : List Block) → l ≡ drop place all → x ∷ [] ≡ take 1 l → place < length all
    go [] s f = let clash : x ∷ [] ≡ [] = f in absurd (cc)
    go (y ∷ l) s f = let n = length-drop place all in let m = ap length s in omega (arith, n, m)

-- A READ

read_found : (bs : List Buffer) (i place size : ℕ) (file : Option (List Block)) → AreSound bs size file → place < size → HasPlace bs i place →
    Shown place ((buffer_at bs i).block ∷ []) (shown_over bs file)
read_found bs i place size None s h p = tt
read_found bs i place size (Some all) s h p =
    let room : place < length all = let n = s.sized all refl in omega (arith, h, n) in
    let shown : place < length (blocks_from bs 0 all) = let n = length-blocks_from bs 0 all in omega (arith, room, n) in
    shown_at place (buffer_at bs i).block (blocks_from bs 0 all) shown
    (sym (at_place bs all place [] room ∙ shown_found bs i place (get_or all place []) s.distinct p))

-- by what a read of the buffers gave
pub read_of_found : (bs : List Buffer) (i place size : ℕ) (b : Buffer) (file : Option (List Block)) → AreSound bs size file → place < size →
    HasPlace bs i place → b ≡ get_or bs i b → Shown place (b.block ∷ []) (shown_over bs file)
read_of_found bs i place size b file s h p e =
    subst (λ (x : Buffer). Shown place (x.block ∷ []) (shown_over bs file)) (sym (get_or_read bs i b (has_index bs i place p) e _))
    (read_found bs i place size file s h p)

pub read_absent : (bs : List Buffer) (place : ℕ) (x : Block) (file : Option (List Block)) → ((i : ℕ) → HasPlace bs i place → ⊥) → Shown place (x ∷ []) file →
    Shown place (x ∷ []) (shown_over bs file)
read_absent bs place x None n s = tt
read_absent bs place x (Some all) n s =
    let room : place < length all = within_shown place x all s in
    let shown : place < length (blocks_from bs 0 all) = let k = length-blocks_from bs 0 all in omega (arith, room, k) in
    shown_at place x (blocks_from bs 0 all) shown (shown_block place x (Some all) all s refl ∙ sym
    (at_place bs all place [] room ∙ shown_absent bs place (get_or all place []) n))

-- a block that is shown, put where it is
pub put_same : (place : ℕ) (x : Block) (shown : Option (List Block)) → Shown place (x ∷ []) shown → option_map
    (λ (blocks : List Block). set blocks place x) shown ≡ shown
put_same place x None s = refl
put_same place x (Some all) s = ap (λ (l : List Block). Some l)
    (ap (λ (b : Block). set all place b) (shown_block place x (Some all) all s refl) ∙ set-get_or all place [])

-- A WRITE

put_written : (place : ℕ) (x : Block) (all : List Block) → place < length all → x ∷ [] ≡ take 1 (drop place (set all place x))
put_written place x all h = sym (ap (λ (l : List Block). take 1 l) (drop-set all place x h))

put_beside : (place : ℕ) (x : Block) (all : List Block) → OnlyThese place 1 all (set all place x)
put_beside place x all = record {
  size = sym (length-set all place x);
  below = sym (take-set all place x);
  above = sym (drop-set-lt (place + 1) all place x (omega arith));
}

room_shown : (bs : List Buffer) (place size : ℕ) (all : List Block) → AreSound bs size (Some all) → place < size → place < length (blocks_from bs 0 all)
room_shown bs place size all s h = let n = s.sized all refl in let k = length-blocks_from bs 0 all in omega (arith, h, n, k)

pub written : (bs : List Buffer) (place size : ℕ) (x : Block) (file after : Option (List Block)) → AreSound bs size file → place < size →
    after ≡ option_map (λ (blocks : List Block). set blocks place x) (shown_over bs file) → Shown place (x ∷ []) after
written bs place size x None after s h e = subst (λ (o : Option (List Block)). Shown place (x ∷ []) o) (sym e) tt
written bs place size x (Some all) after s h e = subst (λ (o : Option (List Block)). Shown place (x ∷ []) o) (sym e)
    (put_written place x (blocks_from bs 0 all) (room_shown bs place size all s h))

pub beside : (place : ℕ) (x : Block) (before after : Option (List Block)) → after ≡ option_map (λ (blocks : List Block). set blocks place x) before →
    OnlyAt place 1 before after
beside place x None after e = sym e
beside place x (Some all) after e = (set all place x, sym e, put_beside place x all)

pub sized_put : (place size size' : ℕ) (x : Block) (before after : Option (List Block)) → IsRegister 512 x → size' ≡ size → after ≡ option_map
    (λ (blocks : List Block). set blocks place x) before → AreSized size before → AreSized size' after
sized_put place size size' x None after f n e s = subst (λ (o : Option (List Block)). AreSized size' o) (sym e) tt
sized_put place size size' x (Some all) after f n e s =
    subst (λ (o : Option (List Block)). AreSized size' o) (sym e)
    (record { size = length-set all place x ∙ (s.size ∙ sym n); blocks_fit = All-set (IsRegister 512) all place x f s.blocks_fit })
