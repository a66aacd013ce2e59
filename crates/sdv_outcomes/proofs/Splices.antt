-- A list with other elements in some places; and the first bytes of a register, with zeros behind it.
use Rattle.std.proofs.Common.{◌≡◌, ℕ, ◌+◌, ◌-◌, ◌≤◌, ◌<◌, refl, ap, subst, sym, ◌∙◌, Bool, true, false, List, ◌++◌, length, take, drop, replicate, append_assoc, length-append, length-drop, All, arith}
use Rattle.std.specs.Prelude.{nat_le}
use Rattle.std.proofs.lemmas.Bool.{leb-true, leb-false}
use Rattle.std.proofs.lemmas.List.{length-replicate, length-take-le, take_all}
use Rattle.std.proofs.lemmas.List.Elements.{All-append, All-take, All-drop}
use Rattle.std.proofs.Math.Seq.{take-append_seam, drop-append_seam}

-- the part in the places from n on
abbrev pub splice : {X : Type 0} → (n a : ℕ) (all part : List X) → List X
splice n a all part = take n all ++ (part ++ drop (n + a) all)

first_length : {X : Type 0} → (n a : ℕ) (all : List X) → n + a ≤ length all → length (take n all) ≡ n
first_length n a all room = length-take-le n all (omega arith)

pub splice_length : {X : Type 0} → (n a : ℕ) (all part : List X) → n + a ≤ length all → length part ≡ a → length (splice n a all part) ≡ length all
splice_length n a all part room size =
    let e : length (take n all) ≡ n = first_length n a all room in
    let d : length (drop (n + a) all) ≡ length all - (n + a) = length-drop (n + a) all in
    length-append (take n all) (part ++ drop (n + a) all) ∙ (rw (length-append part (drop (n + a) all)) (omega arith))

pub splice_all : {X : Type 0} → (P : X → Type 0) (n a : ℕ) (all part : List X) → All P all → All P part → All P (splice n a all part)
splice_all P n a all part h g =
    All-append P (take n all) (part ++ drop (n + a) all) (All-take P n all h) (All-append P part (drop (n + a) all) g (All-drop P (n + a) all h))

pub splice_below : {X : Type 0} → (n a : ℕ) (all part : List X) → n + a ≤ length all → take n all ≡ take n (splice n a all part)
splice_below n a all part room =
    let e : length (take n all) ≡ n = first_length n a all room in
    sym (subst (λ i. take i (splice n a all part) ≡ take n all) e (take-append_seam (take n all) (part ++ drop (n + a) all)))

pub splice_in : {X : Type 0} → (n a : ℕ) (all part : List X) → n + a ≤ length all → length part ≡ a → take a (drop n (splice n a all part)) ≡ part
splice_in n a all part room size =
    let e : length (take n all) ≡ n = first_length n a all room in
    let f : drop n (splice n a all part) ≡ part ++ drop (n + a) all =
    subst (λ i. drop i (splice n a all part) ≡ part ++ drop (n + a) all) e (drop-append_seam (take n all) (part ++ drop (n + a) all)) in
    ap (λ l. take a l) f ∙ subst (λ i. take i (part ++ drop (n + a) all) ≡ part) size (take-append_seam part (drop (n + a) all))

pub splice_above : {X : Type 0} → (n a : ℕ) (all part : List X) → n + a ≤ length all → length part ≡ a →
    drop (n + a) all ≡ drop (n + a) (splice n a all part)
splice_above n a all part room size =
    let e : length (take n all) ≡ n = first_length n a all room in
    let f : length (take n all ++ part) ≡ n + a = length-append (take n all) part ∙ omega arith in
    let g : (take n all ++ part) ++ drop (n + a) all ≡ splice n a all part = append_assoc (take n all) part (drop (n + a) all) in
    sym (ap (λ l. drop (n + a) l) (sym g)
    ∙ subst (λ i. drop i ((take n all ++ part) ++ drop (n + a) all) ≡ drop (n + a) all) f (drop-append_seam (take n all ++ part) (drop (n + a) all)))

-- the elements from n on
pub part_length : {X : Type 0} → (n a : ℕ) (all : List X) → n + a ≤ length all → length (take a (drop n all)) ≡ a
part_length n a all room =
    let d : length (drop n all) ≡ length all - n = length-drop n all in
    length-take-le a (drop n all) (omega arith)

-- so many bytes, the first of which are the register's
pub record Read (count : ℕ) (register : List ℕ) : Type 0 where
  pub bytes : List ℕ
  pub size : length bytes ≡ count
  pub truth : take (length register) bytes ≡ take (length bytes) register

read_by : (b : Bool) (count : ℕ) (register : List ℕ) → nat_le count (length register) ≡ b → Read count register
read_by true count register e =
    let h : count ≤ length register = leb-true count (length register) e in
    let size : length (take count register) ≡ count = length-take-le count register h in
    record {
      bytes = take count register;
      size = size;
      truth = take_all (length register) (take count register) (omega arith) ∙ ap (λ n. take n register) (sym size);
    }
read_by false count register e =
    let h : length register < count = leb-false count (length register) e in
    let rest : List ℕ = replicate (count - length register) 0 in
    let size : length (register ++ rest) ≡ count =
    length-append register rest ∙ (ap (λ n. length register + n) (length-replicate (count - length register) 0) ∙ omega arith) in
    record {
      bytes = register ++ rest;
      size = size;
      truth = take-append_seam register rest ∙ sym (take_all (length (register ++ rest)) register (omega arith));
    }

pub read : (count : ℕ) (register : List ℕ) → Read count register
read count register = read_by (nat_le count (length register)) count register refl
