-- Numbers that are read are those that stand there.
use Rattle.std.proofs.Common.{◌≡◌, ℕ, ◌≤◌, true, ◌&&◌, nat_le, nat_lt, List, [], ◌∷◌, ◌++◌, length, take, drop, Option, Some, inl, inr, refl, sym, ap, ◌∙◌, arith, one-add, take_at, drop_at, append_assoc}
use Rattle.std.specs.List.{prefix_len}
use Rattle.std.proofs.lemmas.Bool.{and_parts, le-leb, leb-true}
use Rattle.std.proofs.lemmas.Bool.Decides.{nat_tests}
use Rattle.std.proofs.lemmas.List.{take-append-drop}
use Rattle.sdv_text.proofs.FrontLaws.{bind_some, some_is, tested, either, both, after_takes, after_again, run_is}
use Rattle.sdv_text.specs.Fronts.{◌>>=◌, after, is_digit, run, number_after}
use Rattle.sdv_behavior.specs.Grammar.{are_digits, NumberLine}
use Rattle.sdv_behavior.specs.Reading.{ended, figure, read_figure, read_number}

-- DIGITS

front_digits : (bs : List ℕ) → are_digits (take (prefix_len is_digit bs) bs) ≡ true
front_digits [] = refl
front_digits (b ∷ bs) =
    elim (either (is_digit b)) [
      | inl on ↦ rw (on, one-add) (both (is_digit b) (are_digits (take (prefix_len is_digit bs) bs)) on (front_digits bs))
      | inr off ↦ rw off refl
    ]

run_again : (ds rest : List ℕ) → are_digits ds ≡ true → prefix_len is_digit (ds ++ 10 ∷ rest) ≡ length ds
run_again [] rest all = refl
run_again (d ∷ ds) rest all =
    let parts = and_parts (is_digit d) (are_digits ds) all in
    let more = run_again ds rest parts.1 in
    rw parts.0 (omega (arith, more))

-- NUMBERS

-- digits, one or more, with their line's end behind them
pub record Figure (n : ℕ) (bs rest : List ℕ) : Type 0 where
  pub digit : ℕ
  pub digits : List ℕ
  pub are : are_digits (digit ∷ digits) ≡ true
  pub value : number_after 0 (digit ∷ digits) ≡ n
  pub small : n ≤ 4294967295
  pub same : digit ∷ (digits ++ 10 ∷ rest) ≡ bs

figure_of : (ds others bs rest : List ℕ) (n : ℕ) → ds ++ others ≡ bs → are_digits ds ≡ true → figure ds others ≡ Some (n, rest) → Figure n bs rest
figure_of [] others bs rest n whole all e = absurd (cc)
figure_of (d ∷ ds) others bs rest n whole all e =
    let t = tested (nat_lt 0 (length (d ∷ ds)) && nat_le (number_after 0 (d ∷ ds)) 4294967295) (ended (number_after 0 (d ∷ ds)) others) (n, rest) e in
    let p = bind_some (after (10 ∷ []) others) (λ r. Some (number_after 0 (d ∷ ds), r)) (n, rest) t.1 in
    let same : ◌≡◌ {A = ℕ × List ℕ} (number_after 0 (d ∷ ds), p.0) (n, rest) = some_is (number_after 0 (d ∷ ds), p.0) (n, rest) p.2 in
    let value : number_after 0 (d ∷ ds) ≡ n = ap (λ (x : ℕ × List ℕ). x.0) same in
    let small : number_after 0 (d ∷ ds) ≤ 4294967295 =
    leb-true _ _ (and_parts (nat_lt 0 (length (d ∷ ds))) (nat_le (number_after 0 (d ∷ ds)) 4294967295) t.0).1 in
    let others_are : others ≡ 10 ∷ rest = after_takes (10 ∷ []) others p.0 p.1 ∙ ap (λ (x : ℕ × List ℕ). 10 ∷ x.1) same in
    record {
      digit = d;
      digits = ds;
      are = all;
      value = value;
      small = omega arith;
      same = ap (λ (l : List ℕ). (d ∷ ds) ++ l) (sym others_are) ∙ whole;
    }

figure_takes : (bs : List ℕ) (x : ℕ × List ℕ) → read_figure bs ≡ Some x → Figure x.0 bs x.1
unfolding read_figure
figure_takes bs x e =
    figure_of (take (run is_digit bs) bs) (drop (run is_digit bs) bs) bs x.1 x.0 (take-append-drop (run is_digit bs) bs) (rw (run_is bs) (front_digits bs)) e

pub number_takes : (word bs : List ℕ) (x : ℕ × List ℕ) → read_number (word ++ 32 ∷ []) bs ≡ Some x → NumberLine word x.0 bs x.1
unfolding read_number
number_takes word bs x e =
    let p = bind_some (after (word ++ 32 ∷ []) bs) read_figure x e in
    let f = figure_takes p.0 x p.2 in
    record {
      digit = f.digit;
      digits = f.digits;
      are = f.are;
      value = f.value;
      same = ap (λ (l : List ℕ). word ++ 32 ∷ l) f.same ∙ (sym (append_assoc word (32 ∷ []) p.0) ∙ sym (after_takes (word ++ 32 ∷ []) bs p.0 p.1));
    }

pub number_small : (word bs : List ℕ) (x : ℕ × List ℕ) → read_number word bs ≡ Some x → x.0 ≤ 4294967295
unfolding read_number
number_small word bs x e =
    let p = bind_some (after word bs) read_figure x e in
    (figure_takes p.0 x p.2).small

figure_again : (d : ℕ) (ds rest : List ℕ) (n : ℕ) → are_digits (d ∷ ds) ≡ true → number_after 0 (d ∷ ds) ≡ n → n ≤ 4294967295 →
    read_figure ((d ∷ ds) ++ 10 ∷ rest) ≡ Some (n, rest)
unfolding read_figure
figure_again d ds rest n all value small =
    let count : run is_digit ((d ∷ ds) ++ 10 ∷ rest) ≡ length (d ∷ ds) = run_is ((d ∷ ds) ++ 10 ∷ rest) ∙ run_again (d ∷ ds) rest all in
    let fits : nat_le (number_after 0 (d ∷ ds)) 4294967295 ≡ true = le-leb (number_after 0 (d ∷ ds)) 4294967295 (omega (arith, value, small)) in
    let front : figure (take (run is_digit ((d ∷ ds) ++ 10 ∷ rest)) ((d ∷ ds) ++ 10 ∷ rest))
    (drop (run is_digit ((d ∷ ds) ++ 10 ∷ rest)) ((d ∷ ds) ++ 10 ∷ rest)) ≡ figure (d ∷ ds) (10 ∷ rest) =
    rw (take_at (d ∷ ds) (10 ∷ rest) _ (sym count), drop_at (d ∷ ds) (10 ∷ rest) _ (sym count)) refl in
    let some : nat_lt 0 (length (d ∷ ds)) ≡ true = grind (arith, nat_tests) in
    front ∙ (rw (some, fits) refl ∙ ap (λ (m : ℕ). Some (m, rest)) value)

pub number_again : (word bs rest : List ℕ) (n : ℕ) → n ≤ 4294967295 → NumberLine word n bs rest → read_number (word ++ 32 ∷ []) bs ≡ Some (n, rest)
unfolding read_number
number_again word bs rest n small line =
    let whole : bs ≡ (word ++ 32 ∷ []) ++ (line.digit ∷ (line.digits ++ 10 ∷ rest)) =
    sym line.same ∙ sym (append_assoc word (32 ∷ []) (line.digit ∷ (line.digits ++ 10 ∷ rest))) in
    ap (λ (l : List ℕ). after (word ++ 32 ∷ []) l >>= read_figure) whole
    ∙ (ap (λ (r : Option (List ℕ)). r >>= read_figure) (after_again (word ++ 32 ∷ []) (line.digit ∷ (line.digits ++ 10 ∷ rest)))
    ∙ figure_again line.digit line.digits rest n line.are line.value small)
