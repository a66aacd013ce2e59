-- A number that is read is the number that was written, and what was written is read again.
use Rattle.std.proofs.Common.{◌≡◌, ℕ, ◌^◌, ◌<◌, ◌≤◌, true, false, ◌&&◌, nat_le, List, [], ◌∷◌, ◌++◌, length, take, drop, get_or, Some, decimal, inl, inr, refl, sym, ap, ◌∙◌, arith, rules, one-add, take_at, drop_at}
use Rattle.std.specs.List.{prefix_len}
use Rattle.std.specs.Str.{all_ascii_digits}
use Rattle.std.proofs.lemmas.Bool.{and_parts, cases_eq, le-leb, leb-true}
use Rattle.std.proofs.lemmas.Bool.Decides.{nat_tests}
use Rattle.std.proofs.lemmas.List.{take-append-drop}
use Rattle.std.proofs.lemmas.Fmt.{decimal_digit, decimal-digits_value, digits_decimal, digits_value-decimal, decimal_nonempty, first_decimal}
use Rattle.std.proofs.lemmas.Str.Parse.{IsNumeralModel, numerals_by_fold, tells_all_ascii_digits}
use Rattle.sdv_text.proofs.FrontLaws.{bind_some, some_is, tested, either, both, after_takes, run_is}
use Rattle.sdv_text.specs.Fronts.{after, is_digit, run, number_after}
use Rattle.sdv_facts.specs.CertificateText.{number_written}
use Rattle.sdv_check.specs.Reading.{ends_item, is_plain, figure, read_figure, read_number}

-- DIGITS

own : IsNumeralModel (λ ds. all_ascii_digits ds ≡ true) (number_after 0)
unfolding number_after
own = numerals_by_fold _ tells_all_ascii_digits number_after (search rules)

front_digits : (bs : List ℕ) → all_ascii_digits (take (prefix_len is_digit bs) bs) ≡ true
front_digits [] = refl
front_digits (b ∷ bs) =
    elim (either (is_digit b)) [
      | inl on ↦ rw (on, one-add) (both (is_digit b) (all_ascii_digits (take (prefix_len is_digit bs) bs)) on (front_digits bs))
      | inr off ↦ rw off refl
    ]

no_digit : (rest : List ℕ) → ends_item rest ≡ true → prefix_len is_digit rest ≡ 0
no_digit [] e = refl
no_digit (b ∷ bs) e =
    let no : is_digit b ≡ false = grind (arith, nat_tests) in
    rw no refl

run_again : (ds rest : List ℕ) → all_ascii_digits ds ≡ true → ends_item rest ≡ true → prefix_len is_digit (ds ++ rest) ≡ length ds
run_again [] rest all end = no_digit rest end
run_again (d ∷ ds) rest all end =
    let parts = and_parts (is_digit d) (all_ascii_digits ds) all in
    let more = run_again ds rest parts.1 end in
    rw parts.0 (omega (arith, more))

-- NUMBERS

plain_parts : (ds : List ℕ) → is_plain ds ≡ true → (0 < length ds) × (get_or ds 0 0 ≡ 48 → length ds ≡ 1)
plain_parts ds e = (grind (arith, nat_tests), λ first. grind (arith, nat_tests))

plain_decimal : (n : ℕ) → n < 2 ^ 64 → is_plain (decimal n) ≡ true
plain_decimal n lt =
    elim (cases_eq n 0) [
      | inl e ↦ rw (e, decimal_digit 0 (omega arith)) refl
      | inr other ↦
          let some = decimal_nonempty n lt in
          let first = first_decimal n (omega arith) lt in
          grind (arith, nat_tests)
    ]

figure_takes : (bs : List ℕ) (n : ℕ) (rest : List ℕ) → read_figure bs ≡ Some (n, rest) → (bs ≡ decimal n ++ rest) × (n ≤ 2 ^ 40) × (ends_item rest ≡ true)
figure_takes bs n rest e =
    let ds : List ℕ = take (run is_digit bs) bs in
    let rs : List ℕ = drop (run is_digit bs) bs in
    let p = tested (is_plain (take (run is_digit bs) bs) && ends_item (drop (run is_digit bs) bs)) _ (n, rest) e in
    let q = tested (nat_le (number_after 0 (take (run is_digit bs) bs)) (2 ^ 40)) _ (n, rest) p.1 in
    let same = some_is (number_after 0 (take (run is_digit bs) bs), drop (run is_digit bs) bs) (n, rest) q.1 in
    let tests = and_parts (is_plain (take (run is_digit bs) bs)) (ends_item (drop (run is_digit bs) bs)) p.0 in
    let small : number_after 0 (take (run is_digit bs) bs) ≤ 2 ^ 40 = leb-true _ _ q.0 in
    let plain = plain_parts (take (run is_digit bs) bs) tests.0 in
    let digits : all_ascii_digits (take (run is_digit bs) bs) ≡ true = rw (run_is bs) (front_digits bs) in
    let spelled : decimal (number_after 0 (take (run is_digit bs) bs)) ≡ take (run is_digit bs) bs =
    decimal-digits_value own (take (run is_digit bs) bs) digits plain.0 plain.1 (omega arith) in
    let number : number_after 0 (take (run is_digit bs) bs) ≡ n = ap (λ (x : ℕ × List ℕ). x.0) same in
    let others : drop (run is_digit bs) bs ≡ rest = ap (λ (x : ℕ × List ℕ). x.1) same in (
      sym (take-append-drop (run is_digit bs) bs) ∙ ap (λ (l : List ℕ). l ++ drop (run is_digit bs) bs) (sym spelled)
          ∙ ap (λ (k : ℕ). decimal k ++ drop (run is_digit bs) bs) number ∙ ap (λ (l : List ℕ). decimal n ++ l) others,
      omega arith,
      rw (← others) tests.1,
    )

figure_again : (n : ℕ) (rest : List ℕ) → n ≤ 2 ^ 40 → ends_item rest ≡ true → read_figure (decimal n ++ rest) ≡ Some (n, rest)
figure_again n rest le end =
    let lt : n < 2 ^ 64 = omega arith in
    let count : run is_digit (decimal n ++ rest) ≡ length (decimal n) = run_is (decimal n ++ rest) ∙ run_again (decimal n) rest (digits_decimal own n lt) end in
    let value : number_after 0 (decimal n) ≡ n = digits_value-decimal own n lt in
    let small : nat_le n (2 ^ 40) ≡ true = le-leb n (2 ^ 40) le in
    let front : figure (take (run is_digit (decimal n ++ rest)) (decimal n ++ rest)) (drop (run is_digit (decimal n ++ rest)) (decimal n ++ rest))
    ≡ figure (decimal n) rest =
    rw (take_at (decimal n) rest _ (sym count), drop_at (decimal n) rest _ (sym count)) refl in
    front ∙ rw (plain_decimal n lt, end, value, small) refl

pub number_takes : (bs : List ℕ) (n : ℕ) (rest : List ℕ) → read_number bs ≡ Some (n, rest)
    → (bs ≡ number_written n rest) × (n ≤ 2 ^ 40) × (ends_item rest ≡ true)
unfolding read_number
number_takes bs n rest e =
    let a = bind_some (after (32 ∷ []) bs) read_figure (n, rest) e in
    let f = figure_takes a.0 n rest a.2 in
    (after_takes (32 ∷ []) bs a.0 a.1 ∙ ap (λ (l : List ℕ). 32 ∷ l) f.0, f.1, f.2)

pub number_again : (n : ℕ) (rest : List ℕ) → n ≤ 2 ^ 40 → ends_item rest ≡ true → read_number (number_written n rest) ≡ Some (n, rest)
unfolding read_number
number_again n rest le end = figure_again n rest le end

pub decimal_digits : (n : ℕ) → n < 2 ^ 64 → all_ascii_digits (decimal n) ≡ true
decimal_digits n lt = digits_decimal own n lt
