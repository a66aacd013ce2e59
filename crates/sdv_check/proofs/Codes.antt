-- A shape that is read is the shape that was written, and what was written is read again.
use Rattle.std.proofs.Common.{◌≡◌, ℕ, zero, suc, ◌^◌, ◌<◌, Bool, true, false, cond, nat_lt, List, [], ◌∷◌, ◌++◌, length, take, drop, Option, Some, None, Result, Ok, Err, refl, sym, ap, ◌∙◌, arith, take_at, drop_at, length-append}
use Rattle.std.specs.Int.{w64, to_be_bytes, from_be_bytes}
use Rattle.std.proofs.lemmas.Bool.{le-ltb}
use Rattle.std.proofs.lemmas.List.{take-append-drop}
use Rattle.std.proofs.lemmas.Nat.{be_bytes_8, from_be_bytes-to_be_bytes_8}
use Rattle.hex.specs.Hex.{IsBytes, lower_digits, encode_lower, decode_of, decode_sized}
use Rattle.hex.specs.declared.error.FromHexError.{FromHexError}
use Rattle.hex.proofs.HexLemmas.{decode_of-encode_lower, decode_of-ok, decode_of-even, decode_sized-ok, decode_sized-twice, length-encode_with}
use Rattle.sdv_text.proofs.FrontLaws.{bind_some, some_is, tested, not_tested, after_takes}
use Rattle.sdv_text.specs.Fronts.{after}
use Rattle.sdv_card.specs.declared.shape.Shape.{Shape}
use Rattle.sdv_facts.specs.CertificateText.{shape_written}
use Rattle.sdv_check.specs.Reading.{ends_item, has_upper, word_of, code_of, code_item, read_shape, is_above, read_rising}
use Rattle.sdv_check.proofs.Digits.{encode_back, lower_again}

eight : (n : ℕ) → IsBytes (to_be_bytes w64 n)
eight n zero = omega arith
eight n (suc zero) = omega arith
eight n (suc (suc zero)) = omega arith
eight n (suc (suc (suc zero))) = omega arith
eight n (suc (suc (suc (suc zero)))) = omega arith
eight n (suc (suc (suc (suc (suc zero))))) = omega arith
eight n (suc (suc (suc (suc (suc (suc zero)))))) = omega arith
eight n (suc (suc (suc (suc (suc (suc (suc zero))))))) = omega arith
eight n (suc (suc (suc (suc (suc (suc (suc (suc i)))))))) = omega arith

word_some : (r : Result (List ℕ) FromHexError) (n : ℕ) → word_of r ≡ Some n → (bytes : List ℕ) × (r ≡ Ok bytes) × (from_be_bytes w64 bytes ≡ n)
word_some (Ok bytes) n e = (bytes, refl, some_is _ _ e)
word_some (Err f) n e = absurd (cc)

below_words : (bytes : List ℕ) → IsBytes bytes → from_be_bytes w64 bytes < 2 ^ 64
below_words bytes fits = omega (arith, fits 0, fits 1, fits 2, fits 3, fits 4, fits 5, fits 6, fits 7)

code_takes : (ds : List ℕ) (n : ℕ) → code_of ds ≡ Some n → (ds ≡ encode_lower (to_be_bytes w64 n)) × (n < 2 ^ 64)
code_takes ds n e =
    let p = not_tested (has_upper ds) (word_of (decode_sized ds 8)) n e in
    let w = word_some (decode_sized ds 8) n p.1 in
    let len : length ds ≡ 16 = decode_sized-ok ds 8 w.0 w.1 in
    let decoded : decode_of ds ≡ Ok w.0 = sym (decode_sized-twice ds 8 len) ∙ w.1 in
    let ok = decode_of-ok ds w.0 decoded in
    let back : encode_lower w.0 ≡ ds = encode_back 0 ds w.0 p.0 (sym (decode_of-even ds ok.0) ∙ decoded) in
    let bytes : to_be_bytes w64 n ≡ w.0 = be_bytes_8 w.0 n (omega (arith, ok.2)) ok.3 (sym w.2) in
    (sym back ∙ ap (λ (l : List ℕ). encode_lower l) (sym bytes), rw (← w.2) (below_words w.0 ok.3))

code_again : (n : ℕ) → n < 2 ^ 64 → code_of (encode_lower (to_be_bytes w64 n)) ≡ Some n
code_again n lt =
    let bytes = eight n in
    let len = length-encode_with lower_digits (to_be_bytes w64 n) in
    let sized : decode_sized (encode_lower (to_be_bytes w64 n)) 8 ≡ Ok (to_be_bytes w64 n) =
    decode_sized-twice (encode_lower (to_be_bytes w64 n)) 8 (omega (arith, len)) ∙ decode_of-encode_lower (to_be_bytes w64 n) bytes in
    let value = from_be_bytes-to_be_bytes_8 n lt in
    ap (λ (b : Bool). cond b None (word_of (decode_sized (encode_lower (to_be_bytes w64 n)) 8))) (lower_again (to_be_bytes w64 n) bytes)
    ∙ ap word_of sized ∙ ap (λ (k : ℕ). Some k) value

pub shape_takes : (bs : List ℕ) (s : Shape) (rest : List ℕ) → read_shape bs ≡ Some (s, rest)
    → (bs ≡ shape_written s rest) × (s.0 < 2 ^ 64) × (ends_item rest ≡ true)
unfolding read_shape
shape_takes bs s rest e =
    let a = bind_some (after (32 ∷ []) bs) (λ r. cond (nat_lt (length r) 16) None (code_item (take 16 r) (drop 16 r))) (s, rest) e in
    let p = not_tested (nat_lt (length a.0) 16) (code_item (take 16 a.0) (drop 16 a.0)) (s, rest) a.2 in
    let c = bind_some (code_of (take 16 a.0)) (λ code. cond (ends_item (drop 16 a.0)) (Some (record { 0 = code }, drop 16 a.0)) None) (s, rest) p.1 in
    let t = tested (ends_item (drop 16 a.0)) (Some (record { 0 = c.0 }, drop 16 a.0)) (s, rest) c.2 in
    let same = some_is (record { 0 = c.0 }, drop 16 a.0) (s, rest) t.1 in
    let code : c.0 ≡ s.0 = ap (λ (x : Shape × List ℕ). x.0.0) same in
    let others : drop 16 a.0 ≡ rest = ap (λ (x : Shape × List ℕ). x.1) same in
    let k = code_takes (take 16 a.0) c.0 c.1 in (
      after_takes (32 ∷ []) bs a.0 a.1 ∙ ap (λ (l : List ℕ). 32 ∷ l)
          (sym (take-append-drop 16 a.0) ∙ ap (λ (l : List ℕ). l ++ drop 16 a.0) k.0 ∙ ap (λ (n : ℕ). encode_lower (to_be_bytes w64 n) ++ drop 16 a.0) code
          ∙ ap (λ (l : List ℕ). encode_lower (to_be_bytes w64 s.0) ++ l) others),
      rw (← code) k.1,
      rw (← others) t.0,
    )

pub shape_again : (s : Shape) (rest : List ℕ) → s.0 < 2 ^ 64 → ends_item rest ≡ true → read_shape (shape_written s rest) ≡ Some (s, rest)
unfolding read_shape
shape_again s rest lt end =
    let ds : List ℕ = encode_lower (to_be_bytes w64 s.0) in
    let len : length (encode_lower (to_be_bytes w64 s.0)) ≡ 16 = length-encode_with lower_digits (to_be_bytes w64 s.0) in
    let all = length-append (encode_lower (to_be_bytes w64 s.0)) rest in
    let enough : nat_lt (length (encode_lower (to_be_bytes w64 s.0) ++ rest)) 16 ≡ false = le-ltb _ _ (omega arith) in
    let code = code_again s.0 lt in
    let item : code_item (encode_lower (to_be_bytes w64 s.0)) rest ≡ Some (s, rest) = rw (code, end) refl in
    let cut : code_item (take 16 (encode_lower (to_be_bytes w64 s.0) ++ rest)) (drop 16 (encode_lower (to_be_bytes w64 s.0) ++ rest))
    ≡ code_item (encode_lower (to_be_bytes w64 s.0)) rest =
    rw (take_at (encode_lower (to_be_bytes w64 s.0)) rest 16 len, drop_at (encode_lower (to_be_bytes w64 s.0)) rest 16 len) refl in
    ap (λ (b : Bool). cond b None (code_item (take 16 (encode_lower (to_be_bytes w64 s.0) ++ rest))
    (drop 16 (encode_lower (to_be_bytes w64 s.0) ++ rest)))) enough ∙ cut ∙ item

-- RISING

pub record IsNext (last : Option Shape) (s : Shape) : Type 0 where
  pub above : is_above last s ≡ true
  pub fits : s.0 < 2 ^ 64

pub rising_takes : (last : Option Shape) (bs : List ℕ) (s : Shape) (rest : List ℕ) → read_rising last bs ≡ Some (s, rest)
    → (bs ≡ shape_written s rest) × IsNext last s
unfolding read_rising
rising_takes last bs s rest e =
    let a = bind_some (read_shape bs) (λ x. cond (is_above last x.0) (Some x) None) (s, rest) e in
    let t = tested (is_above last a.0.0) (Some a.0) (s, rest) a.2 in
    let same = some_is a.0 (s, rest) t.1 in
    let k = shape_takes bs s rest (a.1 ∙ ap (λ (x : Shape × List ℕ). Some x) same) in
    (k.0, record { above = rw (← ap (λ (x : Shape × List ℕ). x.0) same) t.0; fits = k.1 })

pub rising_again : (last : Option Shape) (s : Shape) (rest : List ℕ) → IsNext last s → ends_item rest ≡ true
    → read_rising last (shape_written s rest) ≡ Some (s, rest)
unfolding read_rising
rising_again last s rest next end = rw (shape_again s rest next.fits end, next.above) refl
