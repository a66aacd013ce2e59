-- Lower-case hexadecimal digits, which are those of the bytes that they spell.
use Rattle.std.proofs.Common.{◌≡◌, ℕ, zero, suc, ◌+◌, ◌*◌, ◌/◌, ◌%◌, ◌<◌, false, cond, ◌||◌, nat_lt, List, [], ◌∷◌, slice_index, Option, Some, None, Result, Ok, Err, refl, sym, ap, ◌∙◌, arith}
use Rattle.std.proofs.lemmas.Bool.{or_parts}
use Rattle.std.proofs.lemmas.Bool.Decides.{nat_tests}
use Rattle.hex.specs.Hex.{IsBytes, lower_digits, encode_with, encode_lower, hex_digit_value, digit_or_error, value_at, pair_value, decode_pairs, ◌>>=◌}
use Rattle.hex.specs.declared.error.FromHexError.{FromHexError}
use Rattle.sdv_check.specs.Reading.{is_upper, has_upper}

-- the lower-case digit of a value
glyph : (v : ℕ) → v < 16 → slice_index lower_digits v ≡ cond (nat_lt v 10) (v + 48) (v + 87)
glyph zero lt = refl
glyph (suc zero) lt = refl
glyph (suc (suc zero)) lt = refl
glyph (suc (suc (suc zero))) lt = refl
glyph (suc (suc (suc (suc zero)))) lt = refl
glyph (suc (suc (suc (suc (suc zero))))) lt = refl
glyph (suc (suc (suc (suc (suc (suc zero)))))) lt = refl
glyph (suc (suc (suc (suc (suc (suc (suc zero))))))) lt = refl
glyph (suc (suc (suc (suc (suc (suc (suc (suc zero)))))))) lt = refl
glyph (suc (suc (suc (suc (suc (suc (suc (suc (suc zero))))))))) lt = refl
glyph (suc (suc (suc (suc (suc (suc (suc (suc (suc (suc zero)))))))))) lt = refl
glyph (suc (suc (suc (suc (suc (suc (suc (suc (suc (suc (suc zero))))))))))) lt = refl
glyph (suc (suc (suc (suc (suc (suc (suc (suc (suc (suc (suc (suc zero)))))))))))) lt = refl
glyph (suc (suc (suc (suc (suc (suc (suc (suc (suc (suc (suc (suc (suc zero))))))))))))) lt = refl
glyph (suc (suc (suc (suc (suc (suc (suc (suc (suc (suc (suc (suc (suc (suc zero)))))))))))))) lt = refl
glyph (suc (suc (suc (suc (suc (suc (suc (suc (suc (suc (suc (suc (suc (suc (suc zero))))))))))))))) lt = refl
glyph (suc (suc (suc (suc (suc (suc (suc (suc (suc (suc (suc (suc (suc (suc (suc (suc n)))))))))))))))) lt = absurd (omega arith)

bind_ok : {A B : Type 0} (r : Result A FromHexError) (f : A → Result B FromHexError) (y : B) → (r >>= f) ≡ Ok y → (x : A) × (r ≡ Ok x) × (f x ≡ Ok y)
bind_ok (Ok x) f y h = (x, refl, h)
bind_ok (Err e) f y h = absurd (cc)

ok_list : (x y : List ℕ) → ◌≡◌ {A = Result (List ℕ) FromHexError} (Ok x) (Ok y) → x ≡ y
ok_list x y e = cc

ok_number : (x y : ℕ) → ◌≡◌ {A = Result ℕ FromHexError} (Ok x) (Ok y) → x ≡ y
ok_number x y e = cc

digit_read : (c i : ℕ) (o : Option ℕ) (v : ℕ) → digit_or_error c i o ≡ Ok v → o ≡ Some v
digit_read c i (Some w) v h = cc
digit_read c i None v h = absurd (cc)

-- a digit that is read, and is no upper-case letter, is that of its value
digit_back : (c i v : ℕ) → is_upper c ≡ false → value_at c i ≡ Ok v → (v < 16) × (slice_index lower_digits v ≡ c)
digit_back c i v lower e =
    let read : hex_digit_value c ≡ Some v = digit_read c i (hex_digit_value c) v e in
    let small : v < 16 = grind (arith, nat_tests) in
    (small, glyph v small ∙ grind (arith, nat_tests))

pub encode_back : (i : ℕ) (s bytes : List ℕ) → has_upper s ≡ false → decode_pairs i s ≡ Ok bytes → encode_lower bytes ≡ s
unfolding encode_with decode_pairs
encode_back i [] bytes lower e = ap (λ (l : List ℕ). encode_lower l) (sym (ok_list [] bytes e))
encode_back i (a ∷ []) bytes lower e = absurd (cc)
encode_back i (a ∷ b ∷ rest) bytes lower e =
    let p0 = bind_ok (pair_value a b i) _ bytes e in
    let p1 = bind_ok (value_at a i) _ p0.0 p0.1 in
    let p2 = bind_ok (value_at b (i + 1)) _ p0.0 p1.2 in
    let p3 = bind_ok (decode_pairs (i + 2) rest) _ bytes p0.2 in
    let l0 = or_parts (is_upper a) (is_upper b || has_upper rest) lower in
    let l1 = or_parts (is_upper b) (has_upper rest) l0.1 in
    let high = digit_back a i p1.0 l0.0 p1.1 in
    let low = digit_back b (i + 1) p2.0 l1.0 p2.1 in
    let more = encode_back (i + 2) rest p3.0 l1.1 p3.1 in
    let byte : p1.0 * 16 + p2.0 ≡ p0.0 = ok_number _ _ p2.2 in
    let whole : p0.0 ∷ p3.0 ≡ bytes = ok_list _ _ p3.2 in
    let h : p0.0 / 16 ≡ p1.0 = omega arith in
    let l : p0.0 % 16 ≡ p2.0 = omega arith in
    ap (λ (x : List ℕ). encode_lower x) (sym whole) ∙ rw (h, l, high.1, low.1, more) refl

-- no digit is an upper-case letter
lower_at : (v : ℕ) → v < 16 → is_upper (slice_index lower_digits v) ≡ false
lower_at v lt = rw (glyph v lt) (grind (arith, nat_tests))

pub lower_again : (bytes : List ℕ) → IsBytes bytes → has_upper (encode_lower bytes) ≡ false
unfolding encode_with
lower_again [] fits = refl
lower_again (b ∷ bs) fits =
    let small : b < 256 = fits 0 in
    rw (lower_at (b / 16) (omega arith), lower_at (b % 16) (omega arith)) (lower_again bs (λ i. fits (suc i)))
