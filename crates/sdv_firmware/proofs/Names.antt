-- THE BYTES of a name in a table.
use Rattle.std.proofs.Common.{◌≡◌, ◌∙◌, ◌<◌, ◌/◌, ◌%◌, ◌+◌, ◌*◌, ℕ, zero, suc, List, [], ◌∷◌, drop, length, get_or, slice_index, refl, ap, arith, subst, sym}
use Rattle.sdv_firmware.specs.Events.{below}
use Rattle.sdv_table.specs.Reading.{byte_at, name_of}

pub length-name_of : (n : ℕ) (ws : List ℕ) → length (name_of n ws) ≡ n
length-name_of zero ws = refl
length-name_of (suc zero) ws = refl
length-name_of (suc (suc zero)) ws = refl
length-name_of (suc (suc (suc zero))) ws = refl
length-name_of (suc (suc (suc (suc n)))) ws = ap (λ m. suc (suc (suc (suc m)))) (length-name_of n (drop 1 ws))

-- the first bytes of a name are those of its first word
first_byte : (n : ℕ) (ws : List ℕ) (r : ℕ) → r < 4 → r < n → get_or (name_of n ws) r 0 ≡ byte_at ws (below r)
first_byte zero ws r small less = omega arith
first_byte (suc zero) ws zero small less = refl
first_byte (suc zero) ws (suc r) small less = omega arith
first_byte (suc (suc zero)) ws zero small less = refl
first_byte (suc (suc zero)) ws (suc zero) small less = refl
first_byte (suc (suc zero)) ws (suc (suc r)) small less = omega arith
first_byte (suc (suc (suc zero))) ws zero small less = refl
first_byte (suc (suc (suc zero))) ws (suc zero) small less = refl
first_byte (suc (suc (suc zero))) ws (suc (suc zero)) small less = refl
first_byte (suc (suc (suc zero))) ws (suc (suc (suc r))) small less = omega arith
first_byte (suc (suc (suc (suc n)))) ws zero small less = refl
first_byte (suc (suc (suc (suc n)))) ws (suc zero) small less = refl
first_byte (suc (suc (suc (suc n)))) ws (suc (suc zero)) small less = refl
first_byte (suc (suc (suc (suc n)))) ws (suc (suc (suc zero))) small less = refl
first_byte (suc (suc (suc (suc n)))) ws (suc (suc (suc (suc r)))) small less = omega arith

drop_first : (q : ℕ) (ws : List ℕ) → drop q (drop 1 ws) ≡ drop (suc q) ws
drop_first zero [] = refl
drop_first (suc q) [] = refl
drop_first q (w ∷ ws) = refl

-- a byte of a name is one of a word
pub name_byte : (q r n : ℕ) (ws : List ℕ) → r < 4 → r + 4 * q < n
    → get_or (name_of n ws) (r + 4 * q) 0 ≡ byte_at (drop q ws) (below r)
name_byte zero r n ws small less =
    let same : r ≡ r + 4 * 0 = omega arith in
    subst (λ k. get_or (name_of n ws) k 0 ≡ byte_at ws (below r)) same (first_byte n ws r small (omega arith))
name_byte (suc q) r zero ws small less = omega arith
name_byte (suc q) r (suc zero) ws small less = omega arith
name_byte (suc q) r (suc (suc zero)) ws small less = omega arith
name_byte (suc q) r (suc (suc (suc zero))) ws small less = omega arith
name_byte (suc q) r (suc (suc (suc (suc n)))) ws small less =
    let same : suc (suc (suc (suc (r + 4 * q)))) ≡ r + 4 * suc q = omega arith in
    let name = name_of (suc (suc (suc (suc n)))) ws in
    subst (λ k. get_or name k 0 ≡ byte_at (drop (suc q) ws) (below r)) same
    (name_byte q r n (drop 1 ws) small (omega arith) ∙ ap (λ (rest : List ℕ). byte_at rest (below r)) (drop_first q ws))

first_of_rest : (q : ℕ) (ws : List ℕ) → slice_index (drop q ws) 0 ≡ slice_index ws q
first_of_rest zero ws = refl
first_of_rest (suc q) [] = refl
first_of_rest (suc q) (w ∷ ws) = first_of_rest q ws

pub byte_there : (at n : ℕ) (ws : List ℕ) → at < n
    → slice_index ws (at / 4) / below (at % 4) % 256 ≡ get_or (name_of n ws) at 0
byte_there at n ws less =
    let same : at % 4 + 4 * (at / 4) ≡ at = omega arith in
    sym (subst (λ k. get_or (name_of n ws) k 0 ≡ byte_at (drop (at / 4) ws) (below (at % 4))) same
    (name_byte (at / 4) (at % 4) n ws (omega arith) (omega arith))
    ∙ ap (λ word. word / below (at % 4) % 256) (first_of_rest (at / 4) ws))
