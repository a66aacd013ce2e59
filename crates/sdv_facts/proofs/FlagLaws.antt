-- The script's flags in the code of a card and its host.
use Rattle.std.proofs.Common.{◌≡◌, ℕ, zero, suc, ◌<◌, ◌≤◌, ◌+◌, ◌*◌, ◌/◌, ◌%◌, ◌^◌, refl, ap, ◌∙◌, arith, Bool, true, false}
use Rattle.std.proofs.lemmas.Bool.{eqb-true, eqb-false}
use Rattle.sdv_registers.specs.declared.kind.Kind.{Kind}
use Rattle.sdv_card.specs.declared.fields.Fields.{Fields}
use Rattle.sdv_card.specs.Card.{Card}
use Rattle.sdv_card.specs.Code.{code_of}
use Rattle.sdv_card.specs.Host.{Host}
use Rattle.sdv_card.specs.Shapes.{view, pair_code, IsPair}
use Rattle.sdv_card.specs.ShapeBits.{is_flag_set, put_bit, with_flag_shown}
use Rattle.sdv_graph.specs.Conditions.{with_flag}
use Rattle.sdv_facts.proofs.UnitLaws.{flag_shown}

power : (f : ℕ) → f < 4 → 2 ^ (16 + f) ≡ 65536 * 2 ^ f
power zero lt = refl
power (suc zero) lt = refl
power (suc (suc zero)) lt = refl
power (suc (suc (suc zero))) lt = refl
power (suc (suc (suc (suc f)))) lt = absurd (omega arith)

-- the flags are a digit of a code
code_flags : (f : Fields) (n : ℕ) → code_of (record f { flags = n }) + 65536 * f.flags ≡ code_of f + 65536 * n
unfolding code_of
code_flags f n = omega arith

code_above : (f : Fields) → 65536 * f.flags ≤ code_of f
unfolding code_of
code_above f = omega arith

put_in_code : (on to : Bool) (code flags step code' : ℕ) → (on ≡ true → step ≤ flags) → code' + 65536 * flags ≡ code + 65536 * put_bit on to flags step
    → 65536 * flags ≤ code → put_bit on to code (65536 * step) ≡ code'
put_in_code true true code flags step code' low e le = omega arith
put_in_code true false code flags step code' low e le = let l : step ≤ flags = low refl in omega arith
put_in_code false true code flags step code' low e le = omega arith
put_in_code false false code flags step code' low e le = omega arith

flag_low : (flags f : ℕ) → f < 4 → is_flag_set flags f ≡ true → 2 ^ f ≤ flags
flag_low flags zero lt e = let one : flags / 2 ^ zero % 2 ≡ 1 = eqb-true (flags / 2 ^ zero % 2) 1 e in omega arith
flag_low flags (suc zero) lt e = let one : flags / 2 ^ 1 % 2 ≡ 1 = eqb-true (flags / 2 ^ 1 % 2) 1 e in omega arith
flag_low flags (suc (suc zero)) lt e = let one : flags / 2 ^ 2 % 2 ≡ 1 = eqb-true (flags / 2 ^ 2 % 2) 1 e in omega arith
flag_low flags (suc (suc (suc zero))) lt e = let one : flags / 2 ^ 3 % 2 ≡ 1 = eqb-true (flags / 2 ^ 3 % 2) 1 e in omega arith
flag_low flags (suc (suc (suc (suc f)))) lt e = absurd (omega arith)

-- setting a flag of the host sets the bit of the code
pub pair_with_flag : (k : Kind) (c : Card) (h : Host) (f : ℕ) (to : Bool) → IsPair k c h → f < 4 →
    with_flag_shown (record { 0 = pair_code c h }) f to ≡ record { 0 = pair_code c (with_flag h f to) }
pair_with_flag k c h f to pair lt =
    let on = is_flag_set h.flags f in
    let n = put_bit on to h.flags (2 ^ f) in
    let e : put_bit on to (pair_code c h) (65536 * 2 ^ f) ≡ pair_code c (with_flag h f to) =
    put_in_code on to (pair_code c h) h.flags (2 ^ f) (code_of (record (view c h) { flags = n })) (flag_low h.flags f lt) (code_flags (view c h) n)
    (code_above (view c h)) in
    ap (λ code. record { 0 = code }) (ap (λ v. put_bit v to (pair_code c h) (2 ^ (16 + f))) (flag_shown k c h pair f)
    ∙ ap (λ v. put_bit on to (pair_code c h) v) (power f lt) ∙ e)

flags_small : (to on : Bool) (flags f : ℕ) → flags < 16 → f < 4 → is_flag_set flags f ≡ on → put_bit on to flags (2 ^ f) < 16
flags_small true true flags f s lt e = s
flags_small false true flags f s lt e = omega arith
flags_small false false flags f s lt e = s
flags_small true false flags zero s lt e = let z : flags / 2 ^ zero % 2 ≡ 1 → ⊥ = eqb-false (flags / 2 ^ zero % 2) 1 e in omega arith
flags_small true false flags (suc zero) s lt e = let z : flags / 2 ^ 1 % 2 ≡ 1 → ⊥ = eqb-false (flags / 2 ^ 1 % 2) 1 e in omega arith
flags_small true false flags (suc (suc zero)) s lt e = let z : flags / 2 ^ 2 % 2 ≡ 1 → ⊥ = eqb-false (flags / 2 ^ 2 % 2) 1 e in omega arith
flags_small true false flags (suc (suc (suc zero))) s lt e = let z : flags / 2 ^ 3 % 2 ≡ 1 → ⊥ = eqb-false (flags / 2 ^ 3 % 2) 1 e in omega arith
flags_small true false flags (suc (suc (suc (suc f)))) s lt e = absurd (omega arith)

pub flags_kept : (h : Host) (f : ℕ) (to : Bool) → h.flags < 16 → f < 4 → (with_flag h f to).flags < 16
flags_kept h f to s lt = flags_small to (is_flag_set h.flags f) h.flags f s lt refl
