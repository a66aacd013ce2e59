-- The host's data lines in codes.
use Rattle.std.proofs.Common.{◌≡◌, ℕ, ◌+◌, ◌-◌, ◌*◌, ◌≤◌, ◌<◌, ◌/◌, ◌%◌, ◌^◌, ◌==◌, Bool, true, false, if◌then◌else◌, refl, ap, ◌∙◌, eqb-true, arith}
use Rattle.std.proofs.lemmas.Bool.{eqb-false}
use Rattle.sdv_registers.specs.declared.kind.Kind.{Kind}
use Rattle.sdv_card.specs.declared.state.Width.{Width}
use Rattle.sdv_card.specs.declared.state.Width.TheVariants.{One, Four, Eight}
use Rattle.sdv_card.specs.declared.shape.Shape.{Shape}
use Rattle.sdv_card.specs.declared.fields.Fields.{Fields}
use Rattle.sdv_card.specs.Modes.{width_number}
use Rattle.sdv_card.specs.Card.{Card}
use Rattle.sdv_card.specs.Host.{Host}
use Rattle.sdv_card.specs.Code.{code_of, digits, width_of}
use Rattle.sdv_card.specs.Shapes.{view, pair_code, IsPair}
use Rattle.sdv_card.specs.ShapeBits.{lines_shown, with_lines_shown}
use Rattle.sdv_card.proofs.Digits.{digits_law}

-- the width of a digit has no greater number, and below 4 one that is less by 1 at most
width_below : (d : ℕ) → width_number (width_of d) ≤ d
width_below d = go (d == 0) (d == 1) refl refl
  where
    go : (a b : Bool) → (d == 0) ≡ a → (d == 1) ≡ b → width_number (if a then One else (if b then Four else Eight)) ≤ d
    go true b e f = omega arith
    go false true e f = let one : d ≡ 1 = eqb-true d 1 f in omega arith
    go false false e f = let some : d ≡ 0 → ⊥ = eqb-false d 0 e in let other : d ≡ 1 → ⊥ = eqb-false d 1 f in omega arith

width_near : (d : ℕ) → d < 4 → d ≤ width_number (width_of d) + 1
width_near d small = go (d == 0) (d == 1) refl refl
  where
    go : (a b : Bool) → (d == 0) ≡ a → (d == 1) ≡ b → d ≤ width_number (if a then One else (if b then Four else Eight)) + 1
    go true b e f = let none : d ≡ 0 = eqb-true d 0 e in omega arith
    go false true e f = let one : d ≡ 1 = eqb-true d 1 f in omega arith
    go false false e f = omega arith

number_small : (w : Width) → width_number w ≤ 2
number_small One = omega arith
number_small Four = omega arith
number_small Eight = omega arith

-- a code has the bits of its host's lines, and room for those of others
pub lines_are_there : (s : Shape) → 2 ^ 22 * width_number (lines_shown s) ≤ s.0
unfolding digits
lines_are_there s = let below = width_below (s.0 / 4194304 % 4) in omega arith

pub room_for_lines : (s : Shape) (lines : Width) → s.0 < 2 ^ 64 → s.0 - 2 ^ 22 * width_number (lines_shown s) + 2 ^ 22 * width_number lines < 2 ^ 64
unfolding digits
room_for_lines s lines small =
    let near : s.0 / 4194304 % 4 ≤ width_number (width_of (s.0 / 4194304 % 4)) + 1 = width_near (s.0 / 4194304 % 4) (omega arith) in
    let below = width_below (s.0 / 4194304 % 4) in
    let two = number_small lines in
    omega arith

-- the lines are a digit of a code
code_lines : (f : Fields) (lines : Width) → code_of f - 2 ^ 22 * width_number f.lines + 2 ^ 22 * width_number lines ≡ code_of (record f { lines = lines })
unfolding code_of
code_lines f lines = omega arith

-- other lines of the host set the bits of the code
pub pair_with_lines : (k : Kind) (c : Card) (h : Host) (lines : Width) → IsPair k c h →
    with_lines_shown (record { 0 = pair_code c h }) lines ≡ record { 0 = pair_code c (record h { lines = lines }) }
pair_with_lines k c h lines pair =
    let shown : lines_shown (record { 0 = pair_code c h }) ≡ h.lines = ap (λ f. f.lines) (digits_law (view c h) pair.flags pair.card.preset) in
    ap (λ n. record { 0 = n })
    (ap (λ w. pair_code c h - 2 ^ 22 * width_number w + 2 ^ 22 * width_number lines) shown ∙ code_lines (view c h) lines)
