-- What a field of a register is: a range of its bits. A register is its list of bits, the most
-- significant first, which have their numbers in the standards from the first one, top, down.
-- SD Physical Layer Simplified Specification, section 5 (card registers); JESD84-B51, section 7
-- (device registers).
use Rattle.std.specs.Prelude.{ℕ, Bool, ◌==◌}
use Rattle.sdv_frames.specs.Bits.{Bits, number_of, range}

-- the value of the field [high:low] of a register whose first bit has the number top
abbrev pub field : ℕ → ℕ → ℕ → Bits → ℕ
field top high low register = number_of (range top high low register)

-- whether the bit of this number is 1
abbrev pub is_set : ℕ → ℕ → Bits → Bool
is_set top place register = field top place place register == 1
