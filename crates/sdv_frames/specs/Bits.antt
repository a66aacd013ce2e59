-- Lists of bits, as they go over the line: the most significant bit first.
use Rattle.std.specs.Prelude.{Bool, ℕ, zero, suc, ◌+◌, ◌-◌, ◌/◌, ◌%◌, ◌^◌, ◌==◌, List, [], ◌∷◌, ◌++◌, length, take, drop, if◌then◌else◌}

-- bits of the line or of a register
abbrev pub Bits : Type 0
Bits = List Bool

-- the n lowest bits of a number
unfoldable pub bits : ℕ → ℕ → Bits
bits zero number = []
bits (suc n) number = (number / 2 ^ n % 2 == 1) ∷ bits n number

-- the bits of bytes, in their order
unfoldable pub bits_of : List ℕ → Bits
bits_of [] = []
bits_of (byte ∷ bytes) = bits 8 byte ++ bits_of bytes

-- the number that bits spell
unfoldable pub number_of : Bits → ℕ
number_of [] = 0
number_of (bit ∷ rest) = (if bit then 2 ^ length rest else 0) + number_of rest

-- bits high..low of a list whose first bit has the number top, as the standards count: [high:low]
abbrev pub range : ℕ → ℕ → ℕ → Bits → Bits
range top high low all = take (high + 1 - low) (drop (top - high) all)
