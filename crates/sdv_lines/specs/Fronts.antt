-- What a reader holds of a line that may be the first answer.
use Rattle.std.specs.Prelude.{◌<◌, ◌+◌, ◌-◌, ◌*◌, ℕ, List, [], ◌∷◌, Option, Some, None, MatchResult, Result}
use Rattle.std.specs.Io.KnownBytes.{Consumes, IsAtEnd, Keeps}
use Rattle.arrayvec.specs.ArrayVec.{array_vec_len}
use Rattle.sdv_lines.specs.declared.line.TheConstants.{LONGEST}
use Rattle.sdv_lines.specs.declared.noise.Front.{Front}

-- the first answer is still to come, and there is room for a byte
abbrev pub IsOpen : Front → Type 0
IsOpen front = (0 < front.most) × (array_vec_len front.held < LONGEST + 1)

-- how many bytes it takes at most
abbrev pub room_left : Front → ℕ
room_left front = (LONGEST + 2) * front.most + (LONGEST + 1 - array_vec_len front.held)

-- a byte was read, or none was left
abbrev pub Nexts : (old new : Option (List ℕ)) → Option ℕ → Type 0
Nexts old new None = Consumes old new [] × IsAtEnd new
Nexts old new (Some byte) = Consumes old new (byte ∷ [])

-- or the reader failed
abbrev pub ReadsNext : {E : Type 0} → (old new : Option (List ℕ)) → Result (Option ℕ) E → Type 0
ReadsNext old new result =
    MatchResult result (Nexts old new) (λ _. Keeps old new)
