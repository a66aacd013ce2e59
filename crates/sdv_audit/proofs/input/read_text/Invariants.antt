use Rattle.std.proofs.Common.{◌≡◌, length}
use Rattle.arrayvec.specs.ArrayVec.{array_vec_len}
use Rattle.std.specs.Io.KnownBytes.{Consumes}
use Rattle.sdv_audit.specs.Input.{IsText}
use Rattle.sdv_audit.proofs.input.read_text.Given as goal

-- the bytes so far are a text, and were read
abbrev pub invariant-loop : goal.invariant-loop
invariant-loop g l =
    IsText l.text.items
    × Consumes (g.R.Read.remaining l.fn.reader) (g.R.Read.remaining l.reader) l.text.items
    × (array_vec_len l.text ≡ l.counter)
    × (length l.text.items ≡ l.counter)
