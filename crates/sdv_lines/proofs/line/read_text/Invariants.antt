use Rattle.std.proofs.Common.{◌≡◌, length}
use Rattle.arrayvec.specs.ArrayVec.{array_vec_len}
use Rattle.std.specs.Io.KnownBytes.{Consumes}
use Rattle.sdv_lines.specs.Texts.{IsText}
use Rattle.sdv_lines.proofs.line.read_text.Given as goal

-- the bytes so far are a text, and were read
abbrev pub invariant-loop : goal.invariant-loop
invariant-loop g l =
    IsText l.line.items
    × Consumes (g.R.Read.remaining l.fn.reader) (g.R.Read.remaining l.reader) l.line.items
    × (array_vec_len l.line ≡ l.counter)
    × (length l.line.items ≡ l.counter)
