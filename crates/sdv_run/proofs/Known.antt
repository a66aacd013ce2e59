-- Bytes that a writer is known to hold.
use Rattle.std.proofs.Common.{ℕ, List, Option}
use Rattle.std.specs.Io.KnownBytes.{Appends}
use Rattle.sdv_text.specs.Written.{AppendsPart}
use Rattle.sdv_text.proofs.WrittenLaws.{appends_more}
use Rattle.sdv_run.specs.Ran.{BreaksOff}

-- a text, and then a part of another one
pub breaks_off : (old mid new : Option (List ℕ)) (a b : List ℕ) → Appends old mid a → AppendsPart mid new b → BreaksOff old new a b
breaks_off old mid new a b p q = (q.0, q.1, q.2, q.3, appends_more old mid new a q.0 p q.4)
