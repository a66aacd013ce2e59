use Rattle.std.proofs.Common.{◌≡◌, List, ℕ, ◌++◌, length}
use Rattle.std.specs.Io.KnownBytes.{Appends}
use Rattle.sdv_text.proofs.write_text.Given as goal

-- what is written and what is left are the text
abbrev pub invariant-loop-rest : goal.invariant-loop-rest
invariant-loop-rest g l =
    (written : List ℕ) × (l.fn.text ≡ written ++ l.rest) × Appends (g.W.Write.contents l.fn.out) (g.W.Write.contents l.out) written

abbrev pub decreases-loop-rest : goal.decreases-loop-rest
decreases-loop-rest g l = length l.rest
