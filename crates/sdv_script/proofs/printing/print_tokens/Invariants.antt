use Rattle.std.proofs.Common.{◌≡◌, List, ℕ, ◌++◌, length}
use Rattle.std.specs.Io.KnownBytes.{Appends}
use Rattle.sdv_script.specs.Printed.{printed_pieces, pieces_at, printed}
use Rattle.sdv_script.specs.Place.{tokens_at}
use Rattle.sdv_script.proofs.printing.print_tokens.Given as goal

-- what is written, and what is printed of the tokens that are left, is all
abbrev pub invariant-loop-at : goal.invariant-loop-at
invariant-loop-at g l =
    (written : List ℕ) × (printed l.text ≡ written ++ printed_pieces (pieces_at l.at))
    × Appends (g.W.Write.contents l.fn.out) (g.W.Write.contents l.out) written

abbrev pub decreases-loop-at : goal.decreases-loop-at
decreases-loop-at g l = length (tokens_at l.at)
