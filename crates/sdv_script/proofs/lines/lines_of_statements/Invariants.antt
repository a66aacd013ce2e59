use Rattle.std.proofs.Common.{◌≡◌, ◌≤◌, ◌+◌, ◌++◌, length}
use Rattle.sdv_script.specs.FoundLines.{found_lines, lines_at, reach}
use Rattle.sdv_script.specs.Lines.{token_lines}
use Rattle.sdv_script.specs.Place.{tokens_at}
use Rattle.sdv_script.specs.Tokens.{tokens}
use Rattle.sdv_script.specs.declared.lines.Before.TheVariants.{Other}
use Rattle.sdv_script.proofs.lines.lines_of_statements.Given as goal

-- the lines so far, and those that are still to be found, are all
abbrev pub invariant-loop-at : goal.invariant-loop-at
invariant-loop-at l =
    (found_lines Other (tokens l.text) (token_lines 1 l.text) ≡ l.lines.items ++ found_lines l.before (tokens_at l.at) (lines_at l.at))
    × (reach l.at ≤ 1 + length l.text)

abbrev pub decreases-loop-at : goal.decreases-loop-at
decreases-loop-at l = length (tokens_at l.at)
