use Rattle.std.proofs.Common.{◌≡◌, ◌++◌}
use Rattle.sdv_review.specs.declared.finding.Name.TheVariants.{Number}
use Rattle.sdv_review.specs.Findings.{names_before}
use Rattle.sdv_review.proofs.finds.put_numbers.Given as goal

abbrev pub invariant-loop-place : goal.invariant-loop-place
invariant-loop-place l = l.found.items ≡ l.fn.found.items ++ names_before Number l.graph.points l.place
