use Rattle.std.proofs.Common.{◌↔◌, All, drop, ◌≤◌}
use Rattle.sdv_script.specs.Rules.{max_number}
use Rattle.sdv_certify.proofs.bounds.are_few.Given as goal

abbrev pub invariant-loop-number : goal.invariant-loop-number
invariant-loop-number l = All (λ n. n ≤ max_number) (drop l.number-index l.numbers) ↔ All (λ n. n ≤ max_number) l.numbers
