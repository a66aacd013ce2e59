use Rattle.std.proofs.Common.{◌≡◌, replicate}
use Rattle.sdv_facts.specs.Start.{start_var}
use Rattle.sdv_facts.proofs.numbers.Numbers.at_start.Given as goal

abbrev pub invariant-loop : goal.invariant-loop
invariant-loop l = l.vars.items ≡ replicate l.counter start_var
