use Rattle.std.proofs.Common.{◌≡◌, map, take}
use Rattle.sdv_facts.specs.Versions.{var_without_boot}
use Rattle.sdv_facts.proofs.numbers.Numbers.without_boot.Given as goal

abbrev pub invariant-loop-known : goal.invariant-loop-known
invariant-loop-known l = l.vars.items ≡ map var_without_boot (take l.known-index l.self.vars.items)
