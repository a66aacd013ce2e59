use Rattle.std.proofs.Common.{◌≡◌, take}
use Rattle.sdv_facts.proofs.numbers.Numbers.copied.Given as goal

abbrev pub invariant-loop-known : goal.invariant-loop-known
invariant-loop-known l = l.vars.items ≡ take l.known-index l.self.vars.items
