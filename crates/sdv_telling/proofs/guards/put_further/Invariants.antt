use Rattle.std.proofs.Common.{◌≡◌, ◌++◌, drop, flat_map}
use Rattle.sdv_telling.specs.Guards.{further_words}
use Rattle.sdv_telling.proofs.guards.put_further.Given as goal

-- what is written, and what is still to be, are all
abbrev pub invariant-loop-guard : goal.invariant-loop-guard
invariant-loop-guard l = l.text.items ++ flat_map further_words (drop l.guard-index l.guards) ≡ l.fn.text.items ++ flat_map further_words l.guards
