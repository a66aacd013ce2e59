use Rattle.std.proofs.Common.{◌≡◌, ◌-◌, ◌≤◌, Option, length}
use Rattle.sdv_facts.specs.declared.numbers.VarFacts.{VarFacts}
use Rattle.sdv_check.specs.Reading.{begins_var, read_var, read_vars}
use Rattle.sdv_check.proofs.Lists.{left}
use Rattle.sdv_check.proofs.text.points.variables.Given as goal

-- what is read and what is left are all
abbrev pub invariant-loop-version : goal.invariant-loop-version
invariant-loop-version l =
    (length l.vars.items ≤ 8) × ((last : Option VarFacts) × (left begins_var (λ last. read_var l.version) 8 l.vars.items last l.at.rest.now ≡ read_vars l.version l.fn.at.rest.now))

abbrev pub decreases-loop-version : goal.decreases-loop-version
decreases-loop-version l = 8 - length l.vars.items
