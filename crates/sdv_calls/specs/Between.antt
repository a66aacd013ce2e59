-- What is known BETWEEN CALLS of a driver, and what is known from it where an entry is called.
use Rattle.std.specs.Prelude.{◌+◌, ◌-◌, ◌^◌, ℕ, [], ◌∷◌, ◌++◌, take, min, max, nat_le, Option, Some, None, if◌then◌else◌}
use Rattle.sdv_facts.specs.declared.numbers.VarFacts.{VarFacts}
use Rattle.sdv_facts.specs.declared.numbers.Numbers.{Numbers}
use Rattle.sdv_facts.specs.Facts.{var, with_var}
use Rattle.sdv_facts.specs.Gaps.{gap_more}
use Rattle.sdv_driver.specs.declared.tree.Input.{Input}
use Rattle.sdv_driver.specs.declared.tree.Within.{Within}
use Rattle.sdv_driver.specs.Tree.{Entry}

-- THE INPUT, which a caller gives

abbrev pub input_facts : VarFacts
input_facts = record { lo = 0; hi = 2 ^ 32 - 1; gap = None; bgap = None }

-- as the last number variable
abbrev pub with_input : Option Input → Numbers → Numbers
with_input None ns = ns
with_input (Some i) ns = record ns { vars = record { items = ns.vars.items ++ input_facts ∷ [] } }

-- WHERE A CALL IS ALLOWED

abbrev pub more_of : Option ℕ → ℕ
more_of None = 0
more_of (Some k) = k

-- The input and k are at most a number y. So the input is at most y less k, and has k blocks more behind it than y;
abbrev pub lowered_to : VarFacts → (k : ℕ) → VarFacts → VarFacts
lowered_to x k y = record { lo = x.lo; hi = min x.hi (y.hi - k); gap = gap_more y.gap k; bgap = gap_more y.bgap k }

-- and y is at least the input and k.
abbrev pub raised_to : VarFacts → (k : ℕ) → VarFacts → VarFacts
raised_to x k y = record y { lo = max y.lo (x.lo + k) }

abbrev pub numbers_within : Numbers → (x k y : ℕ) → Numbers
numbers_within ns x k y =
    with_var (with_var ns x (lowered_to (var ns x) k (var ns y))) y (raised_to (var ns x) k (var ns y))

-- none where no call is allowed
abbrev pub after_within : Option Within → Numbers → Option Numbers
after_within None ns = Some ns
after_within (Some w) ns =
    if nat_le ((var ns w.input).lo + more_of w.more) (var ns w.most).hi
    then Some (numbers_within ns w.input (more_of w.more) w.most) else None

-- what is known of numbers at the first point of an entry that is called
abbrev pub numbers_called : Entry → Numbers → Option Numbers
numbers_called e ns = after_within e.within (with_input e.input ns)

-- AFTER A CALL the input is forgotten
abbrev pub first_numbers : ℕ → Numbers → Numbers
first_numbers n ns = record ns { vars = record { items = take n ns.vars.items } }
