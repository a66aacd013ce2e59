-- What is known of numbers along an edge on which a comparison holds.
-- Comparisons are this project's own.
use Rattle.std.specs.Prelude.{◌+◌, ◌-◌, ◌≤◌, ◌<◌, ℕ, nat_le, nat_lt, min, max, Option, Some, None, if◌then◌else◌}
use Rattle.sdv_card.specs.Host.{Host}
use Rattle.sdv_graph.specs.Counts.{max_number}
use Rattle.sdv_facts.specs.declared.numbers.VarFacts.{VarFacts}
use Rattle.sdv_facts.specs.declared.numbers.Numbers.{Numbers}
use Rattle.sdv_facts.specs.declared.test.Test.{Test}
use Rattle.sdv_facts.specs.declared.test.Test.TheVariants.{AtLeast, Below}
use Rattle.sdv_facts.specs.Facts.{var, with_var}
use Rattle.sdv_graph.specs.ValueOfLet.{number}

-- the comparison holds of a host
abbrev pub TestHolds : Test → Host → Type 0
TestHolds (AtLeast x k) h = k ≤ number h x
TestHolds (Below x k) h = number h x < k

-- a number that is at least so much, with that many blocks from it on, gives a least capacity
abbrev pub least_by : Option ℕ → (lo m : ℕ) → ℕ
least_by None lo m = m
least_by (Some gap) lo m = max m (min (lo + gap) max_number)

abbrev pub raised : VarFacts → ℕ → VarFacts
raised v k = record v { lo = max v.lo k }

abbrev pub lowered : VarFacts → ℕ → VarFacts
lowered v k = record v { hi = min v.hi (k - 1) }

-- it does so of the user area and of a boot partition
abbrev pub raised_by : Numbers → (x k : ℕ) → Numbers
raised_by ns x k = record (with_var ns x (raised (var ns x) k)) {
  m = least_by (var ns x).gap (max (var ns x).lo k) ns.m;
  mb = least_by (var ns x).bgap (max (var ns x).lo k) ns.mb;
}

-- the numbers that are carried; none where there is no edge
abbrev pub after_test : Numbers → Test → Option Numbers
after_test ns (AtLeast x k) = if nat_le k (var ns x).hi then Some (raised_by ns x k) else None
after_test ns (Below x k) =
    if nat_lt (var ns x).lo k then Some (with_var ns x (lowered (var ns x) k)) else None
