-- When what is known at a point holds of a card and its host.
-- Bounds are this project's own.
use Rattle.std.specs.Prelude.{◌≡◌, ◌+◌, ◌≤◌, ℕ, length, Option, Some, None}
use Rattle.sdv_card.specs.Lists.{May}
use Rattle.sdv_card.specs.Card.{Card}
use Rattle.sdv_card.specs.Host.{Host}
use Rattle.sdv_card.specs.Shapes.{pair_code}
use Rattle.sdv_facts.specs.declared.numbers.VarFacts.{VarFacts}
use Rattle.sdv_facts.specs.declared.numbers.Numbers.{Numbers}
use Rattle.sdv_facts.specs.Facts.{Facts, var}
use Rattle.sdv_graph.specs.ValueOfLet.{number}

-- there are so many blocks from x on, if that is known
abbrev pub GapHolds : Option ℕ → ℕ → ℕ → Type 0
GapHolds None x capacity = Unit {0}
GapHolds (Some gap) x capacity = x + gap ≤ capacity

-- what is known of a number variable holds of its value: also how far it is from the end of the user area, and from
-- that of a boot partition
pub record VarHolds (c : Card) (v : VarFacts) (x : ℕ) : Type 0 where
  pub low : v.lo ≤ x
  pub high : x ≤ v.hi
  pub gap : GapHolds v.gap x c.capacity
  pub bgap : GapHolds v.bgap x c.boot_capacity

-- the capacity is at least m, that of a boot partition at least mb, and what is known of each variable of the host holds
pub record NumbersHold (ns : Numbers) (c : Card) (h : Host) : Type 0 where
  pub least : ns.m ≤ c.capacity
  pub least_boot : ns.mb ≤ c.boot_capacity
  pub many : length h.numbers ≡ length ns.vars.items
  pub each : (x : ℕ) → VarHolds c (var ns x) (number h x)

-- the shape of the pair is one of those that are known, and each bound holds
pub record FactsHold (known : Facts) (c : Card) (h : Host) : Type 0 where
  pub shape : May known.shapes (record { 0 = pair_code c h })
  pub numbers : NumbersHold known.numbers c h

-- there is an edge, and what it carries holds
abbrev pub Carries : Facts → Option Numbers → Card → Host → Type 0
Carries known None c h = ⊥
Carries known (Some ns) c h = FactsHold (record known { numbers = ns }) c h
