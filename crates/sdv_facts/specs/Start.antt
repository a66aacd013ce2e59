-- What is known of numbers before the first command.
-- That each card has a block is this project's profile.
use Rattle.std.specs.Prelude.{ℕ, replicate, Some}
use Rattle.sdv_card.specs.Card.{Card}
use Rattle.sdv_card.specs.Profile.{IsOfProfile, host_at_start}
use Rattle.sdv_facts.specs.declared.numbers.VarFacts.{VarFacts}
use Rattle.sdv_facts.specs.declared.numbers.Numbers.{Numbers}
use Rattle.sdv_facts.specs.FactsHold.{NumbersHold}

-- a variable is 0, each card has a block, and it may have no boot partitions
abbrev pub start_var : VarFacts
start_var = record { lo = 0; hi = 0; gap = Some 1; bgap = Some 0 }

abbrev pub start_numbers : ℕ → Numbers
start_numbers n = record { m = 1; mb = 0; vars = record { items = replicate n start_var } }

-- they hold of each card of the profile and a host with n variables
abbrev pub HoldAtStart : ℕ → Numbers → Type 0
HoldAtStart n ns = (c : Card) → IsOfProfile c → NumbersHold ns c (host_at_start n)
