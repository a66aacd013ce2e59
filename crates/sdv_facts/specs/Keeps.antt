-- What the rules of numbers promise: facts that hold of a card and its host before a step of the host hold after it,
-- and an address that fits lies on the card. Bounds are this project's own.
use Rattle.std.specs.Prelude.{◌≡◌, ℕ, Option, Some}
use Rattle.sdv_registers.specs.declared.kind.Kind.{Kind}
use Rattle.sdv_registers.specs.declared.kind.Kind.TheVariants.{Sd}
use Rattle.sdv_card.specs.Card.{Card}
use Rattle.sdv_card.specs.Host.{Host}
use Rattle.sdv_card.specs.Laws.{Sound}
use Rattle.sdv_card.specs.Legal.{Within}
use Rattle.sdv_card.specs.Profile.{IsOfProfile}
use Rattle.sdv_card.specs.Shapes.{IsPair}
use Rattle.sdv_graph.specs.declared.tree.Address.{Address}
use Rattle.sdv_graph.specs.declared.tree.Let.{Let}
use Rattle.sdv_graph.specs.declared.tree.Atom.{Atom}
use Rattle.sdv_graph.specs.declared.tree.Atom.TheVariants.{ExtBlocks, ExtBoot}
use Rattle.sdv_facts.specs.declared.numbers.Numbers.{Numbers}
use Rattle.sdv_facts.specs.declared.test.Test.{Test}
use Rattle.sdv_facts.specs.Facts.{Facts}
use Rattle.sdv_facts.specs.FactsHold.{NumbersHold, FactsHold, Carries}
use Rattle.sdv_graph.specs.ValueOfLet.{value_of_let, with_number}
use Rattle.sdv_graph.specs.AddressSent.{position_of, address_sent}
use Rattle.sdv_facts.specs.AfterTest.{TestHolds}

-- a script for an SD card has no `ext.blocks` and no `ext.boot`
abbrev pub MayStandIn : Kind → Atom → Type 0
MayStandIn Sd ExtBlocks = ⊥
MayStandIn Sd ExtBoot = ⊥
MayStandIn k atom = Unit {0}

-- a card of the profile beside its host, which knows nothing wrong of it
pub record IsHonest (k : Kind) (c : Card) (h : Host) : Type 0 where
  pub pair : IsPair k c h
  pub profile : IsOfProfile c
  pub sound : Sound c h

-- where a `let` gives a value, there is an edge, and what it carries holds with that value
abbrev pub KeptByLet : Kind → Facts → Let → Option Numbers → Type 0
KeptByLet k known l carried = (c : Card) (h : Host) (n : ℕ) → MayStandIn k l.atom → IsHonest k c h →
    FactsHold known c h → value_of_let k h l ≡ Some n → Carries known carried c (with_number h l.target n)

-- where a comparison holds, there is an edge, and what it carries holds
abbrev pub KeptByTest : Facts → Test → Option Numbers → Type 0
KeptByTest known test carried = (c : Card) (h : Host) → FactsHold known c h → TestHolds test h
    → Carries known carried c h

-- what is known at a target holds where what is carried there holds
abbrev pub HoldsAtTarget : (target carried : Numbers) → Type 0
HoldsAtTarget target carried = (c : Card) (h : Host) → NumbersHold carried c h → NumbersHold target c h

-- the address that is sent is that of the block at the script's position, in the card's unit, and the card has n blocks
-- from there on
abbrev pub IsOnCard : Facts → Address → ℕ → Type 0
IsOnCard known a n = (k : Kind) (c : Card) (h : Host) → IsPair k c h → FactsHold known c h →
    Within c (position_of h a.position) (address_sent h a.unit (position_of h a.position)) n
