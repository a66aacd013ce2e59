-- An address that fits is that of a block of the card, in its unit, with room for the blocks from there on.
use Rattle.std.proofs.Common.{◌≡◌, ℕ, ◌+◌, ◌*◌, ◌≤◌, List, Bool, true, false, not, ◌||◌, subst, nat_le, ◌⊎◌, inl, inr, refl, sym, ap, ◌∙◌, arith, Option, Some, None, if◌then◌else◌}
use Rattle.std.proofs.lemmas.Bool.{leb-true}
use mathlib.Core.Bool.{beq}
use Rattle.sdv_registers.specs.declared.kind.Kind.{Kind}
use Rattle.sdv_card.specs.declared.shape.Shape.{Shape}
use Rattle.sdv_card.specs.Lists.{May}
use Rattle.sdv_card.specs.Card.{Card, capacity_of}
use Rattle.sdv_card.specs.declared.state.Partition.{Partition}
use Rattle.sdv_card.specs.declared.state.Partition.TheVariants.{User, Boot1, Boot2}
use Rattle.sdv_card.specs.Host.{Host}
use Rattle.sdv_card.specs.Shapes.{pair_code, IsPair}
use Rattle.sdv_graph.specs.declared.tree.Address.{Address}
use Rattle.sdv_graph.specs.declared.tree.Unit.{Unit as AddressUnit}
use Rattle.sdv_graph.specs.declared.tree.Unit.TheVariants.{Block, Byte, By}
use Rattle.sdv_graph.specs.declared.tree.Position.{Position}
use Rattle.sdv_graph.specs.declared.tree.Position.TheVariants.{Number, Variable}
use Rattle.sdv_facts.specs.declared.numbers.VarFacts.{VarFacts}
use Rattle.sdv_facts.specs.declared.numbers.Numbers.{Numbers}
use Rattle.sdv_facts.specs.Facts.{Facts, var, gap_in}
use Rattle.sdv_facts.specs.FactsHold.{GapHolds, VarHolds, NumbersHold}
use Rattle.sdv_graph.specs.ValueOfLet.{number}
use Rattle.sdv_graph.specs.AddressSent.{position_of, sends_block}
use Rattle.sdv_card.specs.ShapeBits.{has_block_addresses, partition_shown, has_flag}
use Rattle.sdv_facts.specs.AddressFits.{unit_fits, gap_allows, variable_fits, position_fits, each_fits, address_fits}
use Rattle.sdv_facts.specs.Keeps.{IsOnCard}
use Rattle.sdv_facts.proofs.UnitLaws.{both, all-member, negated, unit_shown, access_shown, flag_shown}

same_bools : (a b : Bool) → beq a b ≡ true → a ≡ b
same_bools true true e = refl
same_bools false false e = refl
same_bools true false e = absurd (cc)
same_bools false true e = absurd (cc)

either_true : (a b : Bool) → a || b ≡ true → (a ≡ true) ⊎ (b ≡ true)
either_true true b e = inl refl
either_true false b e = inr e

-- the unit that is sent is the card's
unit_is : (k : Kind) (c : Card) (h : Host) (shapes : List Shape) (unit : AddressUnit) → IsPair k c h → May shapes (record { 0 = pair_code c h })
    → unit_fits shapes unit ≡ true →
    sends_block h unit ≡ c.block_unit
unit_is k c h shapes Block pair shape e = sym (all-member has_block_addresses shapes _ e shape) ∙ unit_shown k c h pair
unit_is k c h shapes Byte pair shape e = sym (negated _ (all-member (λ s. not (has_block_addresses s)) shapes _ e shape)) ∙ unit_shown k c h pair
unit_is k c h shapes (By flag) pair shape e =
    let same : has_flag (record { 0 = pair_code c h }) flag ≡ has_block_addresses (record { 0 = pair_code c h })
    = same_bools _ _ (all-member (λ s. beq (has_flag s flag) (has_block_addresses s)) shapes _ e shape) in
    sym (flag_shown k c h pair flag) ∙ (same ∙ unit_shown k c h pair)

gap_room : (g : Option ℕ) (n x capacity : ℕ) → gap_allows g n ≡ true → GapHolds g x capacity → x + n ≤ capacity
gap_room None n x capacity e r = absurd (cc)
gap_room (Some g) n x capacity e r = let le : n ≤ g = leb-true n g e in omega arith

-- what is known of a partition holds of it
gap_holds : (p : Partition) (c : Card) (v : VarFacts) (x : ℕ) → VarHolds c v x → GapHolds (gap_in p v) x (capacity_of p c.capacity c.boot_capacity)
gap_holds User c v x h = h.gap
gap_holds Boot1 c v x h = h.bgap
gap_holds Boot2 c v x h = h.bgap

least_holds : (p : Partition) (ns : Numbers) (c : Card) (h : Host) → NumbersHold ns c h → capacity_of p ns.m ns.mb ≤ capacity_of p c.capacity c.boot_capacity
least_holds User ns c h holds = holds.least
least_holds Boot1 ns c h holds = holds.least_boot
least_holds Boot2 ns c h holds = holds.least_boot

variable_room : (p : Partition) (ns : Numbers) (c : Card) (h : Host) (x k n : ℕ) → NumbersHold ns c h → variable_fits p ns x k n ≡ true
    → number h x + k + n ≤ capacity_of p c.capacity c.boot_capacity
variable_room p ns c h x k n holds e =
    let most = capacity_of p c.capacity c.boot_capacity in
    let least = capacity_of p ns.m ns.mb in
    elim (either_true (gap_allows (gap_in p (var ns x)) (k + n)) (nat_le ((var ns x).hi + k + n) least) e) [
      | inl a ↦
          let r : number h x + (k + n) ≤ most
          = gap_room (gap_in p (var ns x)) (k + n) (number h x) most a (gap_holds p c (var ns x) (number h x) (holds.each x)) in
          omega arith
      | inr a ↦
          let le : (var ns x).hi + k + n ≤ least = leb-true ((var ns x).hi + k + n) least a in
          let l : least ≤ most = least_holds p ns c h holds in
          let u = (holds.each x).high in
          omega arith
    ]

room : (p : Partition) (ns : Numbers) (c : Card) (h : Host) (at : Position) (n : ℕ) → NumbersHold ns c h → position_fits p ns at n ≡ true
    → position_of h at + n ≤ capacity_of p c.capacity c.boot_capacity
room p ns c h (Number k) n holds e =
    let le : k + n ≤ capacity_of p ns.m ns.mb = leb-true (k + n) (capacity_of p ns.m ns.mb) e in
    let l = least_holds p ns c h holds in
    omega arith
room p ns c h (Variable x None) n holds e = let r = variable_room p ns c h x 0 n holds e in omega arith
room p ns c h (Variable x (Some k)) n holds e = variable_room p ns c h x k n holds e

pub on_card : (known : Facts) (a : Address) (n : ℕ) → address_fits known a n ≡ true → IsOnCard known a n
on_card known a n e k c h pair holds =
    let parts = both (unit_fits known.shapes a.unit) (each_fits known a.position n) e in
    let here : position_fits (partition_shown (record { 0 = pair_code c h })) known.numbers a.position n ≡ true
    = all-member (λ s. position_fits (partition_shown s) known.numbers a.position n) known.shapes _ parts.1 holds.shape in
    let in_access : position_fits c.mode.partition known.numbers a.position n ≡ true
    = subst (λ p. position_fits p known.numbers a.position n ≡ true) (access_shown k c h pair) here in
    record {
      unit = ap (λ b. if b then position_of h a.position else 512 * position_of h a.position) (unit_is k c h known.shapes a.unit pair holds.shape parts.0);
      room = room c.mode.partition known.numbers c h a.position n holds.numbers in_access;
    }
