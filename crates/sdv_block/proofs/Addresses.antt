-- The blocks that a command names, by its position and the argument that is sent for it.
use Rattle.std.proofs.Common.{◌≡◌, ℕ, ◌+◌, ◌*◌, ◌≤◌, refl, sym, subst, arith, Bool, true, false, Option, Some, None, nat_le}
use Rattle.std.specs.Prelude.{if◌then◌else◌}
use Rattle.sdv_card.specs.declared.answer.Answer.{Answer}
use Rattle.sdv_card.specs.declared.command.Order.{Order}
use Rattle.sdv_card.specs.Card.{Card}
use Rattle.sdv_card.specs.Host.{Host, host_after_order}
use Rattle.sdv_card.specs.Legal.{Within}
use Rattle.sdv_card.specs.Taken.{block_of}
use Rattle.sdv_graph.specs.AddressSent.{position_of_command}
use Rattle.sdv_graph.specs.Counts.{max_number}
use Rattle.sdv_block.specs.RequestStatements.{address_of}
use Rattle.sdv_block.proofs.UserArea.{IsUser, user_room}

abbrev in_unit : Bool → ℕ → ℕ
in_unit unit block = if unit then block else 512 * block

position_if : (fits : Bool) (there position : ℕ) → (if fits then Some there else None) ≡ Some position → there ≡ position
position_if true there position e = cc
position_if false there position e = absurd (cc)

-- its position is the block
pub position_is : (h : Host) (block position : ℕ) → position_of_command h (Some (address_of block)) ≡ Some position → block ≡ position
position_is h block position e = position_if (nat_le block max_number) block position e

named_in : (unit : Bool) (block : ℕ) → block_of unit (in_unit unit block) ≡ block
named_in true block = refl
named_in false block = omega arith

-- the argument names it to the card
pub named : (unit other : Bool) (block position argument : ℕ) → block ≡ position → unit ≡ other → argument ≡ in_unit unit position →
    block_of other argument ≡ block
named unit other block position argument is same sent =
    subst (λ u. block_of u argument ≡ block) same
    (subst (λ n. block_of unit argument ≡ n) (sym is) (subst (λ n. block_of unit n ≡ position) (sym sent) (named_in unit position)))

-- and the card has it, with the blocks behind it
pub named_within : (c : Card) (block count position argument : ℕ) → IsUser c → block ≡ position → Within c position argument count
    → block + count ≤ c.capacity
named_within c block count position argument user is w =
    subst (λ n. n + count ≤ c.capacity) (sym is) (user_room c position argument count user w)

-- no command changes the flags
pub order_flags : (o : Option Order) (answer : Answer) (h : Host) → (host_after_order o answer h).flags ≡ h.flags
order_flags None answer h = refl
order_flags (Some order) answer h = refl
