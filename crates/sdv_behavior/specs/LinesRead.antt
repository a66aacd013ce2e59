-- The orders that a simulated card reads from frames are those of the command table.
use Rattle.std.specs.Prelude.{◌≡◌, ◌⊎◌, ℕ, Some}
use Rattle.sdv_registers.specs.declared.kind.Kind.{Kind}
use Rattle.sdv_card.specs.declared.event.Aim.TheVariants.{Rca}
use Rattle.sdv_card.specs.declared.event.Ask.{Ask}
use Rattle.sdv_card.specs.declared.command.Order.{Order}
use Rattle.sdv_card.specs.declared.command.Order.TheVariants.{SelectCard, DeselectCards, ReadMultipleBlock, WriteMultipleBlock}
use Rattle.sdv_card.specs.CommandTable.{order_of, order_argument}
use Rattle.sdv_behavior.specs.Commands.{order_read}
use Rattle.sdv_behavior.specs.RowTaken.{count_of}

-- The order that a card reads from a host's: CMD7 with any address selects, and the counts of CMD18
-- and CMD25 are its own.
abbrev pub read_as : ℕ → Order → Order
read_as preset DeselectCards = SelectCard
read_as preset (ReadMultipleBlock n) = ReadMultipleBlock (count_of preset)
read_as preset (WriteMultipleBlock n) = WriteMultipleBlock (count_of preset)
read_as preset order = order

-- a line of the table has this index, sends this argument, and gives the order that is read
pub record IsLineRead (k : Kind) (preset index argument : ℕ) (order : Order) : Type 0 where
  pub ask : Ask
  pub asked : Order
  pub line : order_of k ask ≡ Some asked
  pub same_index : ask.index ≡ index
  -- the low bits after a relative card address are stuff bits, which may be anything
  pub same_argument : (ask.aim ≡ Rca) ⊎ (order_argument asked ask.argument 0 argument ≡ argument)
  pub read : read_as preset asked ≡ order

abbrev pub OrdersAreLines : Type 0
OrdersAreLines =
    (k : Kind) (preset index argument : ℕ) (order : Order) → order_read k preset index argument ≡ Some order →
    IsLineRead k preset index argument order
