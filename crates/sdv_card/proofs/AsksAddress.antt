-- An ask addresses the blocks of its command.
use Rattle.std.proofs.Common.{◌≡◌, ℕ, refl, subst, sym}
use Rattle.sdv_registers.specs.declared.kind.Kind.{Kind}
use Rattle.sdv_card.specs.declared.event.Ask.{Ask}
use Rattle.sdv_card.specs.declared.command.Order.{Order}
use Rattle.sdv_card.specs.declared.command.Order.TheVariants.{ReadSingleBlock, ReadMultipleBlock, WriteBlock, WriteMultipleBlock}
use Rattle.sdv_card.specs.CommandTable.{addressed_blocks}
use Rattle.sdv_card.specs.Laws.{AsksAddress, order_blocks}
use Rattle.sdv_card.proofs.RowsOfOrders.{order_index}
use Rattle.sdv_card.proofs.OrdersOfAsks.{OfAsk, of_ask, blocks_at}

-- by the index alone, where the command has no count
at : (order : Order) (index count : ℕ) → index ≡ order_index order → order_blocks order ≡ blocks_at (order_index order) count
    → order_blocks order ≡ blocks_at index count
at order index count own e = subst (λ n. order_blocks order ≡ blocks_at n count) (sym own) e

law : (k : Kind) (ask : Ask) (order : Order) → OfAsk k ask order → order_blocks order ≡ addressed_blocks ask
law k ask ReadSingleBlock a = sym (a.blocks 1 refl)
law k ask (ReadMultipleBlock n) a = sym (a.blocks n refl)
law k ask WriteBlock a = sym (a.blocks 1 refl)
law k ask (WriteMultipleBlock n) a = sym (a.blocks n refl)
law k ask order a = at order ask.index ask.count a.index refl

pub asks_address : (k : Kind) → AsksAddress k
asks_address k ask order e = law k ask order (of_ask k ask order e)
