-- The argument of a command that a host makes, legal and in bounds on a card of the profile, has 32 bits.
use Rattle.std.proofs.Common.{◌≡◌, ℕ, ◌<◌, ◌≤◌, ◌+◌, ◌*◌, ◌^◌, ◌⊎◌, inl, inr, refl, sym, ap, subst, ◌∙◌, Bool, true, false, Some, if◌then◌else◌, arith, List}
use Rattle.sdv_registers.specs.declared.kind.Kind.{Kind}
use Rattle.sdv_registers.specs.declared.kind.Kind.TheVariants.{Sd, Emmc}
use Rattle.sdv_card.specs.declared.event.Ask.{Ask}
use Rattle.sdv_card.specs.declared.state.Partition.{Partition}
use Rattle.sdv_card.specs.declared.state.Partition.TheVariants.{User, Boot1, Boot2}
use Rattle.sdv_facts.proofs.RegisterLaws.{boot_small}
use Rattle.sdv_card.specs.declared.command.Order.{Order}
use Rattle.sdv_card.specs.declared.command.Order.TheVariants.{GoIdleState, SendOpCond, AllSendCid, SendRelativeAddress, SetRelativeAddress, SetBusWidth, Switch, SelectCard, DeselectCards, SendIfCond, SendExtCsd, SendCsd, SendCid, StopTransmission, SendStatus, SetBlockLength, ReadSingleBlock, ReadMultipleBlock, SetBlockCount, WriteBlock, WriteMultipleBlock, EraseBlockStart, EraseBlockEnd, EraseGroupStart, EraseGroupEnd, Erase, SdSendOpCond, SendScr, AppCommand}
use Rattle.sdv_card.specs.Card.{Card, capacity_of, accessed_capacity}
use Rattle.sdv_card.specs.CommandTable.{order_of, argument_or_none, order_argument}
use Rattle.sdv_card.specs.Host.{Host}
use Rattle.sdv_card.specs.Laws.{AsksAddress, order_blocks}
use Rattle.sdv_card.specs.Legal.{Within, BlocksWithin}
use Rattle.sdv_card.specs.Port.{IsFine}
use Rattle.sdv_card.specs.Profile.{told_boot_blocks, IsOfProfile, most_blocks}
use Rattle.sdv_card.specs.ScriptEvent.{SendCommand}
use Rattle.sdv_card.proofs.OrdersOfAsks.{of_ask, argument_is_narrow}

-- ADDRESSES

by_capacity : (k : Kind) (unit : Bool) (argument position n capacity : ℕ) → 0 < n → argument ≡ (if unit then position else 512 * position)
    → position + n ≤ capacity → capacity ≤ most_blocks k unit → argument < 2 ^ 32
by_capacity Sd true argument position n capacity some is room most = omega arith
by_capacity Sd false argument position n capacity some is room most = omega arith
by_capacity Emmc true argument position n capacity some is room most = omega arith
by_capacity Emmc false argument position n capacity some is room most = omega arith

-- no partition is larger than a card may be
boot_most : (k : Kind) (unit : Bool) (ext_csd : List ℕ) (boot_capacity : ℕ) → told_boot_blocks k ext_csd ≡ boot_capacity → boot_capacity ≤ most_blocks k unit
boot_most Sd true ext_csd boot_capacity e = omega arith
boot_most Sd false ext_csd boot_capacity e = omega arith
boot_most Emmc true ext_csd boot_capacity e = let s = boot_small ext_csd in omega arith
boot_most Emmc false ext_csd boot_capacity e = let s = boot_small ext_csd in omega arith

accessed_most : (p : Partition) (capacity boot_capacity most : ℕ) → capacity ≤ most → boot_capacity ≤ most → capacity_of p capacity boot_capacity ≤ most
accessed_most User capacity boot_capacity most a b = a
accessed_most Boot1 capacity boot_capacity most a b = b
accessed_most Boot2 capacity boot_capacity most a b = b

at_address : (c : Card) (position argument n : ℕ) → IsOfProfile c → 0 < n → Within c position argument n → argument < 2 ^ 32
at_address c position argument n of some w = by_capacity c.kind c.block_unit argument position n (accessed_capacity c) some w.unit w.room
    (accessed_most c.mode.partition c.capacity c.boot_capacity (most_blocks c.kind c.block_unit) of.most
    (boot_most c.kind c.block_unit c.ext_csd c.boot_capacity of.told_boot))

times : (rca : ℕ) → rca < 65536 → 65536 * rca < 2 ^ 32
times rca small = omega arith

below : (n : ℕ) → n < 65536 → n < 2 ^ 32
below n small = omega arith

-- ORDER BY ORDER
module _ (k : Kind) (ask : Ask) (position argument : ℕ) (c : Card) (h : Host) (laws : AsksAddress k) (fine : IsFine k (SendCommand ask position argument) c h)
    (of : IsOfProfile c) (order : Order) (asked : order_of k ask ≡ Some order) where
  blocks : (n : ℕ) → order_blocks order ≡ Some n → 0 < n → argument < 2 ^ 32
  blocks n is some = at_address c position argument n of some (subst (λ o. BlocksWithin o c position argument) (sym (laws ask order asked) ∙ is) fine.bounds)

  small_order : (o : Order) → order ≡ o → order_argument o ask.argument h.rca fine.made.address < 2 ^ 32 ⊎ (argument < 2 ^ 32)
  small_order GoIdleState e = inl (omega arith)
  small_order SendOpCond e = inl (omega arith)
  small_order AllSendCid e = inl (omega arith)
  small_order SendRelativeAddress e = inl (omega arith)
  small_order SetRelativeAddress e = inl (omega arith)
  small_order (SetBusWidth width) e = inl (argument_is_narrow k ask (SetBusWidth width) (asked ∙ ap Some e))
  small_order (Switch setting) e = inl (argument_is_narrow k ask (Switch setting) (asked ∙ ap Some e))
  small_order SelectCard e = inl (times h.rca fine.pair.rca)
  small_order DeselectCards e = inl (omega arith)
  small_order SendIfCond e = inl (omega arith)
  small_order SendExtCsd e = inl (omega arith)
  small_order SendCsd e = inl (times h.rca fine.pair.rca)
  small_order SendCid e = inl (times h.rca fine.pair.rca)
  small_order StopTransmission e = inl (omega arith)
  small_order SendStatus e = inl (times h.rca fine.pair.rca)
  small_order SetBlockLength e = inl (omega arith)
  small_order ReadSingleBlock e = inr (blocks 1 (ap order_blocks e) (omega arith))
  small_order (ReadMultipleBlock n) e = inr (blocks n (ap order_blocks e) ((of_ask k ask (ReadMultipleBlock n) (asked ∙ ap Some e)).some n refl))
  small_order (SetBlockCount n) e = inl (below n (of_ask k ask (SetBlockCount n) (asked ∙ ap Some e)).count)
  small_order WriteBlock e = inr (blocks 1 (ap order_blocks e) (omega arith))
  small_order (WriteMultipleBlock n) e = inr (blocks n (ap order_blocks e) ((of_ask k ask (WriteMultipleBlock n) (asked ∙ ap Some e)).some n refl))
  small_order EraseBlockStart e = inr (blocks 1 (ap order_blocks e) (omega arith))
  small_order EraseBlockEnd e = inr (blocks 1 (ap order_blocks e) (omega arith))
  small_order EraseGroupStart e = inr (blocks 1 (ap order_blocks e) (omega arith))
  small_order EraseGroupEnd e = inr (blocks 1 (ap order_blocks e) (omega arith))
  small_order Erase e = inl (argument_is_narrow k ask Erase (asked ∙ ap Some e))
  small_order (SdSendOpCond high) e = inl (argument_is_narrow k ask (SdSendOpCond high) (asked ∙ ap Some e))
  small_order SendScr e = inl (omega arith)
  small_order AppCommand e = inl (times h.rca fine.pair.rca)

  settles : order_argument order ask.argument h.rca fine.made.address < 2 ^ 32 ⊎ (argument < 2 ^ 32) → argument < 2 ^ 32
  settles (inl small) = subst (λ n. n < 2 ^ 32) (sym (fine.made.same ∙ ap (λ o. argument_or_none o ask.argument h.rca fine.made.address) asked)) small
  settles (inr small) = small

pub narrow : (k : Kind) (ask : Ask) (position argument : ℕ) (c : Card) (h : Host) → AsksAddress k → IsFine k (SendCommand ask position argument) c h
    → IsOfProfile c → argument < 2 ^ 32
narrow k ask position argument c h laws fine of =
    let asked : order_of k ask ≡ Some fine.legal.order = subst (λ v. order_of v ask ≡ Some fine.legal.order) (sym fine.pair.kind) fine.legal.asks.line in
    settles k ask position argument c h laws fine of fine.legal.order asked
    (small_order k ask position argument c h laws fine of fine.legal.order asked fine.legal.order refl)
