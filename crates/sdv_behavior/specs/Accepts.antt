-- Which commands a simulated card accepts: those that are legal in its state, and whose blocks it has.
-- SD Physical Layer Simplified Specification, section 4.8; JESD84-B51, section 6.11.
use Rattle.std.specs.Prelude.{◌==◌, ◌&&◌, ◌||◌, ◌+◌, ◌/◌, ◌%◌, nat_le, Bool, true, ℕ, Option, Some, None}
use Rattle.sdv_card.specs.declared.command.Order.{Order}
use Rattle.sdv_card.specs.declared.fields.Fields.{Fields}
use Rattle.sdv_card.specs.declared.state.Partition.{Partition}
use Rattle.sdv_card.specs.declared.state.Width.TheVariants.{One}
use Rattle.sdv_card.specs.LegalShapes.{order_legal}
use Rattle.sdv_card.specs.Laws.{order_blocks}
use Rattle.sdv_card.specs.Taken.{block_of}
use Rattle.sdv_card.specs.Takes.{matches}
use Rattle.sdv_behavior.specs.declared.card_desc.CardDesc.{CardDesc}
use Rattle.sdv_behavior.specs.Layout.{partition_size}
use Rattle.sdv_behavior.specs.declared.card_state.CardState.{CardState}

-- the card beside a host whose relative address is in the argument; no command asks for the host's data lines
abbrev pub fields_at : CardDesc → (argument : ℕ) → CardState → Fields
fields_at d argument s = record {
  state = s.state;
  transfer = s.transfer;
  erase = s.erase;
  block_unit = d.block_unit;
  length_512 = s.block_length == 512;
  app = s.app;
  matched = matches s.rca (argument / 65536);
  mode = s.mode;
  lines = One;
  flags = 0;
  preset = s.preset;
}

-- the argument is the address of a block in the card's unit, and the partition has so many blocks from there on
abbrev pub has_blocks : CardDesc → Partition → (argument : ℕ) → Option ℕ → Bool
has_blocks d partition argument None = true
has_blocks d partition argument (Some count) =
    (d.block_unit || (argument % 512 == 0))
    && nat_le (block_of d.block_unit argument + count) (partition_size d partition)

abbrev pub accepts : CardDesc → Order → (argument : ℕ) → CardState → Bool
accepts d order argument s =
    order_legal d.kind order (fields_at d argument s) && has_blocks d s.mode.partition argument (order_blocks order)
