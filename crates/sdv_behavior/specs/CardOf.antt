-- The card that a simulator shows: by its description, its state, and the blocks that it holds.
use Rattle.std.specs.Prelude.{ℕ, List, false, None}
use Rattle.sdv_card.specs.declared.state.State.TheVariants.{Idle}
use Rattle.sdv_card.specs.declared.state.Transfer.TheVariants.{Nothing}
use Rattle.sdv_card.specs.declared.state.EraseStage.TheVariants.{Outside}
use Rattle.sdv_card.specs.Card.{Card, Block, Partitions}
use Rattle.sdv_card.specs.Modes.{first_mode}
use Rattle.sdv_behavior.specs.declared.card_desc.CardDesc.{CardDesc}
use Rattle.sdv_behavior.specs.declared.card_state.CardState.{CardState}
use Rattle.sdv_behavior.specs.Layout.{boot_capacity, contents_of}
use Rattle.sdv_behavior.specs.Registers.{cid_of, scr, sd_status, ext_csd_of}

-- with a count of its own for the blocks that the host announced
abbrev pub card_with : CardDesc → CardState → (announced : ℕ) → Partitions → Card
card_with d s announced contents = record {
  kind = d.kind;
  version = d.version;
  block_unit = d.block_unit;
  capacity = d.capacity;
  boot_capacity = boot_capacity d;
  csd = d.csd;
  cid = cid_of d.kind;
  ext_csd = ext_csd_of first_mode d.sectors d.boot_size_mult;
  scr = scr;
  sd_status = sd_status;
  state = s.state;
  rca = s.rca;
  app = s.app;
  block_length = s.block_length;
  erase = s.erase;
  mode = s.mode;
  preset = s.preset;
  transfer = s.transfer;
  next_block = s.next_block;
  announced = announced;
  unshown_error = s.unshown_error;
  contents = contents;
}

-- over an image of these blocks
abbrev pub card_of : CardDesc → CardState → List Block → Card
card_of d s blocks = card_with d s s.announced (contents_of d blocks)

-- a card before its first command
abbrev pub at_start : CardDesc → CardState
at_start d = record {
  state = Idle;
  rca = None;
  app = false;
  block_length = d.block_length;
  erase = Outside;
  mode = first_mode;
  preset = 0;
  transfer = Nothing;
  next_block = 0;
  announced = 0;
  checked = false;
  erase_first = 0;
  erase_last = 0;
  unshown_error = false;
}
