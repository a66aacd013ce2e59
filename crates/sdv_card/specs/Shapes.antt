-- The shape of a card beside its host, and which fields are those of a shape.
-- The code is this project's own; its rules are those of cards.
use Rattle.std.specs.Prelude.{◌≡◌, ◌<◌, ◌==◌, ◌&&◌, Bool, true, IsTrue, ℕ, List, [], ◌∷◌}
use Rattle.sdv_registers.specs.declared.kind.Kind.{Kind}
use Rattle.sdv_card.specs.declared.state.State.{State}
use Rattle.sdv_card.specs.declared.state.State.TheVariants.{Idle, Ready, Ident}
use Rattle.sdv_card.specs.declared.fields.Fields.{Fields}
use Rattle.sdv_card.specs.Takes.{matches}
use Rattle.sdv_card.specs.Modes.{mode_fits, has_width}
use Rattle.sdv_card.specs.Card.{Card, IsCard, transfer_fits, kind_fits, length_fits}
use Rattle.sdv_card.specs.Host.{Host}
use Rattle.sdv_card.specs.Code.{code_of}

-- what is seen of a card and its host
abbrev pub view : Card → Host → Fields
view c h = record {
  state = c.state;
  transfer = c.transfer;
  erase = c.erase;
  block_unit = c.block_unit;
  length_512 = c.block_length == 512;
  app = c.app;
  matched = matches c.rca h.rca;
  mode = c.mode;
  lines = h.lines;
  flags = h.flags;
  preset = c.preset;
}

-- the code of a card and its host
abbrev pub pair_code : Card → Host → ℕ
pair_code c h = code_of (view c h)

-- a card without a relative address matches each host
abbrev pub match_fits : State → Bool → Bool
match_fits Idle matched = matched
match_fits Ready matched = matched
match_fits Ident matched = matched
match_fits state matched = true

-- the fields are those of a shape of the kind
unfoldable pub is_shape : Kind → Fields → Bool
is_shape k f =
    transfer_fits f.state f.transfer && kind_fits k f.transfer f.app f.preset && match_fits f.state f.matched
    && length_fits f.block_unit f.length_512 && mode_fits k f.mode && has_width k f.lines

-- a card of the kind, and a host of a script
pub record IsPair (k : Kind) (c : Card) (h : Host) : Type 0 where
  pub kind : k ≡ c.kind
  pub card : IsCard c
  pub lines : IsTrue (has_width k h.lines)
  pub flags : h.flags < 16
  pub rca : h.rca < 65536

-- the codes of a card before the first command
abbrev pub start_codes : List ℕ
start_codes = 0x2000 ∷ 0x2800 ∷ 0x2c00 ∷ []
