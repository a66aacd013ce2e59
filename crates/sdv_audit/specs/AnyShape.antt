-- THE SHAPES OF A CARD IN ANY STATE, with the host's relative card address, no preset count and no flags of a script.
use Rattle.std.specs.Prelude.{ℕ, List, [], ◌∷◌, ◌+◌, ◌-◌, ◌*◌, ◌^◌, min, map, filter, Bool, false, Option, Some, None}
use Rattle.sdv_registers.specs.declared.kind.Kind.{Kind}
use Rattle.sdv_card.specs.declared.shape.Shape.{Shape}
use Rattle.sdv_card.specs.declared.state.Width.{Width}
use Rattle.sdv_card.specs.Lists.{each}
use Rattle.sdv_card.specs.Modes.{width_number}
use Rattle.sdv_card.specs.declared.fields.Fields.{Fields}
use Rattle.sdv_card.specs.Code.{fields_of}
use Rattle.sdv_card.specs.Shapes.{is_shape}
use Rattle.sdv_audit.specs.declared.running.TheConstants.{STATES, TRANSFERS, ERASE_STAGES, BLOCK_UNITS, LENGTHS, APPLICATION_FLAGS, WIDTHS, PARTITIONS, ERRORS}

abbrev pub with_code : ℕ → Shape
with_code code = record { 0 = code }

-- a code with the number of one more of its fields; no code passes 2^64 - 1
abbrev pub with_field : Shape → ℕ → Shape
with_field s n = with_code (min (s.0 + n) (2 ^ 64 - 1))

-- each shape with each of these
abbrev pub spread : List ℕ → List Shape → List Shape
spread numbers shapes = each shapes (λ s. map (with_field s) numbers)

-- the card has the host's address, or none yet
abbrev pub matched_code : Width → Shape
matched_code lines = with_code (8192 + 4194304 * width_number lines)

-- each combination of fields
abbrev pub all_fields : Width → List Shape
all_fields lines =
    spread ERRORS (spread PARTITIONS (spread WIDTHS (spread APPLICATION_FLAGS (spread LENGTHS (spread BLOCK_UNITS (
    spread ERASE_STAGES (spread TRANSFERS (spread STATES (matched_code lines ∷ [])))))))))

abbrev pub is_shape_read : Kind → Option Fields → Bool
is_shape_read k None = false
is_shape_read k (Some f) = is_shape k f

abbrev pub is_shape_at : Kind → Shape → Bool
is_shape_at k s = is_shape_read k (fields_of s.0)

-- those that are shapes of the kind
abbrev pub any_shapes : Kind → Width → List Shape
any_shapes k lines = filter (is_shape_at k) (all_fields lines)
