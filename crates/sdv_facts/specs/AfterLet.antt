-- What is known of numbers after a script's `let`.
-- Which register tells the capacity is as in SD Physical Layer Simplified Specification, section 5.3, and in
-- JESD84-B51, sections 7.3 and 7.4.
use Rattle.std.specs.Prelude.{◌+◌, ◌-◌, ◌^◌, ℕ, List, Bool, true, false, not, nat_le, min, Option, Some, None, option_map, if◌then◌else◌}
use Rattle.sdv_registers.specs.declared.kind.Kind.{Kind}
use Rattle.sdv_registers.specs.declared.kind.Kind.TheVariants.{Sd, Emmc}
use Rattle.sdv_card.specs.declared.shape.Shape.{Shape}
use Rattle.sdv_card.specs.ShapeBits.{has_block_addresses}
use Rattle.sdv_card.specs.Lists.{all}
use Rattle.sdv_graph.specs.declared.tree.Let.{Let}
use Rattle.sdv_graph.specs.declared.tree.Atom.{Atom}
use Rattle.sdv_graph.specs.declared.tree.Atom.TheVariants.{Number, Variable, CsdBlocks, ExtBlocks, ExtBoot}
use Rattle.sdv_graph.specs.declared.tree.Change.{Change}
use Rattle.sdv_graph.specs.declared.tree.Change.TheVariants.{Same, Plus, Minus}
use Rattle.sdv_graph.specs.Counts.{max_number}
use Rattle.sdv_facts.specs.declared.numbers.VarFacts.{VarFacts}
use Rattle.sdv_facts.specs.declared.numbers.Numbers.{Numbers}
use Rattle.sdv_facts.specs.Facts.{Facts, var, with_var}
use Rattle.sdv_facts.specs.Gaps.{gap_less, gap_more}

abbrev pub all_block_unit : List Shape → Bool
all_block_unit shapes = all has_block_addresses shapes

abbrev pub all_byte_unit : List Shape → Bool
all_byte_unit shapes = all (λ s. not (has_block_addresses s)) shapes

-- the CSD tells the capacity of each SD card, and of a byte-addressed e.MMC device
abbrev pub csd_tells : Kind → List Shape → Bool
csd_tells Sd shapes = true
csd_tells Emmc shapes = all_byte_unit shapes

-- SEC_COUNT tells the capacity of a block-addressed device
abbrev pub ext_csd_tells : List Shape → Bool
ext_csd_tells shapes = all_block_unit shapes

-- the value of a register that tells the capacity, or of one that does not
abbrev pub register_facts : (tells : Bool) → (m : ℕ) → VarFacts
register_facts true m = record { lo = m; hi = 2 ^ 32; gap = Some 0; bgap = None }
register_facts false m = record { lo = 0; hi = 2 ^ 32; gap = None; bgap = None }

-- BOOT_SIZE_MULT, which is 255 at most, tells the capacity of a boot partition
abbrev pub most_boot_blocks : ℕ
most_boot_blocks = 65280

abbrev pub boot_facts : (mb : ℕ) → VarFacts
boot_facts mb = record { lo = mb; hi = most_boot_blocks; gap = None; bgap = Some 0 }

-- the value before it is changed
abbrev pub atom_facts : Kind → Facts → Atom → VarFacts
atom_facts k known (Number n) =
    record { lo = n; hi = n; gap = gap_less (Some known.numbers.m) n; bgap = gap_less (Some known.numbers.mb) n }
atom_facts k known (Variable y) = var known.numbers y
atom_facts k known CsdBlocks = register_facts (csd_tells k known.shapes) known.numbers.m
atom_facts k known ExtBlocks = register_facts (ext_csd_tells known.shapes) known.numbers.m
atom_facts k known ExtBoot = boot_facts known.numbers.mb

-- the value after it was changed; none where each value that is possible leaves the numbers of a script
abbrev pub changed_facts : Change → VarFacts → Option VarFacts
changed_facts Same v = Some v
changed_facts (Plus k) v =
    if nat_le (v.lo + k) max_number
    then Some (record {
      lo = v.lo + k;
      hi = min (v.hi + k) max_number;
      gap = gap_less v.gap k;
      bgap = gap_less v.bgap k;
    })
    else None
changed_facts (Minus k) v =
    if nat_le k v.hi
    then Some (record { lo = v.lo - k; hi = v.hi - k; gap = gap_more v.gap k; bgap = gap_more v.bgap k })
    else None

-- the numbers that are carried; none where there is no edge
abbrev pub after_let : Kind → Facts → Let → Option Numbers
after_let k known l = option_map (λ v. with_var known.numbers l.target v)
    (changed_facts l.change (atom_facts k known l.atom))
