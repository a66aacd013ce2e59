-- What a text gives as a description: a card, or the reason why there is none.
use Rattle.std.specs.Prelude.{◌≡◌, ℕ, List, true, false}
use Rattle.sdv_image.specs.declared.fault.SimFault.{SimFault}
use Rattle.sdv_image.specs.declared.fault.SimFault.TheVariants as faults
use Rattle.sdv_behavior.specs.declared.description.Description.{Description}
use Rattle.sdv_behavior.specs.declared.card_desc.CardDesc.{CardDesc}
use Rattle.sdv_behavior.specs.Grammar.{IsTextOf}
use Rattle.sdv_behavior.specs.Described.{Parts, parts_of, within_capacity}

-- what is said of a card
abbrev pub parts : CardDesc → Parts
parts d =
    record {
      kind = d.kind;
      version = d.version;
      block_unit = d.block_unit;
      capacity = d.capacity;
      csd = d.csd;
      sectors = d.sectors;
      boot_size_mult = d.boot_size_mult;
      block_length = d.block_length;
      rca = d.rca;
    }

-- the description gives this card
pub record Gives (read : Description) (d : CardDesc) : Type 0 where
  pub same : parts d ≡ parts_of read
  pub within : within_capacity read ≡ true

pub record Describes (text : List ℕ) (d : CardDesc) : Type 0 where
  pub read : Description
  pub is_text : IsTextOf read text
  pub gives : Gives read d

pub record TooLarge (text : List ℕ) : Type 0 where
  pub read : Description
  pub is_text : IsTextOf read text
  pub beyond : within_capacity read ≡ false

abbrev pub Refuses : (text : List ℕ) → SimFault → Type 0
Refuses text faults.Description = (read : Description) → IsTextOf read text → ⊥
Refuses text faults.Capacity = TooLarge text
Refuses text other = ⊥
