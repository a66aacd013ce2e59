-- The cards of the profile with the most blocks, before the first command; and which histories are those of runs of any
-- card of the profile. That a boot partition has at most 255 times 128 KiB: JESD84-B51, section 7.4 (BOOT_SIZE_MULT).
-- All else is this project's own.
use Rattle.std.specs.Prelude.{◌≡◌, ◌↔◌, ◌≤◌, false, ℕ, List}
use Rattle.sdv_registers.specs.declared.kind.Kind.{Kind}
use Rattle.sdv_registers.specs.declared.kind.Kind.TheVariants.{Sd, Emmc}
use Rattle.sdv_card.specs.Lists.{May}
use Rattle.sdv_card.specs.Card.{Card}
use Rattle.sdv_card.specs.Code.{digits}
use Rattle.sdv_card.specs.Shapes.{pair_code, start_codes}
use Rattle.sdv_card.specs.Profile.{most_blocks, IsOfProfile, IsAtStart, host_at_start}
use Rattle.sdv_outcomes.specs.Representative.{IsRepresentative}
use Rattle.sdv_outcomes.specs.Histories.{Entry, code_after, IsHistory, IsWithin}
use Rattle.sdv_outcomes.specs.Runs.{RunOf}

-- the most blocks of a boot partition
abbrev pub most_boot_blocks : Kind → ℕ
most_boot_blocks Sd = 0
most_boot_blocks Emmc = 65280

-- no card of the profile has more
abbrev pub NoneHasMore : Kind → Type 0
NoneHasMore k = (c : Card) → k ≡ c.kind → IsOfProfile c →
    (c.capacity ≤ most_blocks k c.block_unit) × (c.boot_capacity ≤ most_boot_blocks k)

-- and a representative card of each start shape has as many
pub record GreatestCard (k : Kind) (code : ℕ) : Type 0 where
  pub card : Card
  pub kind : k ≡ card.kind
  pub start : IsAtStart card
  pub representative : IsRepresentative card
  pub shape : (variables : ℕ) → pair_code card (host_at_start variables) ≡ code
  pub capacity : card.capacity ≡ most_blocks k card.block_unit
  pub boot_capacity : card.boot_capacity ≡ most_boot_blocks k

abbrev pub EachStartHasCard : Kind → Type 0
EachStartHasCard k = (code : ℕ) → May start_codes code → GreatestCard k code

-- in bounds for the card of the profile with the most blocks, by the unit that the code shows
abbrev pub IsWithinMost : Kind → ℕ → List Entry → Type 0
IsWithinMost k code entries = IsWithin (most_blocks k (digits code).block_unit) (most_boot_blocks k) code entries

-- a card of the profile with this start shape, and a run from there that goes as the entries say and ends at their code
pub record StartRun (k : Kind) (code : ℕ) (entries : List Entry) (variables : ℕ) : Type 0 where
  pub card : Card
  pub kind : k ≡ card.kind
  pub start : IsAtStart card
  pub shape : pair_code card (host_at_start variables) ≡ code
  pub run : RunOf k entries card (host_at_start variables)
  pub end : pair_code run.last run.host ≡ code_after code entries

-- there is one exactly where the entries are a history, and in bounds for the greatest card
abbrev pub SomeCardRuns : Kind → Type 0
SomeCardRuns k = (code : ℕ) (entries : List Entry) (variables : ℕ) → May start_codes code →
    StartRun k code entries variables ↔ (IsHistory k false code entries × IsWithinMost k code entries)
