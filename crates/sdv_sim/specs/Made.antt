-- What a new simulated card is, and why there may be none.
use Rattle.std.specs.Prelude.{◌≡◌, ◌≢◌, ℕ, nat_le, Bool, List, Option, Some, map, true, false}
use Rattle.std.specs.List.{list_all}
use Rattle.sdv_image.specs.declared.fault.SimFault.{SimFault}
use Rattle.sdv_image.specs.declared.fault.SimFault.TheVariants as faults
use Rattle.sdv_image.specs.Images.{HasFailed}
use Rattle.sdv_card.specs.Card.{Block}
use Rattle.sdv_card.specs.Profile.{IsAtStart}
use Rattle.sdv_behavior.specs.declared.card_desc.CardDesc.{CardDesc}
use Rattle.sdv_behavior.specs.CardOf.{card_of, at_start}
use Rattle.sdv_behavior.specs.Schedules.{behavior_of_code}
use Rattle.sdv_behavior.specs.SimSteps.{SimState}

-- the card of the description before its first command, which holds the image's blocks, with the schedule's behaviors
pub record IsMade (given : CardDesc) (codes : List ℕ) (shown : Option (List Block)) (s : SimState) : Type 0 where
  pub desc : s.desc ≡ given
  pub card : s.card ≡ at_start given
  pub behaviors : map behavior_of_code codes ≡ map Some s.behaviors
  pub blocks : s.blocks ≡ shown
  -- where the image shows its blocks, it is a card of the profile before its first command
  pub start : (blocks : List Block) → shown ≡ Some blocks → IsAtStart (card_of given (at_start given) blocks)

-- each value is one that has a digit
abbrev pub are_digits : List ℕ → Bool
are_digits codes = list_all (λ code. nat_le code 7) codes

-- a schedule whose values are known, and an image of as many blocks as all partitions of the card have
pub record IsWhole (is_known : Bool) (size wanted : ℕ) : Type 0 where
  pub known : is_known ≡ true
  pub fits : size ≡ wanted

pub record IsOtherSize (is_known : Bool) (size wanted : ℕ) : Type 0 where
  pub known : is_known ≡ true
  pub other : size ≢ wanted

-- Some image of the same size shows the same blocks and counts more failures, or both counts stand at their greatest: that is
-- all that is known of an image that is gone, of which a read failed.
pub record IsUnread {I : Type 0} (size : I → ℕ) (shown : I → Option (List Block)) (failed : I → ℕ) (image : I) : Type 0 where
  pub after : I
  pub same_size : size after ≡ size image
  pub same_blocks : shown after ≡ shown image
  pub counted : HasFailed (failed image) (failed after)

-- each refusal comes where none before it is due; that of a read only where there is an image as a failed read leaves it
abbrev pub IsRefused : (is_known : Bool) → (size wanted : ℕ) → (unread : Type 0) → SimFault → Type 0
IsRefused is_known size wanted unread faults.Description = is_known ≡ false
IsRefused is_known size wanted unread faults.ImageLength = IsOtherSize is_known size wanted
IsRefused is_known size wanted unread faults.ImageRead = IsWhole is_known size wanted × unread
IsRefused is_known size wanted unread faults.Memory = IsWhole is_known size wanted
IsRefused is_known size wanted unread faults.Capacity = ⊥
