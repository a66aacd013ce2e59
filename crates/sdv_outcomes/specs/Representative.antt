-- Which cards can do all that their shape shows.
-- This project's own.
use Rattle.std.specs.Prelude.{◌≡◌, ◌<◌, false}
use Rattle.sdv_registers.specs.declared.kind.Kind.{Kind}
use Rattle.sdv_registers.specs.declared.kind.Kind.TheVariants.{Sd, Emmc}
use Rattle.sdv_card.specs.Card.{Card}
use Rattle.sdv_card.specs.Host.{Host}
use Rattle.sdv_card.specs.Legal.{TransferOnCard}
use Rattle.sdv_card.specs.Shapes.{IsPair}
use Rattle.sdv_card.specs.Laws.{Sound}

-- A representative card has none of three limits, which its shape would not show. No step changes the last two.
pub record IsRepresentative (c : Card) : Type 0 where
  -- no error of an earlier write is left: in transfer state, the next status would have to show it, as a doubt
  pub all_shown : c.unshown_error ≡ false
  -- an SD card of version 1 has no response to CMD8
  pub version : Sd ≡ c.kind → c.version ≡ 2
  -- a device whose boot partitions have no blocks gives no access to them
  pub boot_blocks : Emmc ≡ c.kind → 0 < c.boot_capacity

-- a representative card beside a host that knows nothing wrong of it
pub record IsRepresentativePair (k : Kind) (c : Card) (h : Host) : Type 0 where
  pub pair : IsPair k c h
  pub sound : Sound c h
  pub on_card : TransferOnCard c
  pub representative : IsRepresentative c
