-- A new simulated card is one of the profile, where its image shows its blocks.
use Rattle.std.proofs.Common.{◌≡◌, ℕ, ◌<◌, ◌^◌, List, Option, Some, subst}
use Rattle.sdv_image.specs.Images.{AreSized}
use Rattle.sdv_card.specs.Card.{Block, IsRegister, AreBlocks}
use Rattle.sdv_card.specs.Profile.{IsAtStart}
use Rattle.sdv_behavior.specs.declared.card_desc.CardDesc.{CardDesc}
use Rattle.sdv_behavior.specs.Layout.{image_size}
use Rattle.sdv_behavior.specs.CardOf.{card_of, at_start}
use Rattle.sdv_behavior.proofs.StartLaw.{start_law}

pub starts : (d : CardDesc) (size : ℕ) (shown : Option (List Block)) → IsRegister 15 d.csd → d.sectors < 2 ^ 32 → AreSized size shown → size ≡ image_size d →
    (blocks : List Block) → shown ≡ Some blocks → IsAtStart (card_of d (at_start d) blocks)
starts d size shown csd sectors fit same blocks e =
    let here : AreBlocks size blocks = subst (λ b. AreSized size b) e fit in
    start_law d blocks csd sectors (subst (λ n. AreBlocks n blocks) same here)
