-- What a simulated card is to contracts.
use Rattle.sdv_image.specs.declared.image.Image.{Ghosts}
use Rattle.sdv_behavior.specs.SimSteps.{SimState}
use Rattle.sdv_sim.specs.declared.sim.Sim.{Sim}

-- its image
abbrev pub image_of : {I : Type 0} {image : Ghosts I} → Sim I image → I
image_of s = s.image

-- its description, its card, the behaviors that are left, and what its image shows
abbrev pub state_of : {I : Type 0} {image : Ghosts I} → Sim I image → SimState
state_of {image = image} s = record {
  desc = s.desc;
  card = s.card;
  behaviors = s.schedule;
  blocks = image.blocks s.image;
  failed = image.failed s.image;
}
