use Rattle.std.proofs.Common.{◌∙◌, ◌%◌, ℕ, ap, refl, sym}
use Rattle.sdv_image.proofs.CleanLaws.{sound_empty, shown_empty, none_unwritten}
use Rattle.sdv_image.proofs.file_image.FileImage.new.Goals as goal

pub invariant_of-result : goal.invariant_of-result
invariant_of-result g c = record {
  count = c.in-Ok.ensures.count;
  sound = sound_empty _ c.in-Ok.ensures.empty _ _ c.bytes.ensures.blocks;
}

pub returns-in-Ok : goal.returns-in-Ok
returns-in-Ok g c = (ap (λ (n : ℕ). n % 512) (sym c.bytes.ensures.count) ∙ c.if-bytes-ne0.false, refl, shown_empty _ c.in-Ok.ensures.empty _, none_unwritten _ c.in-Ok.ensures.empty)
