use Rattle.std.proofs.Common.{◌≡◌, ◌<◌, ◌-◌}
use Rattle.sdv_image.specs.Images.{Shown, OnlyAt, AreSized, zeros}
use Rattle.sdv_image.proofs.blocks.erase_blocks.Given as goal

-- the first blocks are zeros, and no other block changed
abbrev pub invariant-loop-place : goal.invariant-loop-place
invariant-loop-place g l = record {
  size : g.I.Image.size l.image ≡ g.I.Image.size l.fn.image;
  failed : g.I.Image.failed l.image ≡ g.I.Image.failed l.fn.image;
  erased : Shown l.first (zeros (l.place - l.first)) (g.I.Image.blocks l.image);
  others : OnlyAt l.first (l.place - l.first) (g.I.Image.blocks l.fn.image) (g.I.Image.blocks l.image);
  none : l.fn.end < l.first → l.place ≡ l.first;
  fit : AreSized (g.I.Image.size l.fn.image) (g.I.Image.blocks l.fn.image) → AreSized (g.I.Image.size l.image) (g.I.Image.blocks l.image);
}
