use Rattle.std.proofs.Common.{◌≡◌, take, length}
use Rattle.sdv_image.specs.Images.{Shown, OnlyAt, AreSized}
use Rattle.sdv_image.proofs.blocks.write_blocks.Given as goal

-- the first blocks were written, and no block beside those that are to be written
abbrev pub invariant-loop-i : goal.invariant-loop-i
invariant-loop-i g l = record {
  size : g.I.Image.size l.image ≡ g.I.Image.size l.fn.image;
  failed : g.I.Image.failed l.image ≡ g.I.Image.failed l.fn.image;
  written : Shown l.first (take l.i l.blocks) (g.I.Image.blocks l.image);
  others : OnlyAt l.first (length l.blocks) (g.I.Image.blocks l.fn.image) (g.I.Image.blocks l.image);
  fit : AreSized (g.I.Image.size l.fn.image) (g.I.Image.blocks l.fn.image) → AreSized (g.I.Image.size l.image) (g.I.Image.blocks l.image);
}
