use Rattle.std.proofs.Common.{◌≡◌, take}
use Rattle.sdv_image.specs.Images.{Shown}
use Rattle.sdv_image.proofs.blocks.read_blocks.Given as goal

-- the first blocks were read
abbrev pub invariant-loop-i : goal.invariant-loop-i
invariant-loop-i g l = record {
  size : g.I.Image.size l.image ≡ g.I.Image.size l.fn.image;
  same : g.I.Image.blocks l.image ≡ g.I.Image.blocks l.fn.image;
  failed : g.I.Image.failed l.image ≡ g.I.Image.failed l.fn.image;
  read : Shown l.first (take l.i l.blocks) (g.I.Image.blocks l.fn.image);
}
