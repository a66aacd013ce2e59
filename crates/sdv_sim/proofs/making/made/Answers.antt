use Rattle.std.proofs.Common.{rules, refl, sym, ◌∙◌, arith}
use Rattle.sdv_behavior.proofs.Described.{described_law}
use Rattle.sdv_sim.proofs.MadeLaws.{starts}
use Rattle.sdv_sim.proofs.making.made.Goals as goal

pub read_block-requires : goal.read_block-requires
read_block-requires g c =
    let least = (described_law c.args.desc).least in
    let size = c.len.ensures.size in
    let whole = c.image_size.ensures in
    let same = c.if-len-image_size.false in
    omega (arith, least, size, whole, same)

pub returns-in-Ok-clause-made : goal.returns-in-Ok-clause-made
returns-in-Ok-clause-made g c =
    let fit = c.registers_fit-fit.ensures in
    record {
      desc = refl;
      card = c.at_start.ensures;
      behaviors = c.in-Ok.ensures;
      blocks = c.read_block.ensures.same;
      start = starts c.args.desc (g.I.Image.size c.args.image) (g.I.Image.blocks c.args.image) fit.csd fit.sectors c.len.ensures.blocks
          (sym c.len.ensures.size ∙ (c.if-len-image_size.false ∙ c.image_size.ensures));
    }

pub returns-in-Ok-clause-no_fault : goal.returns-in-Ok-clause-no_fault
returns-in-Ok-clause-no_fault g c = search rules
