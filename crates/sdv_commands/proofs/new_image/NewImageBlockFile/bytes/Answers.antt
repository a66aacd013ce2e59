use Rattle.std.proofs.Common.{◌≡◌, ◌*◌, ◌/◌, arith, subst}
use Rattle.sdv_card.specs.Card.{AreBlocks}
use Rattle.sdv_image.specs.MemBlocks.{shown_of, size_of}
use Rattle.sdv_commands.proofs.new_image.NewImageBlockFile.bytes.Goals as goal

pub returns-clause-blocks : goal.returns-clause-blocks
returns-clause-blocks c =
    let size : size_of c.args.self.now.blocks ≡ size_of c.args.self.now.blocks * 512 / 512 = omega arith in
    subst (λ count. AreBlocks count (shown_of c.args.self.now.blocks)) size c.len.ensures.blocks
