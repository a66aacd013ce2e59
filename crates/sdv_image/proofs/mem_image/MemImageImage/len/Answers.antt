use Rattle.std.proofs.Common.{All, subst}
use Rattle.sdv_card.specs.Card.{IsByte}
use Rattle.sdv_image.proofs.MemLaws.{all_fit}
use Rattle.sdv_image.proofs.mem_image.MemImageImage.len.Goals as goal

pub returns-clause-blocks : goal.returns-clause-blocks
returns-clause-blocks c = all_fit c.args.self.now.bytes.items (subst (λ l. All IsByte l) c.as_slice.ensures.value c.blocks_of.ensures.fit)
