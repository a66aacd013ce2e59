use Rattle.sdv_image.proofs.ImageLaws.{sized_shown}
use Rattle.sdv_image.proofs.file_image.FileImageImage.len.Goals as goal

pub returns-clause-blocks : goal.returns-clause-blocks
returns-clause-blocks g c = sized_shown _ _ _ c.args.self.now.sound.fit c.bytes.ensures.blocks
