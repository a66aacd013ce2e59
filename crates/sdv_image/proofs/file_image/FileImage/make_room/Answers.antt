use Rattle.std.proofs.Common.{◌∙◌, refl}
use Rattle.sdv_image.proofs.HoldLaws.{is_written, given_up_shown}
use Rattle.sdv_image.proofs.file_image.FileImage.make_room.Goals as goal

pub returns-clause-shown : goal.returns-clause-shown
returns-clause-shown g c =
    let index = c.least_recent-index.result in
    let known = c.least_recent-index.ensures.known in
    let after = c.write_back.new.self in
    let clean = is_written c.args.self.now.buffers.items after.buffers.items index c.args.self.now.sound.count known c.in_ok-write_back.ensures.written in
    given_up_shown after.buffers.items index _ _ _ after.sound known refl clean ∙ c.write_back.ensures.shown
