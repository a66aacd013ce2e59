use Rattle.std.proofs.lemmas.Result.{IfOk-weaker}
use Rattle.sdv_image.proofs.FindLaws.{found_in, absent_in, free_found, free_empty}
use Rattle.sdv_image.proofs.file_image.FileImage.buffer_for.Goals as goal

pub returns-in-Some-clause-free : goal.returns-in-Some-clause-free
returns-in-Some-clause-free g c = free_found _ c.in-Some.index c.args.place c.args.self.now.sound.distinct
    (found_in _ _ c.in-Some.index c.args.place _ c.find.ensures c.deref.ensures.value c.in-Some.is)

pub returns-in-None-clause-free : goal.returns-in-None-clause-free
returns-in-None-clause-free g c =
    let absent = absent_in c.args.self.now.buffers.items _ c.args.place _ c.find.ensures c.deref.ensures.value c.in-None.is in
    IfOk-weaker c.make_room.result _ _ (λ index empty. free_empty _ _ index c.args.place empty absent c.make_room.ensures.places) c.make_room.ensures.empty
