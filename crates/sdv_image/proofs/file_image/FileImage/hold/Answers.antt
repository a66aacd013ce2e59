use Rattle.std.proofs.Common.{arith}
use Rattle.std.proofs.lemmas.List.Elements.{All-from_get_or}
use Rattle.sdv_card.specs.Card.{IsByte, IsRegister}
use Rattle.sdv_image.proofs.SoundLaws.{sound_set, shown_block}
use Rattle.sdv_image.proofs.HoldLaws.{held_shown}
use Rattle.sdv_image.proofs.file_image.FileImage.hold.Goals as goal

pub invariant_of-self : goal.invariant_of-self
invariant_of-self g c =
    let fit : IsRegister 512 c.args.block.now = record { size = omega arith; bytes_fit = All-from_get_or IsByte _ 0 (λ i h. omega arith) } in
    record {
      count = c.args.self.now.count;
      sound = sound_set _ c.args.index _ _ _ c.args.self.now.sound c.requires.index
          (λ j place held has. (c.requires.free place held).alone j has) fit c.requires.within
          (λ blocks file place held. shown_block place c.args.block.now _ blocks (c.requires.same place held) file);
    }

pub returns-clause-shown : goal.returns-clause-shown
returns-clause-shown g c = λ place held. held_shown _ c.args.index _ _ _ c.args.self.now.sound c.requires.index place (c.requires.free place held) held
