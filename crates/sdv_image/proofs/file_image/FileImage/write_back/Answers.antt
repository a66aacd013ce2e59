use Rattle.std.proofs.Common.{ap, ℕ, ◌/◌, ◌∙◌, sym}
use Rattle.sdv_image.specs.declared.buffer.Buffer.{Buffer}
use Rattle.sdv_image.specs.Buffers.{place_of}
use Rattle.sdv_image.proofs.SoundLaws.{read_at_index}
use Rattle.sdv_image.proofs.WriteLaws.{failed_sound, failed_shown, written_sound, written_shown}
use Rattle.sdv_image.proofs.file_image.FileImage.write_back.Goals as goal

pub write_at-requires : goal.write_at-requires
write_at-requires g c =
    let s = c.args.self.now.sound in
    let read = read_at_index c.args.self.now.buffers.items c.args.index _ s.count c.requires c.index_mut-buffer.ensures.value in
    s.within c.args.index c.in-Changed.place (ap (λ (b : Buffer). place_of b.held) (sym read) ∙ ap place_of c.in-Changed.is)

pub invariant_of-self : goal.invariant_of-self
invariant_of-self g c = record {
  count = c.args.self.now.count;
  sound = failed_sound _ _ _ c.args.index c.in-Changed.place _ _ _ c.args.self.now.sound c.requires c.index_mut-buffer.ensures.value c.in-Changed.is
      c.write_at.ensures.others (ap (λ (n : ℕ). n / 512) c.write_at.ensures.size);
}

pub returns-in_err-write_at-clause-shown : goal.returns-in_err-write_at-clause-shown
returns-in_err-write_at-clause-shown g c =
    failed_shown _ _ _ c.args.index c.in-Changed.place _ _ _ c.args.self.now.sound c.requires c.index_mut-buffer.ensures.value c.in-Changed.is
    c.write_at.ensures.others (ap (λ (n : ℕ). n / 512) c.write_at.ensures.size)

pub invariant_of-self-in-Changed : goal.invariant_of-self-in-Changed
invariant_of-self-in-Changed g c = record {
  count = c.args.self.now.count;
  sound = written_sound _ _ _ c.args.index c.in-Changed.place _ _ _ c.args.self.now.sound c.requires c.index_mut-buffer.ensures.value c.in-Changed.is
      c.write_at.ensures.others (ap (λ (n : ℕ). n / 512) c.write_at.ensures.size) c.in_ok-write_at.ensures.written;
}

pub returns-in_ok-write_at-clause-shown : goal.returns-in_ok-write_at-clause-shown
returns-in_ok-write_at-clause-shown g c =
    written_shown _ _ _ c.args.index c.in-Changed.place _ _ _ c.args.self.now.sound c.requires c.index_mut-buffer.ensures.value c.in-Changed.is
    c.write_at.ensures.others (ap (λ (n : ℕ). n / 512) c.write_at.ensures.size) c.in_ok-write_at.ensures.written
