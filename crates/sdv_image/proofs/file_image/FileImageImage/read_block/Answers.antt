use Rattle.std.proofs.Common.{◌≡◌, ◌∙◌, ◌∷◌, [], ℕ, List, Option, subst, ap, refl, inl, inr, option_map, set}
use Rattle.sdv_card.specs.Card.{Block}
use Rattle.sdv_image.specs.Images.{Shown}
use Rattle.sdv_image.specs.declared.buffer.Buffer.{Buffer}
use Rattle.sdv_image.specs.Buffers.{IsFreeFor, shown_over}
use Rattle.sdv_image.proofs.FindLaws.{found_in, absent_in, free_empty}
use Rattle.sdv_image.proofs.ImageLaws.{read_of_found, read_absent, put_same}
use Rattle.sdv_image.proofs.file_image.FileImageImage.read_block.Goals as goal

pub returns-in-Some-clause-read : goal.returns-in-Some-clause-read
returns-in-Some-clause-read g c =
    let has = found_in c.args.self.now.buffers.items _ c.in-Some.index c.args.place _ c.find.ensures c.deref.ensures.value c.in-Some.is in
    read_of_found _ c.in-Some.index c.args.place _ _ _ c.args.self.now.sound c.requires has c.index.ensures

pub hold-requires-clause-free : goal.hold-requires-clause-free
hold-requires-clause-free g c = λ place same.
    let bs : List Buffer = c.make_room.new.self.buffers.items in
    let absent = absent_in c.args.self.now.buffers.items _ c.args.place _ c.find.ensures c.deref.ensures.value c.in-None.is in
    let p : c.args.place ≡ place = cc in
    subst (λ (n : ℕ). IsFreeFor bs c.in_ok-index-in-None.index n) p
    (free_empty _ bs c.in_ok-index-in-None.index c.args.place c.in_ok-index-in-None.ensures.empty absent c.make_room.ensures.places)

pub returns-in_ok-read_at-in-None-clause-read : goal.returns-in_ok-read_at-in-None-clause-read
returns-in_ok-read_at-in-None-clause-read g c =
    let absent = absent_in c.args.self.now.buffers.items _ c.args.place _ c.find.ensures c.deref.ensures.value c.in-None.is in
    let read = read_absent c.make_room.new.self.buffers.items c.args.place c.read_at.new.block _
    (λ i p. absent i (c.make_room.ensures.places i c.args.place p)) c.in_ok-read_at-in-None.ensures.read in
    subst (λ (o : Option (List Block)). Shown c.args.place (c.read_at.new.block ∷ []) o) c.make_room.ensures.shown read

pub returns-in_ok-read_at-in-None-clause-same : goal.returns-in_ok-read_at-in-None-clause-same
returns-in_ok-read_at-in-None-clause-same g c =
    let absent = absent_in c.args.self.now.buffers.items _ c.args.place _ c.find.ensures c.deref.ensures.value c.in-None.is in
    let read = read_absent c.make_room.new.self.buffers.items c.args.place c.read_at.new.block _
    (λ i p. absent i (c.make_room.ensures.places i c.args.place p)) c.in_ok-read_at-in-None.ensures.read in
    c.hold.ensures.shown c.args.place refl
    ∙ (ap (λ (o : Option (List Block)). option_map (λ (blocks : List Block). set blocks c.args.place c.read_at.new.block)
    (shown_over c.make_room.new.self.buffers.items o)) c.read_at.ensures.same
    ∙ (put_same c.args.place c.read_at.new.block _ read ∙ c.make_room.ensures.shown))

pub returns-in_ok-read_at-in-None-clause-unwritten : goal.returns-in_ok-read_at-in-None-clause-unwritten
returns-in_ok-read_at-in-None-clause-unwritten g c = λ place u. elim (c.hold.ensures.unwritten place u) [
  | inl clash ↦ absurd (cc)
  | inr before ↦ c.make_room.ensures.unwritten place before
]
