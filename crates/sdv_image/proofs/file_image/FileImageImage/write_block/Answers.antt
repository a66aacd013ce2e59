use Rattle.std.proofs.Common.{◌≡◌, ◌∙◌, ap, subst, sym, refl, inl, inr, option_map, set, List, Option, arith, ℕ, ◌<◌, ◌/◌}
use Rattle.std.proofs.lemmas.List.Elements.{All-from_get_or}
use Rattle.sdv_card.specs.Card.{Block, IsByte, IsRegister}
use Rattle.sdv_image.proofs.ImageLaws.{written, beside, sized_put}
use Rattle.sdv_image.proofs.file_image.FileImageImage.write_block.Goals as goal

pub returns-clause-written : goal.returns-clause-written
returns-clause-written g c =
    let room = subst (λ (n : ℕ). c.args.place < n / 512) (sym c.buffer_for.ensures.bytes) c.requires in
    written _ c.args.place _ c.args.block.now _ _ c.buffer_for.new.self.sound room (c.hold.ensures.shown c.args.place refl)

pub returns-clause-others : goal.returns-clause-others
returns-clause-others g c =
    let put = λ (o : Option (List Block)). option_map (λ (blocks : List Block). set blocks c.args.place c.args.block.now) o in
    beside c.args.place c.args.block.now _ _ (c.hold.ensures.shown c.args.place refl ∙ ap put c.buffer_for.ensures.shown)

pub returns-clause-fit : goal.returns-clause-fit
returns-clause-fit g c = λ before.
    let put = λ (o : Option (List Block)). option_map (λ (blocks : List Block). set blocks c.args.place c.args.block.now) o in
    let fit : IsRegister 512 c.args.block.now = record { size = omega arith; bytes_fit = All-from_get_or IsByte _ 0 (λ i h. omega arith) } in
    sized_put c.args.place _ _ c.args.block.now _ _ fit (ap (λ (n : ℕ). n / 512) (c.hold.ensures.bytes ∙ c.buffer_for.ensures.bytes))
    (c.hold.ensures.shown c.args.place refl ∙ ap put c.buffer_for.ensures.shown) before

pub returns-clause-unwritten : goal.returns-clause-unwritten
returns-clause-unwritten g c = λ place u. elim (c.hold.ensures.unwritten place u) [
  | inl here ↦ inl (let same : c.args.place ≡ place = cc in sym same)
  | inr before ↦ inr (c.buffer_for.ensures.unwritten place before)
]
