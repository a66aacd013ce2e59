use Rattle.std.proofs.Common.{◌≡◌, ◌∙◌, ◌++◌, ◌+◌, ◌*◌, ap, sym, subst, length, take, drop, refl}
use Rattle.sdv_image.proofs.MemLaws.{written_law, others_law, fit_law}
use Rattle.sdv_image.proofs.mem_image.MemImageImage.write_block.Goals as goal

pub returns-clause-written : goal.returns-clause-written
returns-clause-written c =
    written_law c.args.place c.args.self.now.bytes.len c.args.block.now c.args.self.now.bytes.items c.store.new.bytes c.told-block c.requires
    (sym c.as_mut_slice.ensures.len ∙ ap length c.as_mut_slice.ensures.value)
    (subst (λ l. c.store.new.bytes ≡ take (c.args.place * 512) l ++ c.args.block.now
    ++ drop (c.args.place * 512 + 512) l) c.as_mut_slice.ensures.value c.store.ensures.stored)

pub returns-clause-others : goal.returns-clause-others
returns-clause-others c = (
  _,
  refl,
  others_law c.args.place c.args.self.now.bytes.len c.args.block.now c.args.self.now.bytes.items c.store.new.bytes c.told-block c.requires
      (sym c.as_mut_slice.ensures.len ∙ ap length c.as_mut_slice.ensures.value)
      (subst (λ l. c.store.new.bytes ≡ take (c.args.place * 512) l ++ c.args.block.now
      ++ drop (c.args.place * 512 + 512) l) c.as_mut_slice.ensures.value c.store.ensures.stored),
)

pub returns-clause-fit : goal.returns-clause-fit
returns-clause-fit c = λ before. fit_law c.args.place c.args.self.now.bytes.len c.args.block.now c.args.self.now.bytes.items c.store.new.bytes c.told-block
    c.requires (sym c.as_mut_slice.ensures.len ∙ ap length c.as_mut_slice.ensures.value)
    (subst (λ l. c.store.new.bytes ≡ take (c.args.place * 512) l ++ c.args.block.now
    ++ drop (c.args.place * 512 + 512) l) c.as_mut_slice.ensures.value c.store.ensures.stored) c.store.ensures.fit
