use Rattle.std.proofs.Common.{◌≡◌, ℕ, ◌∙◌, ap, sym, List, ◌∷◌, [], ◌+◌, ◌-◌, ◌/◌, ◌*◌, length, take, drop, arith}
use Rattle.sdv_image.proofs.MemLaws.{block_at}
use Rattle.sdv_image.proofs.mem_image.MemImageImage.read_block.Goals as goal

pub returns-clause-read : goal.returns-clause-read
returns-clause-read c =
    let start : ℕ = c.args.place * 512 in
    let wide : c.args.place * 512 + 512 - c.args.place * 512 ≡ 512 = omega arith in
    let bytes : List ℕ = c.args.self.now.bytes.items in
    ap (λ (b : List ℕ). b ∷ [])
    (c.copy_from_slice.ensures.after
    ∙ (ap (λ k. take k (drop (c.args.place * 512) c.deref.result.now)) wide ∙ ap (λ l. take 512 (drop (c.args.place * 512) l)) c.deref.ensures.value))
    ∙ sym (block_at c.args.place (length bytes / 512) bytes c.requires)
