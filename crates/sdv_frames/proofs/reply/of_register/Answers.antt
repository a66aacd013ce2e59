use Rattle.std.proofs.Common.{◌≡◌, ◌∷◌, [], ◌++◌, ap, ◌∙◌, rules}
use Rattle.sdv_frames.proofs.ReplyLaws.{register_frame}
use Rattle.sdv_frames.proofs.reply.of_register.Goals as goal

pub returns : goal.returns
returns c =
    let extended : c.try_extend_from_slice.new.self.items ≡ c.push.new.self.items ++ c.args.register.now = search rules in
    let pushed : c.push.new.self.items ≡ 63 ∷ [] = search rules in
    register_frame c.args.register.now c.push-2.new.self.items c.crc7.result c.last_byte.result c.crc7.ensures.remainder c.last_byte.ensures
    (c.push-2.ensures.items ∙ ap (λ items. items ++ c.last_byte.result ∷ []) (extended ∙ ap (λ items. items ++ c.args.register.now) pushed))
