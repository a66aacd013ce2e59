use Rattle.std.proofs.Common.{◌≡◌, inr, rules}
use Rattle.sdv_commands.proofs.DecodeLaws.{no_bytes}
use Rattle.sdv_commands.specs.Decode.{DecodesTexts}
use Rattle.sdv_commands.proofs.decode.decode_given.Goals as goal

pub returns-in_err-bytes : goal.returns-in_err-bytes
returns-in_err-bytes g c =
    no_bytes (g.S.Store.known c.args.files.now) c.args.file
    (DecodesTexts c.args.form c.args.texts.kind c.args.texts.script.now c.args.texts.trace.now)
    (g.O.Write.contents c.args.out.now)
    c.in_err-bytes.field-0.0 c.in_err-bytes.ensures.refused c.in_err-bytes.ensures.unread c.from_residual.result c.from_residual.ensures.1

pub returns : goal.returns
returns g c =
    let bytes : c.as_slice.result.now ≡ c.in_ok-bytes.bytes.items = search rules in
    inr (c.in_ok-bytes.bytes.items, c.in_ok-bytes.ensures.given, rw bytes at c.decode_texts.ensures)
