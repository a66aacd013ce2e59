use Rattle.std.proofs.Common.{◌≡◌, ◌++◌, List, ℕ, rules, subst}
use Rattle.hex.specs.Hex.{encode_lower}
use Rattle.sdv_trace.specs.Trace.{line_feed}
use Rattle.sdv_lines.specs.declared.fault.ProtocolFault.TheVariants.{Write}
use Rattle.sdv_lines.specs.Streams.{AppendsFront, Sends}
use Rattle.sdv_lines.proofs.SendLaws.{front_before, sends_more}
use Rattle.sdv_lines.proofs.digits.send_digits_behind.Goals as goal

pub returns-in_err-put : goal.returns-in_err-put
returns-in_err-put g c =
    let failed = c.in_err-put.ensures in
    let old = g.W.Write.contents c.args.writer.now in
    let new = g.W.Write.contents c.put.new.writer in
    let rest = encode_lower c.args.bytes.now ++ line_feed in
    let both : (c.in_err-put.field-0.0 ≡ Write) × AppendsFront old new (c.args.line.now ++ rest) =
    (failed.0, front_before old new c.args.line.now rest failed.1) in
    search rules

pub returns : goal.returns
returns g c =
    let old = g.W.Write.contents c.args.writer.now in
    let mid = g.W.Write.contents c.put.new.writer in
    let new = g.W.Write.contents c.put_digits.new.writer in
    sends_more old mid new c.args.line.now (encode_lower c.args.bytes.now ++ line_feed) c.put_digits.result c.in_ok-put.ensures
    (subst (λ (l : List ℕ). Sends mid new c.put_digits.result (l ++ line_feed)) c.encode_digits.ensures c.put_digits.ensures)
