use Rattle.std.proofs.Common.{◌≡◌, ◌++◌, List, ℕ, rules, subst}
use Rattle.hex.specs.Hex.{encode_lower}
use Rattle.std.specs.Io.KnownBytes.{Appends}
use Rattle.sdv_trace.specs.Trace.{line_feed}
use Rattle.sdv_lines.specs.declared.fault.ProtocolFault.TheVariants.{Write}
use Rattle.sdv_lines.specs.Streams.{AppendsFront}
use Rattle.sdv_lines.proofs.SendLaws.{front_before, sends_more}
use Rattle.sdv_lines.proofs.digits.put_block.Goals as goal

pub returns-in_err-put : goal.returns-in_err-put
returns-in_err-put g c =
    let failed = c.in_err-put.ensures in
    let old = g.W.Write.contents c.args.writer.now in
    let new = g.W.Write.contents c.put.new.writer in
    let written : AppendsFront old new (encode_lower c.args.block.now) =
    subst (λ (l : List ℕ). AppendsFront old new l) c.digits_of-digits.ensures failed.1 in
    let both : (c.in_err-put.field-0.0 ≡ Write) × AppendsFront old new (encode_lower c.args.block.now ++ line_feed) =
    (failed.0, front_before old new (encode_lower c.args.block.now) line_feed written) in
    search rules

pub returns : goal.returns
returns g c =
    let old = g.W.Write.contents c.args.writer.now in
    let mid = g.W.Write.contents c.put.new.writer in
    sends_more old mid (g.W.Write.contents c.put-2.new.writer) (encode_lower c.args.block.now) line_feed c.put-2.result
    (subst (λ (l : List ℕ). Appends old mid l) c.digits_of-digits.ensures c.in_ok-put.ensures) c.put-2.ensures
