use Rattle.std.proofs.Common.{◌≡◌, ◌++◌, rules}
use Rattle.sdv_trace.specs.Trace.{line_feed}
use Rattle.sdv_lines.specs.declared.fault.ProtocolFault.TheVariants.{Write}
use Rattle.sdv_lines.specs.Streams.{AppendsFront}
use Rattle.sdv_lines.proofs.SendLaws.{front_before, sends_more}
use Rattle.sdv_lines.proofs.digits.put_digits.Goals as goal

pub returns-in_err-put : goal.returns-in_err-put
returns-in_err-put g c =
    let failed = c.in_err-put.ensures in
    let old = g.W.Write.contents c.args.writer.now in
    let new = g.W.Write.contents c.put.new.writer in
    let both : (c.in_err-put.field-0.0 ≡ Write) × AppendsFront old new (c.args.digits.now ++ line_feed) =
    (failed.0, front_before old new c.args.digits.now line_feed failed.1) in
    search rules

pub returns : goal.returns
returns g c =
    sends_more (g.W.Write.contents c.args.writer.now) (g.W.Write.contents c.put.new.writer) (g.W.Write.contents c.send.new.writer)
    c.args.digits.now line_feed c.send.result c.in_ok-put.ensures c.send.ensures
