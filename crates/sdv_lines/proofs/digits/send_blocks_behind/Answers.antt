use Rattle.std.proofs.Common.{◌≡◌, ◌++◌, rules}
use Rattle.std.specs.Io.KnownBytes.{Appends}
use Rattle.sdv_lines.specs.declared.fault.ProtocolFault.TheVariants.{Write}
use Rattle.sdv_lines.specs.Texts.{lines_of}
use Rattle.sdv_lines.specs.Requests.{block_texts}
use Rattle.sdv_lines.specs.Streams.{AppendsFront}
use Rattle.sdv_text.proofs.WrittenLaws.{appends_more}
use Rattle.sdv_lines.proofs.SendLaws.{front_before, front_after, flushed}
use Rattle.sdv_lines.proofs.digits.send_blocks_behind.Goals as goal

pub returns-in_err-put : goal.returns-in_err-put
returns-in_err-put g c =
    let failed = c.in_err-put.ensures in
    let old = g.W.Write.contents c.args.writer.now in
    let mid = g.W.Write.contents c.put.new.writer in
    let rest = lines_of (block_texts c.args.blocks.now) in
    let both : (c.in_err-put.field-0.0 ≡ Write) × AppendsFront old mid (c.args.line.now ++ rest) =
    (failed.0, front_before old mid c.args.line.now rest failed.1) in
    search rules

pub returns-in_err-put_blocks : goal.returns-in_err-put_blocks
returns-in_err-put_blocks g c =
    let failed = c.in_err-put_blocks.ensures in
    let old = g.W.Write.contents c.args.writer.now in
    let mid = g.W.Write.contents c.put.new.writer in
    let new = g.W.Write.contents c.put_blocks.new.writer in
    let rest = lines_of (block_texts c.args.blocks.now) in
    let both : (c.in_err-put_blocks.field-0.0 ≡ Write) × AppendsFront old new (c.args.line.now ++ rest) =
    (failed.0, front_after old mid new c.args.line.now rest c.in_ok-put.ensures failed.1) in
    search rules

pub returns : goal.returns
returns g c =
    let old = g.W.Write.contents c.args.writer.now in
    let mid = g.W.Write.contents c.put.new.writer in
    let new = g.W.Write.contents c.put_blocks.new.writer in
    let rest = lines_of (block_texts c.args.blocks.now) in
    let all : Appends old new (c.args.line.now ++ rest) = appends_more old mid new c.args.line.now rest c.in_ok-put.ensures c.in_ok-put_blocks.ensures in
    flushed old new _ _ c.flush.result all c.flush.ensures.same c.flush.ensures.fault
