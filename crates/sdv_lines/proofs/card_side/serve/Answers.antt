use Rattle.std.proofs.Common.{◌≡◌, ◌+◌, ◌-◌, ◌^◌, ◌++◌, ◌∷◌, [], min, arith, length}
use Rattle.sdv_lines.specs.Serving.{lines_in, lines_read}
use Rattle.sdv_lines.proofs.ServeLaws.{stops, served_more, lines_more}
use Rattle.sdv_lines.proofs.card_side.serve.Goals as goal

pub returns-in-Err : goal.returns-in-Err
returns-in-Err g c =
    let inv = c.loop.invariant in
    record {
      turns = inv.0;
      port = c.loop.port;
      left = g.R.Read.remaining c.loop.reader;
      told = g.W.Write.contents c.loop.writer;
      served = inv.1;
      line = inv.2;
      stops = stops g.P.CardPort.steps (length c.args.room.now) c.loop.port (g.R.Read.remaining c.loop.reader)
          (g.R.Read.remaining c.next_request.new.reader) (g.W.Write.contents c.loop.writer) c.in-Err.fault (c.in-Err.ensures (length c.args.room.now));
    }

pub loop-preserved : goal.loop-preserved
loop-preserved g c =
    let inv = c.loop.invariant in
    let asked = rw c.in-Ok-Some.field-0-is at c.in-Ok-Some.ensures in
    let one = c.in-Ok.ensures asked.0.0 (g.R.Read.remaining c.loop.reader) asked.0.1 asked.0.2 asked.0.3 in
    let more = lines_more inv.0 one.0 in
    let same : length one.0.texts ≡ lines_in c.in-Ok-Some.request = one.2 in
    let counted : c.lines_of.result ≡ lines_in c.in-Ok-Some.request = c.lines_of.ensures in
    let before : c.loop.line ≡ min (1 + lines_read inv.0) (2 ^ 64 - 1) = inv.2 in (
      inv.0 ++ one.0 ∷ [],
      served_more g.P.CardPort.steps inv.0 one.0 _ c.loop.port _ _ (g.R.Read.remaining c.loop.reader) _ _ (g.W.Write.contents c.loop.writer) _ inv.1 one.1,
      omega (arith, more, same, counted, before, c.saturating_add-line.ensures),
    )
