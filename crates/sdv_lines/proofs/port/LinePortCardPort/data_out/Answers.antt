use Rattle.std.proofs.Common.{◌≡◌, None, Some, refl, rules}
use Rattle.sdv_card.specs.declared.answer.DataEnd.TheVariants.{Cut}
use Rattle.sdv_card.specs.Port.{DataOut}
use Rattle.sdv_card.specs.ScriptEvent.{BlocksOut}
use Rattle.sdv_lines.specs.declared.fault.PortFault.TheVariants.{Lines}
use Rattle.sdv_lines.specs.Streams.{Streams, streams_of}
use Rattle.sdv_lines.proofs.PortLaws.{gave_up, spends_none}
use Rattle.sdv_lines.proofs.port.LinePortCardPort.data_out.Goals as goal

pub returns-in-Err : goal.returns-in-Err
returns-in-Err g c =
    let s = streams_of g.R.Read.remaining g.W.Write.contents c.args.self.now in
    let s' : Streams = record {
      answers = g.R.Read.remaining c.data_out.new.reader;
      requests = g.W.Write.contents c.data_out.new.writer;
      left = c.args.self.now.commands_left;
      fault = Some (Lines c.in-Err.fault);
      unheard = None;
    } in
    let well : c.args.self.now.fault ≡ None = search rules in
    (gave_up None (DataOut c.args.lines c.args.blocks.now) (λ end. BlocksOut end) (BlocksOut Cut) s s' c.data_out.result c.in-Err.fault refl well c.data_out.ensures c.in-Err.is (spends_none s.left) refl refl refl, refl)
