use Rattle.std.proofs.Common.{◌≡◌, None, Some, refl, rules, length}
use Rattle.sdv_card.specs.declared.answer.DataEnd.TheVariants.{Cut}
use Rattle.sdv_card.specs.Port.{DataIn}
use Rattle.sdv_card.specs.ScriptEvent.{BlocksIn}
use Rattle.sdv_lines.specs.declared.fault.PortFault.TheVariants.{Lines}
use Rattle.sdv_lines.specs.Streams.{Streams, streams_of}
use Rattle.sdv_lines.proofs.PortLaws.{gave_up, spends_none}
use Rattle.sdv_lines.proofs.port.LinePortCardPort.data_in.Goals as goal

pub returns-in-Err : goal.returns-in-Err
returns-in-Err g c =
    let s = streams_of g.R.Read.remaining g.W.Write.contents c.args.self.now in
    let s' : Streams = record {
      answers = g.R.Read.remaining c.data_in.new.reader;
      requests = g.W.Write.contents c.data_in.new.writer;
      left = c.args.self.now.commands_left;
      fault = Some (Lines c.in-Err.fault);
      unheard = None;
    } in
    let well : c.args.self.now.fault ≡ None = search rules in
    (gave_up None (DataIn c.args.lines (length c.args.blocks.now)) (λ end. BlocksIn end c.data_in.new.blocks) (BlocksIn Cut c.data_in.new.blocks) s s' c.data_in.result c.in-Err.fault refl well c.data_in.ensures c.in-Err.is (spends_none s.left) refl refl (refl, search rules), refl)
