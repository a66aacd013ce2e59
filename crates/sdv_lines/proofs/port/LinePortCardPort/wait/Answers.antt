use Rattle.std.proofs.Common.{◌≡◌, None, Some, refl, rules}
use Rattle.sdv_card.specs.declared.answer.WaitEnd.TheVariants.{Late}
use Rattle.sdv_card.specs.Port.{WaitWhileBusy}
use Rattle.sdv_card.specs.ScriptEvent.{Waited}
use Rattle.sdv_lines.specs.declared.fault.PortFault.TheVariants.{Lines}
use Rattle.sdv_lines.specs.Streams.{Streams, streams_of}
use Rattle.sdv_lines.proofs.PortLaws.{gave_up, spends_none}
use Rattle.sdv_lines.proofs.port.LinePortCardPort.wait.Goals as goal

pub returns-in-Err : goal.returns-in-Err
returns-in-Err g c =
    let s = streams_of g.R.Read.remaining g.W.Write.contents c.args.self.now in
    let s' : Streams = record {
      answers = g.R.Read.remaining c.wait.new.reader;
      requests = g.W.Write.contents c.wait.new.writer;
      left = c.args.self.now.commands_left;
      fault = Some (Lines c.in-Err.fault);
      unheard = None;
    } in
    let well : c.args.self.now.fault ≡ None = search rules in
    (gave_up None (WaitWhileBusy) (λ end. Waited end) (Waited Late) s s' c.wait.result c.in-Err.fault refl well c.wait.ensures c.in-Err.is (spends_none s.left) refl refl refl, refl)
