use Rattle.std.proofs.Common.{◌≡◌, None, Some, refl, rules, true, false}
use Rattle.sdv_frames.specs.declared.fault.FrameFault.TheVariants.{Length}
use Rattle.sdv_card.specs.declared.answer.Answer.TheVariants.{Damaged}
use Rattle.sdv_card.specs.Port.{Exchange}
use Rattle.sdv_card.specs.ScriptEvent.{Answered}
use Rattle.sdv_lines.specs.declared.fault.PortFault.TheVariants.{Lines, Commands}
use Rattle.sdv_lines.specs.Streams.{Streams, streams_of}
use Rattle.sdv_lines.proofs.PortLaws.{command_gave_up, none_left}
use Rattle.sdv_lines.proofs.port.LinePortCardPort.exchange.Goals as goal

pub returns-in-Err : goal.returns-in-Err
returns-in-Err g c =
    let s = streams_of g.R.Read.remaining g.W.Write.contents c.args.self.now in
    let t = streams_of g.R.Read.remaining g.W.Write.contents c.take_command.new.self in
    let s' : Streams = record {
      answers = g.R.Read.remaining c.exchange.new.reader;
      requests = g.W.Write.contents c.exchange.new.writer;
      left = c.take_command.new.self.commands_left;
      fault = Some (Lines c.in-Err.fault);
      unheard = Some (c.args.command, c.args.expect);
    } in
    let well : c.args.self.now.fault ≡ None = search rules in
    let taken : c.take_command.result ≡ true = search rules in (
      command_gave_up c.due-due.result (Exchange c.args.command c.args.expect) (λ answer. Answered answer) (Answered (Damaged Length)) s t s' c.exchange.result
          c.in-Err.fault c.take_command.result c.due-due.ensures well taken c.take_command.ensures.taken refl c.exchange.ensures c.in-Err.is refl refl refl refl,
      c.take_command.ensures.answered,
    )

pub returns-then-not-take_command : goal.returns-then-not-take_command
returns-then-not-take_command g c =
    let s = streams_of g.R.Read.remaining g.W.Write.contents c.args.self.now in
    let t = streams_of g.R.Read.remaining g.W.Write.contents c.take_command.new.self in
    let s' : Streams = record t { fault = Some Commands } in
    let well : c.args.self.now.fault ≡ None = search rules in
    let taken : c.take_command.result ≡ false = search rules in
    (none_left (Exchange c.args.command c.args.expect) (Answered (Damaged Length)) s t s' c.take_command.result well taken c.take_command.ensures.taken refl refl refl, c.take_command.ensures.answered)
