use Rattle.std.proofs.Common.{◌≡◌, ◌∙◌, ap, subst, Some}
use Rattle.std.specs.Prelude.{string_bytes}
use Rattle.sdv_check.specs.Verified.{IsAccepted}
use Rattle.sdv_run.specs.Step.{World}
use Rattle.sdv_lines.specs.Streams.{Streams, limited}
use Rattle.sdv_commands.specs.Run.{blocks_of}
use Rattle.sdv_commands.proofs.RunLaws.{chunks_are_blocks}
use Rattle.sdv_commands.specs.RefusedAnswers.{RanTraced}
use Rattle.sdv_commands.specs.Drive.{TracesUnheard, outcome_of}
use Rattle.sdv_commands.proofs.DriveLaws.{drove, streams}
use Rattle.sdv_commands.proofs.drive.drive_given.Goals as goal

pub returns-clause-drove : goal.returns-clause-drove
returns-clause-drove g c =
    let given = c.args.given.now in
    let accepted : IsAccepted (string_bytes given.script) (string_bytes given.certificate) c.in_ok-accepted.accepted =
    rw (c.as_str.ensures.value, c.as_str-2.ensures.value) at c.in_ok-accepted.ensures.verified in
    let input : c.as_chunks.result.0.now ≡ blocks_of given.input.items =
    c.as_chunks.ensures.front ∙ chunks_are_blocks _ _ ∙ ap blocks_of c.as_slice.ensures.value in
    let remaining = g.R.Read.remaining in
    let contents = g.W.Write.contents in
    let s = streams remaining contents c.args.port.now in
    let w : World Streams = record {
      port = streams remaining contents c.limit_commands-before.new.self;
      input = c.as_chunks.result.0.now;
      out = g.O.Write.contents c.args.out.now;
      trace = g.T.Write.contents c.args.trace.now;
    } in
    let w' : World Streams = record {
      port = streams remaining contents c.run_announced-end.new.port;
      input = c.run_announced-end.ensures.0;
      out = g.O.Write.contents c.run_announced-end.new.out;
      trace = g.T.Write.contents c.run_announced-end.new.trace;
    } in
    let ran = subst (λ graph. RanTraced graph w w' c.run_announced-end.result) c.graph.ensures.graph c.run_announced-end.ensures.1 in
    drove given c.outcome_of.result _ _ _ _ _ s (streams remaining contents c.limit_commands-before.new.self)
    (streams remaining contents c.run_announced-end.new.port) (streams remaining contents c.limit_commands.new.self)
    (streams remaining contents c.tell_if_ended.new.port) c.requires c.in_ok-accepted.accepted accepted
    (c.limit_commands-before.ensures.limited ∙ ap (λ n. limited (Some n) s) c.bound.ensures)
    (c.limit_commands.ensures.limited ∙ ap (λ n. limited n (streams remaining contents c.run_announced-end.new.port)) c.limit_commands-before.ensures.before)
    c.run_announced-end.result
    c.as_chunks.result.0.now c.run_announced-end.ensures.0 input ran
    (subst (λ u. TracesUnheard u (g.T.Write.contents c.run_announced-end.new.trace) (g.T.Write.contents c.trace_unheard.new.trace)) c.unheard.ensures
    c.trace_unheard.ensures)
    c.tell_if_ended.ensures (c.outcome_of.ensures ∙ ap (λ fault. outcome_of fault c.run_announced-end.result) c.fault.ensures)
