use Rattle.std.proofs.Common.{◌∙◌, subst}
use Rattle.sdv_run.specs.Step.{World}
use Rattle.sdv_run.specs.Standing.{stand_of}
use Rattle.sdv_lines.specs.declared.port.LinePort.{LinePort}
use Rattle.sdv_commands.specs.RefusedAnswers.{TracesIfRefused}
use Rattle.sdv_commands.proofs.AnnouncingLaws.{stepped_traced}
use Rattle.sdv_commands.proofs.announcing.step_traced.Goals as goal

pub returns-clause-traced : goal.returns-clause-traced
returns-clause-traced g c =
    let w : World (LinePort g.row.R.Denot g.row.W.Denot) = record {
      port = c.step-moved.new.world.0;
      input = c.step-moved.new.world.1.0.now;
      out = g.O.Write.contents c.step-moved.new.world.1.1.0;
      trace = g.T.Write.contents c.step-moved.new.world.1.1.1.0;
    } in
    let took = subst (λ answered. TracesIfRefused c.step-moved.result answered w.trace (g.T.Write.contents c.trace_refused.new.trace) c.trace_refused.result)
    c.take_answered-2.ensures.taken c.trace_refused.ensures in
    stepped_traced g.R.Read.remaining g.W.Write.contents _ _ c.take_answered.new.self c.args.world.input.now.now
    (g.O.Write.contents c.args.world.out.now) (g.T.Write.contents c.args.world.trace.now) w (stand_of c.step-moved.new.standing) c.step-moved.result c.trace_refused.result
    c.step-moved.ensures.stepped c.take_answered.ensures.none _ took _ _ (c.take_answered.ensures.same ∙ c.announce.ensures) c.take_answered-2.ensures.same
