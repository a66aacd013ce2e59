use Rattle.std.proofs.Common.{◌∙◌, sym}
use Rattle.clap.specs.Walk.{texts}
use Rattle.sdv_program.specs.Files.{any_files}
use Rattle.sdv_program.specs.Outcomes.{outcome_of}
use Rattle.sdv_lines.specs.Streams.{streams_of}
use Rattle.sdv_commands.proofs.EndsLaws.{no_memory-kept, refused-kept}
use Rattle.sdv_commands.proofs.program.program_over_lines.Goals as goal

pub returns-clause-ended : goal.returns-clause-ended
returns-clause-ended g c = record {
  outcome = outcome_of c.answer-answered.result;
  status_is = c.status_after.ensures.status;
  ended = c.answer-answered.ensures;
  said = c.status_after.ensures.said;
}

pub returns-clause-refused : goal.returns-clause-refused
returns-clause-refused g c = λ quiet one.
    refused-kept any_files (streams_of g.I.Read.remaining g.L.Write.contents c.args.lines.now)
    (streams_of g.I.Read.remaining g.L.Write.contents c.answer-answered.new.lines) (texts c.args.words.now) (g.O.Write.contents c.args.out.now)
    (g.O.Write.contents c.answer-answered.new.out) (outcome_of c.answer-answered.result) c.answer-answered.ensures quiet (sym c.status_after.ensures.status ∙ one)

pub returns-clause-no_memory : goal.returns-clause-no_memory
returns-clause-no_memory g c = λ whole three.
    no_memory-kept any_files (streams_of g.I.Read.remaining g.L.Write.contents c.args.lines.now)
    (streams_of g.I.Read.remaining g.L.Write.contents c.answer-answered.new.lines) (texts c.args.words.now) (g.O.Write.contents c.args.out.now)
    (g.O.Write.contents c.answer-answered.new.out) (outcome_of c.answer-answered.result) c.answer-answered.ensures whole (sym c.status_after.ensures.status ∙ three)
