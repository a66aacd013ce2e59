use Rattle.sdv_program.specs.Requests.{verify_names_of}
use Rattle.sdv_commands.specs.Verify.{IsWorst}
use Rattle.sdv_commands.proofs.verify.verify_files.Given as goal

-- the worst of the verdicts so far
abbrev pub invariant-loop-file : goal.invariant-loop-file
invariant-loop-file g l = IsWorst (g.S.Store.known l.files) (verify_names_of l.words).allowed (verify_names_of l.words).files l.file-index l.worst
