use Rattle.sdv_commands.proofs.BatchWordsLaws.{AreSoFar}
use Rattle.sdv_commands.proofs.batch.requests_of.Given as goal

abbrev pub invariant-loop-i : goal.invariant-loop-i
invariant-loop-i l = AreSoFar l.fn.words l.requests.items l.i
