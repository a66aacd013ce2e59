use Rattle.sdv_certify.proofs.RefusalLaws.{FineBefore}
use Rattle.sdv_certify.proofs.refusal.first_fault.Given as goal

abbrev pub invariant-loop-point : goal.invariant-loop-point
invariant-loop-point g l = FineBefore l.graph l.family l.point
