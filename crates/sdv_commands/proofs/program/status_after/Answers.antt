use Rattle.std.proofs.Common.{subst, sym, Result}
use Rattle.sdv_program.specs.declared.fault.Fault.{Fault}
use Rattle.sdv_program.specs.Outcomes.{outcome_of}
use Rattle.sdv_program.proofs.StartLaws.{keeps_same}
use Rattle.sdv_commands.specs.Ends.{SaysWhy}
use Rattle.sdv_commands.proofs.program.status_after.Goals as goal

pub returns-in-Ok-clause-said : goal.returns-in-Ok-clause-said
returns-in-Ok-clause-said g c =
    let known = g.E.Write.contents c.args.err.now in
    subst (λ (answered : Result (Unit {0}) Fault). SaysWhy (outcome_of answered) known known) (sym c.in-Ok.is) (keeps_same known)
