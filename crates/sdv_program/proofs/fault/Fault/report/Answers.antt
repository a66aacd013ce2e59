use Rattle.sdv_program.proofs.OutputLaws.{said}
use Rattle.sdv_program.specs.Fault.{fault_line}
use Rattle.sdv_program.proofs.fault.Fault.report.Goals as goal

pub returns-clause-said : goal.returns-clause-said
returns-clause-said g c =
    said (fault_line c.args.self) (g.E.Write.contents c.args.err.now) (g.E.Write.contents c.say.new.err) c.say.result c.say.ensures
