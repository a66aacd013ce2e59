use Rattle.std.proofs.Common.{◌≡◌, subst, sym}
use Rattle.sdv_program.specs.Fault.{WritesLine, fault_line, kind_name, run_fault_name, sim_fault_name}
use Rattle.sdv_program.specs.declared.fault.Fault.{Fault}
use Rattle.sdv_program.proofs.fault.Fault.say.Goals as goal

pub returns-in-Script : goal.returns-in-Script
returns-in-Script g c =
    let name : c.kind_name.result.now ≡ kind_name c.in-Script.fault.kind = c.kind_name.ensures in
    let line : c.from.result ≡ c.in-Script.fault.line = c.from.ensures in
    subst (λ (fault : Fault). WritesLine (fault_line fault) (g.E.Write.contents c.args.err.now)
    (g.E.Write.contents c.say_numbered.new.err) c.say_numbered.result) (sym c.in-Script.is)
    (rw (name, line) at c.say_numbered.ensures)

pub returns-in-Card : goal.returns-in-Card
returns-in-Card g c =
    let name : c.sim_fault_name.result.now ≡ sim_fault_name c.in-Card.fault = c.sim_fault_name.ensures in
    subst (λ (fault : Fault). WritesLine (fault_line fault) (g.E.Write.contents c.args.err.now)
    (g.E.Write.contents c.say_named-in-Card.new.err) c.say_named-in-Card.result) (sym c.in-Card.is)
    (rw name at c.say_named-in-Card.ensures)

pub returns-in-Run : goal.returns-in-Run
returns-in-Run g c =
    let name : c.run_fault_name.result.now ≡ run_fault_name c.in-Run.fault = c.run_fault_name.ensures in
    subst (λ (fault : Fault). WritesLine (fault_line fault) (g.E.Write.contents c.args.err.now)
    (g.E.Write.contents c.say_named-in-Run.new.err) c.say_named-in-Run.result) (sym c.in-Run.is)
    (rw name at c.say_named-in-Run.ensures)
