use Rattle.std.proofs.Common.{◌≡◌, rules}
use Rattle.sdv_card.specs.declared.answer.DataEnd.TheVariants as ends
use Rattle.sdv_run.specs.Standing.{host_of}
use Rattle.sdv_run.proofs.Takes.{took_register}
use Rattle.sdv_run.proofs.taking.take_phase.Goals as goal

pub returns-then-host-eq512-clause-taken : goal.returns-then-host-eq512-clause-taken
returns-then-host-eq512-clause-taken c = λ held event seen t.
    let register = c.in-ReceiveRegister-RegisterIn.register in
    let ended : c.in-ReceiveRegister-RegisterIn.end ≡ ends.Ok = search (rules, c.if-ended_well.true, c.eq-ended_well.ensures) in
    rw c.if-ended_well.true
    (took_register c.args.host.now.kind (host_of c.args.host.now) register c.if-host-eq512.true held event seen
    (rw (c.in-ReceiveRegister-RegisterIn.is-0, c.in-ReceiveRegister-RegisterIn.is-1, ended) at t))
