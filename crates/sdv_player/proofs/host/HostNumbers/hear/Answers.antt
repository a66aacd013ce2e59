use Rattle.std.proofs.Common.{ap}
use Rattle.sdv_table.specs.Sending.{host_by}
use Rattle.sdv_player.proofs.host.HostNumbers.hear.Goals as goal

pub returns-clause-host : goal.returns-clause-host
returns-clause-host c = λ r _.
    let ask = c.args.ask in
    let sending = c.args.sending in
    let answer = c.args.answer.now in
    rw (c.rca_after-self.ensures, c.announced_after-self.ensures, c.length_after-self.ensures)
    (ap (λ h. host_by ask sending answer h) (c.hear_csd.ensures.host r))
