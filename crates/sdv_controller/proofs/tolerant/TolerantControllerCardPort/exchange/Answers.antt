use Rattle.std.proofs.Common.{ap}
use Rattle.sdv_card.specs.ScriptEvent.{Answered}
use Rattle.sdv_card.specs.Damage.{counts_as}
use Rattle.sdv_controller.proofs.Undamaged.{undamaged_counts}
use Rattle.sdv_controller.proofs.tolerant.TolerantControllerCardPort.exchange.Goals as goal

pub returns-in-Damaged : goal.returns-in-Damaged
returns-in-Damaged g c = record {
  heard = Answered c.exchange.result;
  counts = ap (λ answer. counts_as (Answered answer)) c.in-Damaged.is;
  step = c.exchange.ensures;
}

pub returns-in_default : goal.returns-in_default
returns-in_default g c = record {
  heard = Answered c.exchange.result;
  counts = undamaged_counts c.exchange.result (λ fault is. c.in_default.not-Damaged fault is);
  step = c.exchange.ensures;
}
