use Rattle.std.proofs.Common.{arith}
use Rattle.sdv_named_schedules.proofs.NamingLaws.{one_more}
use Rattle.sdv_named_schedules.proofs.naming.named_codes.Goals as goal

pub loop-number-preserved : goal.loop-number-preserved
loop-number-preserved c =
    one_more c.in_ok-places.places.items c.args.events.now _ c.loop-number.codes.items c.push.new.self.items c.loop-number.number c.value_at.result
    (omega arith) (rw c.as_slice.ensures.value at c.value_at.ensures) c.in_ok-push.ensures.items c.loop-number.invariant
