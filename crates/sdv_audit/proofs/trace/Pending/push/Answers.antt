use Rattle.sdv_audit.proofs.TraceLaws.{lacks_room}
use Rattle.sdv_audit.proofs.trace.Pending.push.Goals as goal

pub returns-in-Line-clause-room : goal.returns-in-Line-clause-room
returns-in-Line-clause-room g c =
    lacks_room c.hold.result c.args.self.now c.in-Line.line (g.W.Write.contents c.args.out.now) c.hold.ensures.room
