use Rattle.std.proofs.Common.{rules}
use Rattle.sdv_certify.proofs.writing.make_room.Goals as goal

pub returns-clause-passed : goal.returns-clause-passed
returns-clause-passed g c = search rules
