use Rattle.std.proofs.Common.{rules}
use Rattle.sdv_block.proofs.text.push_request.Goals as goal

pub returns-in-Write : goal.returns-in-Write
returns-in-Write c = search rules
