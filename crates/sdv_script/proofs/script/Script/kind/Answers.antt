use Rattle.std.proofs.Common.{rules}
use Rattle.sdv_script.proofs.script.Script.kind.Goals as goal

pub returns : goal.returns
returns c = search rules
