use Rattle.std.proofs.Common.{refl}
use Rattle.std.specs.Int.{w32, to_be_bytes}
use Rattle.sdv_lines.proofs.answer.word_after.Goals as goal

pub returns-in-None : goal.returns-in-None
returns-in-None c = λ word w. c.in-None.ensures (to_be_bytes w32 word) refl w.reply
