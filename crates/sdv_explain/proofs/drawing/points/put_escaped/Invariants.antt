use Rattle.std.proofs.Common.{◌≡◌, ◌++◌, drop}
use Rattle.sdv_explain.specs.Drawing.{escaped}
use Rattle.sdv_explain.proofs.drawing.points.put_escaped.Given as goal

-- what is written, and what is still to be, are all
abbrev pub invariant-loop-byte : goal.invariant-loop-byte
invariant-loop-byte l = l.text.items ++ escaped (drop l.byte-index l.bytes) ≡ l.fn.text.items ++ escaped l.bytes
