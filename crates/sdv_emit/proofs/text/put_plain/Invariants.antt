use Rattle.std.proofs.Common.{◌≡◌, ◌++◌, drop}
use Rattle.sdv_emit.specs.CText.{plain}
use Rattle.sdv_emit.proofs.text.put_plain.Given as goal

-- what is written, and what is still to be, are all
abbrev pub invariant-loop-byte : goal.invariant-loop-byte
invariant-loop-byte l = l.text.items ++ plain (drop l.byte-index l.bytes) ≡ l.fn.text.items ++ plain l.bytes
