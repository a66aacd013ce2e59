use Rattle.std.proofs.Common.{◌≡◌, ◌++◌, drop}
use Rattle.sdv_telling.specs.Quoted.{quoted}
use Rattle.sdv_telling.proofs.quoted.put_quoted.Given as goal

-- what is written, and what is still to be, are all
abbrev pub invariant-loop-byte : goal.invariant-loop-byte
invariant-loop-byte l = l.text.items ++ quoted (drop l.byte-index l.words) ≡ l.fn.text.items ++ quoted l.words
