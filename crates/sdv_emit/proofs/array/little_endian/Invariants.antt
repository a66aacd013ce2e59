use Rattle.std.proofs.Common.{◌≡◌, ◌++◌, drop}
use Rattle.sdv_emit.specs.CText.{little_endian}
use Rattle.sdv_emit.proofs.array.little_endian.Given as goal

-- what is written, and what is still to be, are all
abbrev pub invariant-loop-word : goal.invariant-loop-word
invariant-loop-word l = l.bytes.items ++ little_endian (drop l.word-index l.words) ≡ little_endian l.words
