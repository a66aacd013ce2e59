use Rattle.std.proofs.Common.{◌≡◌, ◌++◌, drop, map}
use Rattle.sdv_decode.specs.Lines.{lines_in}
use Rattle.sdv_decode.proofs.LineLaws.{with_front}
use Rattle.sdv_decode.proofs.lines.lines_of.Given as goal

-- the lines so far, and those that are left behind a front of the first
abbrev pub invariant-loop-byte : goal.invariant-loop-byte
invariant-loop-byte l = map (λ line. line.items) l.lines.items ++ with_front l.line.items (lines_in (drop l.byte-index l.text)) ≡ lines_in l.text
