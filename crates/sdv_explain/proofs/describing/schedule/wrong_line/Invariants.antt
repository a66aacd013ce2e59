use Rattle.std.proofs.Common.{◌≡◌, drop}
use Rattle.sdv_explain.specs.Schedules.{wrong_from}
use Rattle.sdv_explain.proofs.describing.schedule.wrong_line.Given as goal

-- the bytes so far may stand there
abbrev pub invariant-loop-byte : goal.invariant-loop-byte
invariant-loop-byte l = wrong_from l.line (drop l.byte-index l.bytes) ≡ wrong_from 1 l.bytes
