use Rattle.std.proofs.Common.{◌≡◌, take}
use Rattle.sdv_behavior.specs.SimSteps.{padded}
use Rattle.sdv_behavior.proofs.register.copy_padded.Given as goal

-- the first bytes are those of the register, and zeros after it
abbrev pub invariant-loop-i : goal.invariant-loop-i
invariant-loop-i l = take l.i l.bytes ≡ padded l.register l.i
