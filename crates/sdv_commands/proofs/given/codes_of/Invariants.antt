use Rattle.std.proofs.Common.{◌≡◌, ◌++◌, drop, vec_items}
use Rattle.sdv_commands.specs.Run.{schedule_codes}
use Rattle.sdv_commands.proofs.given.codes_of.Given as goal

-- the values so far, and those of the bytes that are left
abbrev pub invariant-loop-byte : goal.invariant-loop-byte
invariant-loop-byte l = vec_items l.codes ++ schedule_codes (drop l.byte-index l.bytes) ≡ schedule_codes l.bytes
