use Rattle.std.proofs.Common.{◌≤◌, length, vec_items}
use Rattle.std.specs.Io.KnownBytes.{Consumes}
use Rattle.sdv_program.proofs.file.bytes_within.Given as goal

-- the bytes so far are what was read
abbrev pub invariant-loop : goal.invariant-loop
invariant-loop g l = Consumes (g.F.Read.remaining l.initial.file) (g.F.Read.remaining l.file) (vec_items l.bytes) × (length (vec_items l.bytes) ≤ l.limit)
