use Rattle.std.proofs.Common.{◌≡◌}
use Rattle.std.specs.Io.KnownBytes.{Keeps}
use Rattle.sdv_program.proofs.source.SourceRead.read.Given as goal

-- interrupted reads leave all as it was
abbrev pub invariant-loop : goal.invariant-loop
invariant-loop g l =
    Keeps (g.F.Read.remaining l.fn.self.file) (g.F.Read.remaining l.self.file) × (l.self.failed ≡ l.fn.self.failed)
