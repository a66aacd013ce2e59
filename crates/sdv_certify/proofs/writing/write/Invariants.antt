use Rattle.std.proofs.Common.{◌≡◌, ℕ, List, ◌++◌, drop}
use Rattle.std.specs.Io.KnownBytes.{Appends}
use Rattle.sdv_facts.specs.CertificateText.{text_of}
use Rattle.sdv_facts.specs.Shared.{points_in, certificate_in}
use Rattle.sdv_certify.specs.Pieces.{lines_text}
use Rattle.sdv_certify.proofs.writing.write.Given as goal

-- what is written and what is left are the text
abbrev pub invariant-loop-place : goal.invariant-loop-place
invariant-loop-place g l =
    (written : List ℕ) × (text_of (certificate_in l.table l.version l.points) ≡ written ++ lines_text l.version l.place (drop l.place (points_in l.table l.points)))
    × Appends (g.W.Write.contents l.fn.out) (g.W.Write.contents l.out) written
