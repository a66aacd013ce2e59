use Rattle.std.proofs.Common.{◌≡◌, arith, length}
use Rattle.sdv_lines.specs.declared.line.TheConstants.{LONGEST}
use Rattle.sdv_lines.proofs.LineLaws.{too_long}
use Rattle.sdv_lines.proofs.line.read_text.Goals as goal

pub returns-else-byte-eq10-2 : goal.returns-else-byte-eq10-2
returns-else-byte-eq10-2 g c =
    let kept = c.loop.invariant in
    let full : length c.loop.line.items ≡ LONGEST = omega arith in (
      too_long _ _ _ c.loop.line.items c.in_ok-byte-2.byte kept.0 full c.if-byte-eq10-2.false kept.1 (c.in_ok-byte-2.ensures),
      λ closed. absurd (cc closed),
    )
