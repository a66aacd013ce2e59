use Rattle.std.proofs.Common.{◌≡◌, false, drop}
use Rattle.sdv_script.specs.Tokens.{after_gap}
use Rattle.sdv_script.proofs.cursor.gap_len.Given as goal

abbrev pub invariant-loop-i : goal.invariant-loop-i
invariant-loop-i l = after_gap l.in_comment (drop l.i l.text) ≡ after_gap false l.text
