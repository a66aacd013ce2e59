use Rattle.std.proofs.Common.{◌≡◌, ◌++◌, drop, take}
use Rattle.sdv_explain.specs.Lines.{first_chars}
use Rattle.sdv_explain.proofs.hints.lines.first_chars.Given as goal

-- what was passed, and what is taken of the rest
abbrev pub invariant-loop-i : goal.invariant-loop-i
invariant-loop-i l = first_chars l.count l.text ≡ take l.i l.text ++ first_chars l.left (drop l.i l.text)
