use Rattle.std.proofs.Common.{◌≡◌, ◌++◌, drop, flat_map}
use Rattle.sdv_explain.specs.Lines.{blank}
use Rattle.sdv_explain.proofs.hints.lines.put_blanks.Given as goal

-- what is written, and what is still to be, are all
abbrev pub invariant-loop-byte : goal.invariant-loop-byte
invariant-loop-byte l =
    l.page.items ++ flat_map blank (drop l.byte-index l.text) ≡ l.fn.page.items ++ flat_map blank l.text
