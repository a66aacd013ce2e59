use Rattle.std.proofs.Common.{◌≡◌, ◌++◌, drop}
use Rattle.sdv_explain.specs.Lines.{safe_behind}
use Rattle.sdv_explain.proofs.hints.lines.put_safe.Given as goal

-- what is written, and what is still to be, are all
abbrev pub invariant-loop-byte : goal.invariant-loop-byte
invariant-loop-byte l =
    l.page.items ++ safe_behind l.second l.before (drop l.byte-index l.text) ≡ l.fn.page.items ++ safe_behind 0 0 l.text
