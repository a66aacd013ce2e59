use Rattle.std.proofs.Common.{◌≡◌, ◌+◌, ◌≤◌, drop}
use Rattle.sdv_search.specs.Swept.{line_count}
use Rattle.sdv_search.proofs.sweeping.line_count.Given as goal

-- the lines so far, and those that are left; there are no more than bytes
abbrev pub invariant-loop-byte : goal.invariant-loop-byte
invariant-loop-byte l = (l.count + line_count (drop l.byte-index l.text) ≡ line_count l.text) × (l.count ≤ l.byte-index)
