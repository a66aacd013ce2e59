use Rattle.std.proofs.Common.{◌≡◌, drop, max}
use Rattle.sdv_block.specs.Disk.{greatest_end}
use Rattle.sdv_block.proofs.batching.greatest_end.Given as goal

abbrev pub invariant-loop-request : goal.invariant-loop-request
invariant-loop-request l = max l.greatest (greatest_end (drop l.request-index l.requests)) ≡ greatest_end l.requests
