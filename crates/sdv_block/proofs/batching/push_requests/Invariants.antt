use Rattle.std.specs.Prelude.{string_bytes}
use Rattle.sdv_block.proofs.Growing.{Listed}
use Rattle.sdv_block.proofs.batching.push_requests.Given as goal

abbrev pub invariant-loop-request : goal.invariant-loop-request
invariant-loop-request l = Listed l.requests l.request-index (string_bytes l.fn.text) (string_bytes l.text)
