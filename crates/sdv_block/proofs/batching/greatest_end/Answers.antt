use Rattle.std.proofs.Common.{◌≡◌, max, rules, arith}
use Rattle.sdv_block.specs.declared.request.Request.TheVariants.{Read}
use Rattle.sdv_block.proofs.BatchLaws.{in_range_at, greatest_more, greatest_last}
use Rattle.sdv_block.proofs.batching.greatest_end.Goals as goal

pub end-requires : goal.end-requires
end-requires c = in_range_at c.args.requests.now c.loop-request.request-index (Read 0 0) (omega arith) c.requires

pub loop-request-preserved : goal.loop-request-preserved
loop-request-preserved c =
    let is : c.max-greatest.result ≡ max c.loop-request.greatest c.end.result = search rules in
    greatest_more c.args.requests.now c.loop-request.request-index (Read 0 0) c.loop-request.greatest c.end.result c.max-greatest.result is c.end.ensures
    (omega arith) c.loop-request.invariant

pub returns : goal.returns
returns c = greatest_last c.args.requests.now c.loop-request.request-index c.loop-request.greatest (omega arith) c.loop-request.invariant
