use Rattle.std.proofs.Common.{◌<◌, length, get_or, arith}
use Rattle.std.specs.Prelude.{string_bytes}
use Rattle.std.proofs.lemmas.Result.{err_from_is_err_and}
use Rattle.sdv_script.specs.Rules.{max_bytes}
use Rattle.sdv_block.specs.declared.request.Request.TheVariants.{Read}
use Rattle.sdv_block.proofs.BatchLaws.{drop_here}
use Rattle.sdv_block.proofs.Growing.{none_listed, one_listed, all_listed, long_listed}
use Rattle.sdv_block.proofs.batching.push_requests.Goals as goal

pub loop-request-init : goal.loop-request-init
loop-request-init c = none_listed c.args.requests.now (string_bytes c.args.text.now)

pub loop-request-preserved : goal.loop-request-preserved
loop-request-preserved c =
    one_listed c.args.requests.now c.loop-request.request-index (get_or c.args.requests.now c.loop-request.request-index (Read 0 0))
    (string_bytes c.args.text.now) (string_bytes c.loop-request.text) (string_bytes c.push_request.new.text)
    (drop_here c.args.requests.now c.loop-request.request-index (Read 0 0) (omega arith)) c.loop-request.invariant c.in_ok-push_request.ensures

pub returns-in_err-push_request : goal.returns-in_err-push_request
returns-in_err-push_request c =
    let p = err_from_is_err_and c.from_residual.result c.from_residual.ensures.1 in
    rw (p.1, p.2) tt

pub returns-in_err-short_enough : goal.returns-in_err-short_enough
returns-in_err-short_enough c =
    let p = err_from_is_err_and c.from_residual-in_err-short_enough.result c.from_residual-in_err-short_enough.ensures.1 in
    let long : max_bytes < length (string_bytes c.push_request.new.text) = rw c.as_str.ensures.value at c.in_err-short_enough.ensures.1 in
    let next =
    one_listed c.args.requests.now c.loop-request.request-index (get_or c.args.requests.now c.loop-request.request-index (Read 0 0))
    (string_bytes c.args.text.now) (string_bytes c.loop-request.text) (string_bytes c.push_request.new.text)
    (drop_here c.args.requests.now c.loop-request.request-index (Read 0 0) (omega arith)) c.loop-request.invariant c.in_ok-push_request.ensures in
    rw (p.1, p.2, c.in_err-short_enough.ensures.0)
    (long_listed c.args.requests.now _ max_bytes (string_bytes c.args.text.now) (string_bytes c.push_request.new.text) next long)

pub returns : goal.returns
returns c =
    all_listed c.args.requests.now c.loop-request.request-index (string_bytes c.args.text.now) (string_bytes c.loop-request.text)
    (omega arith) c.loop-request.invariant
