use Rattle.std.proofs.Common.{◌≡◌, ◌<◌, ◌≤◌, ℕ, List, length, subst}
use Rattle.std.specs.Prelude.{string_bytes}
use Rattle.std.proofs.lemmas.Result.{err_from_is_err_and}
use Rattle.sdv_script.specs.Rules.{max_bytes}
use Rattle.sdv_block.proofs.BatchLaws.{text_of}
use Rattle.sdv_block.proofs.Growing.{whole_by, refused_by}
use Rattle.sdv_block.proofs.batching.script_text.Goals as goal

pub returns-in_err-push_requests-clause-long : goal.returns-in_err-push_requests-clause-long
returns-in_err-push_requests-clause-long c =
    let p = err_from_is_err_and c.from_residual-in_err-push_requests.result c.from_residual-in_err-push_requests.ensures.1 in
    rw (p.1, p.2)
    (refused_by c.args.kind c.args.requests.now c.bring_up.result.now (string_bytes c.in_ok-text.text)
    (string_bytes c.push_test.new.text) c.greatest_end.result c.bring_up.ensures c.in_ok-text.ensures.ok c.in_ok-push_test.ensures c.greatest_end.ensures
    (string_bytes c.push_requests.new.text) c.in_err-push_requests.field-0.0 c.in_err-push_requests.ensures)

pub returns-in_err-short_enough-clause-long : goal.returns-in_err-short_enough-clause-long
returns-in_err-short_enough-clause-long c =
    let p = err_from_is_err_and c.from_residual-in_err-short_enough.result c.from_residual-in_err-short_enough.ensures.1 in
    let whole : string_bytes c.push_end.new.text ≡ text_of c.args.kind c.args.requests.now =
    whole_by c.args.kind c.args.requests.now c.bring_up.result.now (string_bytes c.in_ok-text.text)
    (string_bytes c.push_test.new.text) c.greatest_end.result c.bring_up.ensures c.in_ok-text.ensures.ok c.in_ok-push_test.ensures c.greatest_end.ensures
    (string_bytes c.push_requests.new.text) (string_bytes c.push_end.new.text) c.in_ok-push_requests.ensures c.in_ok-push_end.ensures in
    let long : max_bytes < length (string_bytes c.push_end.new.text) = rw c.as_str.ensures.value at c.in_err-short_enough.ensures.1 in
    rw (p.1, p.2) (λ other. (c.in_err-short_enough.ensures.0, subst (λ (t : List ℕ). max_bytes < length t) whole long))

pub returns-clause-text : goal.returns-clause-text
returns-clause-text c =
    whole_by c.args.kind c.args.requests.now c.bring_up.result.now (string_bytes c.in_ok-text.text)
    (string_bytes c.push_test.new.text) c.greatest_end.result c.bring_up.ensures c.in_ok-text.ensures.ok c.in_ok-push_test.ensures c.greatest_end.ensures
    (string_bytes c.push_requests.new.text) (string_bytes c.push_end.new.text) c.in_ok-push_requests.ensures c.in_ok-push_end.ensures

pub returns-clause-short : goal.returns-clause-short
returns-clause-short c =
    let whole : string_bytes c.push_end.new.text ≡ text_of c.args.kind c.args.requests.now =
    whole_by c.args.kind c.args.requests.now c.bring_up.result.now (string_bytes c.in_ok-text.text)
    (string_bytes c.push_test.new.text) c.greatest_end.result c.bring_up.ensures c.in_ok-text.ensures.ok c.in_ok-push_test.ensures c.greatest_end.ensures
    (string_bytes c.push_requests.new.text) (string_bytes c.push_end.new.text) c.in_ok-push_requests.ensures c.in_ok-push_end.ensures in
    let short : length (string_bytes c.push_end.new.text) ≤ max_bytes = rw c.as_str.ensures.value at c.in_ok-short_enough.ensures in
    subst (λ (t : List ℕ). length t ≤ max_bytes) whole short
