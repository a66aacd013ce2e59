use Rattle.std.proofs.Common.{◌≡◌, ◌∙◌, ◌++◌, List, ℕ, ap, refl, arith, length}
use Rattle.std.proofs.lemmas.Result.{err_from_is_err_and}
use Rattle.sdv_facts.specs.Shared.{points_in}
use Rattle.sdv_check.proofs.Texts.{points_in_limits}
use Rattle.sdv_calls.specs.declared.text.TheConstants.{VERSION_3}
use Rattle.sdv_calls.proofs.TextLaws.{begins, lines_said, refused}
use Rattle.sdv_calls.proofs.text.read_driver.Goals as goal

pub returns-in_err-table-clause-only : goal.returns-in_err-table-clause-only
returns-in_err-table-clause-only c =
    let p = err_from_is_err_and c.from_residual.result c.from_residual.ensures.1 in
    let here : c.args.text.now ≡ VERSION_3.now ++ c.in-Some.rest.now
    = begins c.args.text.now c.as_bytes.result.now c.in-Some.rest.now c.as_bytes.ensures.value c.in-Some.ensures.cases.0
    c.in-Some.ensures.cases.1 in
    rw (p.1, p.2) (refused c.in_err-table.field-0.0 c.args.text.now c.in-Some.rest.now here c.in_err-table.ensures.read)

pub from_points-requires-clause-shared : goal.from_points-requires-clause-shared
from_points-requires-clause-shared c =
    let here : c.args.text.now ≡ VERSION_3.now ++ c.in-Some.rest.now
    = begins c.args.text.now c.as_bytes.result.now c.in-Some.rest.now c.as_bytes.ensures.value c.in-Some.ensures.cases.0
    c.in-Some.ensures.cases.1 in
    let size = ap length here in
    let said = lines_said c.in-Some.rest.now (points_in c.in_ok-table.table c.in_ok-table.points.items)
    (omega (arith, size, c.if-text-gt-MAX_BYTES.false)) c.in_ok-table.ensures.read in
    record { named = c.in_ok-table.ensures.named; table = c.in_ok-table.ensures.table; limits = points_in_limits _ said.0.each }

pub returns-clause-found : goal.returns-clause-found
returns-clause-found c =
    let here : c.args.text.now ≡ VERSION_3.now ++ c.in-Some.rest.now
    = begins c.args.text.now c.as_bytes.result.now c.in-Some.rest.now c.as_bytes.ensures.value c.in-Some.ensures.cases.0
    c.in-Some.ensures.cases.1 in
    let size = ap length here in
    let said = lines_said c.in-Some.rest.now (points_in c.in_ok-table.table c.in_ok-table.points.items)
    (omega (arith, size, c.if-text-gt-MAX_BYTES.false)) c.in_ok-table.ensures.read in
    rw c.from_points.ensures (refl, said.0, here ∙ ap (λ (l : List ℕ). VERSION_3.now ++ l) said.1)
