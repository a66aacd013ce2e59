use Rattle.std.proofs.lemmas.Result.{err_from_is_err_and}
use Rattle.sdv_facts.specs.Shared.{points_in, certificate_in}
use Rattle.sdv_check.proofs.Texts.{text_takes, refused, points_in_limits}
use Rattle.sdv_check.proofs.text.reading.read.Goals as goal

pub returns-in_err-version-clause-only : goal.returns-in_err-version-clause-only
returns-in_err-version-clause-only c =
    let p = err_from_is_err_and c.from_residual.result c.from_residual.ensures.1 in
    let fails = rw c.as_bytes.ensures.value at c.in_err-version.ensures.read in
    rw (p.1, p.2) (refused c.in_err-version.field-0.0 c.args.text.now fails)

pub from_points-requires : goal.from_points-requires
from_points-requires c =
    let points = points_in c.in_ok-version.table c.in_ok-version.points.items in
    let limits = (text_takes _ _ c.in_ok-version.ensures.read).0 in
    record {
      shared = record { named = c.in_ok-version.ensures.named; table = c.in_ok-version.ensures.table; limits = points_in_limits points limits.each };
      version = limits.version;
    }

pub returns-clause-found : goal.returns-clause-found
returns-clause-found c =
    let read = rw c.as_bytes.ensures.value at c.in_ok-version.ensures.read in
    rw c.from_points.ensures (text_takes c.args.text.now (certificate_in c.in_ok-version.table c.in_ok-version.version c.in_ok-version.points.items) read)
