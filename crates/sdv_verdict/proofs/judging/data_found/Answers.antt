use Rattle.std.proofs.Common.{◌∙◌, ◌++◌, ap, List}
use Rattle.sdv_review.specs.declared.finding.Finding.{Finding}
use Rattle.sdv_verdict.proofs.judging.data_found.Goals as goal

pub returns : goal.returns
returns c = record {
  writes = c.in_ok-found.found.items;
  shifts = c.in_ok-shifts.shifts.items;
  all = c.in_ok-extend_from_slice.ensures.items ∙ ap (λ (l : List Finding). c.in_ok-found.found.items ++ l) c.as_slice.ensures.value;
  of_writes = c.in_ok-found.ensures.found;
  of_shifts = c.in_ok-shifts.ensures.found;
}
