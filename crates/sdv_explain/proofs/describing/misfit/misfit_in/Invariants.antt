use Rattle.std.proofs.Common.{◌≡◌, ◌-◌, ◌≤◌}
use Rattle.sdv_explain.specs.Misfits.{misfit_from, misfit_of}
use Rattle.sdv_explain.proofs.describing.misfit.misfit_in.Given as goal

abbrev pub invariant-loop-line : goal.invariant-loop-line
invariant-loop-line l = record {
  within : l.line ≤ 10;
  same : misfit_from (10 - l.line) l.line l.field l.rest ≡ misfit_of l.text;
}
