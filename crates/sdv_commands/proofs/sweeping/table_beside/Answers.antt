use Rattle.std.proofs.Common.{inr, refl}
use Rattle.std.specs.Prelude.{string_bytes}
use Rattle.sdv_program.specs.Fault.{fault_of_try}
use Rattle.sdv_commands.specs.Sweep.{IsUnsweptBeside}
use Rattle.sdv_commands.proofs.SweepLaws.{passed_on}
use Rattle.sdv_commands.proofs.sweeping.table_beside.Goals as goal

pub returns-in_err-sweep-clause-refused : goal.returns-in_err-sweep-clause-refused
returns-in_err-sweep-clause-refused g c =
    let files = g.S.Store.known c.args.files.now in
    let why = c.in_err-sweep.field-0.0 in
    passed_on (IsUnsweptBeside files c.args.given.now.script.now c.args.file.now) (fault_of_try why)
    (inr (
      string_bytes c.in_ok-card.card,
      c.in_ok-card.ensures.given,
      c.in_ok-image.image.items,
      rw c.as_str.ensures.value at c.in_ok-image.ensures,
      (why, (rw (c.as_str-2.ensures.value, c.as_slice.ensures.value) at c.in_err-sweep.ensures.refused), refl),
    ))
    c.from_residual-in_err-sweep.result c.from_residual-in_err-sweep.ensures.1

pub returns-clause-swept : goal.returns-clause-swept
returns-clause-swept g c = (
  string_bytes c.in_ok-card.card,
  c.in_ok-card.ensures.given,
  c.in_ok-image.image.items,
  rw c.as_str.ensures.value at c.in_ok-image.ensures,
  rw (c.as_str-2.ensures.value, c.as_slice.ensures.value) at c.in_ok-sweep.ensures.swept,
)
