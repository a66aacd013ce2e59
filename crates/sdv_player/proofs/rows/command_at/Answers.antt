use Rattle.std.proofs.Common.{◌≡◌, ◌/◌, ◌%◌, true, sym, ap, ◌∙◌, rules, arith}
use Rattle.std.specs.Prelude.{nat_lt}
use Rattle.sdv_table.specs.Reading.{address_of, counts_read, head_read, small_read, row_read}
use Rattle.sdv_player.proofs.RowsRead.{command_read}
use Rattle.sdv_player.proofs.rows.command_at.Goals as goal

pub returns-clause-some : goal.returns-clause-some
returns-clause-some c =
    let ws = c.args.words.now in
    let i = c.args.point in
    let inside : nat_lt i (counts_read ws).points ≡ true = search (rules, c.is_point.ensures.point, c.if-not-is_point.false) in
    let kind : head_read ws i % 16 ≡ 0 = ap (λ h. h % 16) (sym c.head-head.ensures) ∙ omega (arith, c.if-head-ne0.false) in
    let is = command_read ws i inside kind in (
      address_of (small_read ws i / 128) (row_read ws i),
      rw (c.ask_of.ensures, c.cases_of.ensures, c.target_of.ensures, c.word.ensures, c.row-row.ensures, c.head-head.ensures) is,
    )
