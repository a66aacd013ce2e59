use Rattle.std.proofs.Common.{◌-◌, map, refl, sym, ◌∙◌, arith}
use Rattle.std.proofs.lemmas.Result.{err_from_is_err_and}
use Rattle.std.proofs.lemmas.List.{map-append}
use Rattle.sdv_script.specs.Place.{names_of, progress_of}
use Rattle.sdv_script.specs.declared.progress.Progress.{Progress as From}
use Rattle.std.specs.Box.{box_value}
use Rattle.sdv_graph.specs.Tree.{statement_of, statements_of, ways_of, otherwise}
use Rattle.sdv_script.specs.Reading.{read_statements}
use Rattle.sdv_script.specs.GuardedOf.{guarded_of}
use Rattle.sdv_script.proofs.CaseLaws.{ahead_ends, ahead_goes_on, last_read, last_stops, last_fails, case_fails, no_level_left}
use Rattle.sdv_script.proofs.HeadLaws.{statement_steps}
use Rattle.sdv_script.proofs.RowLaws.{behind_ends, behind_fails, behind_goes_on, no_row_left}
use Rattle.sdv_script.proofs.blocks.+blocks.Goals as goal

pub statements-returns-then-is_closed : goal.statements-returns-then-is_closed
statements-returns-then-is_closed t c =
    sym c.loop-left.invariant
    ∙ behind_ends (map statement_of c.loop-left.read.items) c.loop-left.left (c.loop-left.left - 1) (names_of c.args.names.now) c.args.depth
    (progress_of c.loop-left.from) (statements_of c.in_ok-in_row.field-0) (omega arith) (sym c.if-is_closed.ensures) c.in_ok-in_row.ensures

pub statements-returns-in_err-next : goal.statements-returns-in_err-next
statements-returns-in_err-next t c =
    let p = err_from_is_err_and c.from_residual-in_err-next.result c.from_residual-in_err-next.ensures.1 in
    rw (p.1, p.2, ← c.loop-left.invariant)
    (behind_fails c.in_err-next.field-0.0 (map statement_of c.loop-left.read.items) c.loop-left.left (c.loop-left.left - 1) (names_of c.args.names.now)
    c.args.depth (progress_of c.loop-left.from) (omega arith) (sym c.if-is_closed.ensures) c.in_err-next.ensures)

pub statements-loop-left-preserved : goal.statements-loop-left-preserved
statements-loop-left-preserved t c =
    rw (c.in_ok-push.ensures.items, map-append)
    (behind_goes_on (map statement_of c.loop-left.read.items) (statement_of c.in_ok-next.next) c.loop-left.left (c.loop-left.left - 1)
    (names_of c.args.names.now) c.args.depth (progress_of c.loop-left.from) (progress_of c.statement.new.from) (omega arith)
    (sym c.if-is_closed.ensures) c.in_ok-next.ensures
    ∙ c.loop-left.invariant)

pub statements-returns : goal.statements-returns
statements-returns t c =
    sym c.loop-left.invariant
    ∙ no_row_left (map statement_of c.loop-left.read.items) c.loop-left.left (names_of c.args.names.now) c.args.depth (progress_of c.loop-left.from)
    (omega arith)

pub ways-returns-in_err-last : goal.ways-returns-in_err-last
ways-returns-in_err-last t c =
    let from : From = record { at = c.takes_else.new.at; begun = c.loop-left.from.begun } in
    let p = err_from_is_err_and c.from_residual.result c.from_residual.ensures.1 in
    rw (p.1, p.2, ← c.loop-left.invariant)
    (last_fails c.in_err-last.field-0.0 (map guarded_of c.loop-left.read.items) c.loop-left.left (c.loop-left.left - 1)
    (names_of c.args.names.now) c.args.depth c.args.order (progress_of c.loop-left.from) (progress_of from) (omega arith) c.if-takes_else.ensures refl
    (last_stops c.in_err-last.field-0.0 (read_statements (c.loop-left.left - 1) (names_of c.args.names.now)) c.args.depth (progress_of from) c.in_err-last.ensures))

pub ways-returns-then-takes_else : goal.ways-returns-then-takes_else
ways-returns-then-takes_else t c =
    let from : From = record { at = c.takes_else.new.at; begun = c.loop-left.from.begun } in
    let last = statements_of (box_value c.in_ok-last.last) in
    sym c.loop-left.invariant
    ∙ ahead_ends (map guarded_of c.loop-left.read.items) c.loop-left.left (c.loop-left.left - 1) (names_of c.args.names.now) c.args.depth c.args.order
    (progress_of c.loop-left.from) (progress_of from) (progress_of c.boxed_block.new.from) (otherwise last) (ways_of c.in_ok-before.field-0) (omega arith)
    c.if-takes_else.ensures refl
    (last_read (read_statements (c.loop-left.left - 1) (names_of c.args.names.now)) c.args.depth (progress_of from) (progress_of c.boxed_block.new.from) last
    c.in_ok-last.ensures) c.in_ok-before.ensures

pub ways-returns-in_err-next : goal.ways-returns-in_err-next
ways-returns-in_err-next t c =
    let p = err_from_is_err_and c.from_residual-in_err-next.result c.from_residual-in_err-next.ensures.1 in
    rw (p.1, p.2, ← c.loop-left.invariant)
    (case_fails c.in_err-next.field-0.0 (map guarded_of c.loop-left.read.items) c.loop-left.left (c.loop-left.left - 1)
    (names_of c.args.names.now) c.args.depth c.args.order (progress_of c.loop-left.from) (omega arith) c.if-takes_else.ensures.0
    (rw c.if-takes_else.ensures.1 at c.in_err-next.ensures))

pub ways-loop-left-preserved : goal.ways-loop-left-preserved
ways-loop-left-preserved t c =
    rw (c.in_ok-push.ensures.items, map-append)
    (ahead_goes_on (map guarded_of c.loop-left.read.items) (guarded_of c.in_ok-next.next) c.loop-left.left (c.loop-left.left - 1)
    (names_of c.args.names.now) c.args.depth c.args.order (progress_of c.loop-left.from) (progress_of c.case.new.from) (omega arith)
    c.if-takes_else.ensures.0 (rw c.if-takes_else.ensures.1 at c.in_ok-next.ensures)
    ∙ c.loop-left.invariant)

pub ways-returns : goal.ways-returns
ways-returns t c =
    sym c.loop-left.invariant ∙ no_level_left (map guarded_of c.loop-left.read.items) c.loop-left.left (names_of c.args.names.now) c.args.depth c.args.order
    (progress_of c.loop-left.from) (omega arith)

pub statement-returns-in-Plain : goal.statement-returns-in-Plain
statement-returns-in-Plain t c = grind (arith, statement_steps)

pub statement-returns-in_ok-cases-in-Send : goal.statement-returns-in_ok-cases-in-Send
statement-returns-in_ok-cases-in-Send t c = grind (arith, statement_steps)

pub statement-returns-in_err-first-in-Fork : goal.statement-returns-in_err-first-in-Fork
statement-returns-in_err-first-in-Fork t c = grind (arith, statement_steps)

pub statement-returns-in_ok-first-in-Fork : goal.statement-returns-in_ok-first-in-Fork
statement-returns-in_ok-first-in-Fork t c = grind (arith, statement_steps)
