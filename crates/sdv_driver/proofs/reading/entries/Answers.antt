use Rattle.std.proofs.Common.{◌-◌, sym, ◌∙◌, arith}
use Rattle.std.proofs.lemmas.Result.{err_from_is_err_and}
use Rattle.std.proofs.lemmas.List.{map-append}
use Rattle.sdv_script.specs.Place.{names_of, progress_of, texts}
use Rattle.sdv_driver.specs.Views.{entry_of, entries_of}
use Rattle.sdv_driver.proofs.EntryLaws.{behind_ends, behind_fails, behind_goes_on, none_left}
use Rattle.sdv_driver.proofs.reading.entries.Goals as goal

pub returns-then-ends : goal.returns-then-ends
returns-then-ends c =
    sym c.loop-left.invariant
    ∙ behind_ends (entries_of c.loop-left.read.items) c.loop-left._left (c.loop-left._left - 1) (names_of c.args.names.now)
    (texts c.loop-left.words.items) (progress_of c.loop-left.from) (omega arith) (rw (← c.deref.ensures.value) (sym c.if-ends.ensures))

pub returns-in_err-next : goal.returns-in_err-next
returns-in_err-next c =
    let p = err_from_is_err_and c.from_residual.result c.from_residual.ensures.1 in
    rw (p.1, p.2, ← c.loop-left.invariant)
    (behind_fails c.in_err-next.field-0.0 (entries_of c.loop-left.read.items) c.loop-left._left (c.loop-left._left - 1) (names_of c.args.names.now)
    (texts c.loop-left.words.items) (progress_of c.loop-left.from) (omega arith) (rw (← c.deref.ensures.value) (sym c.if-ends.ensures))
    (rw (← c.deref-in-loop-left.ensures.value) c.in_err-next.ensures))

pub loop-left-preserved : goal.loop-left-preserved
loop-left-preserved c =
    rw (c.in_ok-push-2.ensures.items, c.in_ok-push.ensures.items, map-append, map-append)
    (behind_goes_on (entries_of c.loop-left.read.items) (entry_of c.in_ok-next.next) c.loop-left._left (c.loop-left._left - 1)
    (names_of c.args.names.now) (texts c.loop-left.words.items) (progress_of c.loop-left.from) (progress_of c.entry.new.from) (omega arith)
    (rw (← c.deref.ensures.value) (sym c.if-ends.ensures)) (rw (← c.deref-in-loop-left.ensures.value) c.in_ok-next.ensures)
    ∙ c.loop-left.invariant)

pub returns : goal.returns
returns c =
    sym c.loop-left.invariant
    ∙ none_left (entries_of c.loop-left.read.items) c.loop-left._left (names_of c.args.names.now) (texts c.loop-left.words.items)
    (progress_of c.loop-left.from) (omega arith)
