use Rattle.std.proofs.Common.{◌∙◌, Some, sym, arith}
use Rattle.std.proofs.lemmas.Result.{err_from_is_err_and}
use Rattle.std.proofs.lemmas.Bool.Decides.{nat_tests}
use Rattle.sdv_check.specs.Reading.{begins_number, read_number}
use Rattle.sdv_check.proofs.Lists.{each_more, each_full, each_fails, each_done}
use Rattle.sdv_check.proofs.text.points.turns.Goals as goal

pub returns-in_err-turn : goal.returns-in_err-turn
returns-in_err-turn c =
    let i = c.loop-at.invariant in
    let p = err_from_is_err_and c.from_residual.result c.from_residual.ensures.1 in
    rw (p.1, p.2) (each_fails begins_number (λ last. read_number) c.in_err-turn.field-0.0 4 c.loop-at.turns.items i.1.0 c.loop-at.at.rest.now _
    (sym c.begins_number.ensures ∙ c.loop-at-test.true) c.in_err-turn.ensures i.1.1)

pub returns-then-is_full : goal.returns-then-is_full
returns-then-is_full c =
    let i = c.loop-at.invariant in
    each_full begins_number (λ last. read_number) 4 c.loop-at.turns.items i.1.0 c.loop-at.at.rest.now _ (sym c.begins_number.ensures ∙ c.loop-at-test.true)
    (grind (arith, nat_tests)) i.1.1

pub loop-at-preserved : goal.loop-at-preserved
loop-at-preserved c =
    let i = c.loop-at.invariant in (
      grind (arith, nat_tests),
      (
        Some c.in_ok-turn.turn,
        rw c.push.ensures.items (each_more begins_number
            (λ last. read_number) 4 c.loop-at.turns.items i.1.0 c.loop-at.at.rest.now c.in_ok-turn.turn c.number.new.at.rest.now _
            (sym c.begins_number.ensures ∙ c.loop-at-test.true) (grind (arith, nat_tests)) c.in_ok-turn.ensures i.1.1),
      ),
    )

pub returns : goal.returns
returns c =
    let i = c.loop-at.invariant in
    each_done begins_number (λ last. read_number) 4 c.loop-at.turns.items i.1.0 c.loop-at.at.rest.now _
    (sym c.begins_number.ensures ∙ c.loop-at-test.false) i.1.1
