use Rattle.std.proofs.Common.{◌≡◌, ◌-◌, ◌+◌, ◌∙◌, suc, false, sym, ap, arith, rules}
use Rattle.std.specs.Prelude.{◌==◌}
use Rattle.sdv_card.specs.ScriptEvent.{Answered}
use Rattle.sdv_graph.specs.Walk.{all_pass}
use Rattle.sdv_table.specs.Reading.{guards_of}
use Rattle.sdv_player.proofs.Cases.{no_guard, one_guard}
use Rattle.sdv_player.proofs.guards.all_pass.Goals as goal

pub returns-then-rest-eq0 : goal.returns-then-rest-eq0
returns-then-rest-eq0 c =
    let k = c.args.kind in
    let a = Answered c.args.answer.now in
    sym (no_guard k a (c.args.most - c.loop.counter) c.loop.rest (omega (arith, c.if-rest-eq0.true))) ∙ c.loop.invariant

pub returns-then-not-passes : goal.returns-then-not-passes
returns-then-not-passes c =
    let k = c.args.kind in
    let a = Answered c.args.answer.now in
    let left : c.args.most - c.loop.counter ≡ suc (c.args.most - (c.loop.counter + 1)) = omega (arith, c.loop-test.true) in
    let some : (c.loop.rest == 0) ≡ false = search (rules, c.if-rest-eq0.false) in
    let more = one_guard k a (c.args.most - c.loop.counter) (c.args.most - (c.loop.counter + 1)) c.loop.rest left some in
    search (rules, more, c.loop.invariant, c.passes.ensures, c.guard_of-guard.ensures, c.if-not-passes.true)

pub loop-preserved : goal.loop-preserved
loop-preserved c =
    let k = c.args.kind in
    let a = Answered c.args.answer.now in
    let left : c.args.most - c.loop.counter ≡ suc (c.args.most - (c.loop.counter + 1)) = omega (arith, c.loop-test.true) in
    let some : (c.loop.rest == 0) ≡ false = search (rules, c.if-rest-eq0.false) in
    let more = one_guard k a (c.args.most - c.loop.counter) (c.args.most - (c.loop.counter + 1)) c.loop.rest left some in
    search (rules, more, c.loop.invariant, c.passes.ensures, c.guard_of-guard.ensures, c.if-not-passes.false)

pub returns : goal.returns
returns c =
    let none : c.args.most - c.loop.counter ≡ 0 = omega (arith, c.loop-test.false) in
    sym (ap (λ n. all_pass c.args.kind (guards_of n c.loop.rest) (Answered c.args.answer.now)) none) ∙ c.loop.invariant
