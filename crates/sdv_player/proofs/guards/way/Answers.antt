use Rattle.std.proofs.Common.{◌≡◌, ◌-◌, ◌+◌, suc, arith, rules}
use Rattle.sdv_card.specs.ScriptEvent.{Answered}
use Rattle.sdv_player.proofs.Cases.{one_case}
use Rattle.sdv_player.proofs.guards.way.Goals as goal

pub returns-then-all_pass : goal.returns-then-all_pass
returns-then-all_pass c =
    let a = Answered c.args.answer.now in
    let left : c.args.cases.count - c.loop.counter ≡ suc (c.args.cases.count - (c.loop.counter + 1)) = omega (arith, c.loop-test.true) in
    let more = one_case c.args.kind a (c.args.cases.count - c.loop.counter) (c.args.cases.count - (c.loop.counter + 1)) c.loop.rest.now c.args.other left in
    let passed = c.all_pass.ensures in
    search (rules, more, c.loop.invariant, passed, c.word.ensures, c.word-then-all_pass.ensures, c.target_of.ensures, c.if-all_pass.true)

pub loop-preserved : goal.loop-preserved
loop-preserved c =
    let a = Answered c.args.answer.now in
    let left : c.args.cases.count - c.loop.counter ≡ suc (c.args.cases.count - (c.loop.counter + 1)) = omega (arith, c.loop-test.true) in
    let more = one_case c.args.kind a (c.args.cases.count - c.loop.counter) (c.args.cases.count - (c.loop.counter + 1)) c.loop.rest.now c.args.other left in
    let passed = c.all_pass.ensures in
    search (rules, more, c.loop.invariant, passed, c.word.ensures, c.from_place-rest.ensures, c.if-all_pass.false)
