use Rattle.std.proofs.Common.{◌≡◌, ◌<◌, ◌∙◌, Some, sym, ap}
use Rattle.sdv_graph.specs.Path.{Goes, arrive, move_with}
use Rattle.sdv_graph.specs.ValueOfLet.{value_of_let, with_number}
use Rattle.sdv_player.specs.Seen.{kind_of, turns_of, host_of}
use Rattle.sdv_player.proofs.passing.step.Goals as goal

pub returns-in-Some-clause-steps : goal.returns-in-Some-clause-steps
returns-in-Some-clause-steps c = λ r memory flag near asks.
    let s = c.args.state.now in
    let ts = turns_of s.place in
    let h = host_of s.host r in
    let l = c.in-Let.setting in
    let next = c.in-Let.next in
    let is : value_of_let (kind_of s.host) h l ≡ Some c.in-Some.number = sym (c.value.ensures r memory) ∙ c.in-Some.is in
    rw c.in-Let.is
    (ap (λ o. move_with o (λ n. Goes (arrive next ts (with_number h l.target n)))) is
    ∙ ap (λ h'. Goes (arrive next ts h')) (sym (c.set_number.ensures.host r)))

pub returns-in-Flag-clause-steps : goal.returns-in-Flag-clause-steps
returns-in-Flag-clause-steps c = λ r memory flag near asks.
    let s = c.args.state.now in
    let small : c.in-Flag.flag < 8 = rw c.in-Flag.is at flag in
    rw c.in-Flag.is (ap (λ h'. Goes (arrive c.in-Flag.next (turns_of s.place) h')) (sym (c.set_flag.ensures.host r small)))

pub returns-in-Lines-clause-steps : goal.returns-in-Lines-clause-steps
returns-in-Lines-clause-steps c = λ r memory flag near asks.
    let s = c.args.state.now in
    rw c.in-Lines.is (ap (λ h'. Goes (arrive c.in-Lines.next (turns_of s.place) h')) (sym (c.set_lines.ensures.host r)))
