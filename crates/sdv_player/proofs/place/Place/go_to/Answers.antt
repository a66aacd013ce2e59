use Rattle.std.proofs.Common.{◌-◌, ◌+◌, ◌∷◌, ◌∙◌, sym, ap, arith}
use Rattle.sdv_player.specs.Seen.{backward}
use Rattle.sdv_graph.specs.Path.{entered}
use Rattle.sdv_player.proofs.Turns.{turns_outside, turns_inside, many_turns, backward_push}
use Rattle.sdv_player.proofs.place.Place.go_to.Goals as goal

pub returns-then-self-lt4-clause-turns : goal.returns-then-self-lt4-clause-turns
returns-then-self-lt4-clause-turns c = λ short.
    let s = c.args.self.now in
    let left = c.saturating_sub-self.result in
    let t = c.in-Some.turns in
    backward_push (left + 1) left s.turns t (omega arith) (omega (arith, c.if-self-lt4.true))
    ∙ ap (λ n. t ∷ backward n s.turns) c.saturating_sub-self.ensures
    ∙ sym (turns_inside c.args.target s.depth s.turns t c.in-Some.is)

pub returns-then-self-lt4-clause-too_deep : goal.returns-then-self-lt4-clause-too_deep
returns-then-self-lt4-clause-too_deep c = λ _ deep.
    let s = c.args.self.now in
    let many = many_turns c.args.target s.depth s.turns c.in-Some.turns c.in-Some.is in
    absurd (omega (arith, many, deep, c.saturating_sub-self.ensures, c.if-self-lt4.true))

pub returns-else-self-lt4-clause-point : goal.returns-else-self-lt4-clause-point
returns-else-self-lt4-clause-point c = λ short.
    let s = c.args.self.now in
    let many = many_turns c.args.target s.depth s.turns c.in-Some.turns c.in-Some.is in
    absurd (omega (arith, many, short, c.saturating_sub-self.ensures, c.if-self-lt4.false))

pub returns-else-self-lt4-clause-turns : goal.returns-else-self-lt4-clause-turns
returns-else-self-lt4-clause-turns c = λ short.
    let s = c.args.self.now in
    let many = many_turns c.args.target s.depth s.turns c.in-Some.turns c.in-Some.is in
    absurd (omega (arith, many, short, c.saturating_sub-self.ensures, c.if-self-lt4.false))

pub returns-in_default-clause-turns : goal.returns-in_default-clause-turns
returns-in_default-clause-turns c = λ short.
    let s = c.args.self.now in
    ap (λ n. backward n s.turns) c.saturating_sub-self.ensures
    ∙ sym (turns_outside c.args.target s.depth s.turns ∙ ap (λ e. entered e (backward (s.depth - c.args.target.leave) s.turns)) c.in_default.is)
