use Rattle.std.proofs.Common.{◌≡◌, ◌<◌, ◌-◌, ◌∷◌, ◌∙◌, suc, sym, ap, arith}
use Rattle.std.specs.Prelude.{slice_index}
use Rattle.std.proofs.lemmas.List.{get_or_past}
use Rattle.sdv_player.specs.Seen.{backward}
use Rattle.sdv_player.proofs.Turns.{backward_head, backward_push}
use Rattle.sdv_player.proofs.place.Place.take_turn.Goals as goal

pub returns-clause-taken : goal.returns-clause-taken
returns-clause-taken c = λ _.
    let s = c.args.self.now in
    let inner = s.depth - 1 in
    let t = c.turns_left-left.result in
    let some : 0 < s.depth = omega (arith, c.if-self-eq0.false) in
    let more : t ≡ suc (t - 1) = omega (arith, c.if-left-eq0.false) in
    let before = backward_head s.depth s.turns some ∙ ap (λ x. x ∷ backward inner s.turns) (sym c.turns_left-left.ensures ∙ more) in
    (t - 1, backward inner s.turns, before, backward_push s.depth inner s.turns (t - 1) (omega (arith, some)) (omega arith))

pub returns-then-left-eq0-clause-none : goal.returns-then-left-eq0-clause-none
returns-then-left-eq0-clause-none c = λ _ some.
    let s = c.args.self.now in
    let inner = s.depth - 1 in
    let none : c.turns_left-left.result ≡ 0 = omega (arith, c.if-left-eq0.true) in
    let before = backward_head s.depth s.turns some ∙ ap (λ x. x ∷ backward inner s.turns) (sym c.turns_left-left.ensures ∙ none) in
    (backward inner s.turns, before, before)

pub returns-then-inner-ge4-clause-none : goal.returns-then-inner-ge4-clause-none
returns-then-inner-ge4-clause-none c = λ _ some.
    let s = c.args.self.now in
    let past : slice_index s.turns (s.depth - 1) ≡ 0 = get_or_past s.turns (s.depth - 1) 0 (omega (arith, c.if-inner-ge4.true)) in
    absurd (omega (arith, past, c.turns_left-left.ensures, c.if-left-eq0.false))
