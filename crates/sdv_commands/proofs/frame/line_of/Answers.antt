use Rattle.std.proofs.Common.{◌≡◌, ◌∙◌, ◌≤◌, ℕ, List, [], ◌∷◌, ◌++◌, ◌≢◌, get_or, take, take_all, length, refl, ap, sym, arith, rules}
use Rattle.sdv_commands.specs.Frame.{two_digits}
use Rattle.sdv_commands.proofs.FrameTextLaws.{shown, shown_take}
use Rattle.sdv_commands.proofs.frame.line_of.Goals as goal
use Rattle.sdv_commands.proofs.frame.line_of.Goals.{then-place-eq0, else-place-eq0}

pub loop-place-preserved : goal.loop-place-preserved
loop-place-preserved c =
    let place = c.loop-place.place in
    let bytes = c.args.frame.now in
    let separator = c.if-place-eq0.separator.now in
    let first : place ≡ 0 → separator ≡ [] = λ h.
    elim c.if-place-eq0.branch [ then-place-eq0 w ↦ rw w.separator-is refl | else-place-eq0 w ↦ absurd (w.if-place-eq0.false h) ] in
    let other : place ≢ 0 → separator ≡ 32 ∷ [] = λ h.
    elim c.if-place-eq0.branch [ then-place-eq0 w ↦ absurd (h w.if-place-eq0.true) | else-place-eq0 w ↦ rw w.separator-is refl ] in
    let text = shown_take bytes place separator (omega arith) first other in
    let short : length separator ≤ 1 = search rules in
    let grew : c.push_byte.new.line.items ≡ c.loop-place.line.items ++ (separator ++ two_digits (get_or bytes place 0)) = c.push_byte.ensures.items in
    record {
      items = grew ∙ ap (λ (l : List ℕ). l ++ (separator ++ two_digits (get_or bytes place 0))) c.loop-place.invariant.items ∙ sym text;
      len = omega (arith, c.push_byte.ensures.len, c.loop-place.invariant.len, short);
    }

pub returns : goal.returns
returns c =
    let bytes = c.args.frame.now in
    let all : take c.loop-place.place bytes ≡ bytes = take_all c.loop-place.place bytes (omega (arith, c.fits-frame, c.loop-place-test.false)) in
    c.push.ensures.items ∙ ap (λ (l : List ℕ). l ++ 10 ∷ []) (c.loop-place.invariant.items ∙ ap shown all)
