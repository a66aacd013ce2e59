use Rattle.std.proofs.Common.{◌∙◌, ◌++◌, ◌+◌, ℕ, List, sym, ap, arith, take, drop}
use Rattle.std.proofs.Math.ListN.{drop_of_length-le}
use Rattle.std.proofs.lemmas.List.{append-nil, take-append-drop}
use Rattle.sdv_explain.specs.Lines.{first_chars}
use Rattle.sdv_explain.proofs.LineLaws.{chars_end, chars_nil, further_passed, lead_passed}
use Rattle.sdv_explain.proofs.hints.lines.first_chars.Goals as goal
use Rattle.sdv_explain.proofs.hints.lines.first_chars.Goals.{then-not-is_further+else-left-eq0, else-not-is_further}

pub returns-then-left-eq0 : goal.returns-then-left-eq0
returns-then-left-eq0 c =
    let text = c.args.text.now in
    let i = c.loop-i.i in
    sym (c.loop-i.invariant ∙ (ap (λ (n : ℕ). take i text ++ first_chars n (drop i text)) c.if-left-eq0.true
    ∙ (ap (λ (xs : List ℕ). take i text ++ xs) (chars_end i text c.loop-i-test.true (sym c.is_further.ensures ∙ c.if-not-is_further.true))
    ∙ append-nil _)))

pub loop-i-preserved : goal.loop-i-preserved
loop-i-preserved c =
    let text = c.args.text.now in
    let i = c.loop-i.i in
    let more = λ (n : ℕ). take (i + 1) text ++ first_chars n (drop (i + 1) text) in
    elim c.if-not-is_further.branch [
      | then-not-is_further+else-left-eq0 w ↦ c.loop-i.invariant
          ∙ (lead_passed i c.loop-i.left text c.loop-i-test.true (sym c.is_further.ensures ∙ w.if-not-is_further.true) (omega arith)
          ∙ ap more (sym w.left-is))
      | else-not-is_further w ↦ c.loop-i.invariant
          ∙ (further_passed i c.loop-i.left text c.loop-i-test.true (sym c.is_further.ensures ∙ w.if-not-is_further.false)
          ∙ ap more (sym w.left-is))
    ]

pub returns : goal.returns
returns c =
    let text = c.args.text.now in
    let i = c.loop-i.i in
    let over = drop_of_length-le text c.loop-i-test.false in
    sym (c.loop-i.invariant ∙ (ap (λ (xs : List ℕ). take i text ++ xs) (ap (first_chars c.loop-i.left) over ∙ (chars_nil c.loop-i.left ∙ sym over))
    ∙ take-append-drop i text))
