use Rattle.std.proofs.Common.{◌∙◌, ◌++◌, ◌∷◌, [], ℕ, List, sym, ap}
use Rattle.std.proofs.Math.ListN.{drop_of_length-le}
use Rattle.std.proofs.lemmas.List.{append-nil}
use Rattle.sdv_explain.specs.Lines.{safe_behind}
use Rattle.sdv_explain.proofs.LineLaws.{safe_added, safe_nil}
use Rattle.sdv_explain.proofs.hints.lines.put_safe.Goals as goal

pub loop-byte-preserved : goal.loop-byte-preserved
loop-byte-preserved c =
    safe_added c.loop-byte.byte-index c.loop-byte.second c.loop-byte.before c.args.text.now c.loop-byte.page.items _ _ c.loop-byte-test.true
    c.loop-byte.invariant
    (c.in_ok-push.ensures.items ∙ ap (λ (b : ℕ). c.loop-byte.page.items ++ (b ∷ [])) c.safe_byte.ensures)

pub returns : goal.returns
returns c =
    let over = drop_of_length-le c.args.text.now c.loop-byte-test.false in
    sym (ap (λ (xs : List ℕ). c.loop-byte.page.items ++ xs) (ap (safe_behind c.loop-byte.second c.loop-byte.before) over ∙ safe_nil _ _)
    ∙ append-nil _) ∙ c.loop-byte.invariant
