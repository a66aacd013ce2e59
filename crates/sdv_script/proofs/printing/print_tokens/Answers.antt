use Rattle.std.proofs.Common.{◌∙◌, ◌++◌, List, ℕ, ap}
use Rattle.sdv_script.specs.Printed.{printed_pieces}
use Rattle.sdv_script.proofs.Written.{piece_failed, piece_done, line_done}
use Rattle.sdv_script.proofs.printing.print_tokens.Goals as goal

pub returns-in-Err : goal.returns-in-Err
returns-in-Err g c =
    let i = c.loop-at.invariant in
    piece_failed _ _ _ _ i.0 c.loop-at.at.text.now _ (i.1
    ∙ ap (λ (ps : List (List ℕ)). i.0 ++ printed_pieces ps) (c.is_end.ensures.more c.loop-at-test.true)) i.2 c.in-Err.ensures

pub loop-at-smaller : goal.loop-at-smaller
loop-at-smaller g c = rw c.advance.ensures.tokens (c.is_end.ensures.shorter c.loop-at-test.true)

pub loop-at-preserved : goal.loop-at-preserved
loop-at-preserved g c =
    let i = c.loop-at.invariant in
    rw c.advance.ensures.pieces
    (piece_done _ _ _ _ i.0 c.loop-at.at.text.now _ (i.1
    ∙ ap (λ (ps : List (List ℕ)). i.0 ++ printed_pieces ps) (c.is_end.ensures.more c.loop-at-test.true)) i.2 c.in_default.ensures)

pub returns : goal.returns
returns g c =
    let i = c.loop-at.invariant in
    line_done c.write_text.result _ _ _ _ i.0 (i.1 ∙ ap (λ (ps : List (List ℕ)). i.0 ++ printed_pieces ps)
    (c.is_end.ensures.end c.loop-at-test.false)) i.2 c.write_text.ensures
