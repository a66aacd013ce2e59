use Rattle.std.proofs.Common.{◌≡◌, ℕ, ◌+◌, ◌-◌, ◌++◌, length, take, drop, OnOk, ap, ◌∙◌, subst}
use Rattle.std.proofs.lemmas.List.{take_rest}
use Rattle.sdv_emit.specs.CText.{Text, word_lines, point_line, rows_text}
use Rattle.sdv_telling.specs.Numbered.{numbered}
use Rattle.sdv_emit.proofs.Pieces.{three_pieces}
use Rattle.sdv_emit.proofs.array.put_array.Goals as goal

pub returns : goal.returns
returns c =
    let words = c.args.words.now in
    let points = c.args.graph.now.points in
    let rest : rows_text (take (length words - (8 + c.len.result)) (drop (8 + c.len.result) words)) ≡ rows_text (drop (8 + length points) words) =
    ap rows_text (take_rest words (8 + c.len.result) ∙ ap (λ (n : ℕ). drop (8 + n) words) c.len.ensures) in
    subst (λ (t : Text). OnOk c.put_rows.result (c.put_rows.new.text.items ≡ c.args.text.now.items
    ++ (word_lines 0 (take 8 words) ++ (numbered (point_line c.args.graph.now words) 0 points ++ t)))) rest
    (three_pieces c.put_rows.result c.args.text.now.items c.put_words.new.text.items c.put_points.new.text.items c.put_rows.new.text.items _ _ _
    c.in_ok-put_words.ensures c.in_ok-put_points.ensures c.put_rows.ensures)
