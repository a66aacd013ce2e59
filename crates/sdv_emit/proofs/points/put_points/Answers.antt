use Rattle.std.proofs.Common.{◌≡◌, ℕ, ◌+◌, List, ◌++◌, slice_index, ap, ◌∙◌}
use Rattle.sdv_graph.specs.Graph.{seen_action, seen_point}
use Rattle.sdv_graph.specs.Tree.{Declared}
use Rattle.sdv_emit.specs.CText.{Text, point_line, point_words, head_line}
use Rattle.sdv_telling.proofs.NumberedLaws.{line_added}
use Rattle.sdv_emit.proofs.points.put_points.Goals as goal

pub loop-number-preserved : goal.loop-number-preserved
loop-number-preserved c =
    let n = c.loop-number.number in
    let action = seen_action c.point.result.now.action in
    let about : c.as_slice.result.now ≡ point_words c.args.graph.now.names n (slice_index c.args.graph.now.lines n) action =
    c.as_slice.ensures.value ∙ (c.in_ok-about.ensures
    ∙ (ap (λ (names : Declared). point_words names n (slice_index c.lines-lines.result.now n) action) c.names-names.ensures
    ∙ ap (λ (lines : List ℕ). point_words c.args.graph.now.names n (slice_index lines n) action) c.lines-lines.ensures.lines)) in
    line_added (point_line c.args.graph.now c.args.words.now) c.args.graph.now.points n (seen_point c.point.result.now) c.loop-number.text.items _ _
    c.point.ensures c.loop-number.invariant
    (c.in_ok-put_head.ensures ∙ ap (λ (t : Text). c.loop-number.text.items ++ head_line (slice_index c.args.words.now (8 + n)) t) about)
