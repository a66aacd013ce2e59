-- The points are those of the script, whose walks are the paths over them.
use Rattle.std.proofs.Common.{◌≡◌, ◌++◌, [], List, ℕ, sym, ap, subst, ◌∙◌}
use Rattle.sdv_graph.specs.Tree.{Declared, statements_of}
use Rattle.sdv_graph.specs.Points.{again, entry, past, points_of, points_of_statements, first_of}
use Rattle.sdv_graph.specs.Graph.{Graph, seen_points, declared_names}
use Rattle.sdv_graph.specs.GraphOf.{IsSound, IsGraphOf}
use Rattle.sdv_graph.proofs.GraphOf.{parts, graph_of_body, graph_is, sound, is_graph_of}
use Rattle.sdv_graph.proofs.points.graph_of.Goals as goal

pub from_points-requires : goal.from_points-requires
from_points-requires c =
    let b = statements_of c.args.block.now in
    let names = declared_names c.args.names.now in
    let lines = c.args.lines.now in
    let end : c.head_of-end.result ≡ past b = c.head_of-end.ensures ∙ ap again c.count.ensures in
    let places : seen_points c.put_block.new.points.items ≡ points_of b =
    c.in_ok-put_block.ensures
    ∙ ap (λ ps. seen_points ps ++ points_of_statements b 0 c.head_of-end.result c.head_of-end.result []) c.new-points.ensures.items
    ∙ ap (λ t. points_of_statements b 0 t t []) end in
    let start : c.entry_of-first.result ≡ first_of b = c.entry_of-first.ensures ∙ ap (entry b 0) end in
    let copied : declared_names c.in_ok-names.names ≡ names = c.in_ok-names.ensures in
    let located : c.in_ok-lines.lines.items ≡ lines = c.in_ok-lines.ensures.items in
    let same : parts (declared_names c.in_ok-names.names) (seen_points c.put_block.new.points.items) c.in_ok-lines.lines.items c.entry_of-first.result c.moves.result
    c.begins-starts_with_reset.result ≡ graph_of_body names b lines =
    ap (λ (n : Declared). parts n (seen_points c.put_block.new.points.items) c.in_ok-lines.lines.items c.entry_of-first.result c.moves.result c.begins-starts_with_reset.result) copied
    ∙ ap (λ (l : List ℕ). parts names (seen_points c.put_block.new.points.items) l c.entry_of-first.result c.moves.result c.begins-starts_with_reset.result) located
    ∙ graph_is names b lines places start c.moves.ensures c.begins-starts_with_reset.ensures in
    subst (λ (g : Graph). IsSound g) (sym same) (sound names b lines c.requires.runs c.requires.suits c.requires.located)

pub returns : goal.returns
returns c =
    let b = statements_of c.args.block.now in
    let names = declared_names c.args.names.now in
    let lines = c.args.lines.now in
    let end : c.head_of-end.result ≡ past b = c.head_of-end.ensures ∙ ap again c.count.ensures in
    let places : seen_points c.put_block.new.points.items ≡ points_of b =
    c.in_ok-put_block.ensures
    ∙ ap (λ ps. seen_points ps ++ points_of_statements b 0 c.head_of-end.result c.head_of-end.result []) c.new-points.ensures.items
    ∙ ap (λ t. points_of_statements b 0 t t []) end in
    let start : c.entry_of-first.result ≡ first_of b = c.entry_of-first.ensures ∙ ap (entry b 0) end in
    let copied : declared_names c.in_ok-names.names ≡ names = c.in_ok-names.ensures in
    let located : c.in_ok-lines.lines.items ≡ lines = c.in_ok-lines.ensures.items in
    let same : parts (declared_names c.in_ok-names.names) (seen_points c.put_block.new.points.items) c.in_ok-lines.lines.items c.entry_of-first.result c.moves.result
    c.begins-starts_with_reset.result ≡ graph_of_body names b lines =
    ap (λ (n : Declared). parts n (seen_points c.put_block.new.points.items) c.in_ok-lines.lines.items c.entry_of-first.result c.moves.result c.begins-starts_with_reset.result) copied
    ∙ ap (λ (l : List ℕ). parts names (seen_points c.put_block.new.points.items) l c.entry_of-first.result c.moves.result c.begins-starts_with_reset.result) located
    ∙ graph_is names b lines places start c.moves.ensures c.begins-starts_with_reset.ensures in
    subst (λ (g : Graph). IsGraphOf names b lines g) (sym (c.from_points.ensures ∙ same)) (is_graph_of names b lines c.requires.runs c.requires.suits c.requires.located)
