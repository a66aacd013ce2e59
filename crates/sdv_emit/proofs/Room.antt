-- A table has a header, and a word for each point.
use Rattle.std.proofs.Common.{◌≡◌, ℕ, suc, ◌+◌, ◌≤◌, List, [], ◌∷◌, ◌++◌, length, refl, ap, arith, length-append}
use Rattle.sdv_registers.specs.declared.kind.Kind.{Kind}
use Rattle.sdv_graph.specs.Graph.{Graph}
use Rattle.sdv_graph.specs.Path.{Point}
use Rattle.sdv_table.specs.Row.{row_of_action}
use Rattle.sdv_table.specs.Table.{header_size, heads, rows, first_row, table_of}

heads_length : (k : Kind) (at : ℕ) (ps : List Point) → length (heads k at ps) ≡ length ps
heads_length k at [] = refl
heads_length k at (p ∷ ps) = ap (λ (n : ℕ). suc n) (heads_length k (at + length (row_of_action k p.action)) ps)

pub has_room : (g : Graph) (most : ℕ) (ws : List ℕ) → ws ≡ table_of g most → header_size + length g.points ≤ length ws
unfolding table_of
has_room g most ws is =
    let all : length ws ≡ suc (suc (suc (suc (suc (suc (suc (suc (length (heads g.kind (first_row g) g.points ++ rows g.kind g.points))))))))) = ap (λ (l : List ℕ). length l) is in
    let both : length (heads g.kind (first_row g) g.points ++ rows g.kind g.points)
    ≡ length (heads g.kind (first_row g) g.points) + length (rows g.kind g.points) =
    length-append (heads g.kind (first_row g) g.points) (rows g.kind g.points) in
    let few : length (heads g.kind (first_row g) g.points) ≡ length g.points = heads_length g.kind (first_row g) g.points in
    omega (arith, all, both, few)
