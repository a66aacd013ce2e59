-- The words of one point more.
use Rattle.std.proofs.Common.{◌≡◌, ℕ, ◌+◌, ◌*◌, ◌≤◌, List, [], ◌∷◌, ◌++◌, length, take, drop, Some, slice_get, ap, sym, ◌∙◌, subst, append_assoc, length-append, arith, rules}
use Rattle.std.proofs.lemmas.List.{take_more, take-append-drop}
use Rattle.std.proofs.lemmas.Option.{slice_get_within, get_or_from_slice_get}
use Rattle.sdv_registers.specs.declared.kind.Kind.{Kind}
use Rattle.sdv_graph.specs.Path.{Point}
use Rattle.sdv_graph.specs.Graph.{Graph}
use Rattle.sdv_table.specs.declared.counts.Counts.{Counts}
use Rattle.sdv_table.specs.Row.{head_of_action, row_of_action}
use Rattle.sdv_table.specs.Table.{heads, rows, first_row, header, table_of}
use Rattle.sdv_table.specs.Fits.{ActionFits, PointsFit}

pub take_next : (ps : List Point) (i : ℕ) (p : Point) → slice_get ps i ≡ Some p → take (i + 1) ps ≡ take i ps ++ p ∷ []
take_next ps i p e =
    take_more ps i p (slice_get_within ps i p e) ∙ ap (λ q. take i ps ++ q ∷ []) (get_or_from_slice_get ps i p p e)

pub rows_append : (k : Kind) (ps qs : List Point) → rows k (ps ++ qs) ≡ rows k ps ++ rows k qs
rows_append k [] qs = search rules
rows_append k (p ∷ ps) qs =
    ap (λ r. row_of_action k p.action ++ r) (rows_append k ps qs) ∙ sym (append_assoc (row_of_action k p.action) (rows k ps) (rows k qs))

pub rows_taken : (k : Kind) (ps : List Point) (i : ℕ) → length (rows k (take i ps)) ≤ length (rows k ps)
rows_taken k ps i =
    let parts : length (rows k (take i ps ++ drop i ps)) ≡ length (rows k (take i ps)) + length (rows k (drop i ps)) =
    ap length (rows_append k (take i ps) (drop i ps)) ∙ length-append (rows k (take i ps)) (rows k (drop i ps)) in
    let whole : length (rows k (take i ps ++ drop i ps)) ≡ length (rows k ps) = ap (λ qs. length (rows k qs)) (take-append-drop i ps) in
    omega arith

rows_more : (k : Kind) (ps : List Point) (p : Point) → rows k (ps ++ p ∷ []) ≡ rows k ps ++ row_of_action k p.action
rows_more k [] p = search rules
rows_more k (q ∷ ps) p =
    ap (λ r. row_of_action k q.action ++ r) (rows_more k ps p)
    ∙ sym (append_assoc (row_of_action k q.action) (rows k ps) (row_of_action k p.action))

heads_more : (k : Kind) (at : ℕ) (ps : List Point) (p : Point) →
    heads k at (ps ++ p ∷ []) ≡ heads k at ps ++ (head_of_action p.action + 65536 * (at + length (rows k ps))) ∷ []
heads_more k at [] p = search rules
heads_more k at (q ∷ ps) p =
    let row = row_of_action k q.action in
    let places : (at + length row) + length (rows k ps) ≡ at + length (row ++ rows k ps) =
    omega (arith, length-append row (rows k ps)) in
    ap (λ h. (head_of_action q.action + 65536 * at) ∷ h) (heads_more k (at + length row) ps p
    ∙ ap (λ n. heads k (at + length row) ps ++ (head_of_action p.action + 65536 * n) ∷ []) places)

fit_more : (k : Kind) (c : Counts) (ps : List Point) (p : Point) → PointsFit k c ps → ActionFits k c p.action → PointsFit k c (ps ++ p ∷ [])
fit_more k c [] p all this = (this, tt)
fit_more k c (q ∷ ps) p all this = (all.0, fit_more k c ps p all.1 this)

-- what is known of the words of the points before one
pub record Done (k : Kind) (c : Counts) (start : ℕ) (ps : List Point) (hs rs : List ℕ) : Type 0 where
  pub heads : hs ≡ heads k start ps
  pub rows : rs ≡ rows k ps
  pub fit : PointsFit k c ps

pub done_next : (k : Kind) (c : Counts) (ps : List Point) (i : ℕ) {k' : Kind} {c' : Counts} {start : ℕ} {hs rs hs' rs' : List ℕ}
    {p : Point} {head place : ℕ} → k' ≡ k → c' ≡ c
    → Done k c start (take i ps) hs rs → slice_get ps i ≡ Some p → ActionFits k' c' p.action
    → head ≡ head_of_action p.action → place ≡ length rs
    → hs' ≡ hs ++ (head + 65536 * (start + place)) ∷ [] → rs' ≡ rs ++ row_of_action k' p.action
    → Done k c start (take (i + 1) ps) hs' rs'
done_next k c ps i {k'} {c'} {start} {hs} {rs} {hs'} {rs'} {p} {head} {place} same_kind same_counts done e fits h r x y =
    let before = take i ps in
    let here : head + 65536 * (start + place) ≡ head_of_action p.action + 65536 * (start + length (rows k before)) =
    let len : length rs ≡ length (rows k before) = ap length done.rows in omega arith in
    let this : ActionFits k c p.action =
    subst (λ c. ActionFits k c p.action) same_counts (subst (λ k. ActionFits k c' p.action) same_kind fits) in
    let all : Done k c start (before ++ p ∷ []) hs' rs' = record {
      heads = x ∙ ap (λ hs. hs ++ (head + 65536 * (start + place)) ∷ []) done.heads
          ∙ ap (λ w. heads k start before ++ w ∷ []) here ∙ sym (heads_more k start before p);
      rows = y ∙ ap (λ k. rs ++ row_of_action k p.action) same_kind ∙ ap (λ rs. rs ++ row_of_action k p.action) done.rows
          ∙ sym (rows_more k before p);
      fit = fit_more k c before p done.fit this;
    } in
    subst (λ ps. Done k c start ps hs' rs') (sym (take_next ps i p e)) all

-- the words of the table, one part after another
pub table_is : (g : Graph) (most : ℕ) {w5 w6 w7 hs rs : List ℕ} → w5 ≡ header g most → w6 ≡ w5 ++ hs → w7 ≡ w6 ++ rs
    → hs ≡ heads g.kind (first_row g) g.points → rs ≡ rows g.kind g.points → w7 ≡ table_of g most
unfolding table_of
table_is g most {w5} {w6} {w7} {hs} {rs} head e6 e7 eh er =
    e7 ∙ ap (λ w. w ++ rs) (e6 ∙ ap (λ w. w ++ hs) head ∙ ap (λ h. header g most ++ h) eh)
    ∙ ap (λ r. (header g most ++ heads g.kind (first_row g) g.points) ++ r) er
    ∙ append_assoc (header g most) (heads g.kind (first_row g) g.points) (rows g.kind g.points)
