-- Where the word and the row of a point stand in a table, and what is read there.
use Rattle.std.proofs.Common.{◌≡◌, ℕ, ◌+◌, ◌*◌, ◌%◌, ◌<◌, ◌≤◌, List, [], ◌∷◌, ◌++◌, suc, length, take, drop, slice_index, Some, None, slice_get, option_map, refl, ap, sym, ◌∙◌, subst, append_assoc, length-append, arith, inl, inr, if◌then◌else◌}
use Rattle.std.proofs.lemmas.Bool.{lt-ltb, le-ltb}
use Rattle.std.proofs.lemmas.List.{take-append-drop, get_or_at, drop_at, length-take-le}
use Rattle.std.proofs.lemmas.Option.{slice_get_within, slice_get_cases}
use Rattle.sdv_registers.specs.declared.kind.Kind.{Kind}
use Rattle.sdv_graph.specs.Path.{Point, Action}
use Rattle.sdv_graph.specs.Graph.{Graph}
use Rattle.sdv_table.specs.declared.counts.Counts.{Counts}
use Rattle.sdv_table.specs.Row.{head_of_action, kind_of_action, small_of_action, row_of_action}
use Rattle.sdv_table.specs.Table.{heads, rows, first_row, size, header, table_of}
use Rattle.sdv_table.specs.Reading.{counts_read, head_read, place_read, small_read, row_read, action_of, action_at, sending_at}
use Rattle.sdv_table.specs.Loading.{IsSentRight}
use Rattle.sdv_table.specs.Fits.{IsTable, PointsFit, ActionFits, PartsFit, counts_of, greatest}
use Rattle.sdv_table.proofs.Greatest.{parts_grown}
use Rattle.sdv_table.proofs.Growing.{take_next, rows_append}
use Rattle.sdv_table.proofs.Statements.{action_back, small_fits, sent_back}

heads_append : (k : Kind) (at : ℕ) (ps qs : List Point) → heads k at (ps ++ qs) ≡ heads k at ps ++ heads k (at + length (rows k ps)) qs
heads_append k at [] qs = ap (λ n. heads k n qs) (omega arith)
heads_append k at (p ∷ ps) qs =
    let row = row_of_action k p.action in
    let places : (at + length row) + length (rows k ps) ≡ at + length (row ++ rows k ps) =
    omega (arith, length-append row (rows k ps)) in
    ap (λ h. (head_of_action p.action + 65536 * at) ∷ h) (heads_append k (at + length row) ps qs
    ∙ ap (λ n. heads k (at + length row) ps ++ heads k n qs) places)

pub length-heads : (k : Kind) (at : ℕ) (ps : List Point) → length (heads k at ps) ≡ length ps
length-heads k at [] = refl
length-heads k at (p ∷ ps) = ap (λ n. suc n) (length-heads k (at + length (row_of_action k p.action)) ps)

-- the points before one, the point, and those after it
parted : (ps : List Point) (i : ℕ) (p : Point) → slice_get ps i ≡ Some p → ps ≡ take i ps ++ p ∷ drop (i + 1) ps
parted ps i p e =
    sym (take-append-drop (i + 1) ps) ∙ ap (λ front. front ++ drop (i + 1) ps) (take_next ps i p e)
    ∙ append_assoc (take i ps) (p ∷ []) (drop (i + 1) ps)

-- where its row stands
abbrev pub place : Graph → ℕ → ℕ
place g i = first_row g + length (rows g.kind (take i g.points))

rows_parted : (k : Kind) (ps : List Point) (i : ℕ) (p : Point) → slice_get ps i ≡ Some p
    → rows k ps ≡ rows k (take i ps) ++ (row_of_action k p.action ++ rows k (drop (i + 1) ps))
rows_parted k ps i p e = ap (λ ps. rows k ps) (parted ps i p e) ∙ rows_append k (take i ps) (p ∷ drop (i + 1) ps)

-- the row ends inside the table
pub row_inside : (g : Graph) (i : ℕ) (p : Point) → slice_get g.points i ≡ Some p
    → place g i + length (row_of_action g.kind p.action) ≤ size g
row_inside g i p e =
    let after = row_of_action g.kind p.action ++ rows g.kind (drop (i + 1) g.points) in
    let l : length (rows g.kind g.points) ≡ length (rows g.kind (take i g.points)) + length after =
    ap length (rows_parted g.kind g.points i p e) ∙ length-append (rows g.kind (take i g.points)) after in
    let m : length after ≡ length (row_of_action g.kind p.action) + length (rows g.kind (drop (i + 1) g.points)) =
    length-append (row_of_action g.kind p.action) (rows g.kind (drop (i + 1) g.points)) in
    omega arith

row_there : (g : Graph) (most : ℕ) (i : ℕ) (p : Point) → slice_get g.points i ≡ Some p
    → drop (place g i) (table_of g most) ≡ row_of_action g.kind p.action ++ rows g.kind (drop (i + 1) g.points)
unfolding table_of
row_there g most i p e =
    let k = g.kind in
    let hs = heads k (first_row g) g.points in
    let before = rows k (take i g.points) in
    let after = row_of_action k p.action ++ rows k (drop (i + 1) g.points) in
    let front = (header g most ++ hs) ++ before in
    let whole : table_of g most ≡ front ++ after =
    ap (λ r. header g most ++ (hs ++ r)) (rows_parted k g.points i p e)
    ∙ sym (append_assoc (header g most) hs (before ++ after))
    ∙ sym (append_assoc (header g most ++ hs) before after) in
    let long : length front ≡ place g i =
    let a = length-append (header g most ++ hs) before in
    let b = length-append (header g most) hs in
    let c = length-heads k (first_row g) g.points in
    omega arith in
    ap (λ w. drop (place g i) w) whole ∙ drop_at front after (place g i) long

head_there : (g : Graph) (most : ℕ) (i : ℕ) (p : Point) → slice_get g.points i ≡ Some p
    → head_read (table_of g most) i ≡ head_of_action p.action + 65536 * place g i
unfolding table_of
head_there g most i p e =
    let k = g.kind in
    let at = first_row g in
    let before = heads k at (take i g.points) in
    let own = head_of_action p.action + 65536 * place g i in
    let after = heads k (place g i + length (row_of_action k p.action)) (drop (i + 1) g.points) in
    let within = slice_get_within g.points i p e in
    let long : length before ≡ i = length-heads k at (take i g.points) ∙ length-take-le i g.points (omega arith) in
    let hs : heads k at g.points ≡ before ++ own ∷ after =
    ap (λ ps. heads k at ps) (parted g.points i p e) ∙ heads_append k at (take i g.points) (p ∷ drop (i + 1) g.points) in
    let whole : table_of g most ≡ (header g most ++ before) ++ own ∷ (after ++ rows k g.points) =
    ap (λ h. header g most ++ (h ++ rows k g.points)) hs
    ∙ ap (λ t. header g most ++ t) (append_assoc before (own ∷ after) (rows k g.points))
    ∙ sym (append_assoc (header g most) before (own ∷ (after ++ rows k g.points))) in
    let front : length (header g most ++ before) ≡ 8 + i = omega (arith, length-append (header g most) before) in
    ap (λ w. slice_index w (8 + i)) whole ∙ get_or_at (header g most ++ before) own (after ++ rows k g.points) 0 (8 + i) front

pub count_there : (g : Graph) (most : ℕ) → size g < 65536 → (counts_read (table_of g most)).points ≡ length g.points
unfolding table_of
count_there g most few = omega arith

fits_there : (k : Kind) (c : Counts) (ps : List Point) (p : Point) (qs : List Point) → PointsFit k c (ps ++ p ∷ qs) → ActionFits k c p.action
fits_there k c [] p qs fits = fits.0
fits_there k c (a ∷ ps) p qs fits = fits_there k c ps p qs fits.1

-- what the words of a table have at a point
pub record There (g : Graph) (ws : List ℕ) (i : ℕ) (a : Action) : Type 0 where
  pub fits : ActionFits g.kind (counts_of g) a
  pub grown : PartsFit greatest a
  pub kind_is : head_read ws i % 16 ≡ kind_of_action a
  pub small_is : small_read ws i ≡ small_of_action a
  pub place_is : place_read ws i ≡ place g i
  pub after : List ℕ
  pub row_is : row_read ws i ≡ row_of_action g.kind a ++ after

pub there : (g : Graph) (i : ℕ) (p : Point) {most : ℕ} {ws : List ℕ} → IsTable g most ws → slice_get g.points i ≡ Some p → There g ws i p.action
there g i p {most} {ws} table e =
    let fits : ActionFits g.kind (counts_of g) p.action =
    fits_there g.kind (counts_of g) (take i g.points) p (drop (i + 1) g.points)
    (subst (λ ps. PointsFit g.kind (counts_of g) ps) (parted g.points i p e) table.fits.points) in
    let grown = parts_grown (counts_of g) p.action table.fits.counts fits.parts in
    let head : head_read ws i ≡ head_of_action p.action + 65536 * place g i =
    ap (λ w. head_read w i) table.same ∙ head_there g most i p e in
    let small = small_fits p.action grown in
    let inside = row_inside g i p e in
    let few = table.fits.words in
    let k : head_read ws i % 16 ≡ kind_of_action p.action = omega arith in
    let s : small_read ws i ≡ small_of_action p.action = omega arith in
    let at : place_read ws i ≡ place g i = omega arith in
    record {
      fits = fits;
      grown = grown;
      kind_is = k;
      small_is = s;
      place_is = at;
      after = rows g.kind (drop (i + 1) g.points);
      row_is = ap (λ n. drop n ws) at ∙ ap (λ w. drop (place g i) w) table.same ∙ row_there g most i p e;
    }

-- the statement that is read is the point's
there_read : {g : Graph} {ws : List ℕ} {i : ℕ} {a : Action} → There g ws i a
    → action_of (head_read ws i % 16) (small_read ws i) (row_read ws i) ≡ Some a
there_read {g} {ws} {i} {a} is =
    ap (λ k. action_of k (small_read ws i) (row_read ws i)) is.kind_is
    ∙ ap (λ s. action_of (kind_of_action a) s (row_read ws i)) is.small_is
    ∙ ap (λ r. action_of (kind_of_action a) (small_of_action a) r) is.row_is
    ∙ action_back g.kind a is.after is.grown is.fits.of_kind

at_point : (ws : List ℕ) (i : ℕ) → i < (counts_read ws).points
    → action_at ws i ≡ action_of (head_read ws i % 16) (small_read ws i) (row_read ws i)
at_point ws i less = ap (λ b. if b then action_of (head_read ws i % 16) (small_read ws i) (row_read ws i) else None)
    (lt-ltb i (counts_read ws).points less)

past_points : (ws : List ℕ) (i : ℕ) → (counts_read ws).points ≤ i → action_at ws i ≡ None
past_points ws i past = ap (λ b. if b then action_of (head_read ws i % 16) (small_read ws i) (row_read ws i) else None)
    (le-ltb i (counts_read ws).points past)

-- the words of a table are read as the graph's statements
pub action_there : (g : Graph) (i : ℕ) (p : Point) {most : ℕ} {ws : List ℕ} → IsTable g most ws → slice_get g.points i ≡ Some p
    → action_at ws i ≡ Some p.action
action_there g i p {most} {ws} table e =
    let count : (counts_read ws).points ≡ length g.points = ap (λ w. (counts_read w).points) table.same ∙ count_there g most table.fits.words in
    let within = slice_get_within g.points i p e in
    let is : There g ws i p.action = there g i p table e in
    at_point ws i (omega arith) ∙ there_read is

pub table_read : (g : Graph) {most : ℕ} (ws : List ℕ) (i : ℕ) → IsTable g most ws → action_at ws i ≡ option_map (λ p. p.action) (slice_get g.points i)
table_read g {most} ws i table =
    let count : (counts_read ws).points ≡ length g.points = ap (λ w. (counts_read w).points) table.same ∙ count_there g most table.fits.words in
    elim ((slice_get_cases g.points i).1) [
      | inl there ↦ action_there g i there.0 table there.2 ∙ ap (λ o. option_map (λ p. p.action) o) (sym there.2)
      | inr past ↦
          let none : slice_get g.points i ≡ None = past.1 in
          let far = past.0 in
          past_points ws i (omega arith) ∙ ap (λ o. option_map (λ p. p.action) o) (sym none)
    ]

-- and its command is sent as they say
pub sending_there : (g : Graph) {most : ℕ} (ws : List ℕ) (i : ℕ) (p : Point) → IsTable g most ws → slice_get g.points i ≡ Some p
    → IsSentRight g.kind p.action (sending_at ws i)
sending_there g {most} ws i p table e =
    let is : There g ws i p.action = there g i p table e in
    sent_back g.kind p.action (small_read ws i) (row_read ws i) is.after is.small_is is.row_is is.grown
