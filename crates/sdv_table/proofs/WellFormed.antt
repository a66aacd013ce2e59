-- The table of a graph is well formed.
use Rattle.std.proofs.Common.{◌≡◌, ℕ, ◌+◌, ◌*◌, ◌/◌, ◌%◌, ◌==◌, ◌<◌, ◌≤◌, List, [], ◌∷◌, ◌++◌, length, slice_index, Option, Some, None, slice_get, refl, ap, sym, ◌∙◌, subst, length-append, arith, inl, inr, lit<, if◌then◌else◌}
use Rattle.std.proofs.lemmas.Option.{slice_get_cases}
use Rattle.sdv_registers.specs.declared.kind.Kind.{Kind}
use Rattle.sdv_registers.specs.declared.kind.Kind.TheVariants.{Sd, Emmc}
use Rattle.sdv_graph.specs.declared.tree.Address.{Address}
use Rattle.sdv_graph.specs.declared.tree.Atom.{Atom}
use Rattle.sdv_graph.specs.declared.tree.Atom.TheVariants as atoms
use Rattle.sdv_graph.specs.declared.tree.Change.{Change}
use Rattle.sdv_graph.specs.declared.tree.Change.TheVariants as changes
use Rattle.sdv_graph.specs.declared.tree.Condition.{Condition}
use Rattle.sdv_graph.specs.declared.tree.Condition.TheVariants as conditions
use Rattle.sdv_graph.specs.Walk.{Failed}
use Rattle.sdv_graph.specs.Path.{Case, Action, Point, sends, lets, tests, stops}
use Rattle.sdv_graph.specs.Graph.{Graph}
use Rattle.sdv_table.specs.declared.counts.Counts.{Counts}
use Rattle.sdv_table.specs.Row.{address_words, address_size, atom_words, atom_size, change_words, change_size, condition_words, condition_size, cases_words, name_words, row_of_action, row_size}
use Rattle.sdv_table.specs.Table.{heads, rows, kind_code, magic, version, first_row, header, size, table_of}
use Rattle.sdv_table.specs.Reading.{target_of, kind_read, counts_read, sending_at}
use Rattle.sdv_table.specs.Fits.{IsTable, CountsFit, ActionFits, TargetFits, counts_of}
use Rattle.sdv_table.specs.Loading.{IsPoint, IsSentRight, IsWellFormed}
use Rattle.sdv_table.proofs.Greatest.{target_grown}
use Rattle.sdv_table.proofs.Inverse.{target_back}
use Rattle.sdv_table.proofs.Places.{There, there, row_inside, length-heads, action_there, sending_there}

-- HOW LONG A ROW IS

length-address : (a : Option Address) → length (address_words a) ≡ address_size a
length-address None = refl
length-address (Some a) = refl

length-cases : (ws : List Case) → length (cases_words ws) ≡ 2 * length ws
length-cases [] = refl
length-cases (w ∷ ws) = let l = length-cases ws in omega arith

length-atom : (a : Atom) → length (atom_words a) ≡ atom_size a
length-atom (atoms.Number n) = refl
length-atom atom = refl

length-change : (c : Change) → length (change_words c) ≡ change_size c
length-change changes.Same = refl
length-change change = refl

length-condition : (c : Condition) → length (condition_words c) ≡ condition_size c
length-condition (conditions.Flag f) = refl
length-condition condition = refl

length-name : (bs : List ℕ) → length (name_words bs) ≡ (length bs + 3) / 4
length-name [] = refl
length-name (a ∷ []) = refl
length-name (a ∷ b ∷ []) = refl
length-name (a ∷ b ∷ c ∷ []) = refl
length-name (a ∷ b ∷ c ∷ d ∷ bs) = let l = length-name bs in omega arith

pub length-row : (k : Kind) (a : Action) → length (row_of_action k a) ≡ row_size a
length-row k (sends c cases other) =
    let l = length-append (address_words c.address) (cases_words cases) in
    let m = length-address c.address in
    let n = length-cases cases in
    omega arith
length-row k (lets l t) =
    let m = length-append (atom_words l.atom) (change_words l.change) in
    let n = length-atom l.atom in
    let o = length-change l.change in
    omega arith
length-row k (tests c holds other) = let l = length-condition c in omega arith
length-row k (stops (Failed name)) = length-name name
length-row k action = refl

length-table : (g : Graph) (most : ℕ) → length (table_of g most) ≡ size g
unfolding table_of
length-table g most =
    let a = length-append (header g most) (heads g.kind (first_row g) g.points ++ rows g.kind g.points) in
    let b = length-append (heads g.kind (first_row g) g.points) (rows g.kind g.points) in
    let c = length-heads g.kind (first_row g) g.points in
    omega arith

-- THE HEADER IS READ BACK

kind_small : (k : Kind) → kind_code k < 2
kind_small Sd = lit< tt
kind_small Emmc = lit< tt

kind_back : (k : Kind) → (if kind_code k == 0 then Sd else Emmc) ≡ k
kind_back Sd = refl
kind_back Emmc = refl

-- the parts of the word of the kind and the counts
record Parts (word kind numbers flags : ℕ) : Type 0 where
  pub version_is : word % 256 ≡ version
  pub kind_is : word / 256 % 256 ≡ kind
  pub numbers_is : word / 65536 % 256 ≡ numbers
  pub flags_is : word / 16777216 ≡ flags

parts_of : (word k n f : ℕ) → word ≡ 2 + 256 * (k + 256 * (n + 256 * f)) → k < 2 → n ≤ 8 → f ≤ 4 → Parts word k n f
parts_of word k n f is few_k few_n few_f =
    record { version_is = omega arith; kind_is = omega arith; numbers_is = omega arith; flags_is = omega arith }

counts_with : ℕ → ℕ → ℕ → Counts
counts_with n f p = record { numbers = n; flags = f; points = p }

pub record Header (g : Graph) (ws : List ℕ) : Type 0 where
  pub magic_is : slice_index ws 0 ≡ magic
  pub version_is : slice_index ws 1 % 256 ≡ version
  pub kind_low : slice_index ws 1 / 256 % 256 < 2
  pub kind_same : kind_read ws ≡ g.kind
  pub counts_same : counts_read ws ≡ counts_of g
  pub size_same : slice_index ws 2 / 65536 ≡ length ws
  pub size_is : length ws ≡ size g
  pub first_same : target_of (slice_index ws 3) ≡ g.first

header_there : (g : Graph) (most : ℕ) (ws : List ℕ) → IsTable g most ws → Header g ws
unfolding table_of counts_with
header_there g most ws table =
    let few = table.fits.counts in
    let w1 : slice_index ws 1 ≡ 2 + 256 * (kind_code g.kind + 256 * (g.numbers + 256 * g.flags)) =
    ap (λ ws. slice_index ws 1) table.same in
    let w2 : slice_index ws 2 ≡ length g.points + 65536 * size g = ap (λ ws. slice_index ws 2) table.same in
    let long : length ws ≡ size g = ap length table.same ∙ length-table g most in
    let parts = parts_of (slice_index ws 1) (kind_code g.kind) g.numbers g.flags w1 (kind_small g.kind) few.numbers few.flags in
    let less = few.points in
    let points : slice_index ws 2 % 65536 ≡ length g.points = omega arith in
    let kind = parts.kind_is in
    let low_kind = kind_small g.kind in
    record {
      magic_is = ap (λ ws. slice_index ws 0) table.same;
      version_is = parts.version_is;
      kind_low = omega arith;
      kind_same = ap (λ n. if n == 0 then Sd else Emmc) parts.kind_is ∙ kind_back g.kind;
      counts_same = ap (λ n. counts_with n (slice_index ws 1 / 16777216) (slice_index ws 2 % 65536)) parts.numbers_is
          ∙ ap (λ f. counts_with g.numbers f (slice_index ws 2 % 65536)) parts.flags_is
          ∙ ap (λ p. counts_with g.numbers g.flags p) points;
      size_same = omega arith;
      size_is = long;
      first_same = ap (λ ws. target_of (slice_index ws 3)) table.same
          ∙ target_back g.first (target_grown (length g.points) g.first few.points table.fits.first);
    }

point_there : (g : Graph) (most : ℕ) (ws : List ℕ) (i : ℕ) (p : Point) → IsTable g most ws → Header g ws → slice_get g.points i ≡ Some p → IsPoint ws i
point_there g most ws i p table head e =
    let is : There g ws i p.action = there g i p table e in
    let long = length-row g.kind p.action in
    let inside = row_inside g i p e in
    let at = is.place_is in
    let points : (counts_read ws).points ≡ length g.points = ap (λ c. c.points) head.counts_same in
    let all = head.size_is in
    record {
      action = p.action;
      read = action_there g i p table e;
      fits = subst (λ k. ActionFits k (counts_read ws) p.action) (sym head.kind_same)
          (subst (λ c. ActionFits g.kind c p.action) (sym head.counts_same) is.fits);
      sent = subst (λ k. IsSentRight k p.action (sending_at ws i)) (sym head.kind_same) (sending_there g ws i p table e);
      behind = omega arith;
      inside = omega arith;
    }

pub table_is_well_formed : (g : Graph) (most : ℕ) (ws : List ℕ) → IsTable g most ws → IsWellFormed ws
table_is_well_formed g most ws table =
    let head = header_there g most ws table in
    let points : (counts_read ws).points ≡ length g.points = ap (λ c. c.points) head.counts_same in
    let all = head.size_is in
    record {
      has_magic = head.magic_is;
      has_version = head.version_is;
      has_size = record { size = head.size_same; points = omega arith };
      has_counts = record { kind = head.kind_low; counts = subst CountsFit (sym head.counts_same) table.fits.counts };
      first = subst (λ t. TargetFits (counts_read ws).points t) (sym head.first_same)
          (subst (λ n. TargetFits n g.first) (sym points) table.fits.first);
      points = λ i less. elim ((slice_get_cases g.points i).1) [
        | inl found ↦ point_there g most ws i found.0 table head found.2
        | inr past ↦ let far = past.0 in absurd (omega arith)
      ];
    }
