-- A point with a row is one of 65,536.
use Rattle.std.proofs.Common.{◌≡◌, ◌<◌, ◌%◌, ℕ, List, Bool, true, false, Option, Some, None, refl, ap, ◌∙◌, arith, ltb-true}
use Rattle.std.specs.Prelude.{nat_lt, option_map, if◌then◌else◌}
use Rattle.sdv_graph.specs.Path.{Action}
use Rattle.sdv_table.specs.declared.reading.Row.{Row}
use Rattle.sdv_table.specs.Reading.{seen_row, counts_read, head_read, small_read, row_read, action_of, action_at}
use Rattle.sdv_player.specs.declared.state.State.{State}
use Rattle.sdv_player.specs.Seen.{nowhere}

within : (b : Bool) (i n : ℕ) (o : Option Action) (a : Action) → nat_lt i n ≡ b → Some a ≡ (if b then o else None) → i < n
within true i n o a lt e = ltb-true i n lt
within false i n o a lt e = absurd (cc)

counted : (ws : List ℕ) (i : ℕ) (row : Row) → option_map seen_row (Some row) ≡ action_at ws i → i < (counts_read ws).points
counted ws i row e =
    let n = (counts_read ws).points in
    within (nat_lt i n) i n (action_of (head_read ws i % 16) (small_read ws i) (row_read ws i)) (seen_row row) refl e

pub row_within : (ws : List ℕ) (i : ℕ) (row : Row) → option_map seen_row (Some row) ≡ action_at ws i → i < 65536
row_within ws i row e =
    let less = counted ws i row e in
    omega (arith, less)

-- and none is nowhere
row_somewhere : (ws : List ℕ) (i : ℕ) (row : Row) → option_map seen_row (Some row) ≡ action_at ws i → i ≡ nowhere → ⊥
row_somewhere ws i row e none =
    let less = counted ws i row e in
    omega (arith, less, none)

-- where a run has come to a row, it did not begin nowhere
pub at_row : (ws : List ℕ) (s s' : State) (row : Row) → (s.place.point ≡ nowhere → s' ≡ s)
    → option_map seen_row (Some row) ≡ action_at ws s'.place.point → s.place.point ≡ nowhere → ⊥
at_row ws s s' row stays e none = row_somewhere ws s'.place.point row e (ap (λ s. s.place.point) (stays none) ∙ none)
