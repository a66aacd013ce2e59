-- The row of a command is read so.
use Rattle.std.proofs.Common.{◌≡◌, ◌/◌, ◌%◌, ℕ, List, drop, true, Some, None, ap, ◌∙◌}
use Rattle.std.specs.Prelude.{slice_index, nat_lt, if◌then◌else◌}
use Rattle.sdv_graph.specs.Path.{sends}
use Rattle.sdv_table.specs.Reading.{target_of, command_of, cases_of, cases_count, cases_place, counts_read, head_read, small_read, row_read, action_of, action_at}

module _ (ws : List ℕ) (i : ℕ) (inside : nat_lt i (counts_read ws).points ≡ true) where
  read_as : (kind : ℕ) → head_read ws i % 16 ≡ kind → action_at ws i ≡ action_of kind (small_read ws i) (row_read ws i)
  read_as kind is =
      ap (λ b. if b then action_of (head_read ws i % 16) (small_read ws i) (row_read ws i) else None) inside
      ∙ ap (λ k. action_of k (small_read ws i) (row_read ws i)) is

  pub command_read : head_read ws i % 16 ≡ 0 → action_at ws i
      ≡ Some (sends (command_of (small_read ws i) (row_read ws i))
      (cases_of (cases_count (row_read ws i)) (drop (cases_place (small_read ws i / 128)) (row_read ws i))) (target_of (slice_index (row_read ws i) 0)))
  command_read is = read_as 0 is
