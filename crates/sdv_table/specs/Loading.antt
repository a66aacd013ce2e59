-- When words are WELL FORMED as a table: whatever a player is answered, it goes from a row inside the table to the next.
use Rattle.std.specs.Prelude.{◌≡◌, ℕ, ◌+◌, ◌/◌, ◌%◌, ◌<◌, ◌≤◌, List, length, slice_index, Some}
use Rattle.sdv_registers.specs.declared.kind.Kind.{Kind}
use Rattle.sdv_graph.specs.Path.{Action, sends}
use Rattle.sdv_table.specs.declared.format.TheConstants as format
use Rattle.sdv_table.specs.declared.fault.NoTable.{NoTable}
use Rattle.sdv_table.specs.declared.fault.NoTable.TheVariants as faults
use Rattle.sdv_table.specs.declared.sending.Sending.{Sending}
use Rattle.sdv_table.specs.Fits.{CountsFit, TargetFits, ActionFits}
use Rattle.sdv_table.specs.Reading.{target_of, kind_read, counts_read, place_read, action_at, sending_at}
use Rattle.sdv_table.specs.Row.{row_size}
use Rattle.sdv_table.specs.Sending.{sending_of}
use Rattle.sdv_table.specs.Table.{magic, version, header_size}

-- what the row says of how a command is sent is what the command table says
abbrev pub IsSentRight : Kind → Action → Sending → Type 0
IsSentRight k (sends c cases other) sending = sending ≡ sending_of k c.ask
IsSentRight k action sending = Unit {0}

-- A point: its statement goes to points of the table, and names its variables and flags alone; and its row stands behind
-- the header and the points' words, inside the table.
pub record IsPoint (ws : List ℕ) (i : ℕ) : Type 0 where
  pub action : Action
  pub read : action_at ws i ≡ Some action
  pub fits : ActionFits (kind_read ws) (counts_read ws) action
  pub sent : IsSentRight (kind_read ws) action (sending_at ws i)
  pub behind : header_size + (counts_read ws).points ≤ place_read ws i
  pub inside : place_read ws i + row_size action ≤ length ws

-- the size that the header gives is that of the words, and the points' words are among them
pub record HasSize (ws : List ℕ) : Type 0 where
  pub size : slice_index ws 2 / format.UPPER ≡ length ws
  pub points : header_size + (counts_read ws).points ≤ length ws

-- a kind of card, at most 8 number variables, 4 flags and 8,191 points
pub record HasCounts (ws : List ℕ) : Type 0 where
  pub kind : slice_index ws 1 / format.KIND % format.PART_BOUND < format.KINDS
  pub counts : CountsFit (counts_read ws)

pub record IsWellFormed (ws : List ℕ) : Type 0 where
  pub has_magic : slice_index ws 0 ≡ magic
  pub has_version : slice_index ws 1 % format.KIND ≡ version
  pub has_size : HasSize ws
  pub has_counts : HasCounts ws
  pub first : TargetFits (counts_read ws).points (target_of (slice_index ws 3))
  pub points : (i : ℕ) → i < (counts_read ws).points → IsPoint ws i

-- the first point that is none
pub record IsFirstBad (ws : List ℕ) (i : ℕ) : Type 0 where
  pub there : i < (counts_read ws).points
  pub bad : IsPoint ws i → ⊥
  pub before : (j : ℕ) → j < i → IsPoint ws j

-- what is wrong with words that are no table
abbrev pub IsWrong : List ℕ → NoTable → Type 0
IsWrong ws faults.Magic = slice_index ws 0 ≡ magic → ⊥
IsWrong ws faults.Version = slice_index ws 1 % format.KIND ≡ version → ⊥
IsWrong ws faults.Size = HasSize ws → ⊥
IsWrong ws faults.Counts = HasCounts ws → ⊥
IsWrong ws faults.First = TargetFits (counts_read ws).points (target_of (slice_index ws 3)) → ⊥
IsWrong ws (faults.Row i) = IsFirstBad ws i
