-- WHICH BLOCKS OF THE INPUT a write takes. The input is a stream: a write phase takes the blocks behind all that earlier ones
-- took, those that were cut too. So after a write that was tried again a write takes other blocks than without. What is known
-- at each point are the blocks that were announced last and those that were given so far. This project's own.
use Rattle.std.specs.Prelude.{◌≡◌, ◌⊎◌, ◌+◌, ◌<◌, ◌^◌, ℕ, zero, suc, List, [], ◌∷◌, ◌++◌, length, Bool, true, false, not, ◌==◌, ◌||◌, nat_lt, Option, Some, None, slice_get, if◌then◌else◌}
use Rattle.std.specs.List.{list_any}
use Rattle.sdv_registers.specs.declared.kind.Kind.{Kind}
use Rattle.sdv_card.specs.declared.command.Order.{Order}
use Rattle.sdv_card.specs.declared.command.Order.TheVariants.{ReadSingleBlock, ReadMultipleBlock, WriteBlock, WriteMultipleBlock}
use Rattle.sdv_card.specs.Card.{Card}
use Rattle.sdv_card.specs.CommandTable.{order_of}
use Rattle.sdv_card.specs.Lists.{May}
use Rattle.sdv_card.specs.ScriptEvent.{ScriptEvent, GiveBlocks}
use Rattle.sdv_graph.specs.declared.graph.Target.{Target}
use Rattle.sdv_graph.specs.declared.tree.Phase.TheVariants as kinds
use Rattle.sdv_graph.specs.Graph.{Graph}
use Rattle.sdv_graph.specs.Path.{Case, Action, Point, Stand, sends, phases, lets, tests, flags, widths, heads, jumps, stops}
use Rattle.sdv_graph.specs.Walk.{Pair}
use Rattle.sdv_review.specs.declared.finding.Finding.{Finding}
use Rattle.sdv_review.specs.declared.finding.Matter.{Matter}
use Rattle.sdv_review.specs.declared.finding.Matter.TheVariants.{Shifted}
use Rattle.sdv_review.specs.declared.input.Tally.{Tally}
use Rattle.sdv_review.specs.Comes.{Comes}
use Rattle.sdv_review.specs.Findings.{finding_if}

-- BLOCKS THAT A RUN GAVE

abbrev pub given_by : ScriptEvent → ℕ
given_by (GiveBlocks lines blocks) = length blocks
given_by event = 0

abbrev pub blocks_given : List Pair → ℕ
blocks_given [] = 0
blocks_given (p ∷ es) = given_by p.0 + blocks_given es

-- any two runs that come to the point gave as many blocks before, beside whatever cards
abbrev pub TakesTheSame : Graph → (point : ℕ) → Type 0
TakesTheSame g point = (c d : Card) (es fs : List Pair) (s t : Stand) (u v : Card) → Comes g c es s u → Comes g d fs t v
    → s.point ≡ point → t.point ≡ point → blocks_given es ≡ blocks_given fs

-- NUMBERS, where they are known

-- a number is known, and not this one
abbrev pub number_lacks : (held wanted : Option ℕ) → Bool
number_lacks None wanted = false
number_lacks (Some a) None = true
number_lacks (Some a) (Some b) = not (a == b)

-- no run was known to come there, or another number
abbrev pub tally_lacks : Option Tally → Tally → Bool
tally_lacks None wanted = true
tally_lacks (Some held) wanted = number_lacks held.announced wanted.announced || number_lacks held.given wanted.given

-- a command of blocks announces its own
abbrev pub announced_by : Order → Option ℕ → Option ℕ
announced_by ReadSingleBlock before = Some 1
announced_by (ReadMultipleBlock n) before = Some n
announced_by WriteBlock before = Some 1
announced_by (WriteMultipleBlock n) before = Some n
announced_by order before = before

abbrev pub announced_after : Option Order → Option ℕ → Option ℕ
announced_after None before = before
announced_after (Some order) before = announced_by order before

-- numbers of 64 bits
abbrev pub small : ℕ → Option ℕ
small n = if nat_lt n (2 ^ 64) then Some n else None

abbrev pub added : Option ℕ → Option ℕ → Option ℕ
added (Some a) (Some b) = small (a + b)
added a b = None

-- what is known after a statement
abbrev pub tally_after : Kind → Action → Tally → Tally
tally_after k (sends c ways other) t =
    record { announced = announced_after (order_of k c.ask) t.announced; given = t.given }
tally_after k (phases kinds.GiveBlocks well other) t =
    record { announced = t.announced; given = added t.given t.announced }
tally_after k action t = t

-- ALONG THE EDGES

-- what is known at each point to which a run was known to come
abbrev pub Tallies : Type 0
Tallies = List (Option Tally)

abbrev pub entry_lacks : Option (Option Tally) → Tally → Bool
entry_lacks None wanted = false
entry_lacks (Some held) wanted = tally_lacks held wanted

abbrev pub target_lacks : Tallies → Target → Tally → Bool
target_lacks table t wanted = entry_lacks (slice_get table t.to) wanted

-- a target of a statement lacks what is known
abbrev pub one_lacks : Tallies → Action → Tally → Bool
one_lacks table (sends c ways other) wanted =
    list_any (λ (w : Case). target_lacks table w.target wanted) ways || target_lacks table other wanted
one_lacks table (phases p well other) wanted = target_lacks table well wanted || target_lacks table other wanted
one_lacks table (lets l t) wanted = target_lacks table t wanted
one_lacks table (tests c met unmet) wanted = target_lacks table met wanted || target_lacks table unmet wanted
one_lacks table (flags flag on t) wanted = target_lacks table t wanted
one_lacks table (widths width t) wanted = target_lacks table t wanted
one_lacks table (heads n body other) wanted = target_lacks table body wanted || target_lacks table other wanted
one_lacks table (jumps t) wanted = target_lacks table t wanted
one_lacks table (stops last) wanted = false

abbrev pub point_lacks : Kind → Tallies → Option Point → Option (Option Tally) → Bool
point_lacks k table (Some place) (Some (Some t)) = one_lacks table place.action (tally_after k place.action t)
point_lacks k table place entry = false

-- before the first command
abbrev pub no_tally : Tally
no_tally = record { announced = Some 0; given = Some 0 }

pub record IsTallied (k : Kind) (points : List Point) (table : Tallies) : Type 0 where
  pub size : length table ≡ length points
  pub start : entry_lacks (slice_get table 0) no_tally ≡ false
  pub each : (i : ℕ) → i < length points → point_lacks k table (slice_get points i) (slice_get table i) ≡ false

-- FINDINGS

-- a write phase before which the number of blocks is not known
abbrev pub if_unknown : Option ℕ → Option Matter
if_unknown None = Some Shifted
if_unknown (Some n) = None

abbrev pub shift_matter : Action → Option Tally → Option Matter
shift_matter (phases kinds.GiveBlocks well other) (Some t) = if_unknown t.given
shift_matter action t = None

abbrev pub shifts_at : (point : ℕ) → Option Point → Option (Option Tally) → List Finding
shifts_at point (Some place) (Some t) = finding_if point (shift_matter place.action t)
shifts_at point place t = []

-- at the first n points
abbrev pub shifts_before : List Point → Tallies → (n : ℕ) → List Finding
shifts_before points table zero = []
shifts_before points table (suc n) =
    shifts_before points table n ++ shifts_at n (slice_get points n) (slice_get table n)

pub record ByTallies (g : Graph) (found : List Finding) : Type 0 where
  pub table : Tallies
  pub tallied : IsTallied g.kind g.points table
  pub are : found ≡ shifts_before g.points table (length g.points)

-- It was not worked out: nothing is known at point 0, where no write phase is.
abbrev pub shift_at : (point : ℕ) → Finding
shift_at point = record { point = Some point; matter = Shifted }

abbrev pub shifts_not_worked_out : List Finding
shifts_not_worked_out = shift_at 0 ∷ []

abbrev pub ShiftsFound : Graph → List Finding → Type 0
ShiftsFound g found = ByTallies g found ⊎ (found ≡ shifts_not_worked_out)

-- Where nothing of this is found at a write phase, nor at point 0, it takes the same blocks in each run.
abbrev pub InputsAreTold : Graph → List Finding → Type 0
InputsAreTold g found = (point : ℕ) (well other : Target) (most : List ℕ)
    → slice_get g.points point ≡ Some (record { action = phases kinds.GiveBlocks well other; most = most })
    → (May found (shift_at point) → ⊥) → (May found (shift_at 0) → ⊥) → TakesTheSame g point
