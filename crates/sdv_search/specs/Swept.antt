-- Every run with one mishap.
use Rattle.std.specs.Prelude.{◌≡◌, ◌≢◌, ◌==◌, ◌-◌, ◌/◌, ◌%◌, ◌⊎◌, ℕ, suc, List, [], ◌∷◌, ◌++◌, All, Option, Some, Result, Ok, Err, if◌then◌else◌, length, map, replicate, false}
use Rattle.std.specs.List.{slice_get}
use Rattle.sdv_card.specs.Card.{Block}
use Rattle.sdv_image.specs.MemBlocks.{blocks_in}
use Rattle.sdv_image.specs.declared.fault.SimFault.TheVariants.{ImageLength}
use Rattle.sdv_check.specs.Verified.{IsGraphOfText}
use Rattle.sdv_behavior.specs.declared.card_desc.CardDesc.{CardDesc}
use Rattle.sdv_behavior.specs.Gives.{Describes}
use Rattle.sdv_graph.specs.Graph.{Graph}
use Rattle.sdv_run.specs.declared.fault.RunFault.{RunFault}
use Rattle.sdv_run.specs.declared.fault.RunFault.TheVariants.{Input, Reply}
use Rattle.sdv_trace.specs.declared.end.End.TheVariants.{Done, Fault}
use Rattle.sdv_refute.specs.declared.wrong.Watched.{Watched}
use Rattle.sdv_refute.specs.declared.wrong.Watched.TheVariants.{Ended, Stopped}
use Rattle.sdv_refute.specs.declared.simulated.TryFault.{TryFault}
use Rattle.sdv_refute.specs.declared.simulated.TryFault.TheVariants.{Card, Memory}
use Rattle.sdv_refute.specs.Tries.{NotTried, Tries, TryRefuses}
use Rattle.sdv_search.specs.Table.{codes_at}
use Rattle.sdv_search.specs.declared.sweeping.Cell.{Cell}
use Rattle.sdv_search.specs.declared.sweeping.Row.{Row}
use Rattle.sdv_search.specs.declared.sweeping.RunEnd.{RunEnd}
use Rattle.sdv_search.specs.declared.sweeping.RunEnd.TheVariants as ends
use Rattle.sdv_search.specs.declared.sweeping.SweepTable.{SweepTable}

-- a run stops so for a reason of its own: the input has too few blocks, or an answer or an address cannot be used
abbrev pub IsOwnFault : RunFault → Type 0
IsOwnFault Input = Unit {0}
IsOwnFault Reply = Unit {0}
IsOwnFault fault = ⊥

abbrev pub EndsAs : RunEnd → Result Watched RunFault → Type 0
EndsAs ends.Done (Ok (Ended Done)) = Unit {0}
EndsAs ends.Fault (Ok (Ended (Fault name))) = Unit {0}
EndsAs (ends.Wrong point) (Ok (Stopped wrong)) = point ≡ wrong.point
EndsAs (ends.Stopped fault) (Err why) = (fault ≡ why) × IsOwnFault fault
EndsAs end result = ⊥

-- the blocks that bytes are, one after another
abbrev pub blocks_of : (bytes : List ℕ) → List Block
blocks_of bytes = blocks_in (length bytes / 512) bytes

-- a run with the schedule comes to this, beside the card over the image; it adds to what is known of a trace
pub record RunsTo (g : Graph) (desc : CardDesc) (image : List ℕ) (input : List Block) (codes : List ℕ)
    (trace trace' : Option (List ℕ)) (end : RunEnd) : Type 0 where
  pub result : Result Watched RunFault
  pub ends_as : EndsAs end result
  pub blocks' : Option (List Block)
  pub out : Option (List ℕ)
  pub out' : Option (List ℕ)
  pub tries : Tries false g desc codes input (Some (blocks_of image)) blocks' out out' trace trace' result

abbrev pub HasEnd : Graph → CardDesc → (image : List ℕ) → (input : List Block) → (codes : List ℕ) → RunEnd → Type 0
HasEnd g desc image input codes end =
    (trace : Option (List ℕ)) × (trace' : Option (List ℕ)) × RunsTo g desc image input codes trace trace' end

-- with one mishap, at an event
abbrev pub mishap_at : (event code : ℕ) → List ℕ
mishap_at event code = replicate event 0 ++ code ∷ []

-- a run with the mishap at an event comes to the end
abbrev pub IsCell : Graph → CardDesc → (image : List ℕ) → (input : List Block) → (event : ℕ) → Cell → Type 0
IsCell g desc image input event cell = HasEnd g desc image input (mishap_at event cell.code) cell.end

-- a run for each mishap that the event can have
pub record IsRow (g : Graph) (desc : CardDesc) (image : List ℕ) (input : List Block) (row : Row) : Type 0 where
  pub line : slice_get g.lines row.point ≡ Some row.line
  pub all : map (λ cell. cell.code) row.cells.items ≡ codes_at row.next
  pub each : All (IsCell g desc image input row.event) row.cells.items

-- THE EVENTS OF A RUN: its trace has a line for each, and, where the run was not cut short, one for its end

abbrev pub line_count : List ℕ → ℕ
line_count [] = 0
line_count (byte ∷ bytes) = if byte == 10 then suc (line_count bytes) else line_count bytes

abbrev pub events_in : (trace : List ℕ) → RunEnd → ℕ
events_in trace (ends.Stopped fault) = line_count trace
events_in trace end = line_count trace - 1

-- the rows are of the events from this one on, one after another
abbrev pub AreNumbered : (event : ℕ) → List Row → Type 0
AreNumbered event [] = Unit {0}
AreNumbered event (row ∷ rows) = (row.event ≡ event) × AreNumbered (suc event) rows

-- a row for each of so many events
pub record AreRows (g : Graph) (desc : CardDesc) (image : List ℕ) (input : List Block) (events : ℕ) (rows : List Row)
    : Type 0 where
  pub numbered : AreNumbered 0 rows
  pub count : length rows ≡ events
  pub each : All (IsRow g desc image input) rows

-- The script ran beside the card without a mishap, and then with each one at each event of that run.
pub record IsSweep (text card image : List ℕ) (input : List Block) (s : SweepTable) : Type 0 where
  pub graph : Graph
  pub of_text : IsGraphOfText text graph
  pub desc : CardDesc
  pub described : Describes card desc
  pub trace : List ℕ
  pub plain : RunsTo graph desc image input [] (Some []) (Some trace) s.plain
  pub rows : AreRows graph desc image input (events_in trace s.plain) s.rows.items

-- WHY NO RUN WAS MADE

-- the bytes are no whole number of blocks; want of memory says nothing
abbrev pub IsNoImage : (bytes : List ℕ) → TryFault → Type 0
IsNoImage bytes (Card fault) = (length bytes % 512 ≢ 0) × (fault ≡ ImageLength)
IsNoImage bytes Memory = Unit {0}
IsNoImage bytes fault = ⊥

-- an image in memory is never read in vain
abbrev pub NoEnd : Graph → CardDesc → (image codes : List ℕ) → TryFault → Type 0
NoEnd g desc image codes fault = IsNoImage image fault ⊎ NotTried g desc codes (length image / 512) ⊥ fault

abbrev pub NotSwept : (text card image : List ℕ) → TryFault → Type 0
NotSwept text card image fault = IsNoImage image fault ⊎ TryRefuses text card [] (length image / 512) ⊥ fault
