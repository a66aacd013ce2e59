-- A run as a STEP MACHINE: it is asked for its next event, and told what that returned.
use Rattle.std.specs.Prelude.{◌≡◌, ◌+◌, ◌≤◌, ◌⊎◌, ℕ, zero, suc, List, [], ◌∷◌, ◌++◌, Some, Result, Ok, Err, slice_get}
use Rattle.sdv_card.specs.Card.{Block}
use Rattle.sdv_card.specs.ScriptEvent.{ScriptEvent, Return}
use Rattle.sdv_graph.specs.Walk.{Pair, Ending}
use Rattle.sdv_graph.specs.Path.{Point, Stand, Move, Goes, Does, Halts, Path, move_from}
use Rattle.sdv_graph.specs.Graph.{Graph, Lasts, begin}
use Rattle.sdv_graph.specs.GraphOf.{IsSound}
use Rattle.sdv_graph.specs.Nested.{InBox}
use Rattle.sdv_run.specs.declared.fault.RunFault.{RunFault}
use Rattle.sdv_run.specs.declared.next_event.NextEvent.{NextEvent}
use Rattle.sdv_run.specs.declared.next_event.NextEvent.TheVariants as events
use Rattle.sdv_run.specs.declared.next_event.Next.{Next}
use Rattle.sdv_run.specs.declared.next_event.Next.TheVariants as nexts
use Rattle.sdv_run.specs.declared.returned.Returned.{Returned}
use Rattle.sdv_run.specs.Run.{ending_of}
use Rattle.sdv_run.specs.Asks.{AsksFor, CanPerform}
use Rattle.sdv_run.specs.Takes.{Told, Took}
use Rattle.sdv_run.specs.Ran.{IsWalk}
use Rattle.sdv_trace.specs.declared.end.End.{End}

-- a run of a graph: where it stands, and how many moves it makes at most from there
pub record Machine : Type 0 where
  pub graph : Graph
  pub stand : Stand
  pub left : ℕ

-- what happens where it stands
abbrev pub now : Machine → Move
now m = move_from m.graph.kind m.graph.points m.stand

-- it can go on
pub record CanGoOn (m : Machine) : Type 0 where
  pub sound : IsSound m.graph
  pub lasts : Lasts m.graph.kind m.graph.points m.left m.stand
  -- the turns left are those that the point can have
  pub sits : (p : Point) → slice_get m.graph.points m.stand.point ≡ Some p → InBox m.stand.turns p.most

-- ASKED

-- so many moves without an event lead from one place to another
abbrev pub PassesBy : Graph → ℕ → (s s' : Stand) → Type 0
PassesBy f zero s s' = s' ≡ s
PassesBy f (suc n) s s' =
    (between : Stand) × PassesBy f n s between × (move_from f.kind f.points between ≡ Goes s')

-- these events, each with what it returned, lead from one place to another: what a run does from there comes after them
abbrev pub LeadsBy : Graph → Stand → List Pair → Stand → Type 0
LeadsBy f s es s' =
    (e : Ending) (rest : List Pair) → Path f.kind f.points e s' rest → Path f.kind f.points e s (es ++ rest)

-- the machine went on without an event
pub record Came (m m' : Machine) : Type 0 where
  pub same : m'.graph ≡ m.graph
  pub moves : ℕ
  pub counted : m.left ≡ moves + m'.left
  pub passed : PassesBy m.graph moves m.stand m'.stand
  pub leads : LeadsBy m.graph m.stand [] m'.stand

-- it stands at its next event, at the end of the run, or at a command that cannot be sent
abbrev pub Asked : Machine → Result Next RunFault → Type 0
Asked m (Ok (nexts.Event event)) = AsksFor (now m) (Ok (Some event))
Asked m (Ok (nexts.End end)) = now m ≡ Halts (ending_of end)
Asked m (Err fault) = AsksFor (now m) (Err fault)

-- the event can be made by a host that has room for the blocks that it receives
abbrev pub received_blocks : NextEvent → ℕ
received_blocks (events.ReceiveBlocks lines count) = count
received_blocks event = 0

abbrev pub IsPerformable : Result Next RunFault → Type 0
IsPerformable (Ok (nexts.Event event)) = (room : ℕ) → received_blocks event ≤ room → CanPerform event room
IsPerformable result = Unit {0}

-- TOLD

-- the event of a move, and what it returned
abbrev pub ToldAt : Move → Returned → (held : List Block) → ScriptEvent → Return → Type 0
ToldAt (Does deed before next) returned held event seen = Told deed returned held event seen
ToldAt m returned held event seen = ⊥

-- the machine went on by one event
pub record Went (m : Machine) (returned : Returned) (m' : Machine) : Type 0 where
  pub same : m'.graph ≡ m.graph
  pub counted : m.left ≡ m'.left + 1
  pub took : Took m.graph.kind (now m) returned m'.stand (Ok tt)
  pub leads : (held : List Block) (event : ScriptEvent) (seen : Return) → ToldAt (now m) returned held event seen
      → LeadsBy m.graph m.stand ((event, seen) ∷ []) m'.stand

-- or stands where it stood: at a command that cannot be sent, or with an answer that is refused
abbrev pub TookOn : Machine → Returned → Machine → Result (Unit {0}) RunFault → Type 0
TookOn m returned m' (Ok done) = Went m returned m'
TookOn m returned m' (Err fault) =
    (m' ≡ m) × (AsksFor (now m) (Err fault) ⊎ Took m.graph.kind (now m) returned m.stand (Err fault))

-- FROM ITS START

abbrev pub at_start : Graph → Machine
at_start f = record { graph = f; stand = begin f; left = f.steps }

-- it was asked, and told what these events returned, in turn, and was asked once more
abbrev pub Plays : Machine → List Pair → Machine → Type 0
Plays m [] m' = Came m m'
Plays m (p ∷ ps) m' =
    (here next : Machine) × Came m here
    × ((returned : Returned) × (held : List Block) × ToldAt (now here) returned held p.0 p.1 × Went here returned next)
    × Plays next ps m'

-- whatever the events returned: at the end they are a whole walk of the script
abbrev pub PlaysAreWalks : Type 0
PlaysAreWalks = (f : Graph) (es : List Pair) (m : Machine) (end : End) → Plays (at_start f) es m
    → Asked m (Ok (nexts.End end)) → IsWalk f (ending_of end) es
