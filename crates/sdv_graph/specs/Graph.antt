-- What contracts see of a graph, and what is claimed of it.
use Rattle.std.specs.Prelude.{◌↔◌, Bool, ℕ, zero, suc, List, [], length, map}
use Rattle.sdv_registers.specs.declared.kind.Kind.{Kind}
use Rattle.sdv_card.specs.Host.{Host}
use Rattle.sdv_card.specs.Profile.{host_at_start}
use Rattle.sdv_card.specs.ScriptEvent.{Return}
use Rattle.sdv_graph.specs.declared.graph.Target.{Target}
use Rattle.sdv_graph.specs.declared.graph.Case.{Case as CodeCase}
use Rattle.sdv_graph.specs.declared.graph.Action.{Action as CodeAction}
use Rattle.sdv_graph.specs.declared.graph.Action.TheVariants as actions
use Rattle.sdv_graph.specs.declared.graph.Point.{Point as CodePoint}
use Rattle.std.specs.Borrow.{Bor}
use Rattle.sdv_graph.specs.declared.tree.Names.{Names}
use Rattle.sdv_graph.specs.Tree.{Statements, Declared}
use Rattle.sdv_graph.specs.Walk.{Pair, Ending, Finished, Failed, Walk}
use Rattle.sdv_graph.specs.Path.{Case, Action, Point, Stand, Move, Goes, Does, Halts, sends, phases, lets, tests, flags, widths, heads, jumps, stops, arrive, move_from, Path}

-- a point without where it lies in memory
abbrev pub seen_case : CodeCase → Case
seen_case w = record { guards = w.guards.items; target = w.target }

abbrev pub seen_action : CodeAction → Action
seen_action (actions.Send c cases other) = sends c (map seen_case cases.items) other
seen_action (actions.Phase p well other) = phases p well other
seen_action (actions.Let l t) = lets l t
seen_action (actions.If c holds other) = tests c holds other
seen_action (actions.Flag f on t) = flags f on t
seen_action (actions.Lines width t) = widths width t
seen_action (actions.Loop n body other) = heads n body other
seen_action (actions.Break t) = jumps t
seen_action actions.Done = stops Finished
seen_action (actions.Fault name) = stops (Failed name.now)

abbrev pub seen_point : CodePoint → Point
seen_point p = record { action = seen_action p.action; most = p.most_turns.items }

abbrev pub seen_points : List CodePoint → List Point
seen_points ps = map seen_point ps

abbrev pub texts : List (Bor (List ℕ)) → List (List ℕ)
texts names = map (λ n. n.now) names

-- what a script declares
abbrev pub declared_names : Names → Declared
declared_names names =
    record { kind = names.kind; flags = texts names.flags.items; numbers = texts names.numbers.items }

-- a graph
pub record Graph : Type 0 where
  pub kind : Kind
  -- how many number variables and flags the script has
  pub numbers : ℕ
  pub flags : ℕ
  -- what the script declares
  pub names : Declared
  pub points : List Point
  -- for each point the line of the script's text on which its statement begins, counted from 1
  pub lines : List ℕ
  -- where a run begins
  pub first : Target
  -- no run has more moves
  pub steps : ℕ
  -- the script begins with CMD0
  pub begins : Bool

-- the graph of these parts
abbrev pub graph_with : Declared → List CodePoint → (lines : List ℕ) → Target → (steps : ℕ) → (begins : Bool) → Graph
graph_with names ps lines t m b = record {
  kind = names.kind;
  numbers = length names.numbers;
  flags = length names.flags;
  names = names;
  points = seen_points ps;
  lines = lines;
  first = t;
  steps = m;
  begins = b;
}

abbrev pub begin : Graph → Stand
begin g = arrive g.first [] (host_at_start g.numbers)

-- the walks of the script are the paths of the graph, with the same events and answers and the same end
abbrev pub HasWalks : Declared → Statements → Graph → Type 0
HasWalks names script g = (e : Ending) (es : List Pair)
    → Walk g.kind names script e es ↔ Path g.kind g.points e (begin g) es

-- EVERY RUN ENDS

-- wherever a move leads; no run falls off the script, or leaves a loop that it is not in
abbrev pub WhereverTo : (Stand → Type 0) → Move → Type 0
WhereverTo holds (Goes next) = holds next
WhereverTo holds (Does deed before next) = (returned : Return) (after : Host) → holds (next returned after)
WhereverTo holds (Halts Finished) = Unit {0}
WhereverTo holds (Halts (Failed name)) = Unit {0}
WhereverTo holds (Halts last) = ⊥

-- a run from there has at most n moves, whatever is returned, and ends in `done` or in a fault
abbrev pub Lasts : Kind → List Point → ℕ → Stand → Type 0
Lasts k g zero s = ⊥
Lasts k g (suc n) s = WhereverTo (Lasts k g n) (move_from k g s)

abbrev pub EachRunEnds : Graph → Type 0
EachRunEnds g = Lasts g.kind g.points g.steps (begin g)
