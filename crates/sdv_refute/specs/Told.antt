-- THE TRACE OF A WATCHED RUN: the lines of its events, and, if the data lines of the host are told, a line wherever they
-- change.
use Rattle.std.specs.Prelude.{◌≡◌, ◌⊎◌, Bool, true, false, ℕ, zero, suc, List, [], ◌∷◌, ◌++◌, codes, decimal, Option, Some, Result, Err, if◌then◌else◌}
use Rattle.std.specs.Io.KnownBytes.{Appends}
use Rattle.sdv_registers.specs.declared.kind.Kind.{Kind}
use Rattle.sdv_card.specs.declared.state.Width.{Width}
use Rattle.sdv_card.specs.Card.{Card}
use Rattle.sdv_card.specs.Host.{host_after}
use Rattle.sdv_card.specs.Modes.{line_count, same_width}
use Rattle.sdv_card.specs.ScriptEvent.{ScriptEvent, Return}
use Rattle.sdv_graph.specs.Graph.{Graph, begin}
use Rattle.sdv_graph.specs.Path.{Stand, Move, Goes, Does, Halts, move_from}
use Rattle.sdv_graph.specs.Walk.{Pair, Open, IsDeed}
use Rattle.sdv_trace.specs.Trace.{line_feed, lines}
use Rattle.sdv_run.specs.declared.fault.RunFault.{RunFault}
use Rattle.sdv_run.specs.declared.fault.RunFault.TheVariants.{Trace, Memory}
use Rattle.sdv_run.specs.OnCard.{ShowsStart}
use Rattle.sdv_run.specs.Ran.{BreaksOff, Happened, IsWalk}
use Rattle.sdv_run.specs.Run.{Steps, received}
use Rattle.sdv_run.specs.Step.{World}
use Rattle.sdv_refute.specs.declared.wrong.Watched.{Watched}
use Rattle.sdv_refute.specs.Refutes.{AllowedStepsOf}
use Rattle.sdv_refute.specs.Watched.{Watches}

-- how many data lines the host uses from here on
abbrev pub lines_line : Width → List ℕ
lines_line width = codes "LINES " ++ (decimal (line_count width) ++ line_feed)

-- a line where they change
abbrev pub change_line : (before now : Width) → List ℕ
change_line before now = if same_width before now then [] else lines_line now

abbrev pub change_told : (telling : Bool) → (before now : Width) → List ℕ
change_told telling before now = if telling then change_line before now else []

-- MOVE BY MOVE

-- a move makes these events, one or none, and leads there
abbrev pub Moves : Kind → Move → List Pair → Stand → Type 0
Moves k (Goes next) es s = (es ≡ []) × (s ≡ next)
Moves k (Does deed before next) es s =
    (event : ScriptEvent) × (returned : Return) × IsDeed deed event × (es ≡ (event, returned) ∷ [])
    × (s ≡ next returned (host_after k event returned before))
Moves k (Halts last) es s = ⊥

-- so many moves from the start make these events, lead there, and are told by this text: behind the line of an event
-- the change of the data lines, if there is one
abbrev pub IsText : Graph → ℕ → Stand → List Pair → (text : List ℕ) → Type 0
IsText g zero s es text = (s ≡ begin g) × (es ≡ []) × (text ≡ [])
IsText g (suc n) s es text =
    (before : Stand) × (earlier last : List Pair) × (told : List ℕ) × IsText g n before earlier told
    × Moves g.kind (move_from g.kind g.points before) last s × (es ≡ earlier ++ last)
    × (text ≡ told ++ (lines last ++ change_line before.host.lines s.host.lines))

-- the text of events that lead there
abbrev pub IsTold : (telling : Bool) → Graph → Stand → List Pair → (text : List ℕ) → Type 0
IsTold false g s es text = text ≡ lines es
IsTold true g s es text = (moves : ℕ) × IsText g moves s es text

-- THE RUN

-- It is a watched run as any, but for the lines that tell the data lines.
pub record Told {S : Type 0} (telling : Bool) (steps : Steps S) (card : S → Option Card) (g : Graph) (w w' : World S)
    (result : Result Watched RunFault) : Type 0 where
  -- the events whose lines were printed, and those that happened
  pub events : List Pair
  pub more : List Pair
  pub happened : Happened g.kind steps (events ++ more) w w'
  -- what was printed
  pub stand : Stand
  pub text : List ℕ
  pub told : IsTold telling g stand events text
  pub last : List ℕ
  pub trace : Appends w.trace w'.trace (text ++ last)
  -- what would have been printed without the data lines
  pub watched : Watches steps card g
      (record w { trace = Some [] }) (record w' { trace = Some (lines events ++ last) }) result
  pub nothing : result ≡ Err Memory → w' ≡ w

-- Or the trace failed at a line that tells the data lines. Beside a card each event was allowed.
pub record ChangeBrokeOff {S : Type 0} (telling : Bool) (steps : Steps S) (card : S → Option Card) (g : Graph)
    (w w' : World S) : Type 0 where
  pub asked : telling ≡ true
  pub events : List Pair
  pub happened : Happened g.kind steps events w w'
  pub walk : IsWalk g Open events
  pub stand : Stand
  pub text : List ℕ
  pub width : Width
  pub told : IsTold telling g stand events (text ++ lines_line width)
  pub output : Appends w.out w'.out (received events)
  pub trace : BreaksOff w.trace w'.trace text (lines_line width)
  pub allowed : (c : Card) → ShowsStart card g.kind false w.port c → (last : Card) × AllowedStepsOf c events last

abbrev pub WatchesAs : {S : Type 0} → (telling : Bool) → Steps S → (S → Option Card) → Graph → (w w' : World S) →
    Result Watched RunFault → Type 0
WatchesAs telling steps card g w w' result =
    Told telling steps card g w w' result ⊎ ((result ≡ Err Trace) × ChangeBrokeOff telling steps card g w w')
