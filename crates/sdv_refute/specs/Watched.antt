-- A WATCHED RUN of a graph over a port: it ends, or is cut short, as any run, or it stops before what is not allowed at
-- the card that the port shows.
use mathlib.Core.Logic.{inr}
use Rattle.std.specs.Prelude.{◌≡◌, ◌≢◌, ◌++◌, ◌⊎◌, true, false, ℕ, List, Option, Result, Ok, Err, Some, length}
use Rattle.std.specs.List.{slice_get}
use Rattle.std.specs.Io.KnownBytes.{Appends}
use Rattle.sdv_text.specs.Written.{AppendsPart}
use Rattle.sdv_registers.specs.declared.kind.Kind.{Kind}
use Rattle.sdv_card.specs.Card.{Card, Block}
use Rattle.sdv_card.specs.Code.{code_of}
use Rattle.sdv_card.specs.Port.{Shows}
use Rattle.sdv_card.specs.ScriptEvent.{SendCommand, ReceiveBlocks, ReceiveRegister, GiveBlocks, AwaitReady}
use Rattle.sdv_graph.specs.Graph.{Graph, begin}
use Rattle.sdv_graph.specs.Path.{Path, Point, Stand}
use Rattle.sdv_graph.specs.Walk.{Pair, Ending, Open}
use Rattle.sdv_script.specs.OneGraph.{IsGraphOfScript}
use Rattle.sdv_script.specs.Script.{Parsed}
use Rattle.sdv_facts.specs.Beside.{EndsWell, IsAllowed}
use Rattle.sdv_trace.specs.declared.end.End.{End}
use Rattle.sdv_run.specs.declared.fault.RunFault.{RunFault}
use Rattle.sdv_run.specs.declared.fault.RunFault.TheVariants.{Reply, Input, Trace}
use Rattle.sdv_run.specs.OnCard.{ShowsStart}
use Rattle.sdv_run.specs.Ran.{Because, BreaksOff, Happened, IsWalk, Ended, Stopped}
use Rattle.sdv_run.specs.Run.{Steps, received, ending_of}
use Rattle.sdv_trace.specs.Trace.{lines}
use Rattle.sdv_run.specs.Step.{World}
use Rattle.sdv_refute.specs.declared.next.Next.{Next}
use Rattle.sdv_refute.specs.declared.next.Next.TheVariants.{Send, Receive, ReceiveRegister as Register, Give, Wait, Done}
use Rattle.sdv_refute.specs.declared.wrong.Watched.{Watched}
use Rattle.sdv_refute.specs.declared.wrong.Watched.TheVariants as comes
use Rattle.sdv_refute.specs.declared.wrong.Wrong.{Wrong}
use Rattle.sdv_refute.specs.Allows.{allows, allows_next}
use Rattle.sdv_refute.specs.Next.{next_of}
use Rattle.sdv_refute.specs.Refutes.{AllowedStepsOf, Coming, an_event, the_end, Refutes}
use Rattle.sdv_refute.specs.Sight.{fields_seen, sight_of}
use Rattle.sdv_refute.specs.WrongLine.{wrong_line}

-- what comes next is of this kind, with these numbers
abbrev pub Names : Next → Coming → Type 0
Names (Send ask position argument) (an_event (SendCommand asked at sent)) =
    (ask ≡ asked) × (position ≡ at) × (argument ≡ sent)
Names (Receive count) (an_event (ReceiveBlocks lines blocks)) = count ≡ blocks
Names (Register count) (an_event (ReceiveRegister lines bytes)) = count ≡ bytes
Names (Give count) (an_event (GiveBlocks lines blocks)) = count ≡ length blocks
Names Wait (an_event AwaitReady) = Unit {0}
Names Done the_end = Unit {0}
Names next coming = ⊥

-- these events lead there: what a run does from there on is what it does after them
pub record LeadsTo (g : Graph) (es : List Pair) (point : ℕ) : Type 0 where
  pub stand : Stand
  pub at : stand.point ≡ point
  pub onward : (e : Ending) (rest : List Pair) → Path g.kind g.points e stand rest
      → Path g.kind g.points e (begin g) (es ++ rest)

-- AT A POINT

-- what comes next is allowed at each card that the port shows
abbrev pub IsAllowedAt : {S : Type 0} → (S → Option Card) → Kind → Stand → S → Point → Type 0
IsAllowedAt card k s port p = (c : Card) → Shows card port c →
    allows_next k s.host (sight_of c) (next_of k p.action s.host) ≡ true

-- what comes next is not allowed at the card that is seen, which is that of the port
pub record IsWrongHere {S : Type 0} (card : S → Option Card) (lines : List ℕ) (k : Kind) (s : Stand) (port : S)
    (p : Point) (wrong : Wrong) : Type 0 where
  pub kind : wrong.kind ≡ k
  pub at : s.point ≡ wrong.point
  pub line : slice_get lines wrong.point ≡ Some wrong.line
  pub next : next_of k p.action s.host ≡ Some wrong.next
  pub seen : (c : Card) → Shows card port c → wrong.sight ≡ sight_of c
  pub not_allowed : allows k s.host wrong.sight wrong.next ≡ false
  pub shape : wrong.shape.0 ≡ code_of (fields_seen wrong.sight s.host)

-- the last line was printed, or not all of it
abbrev pub StopsWith : (t t' : Option (List ℕ)) → Wrong → Result Watched RunFault → Type 0
StopsWith t t' wrong (Ok watched) = (watched ≡ comes.Stopped wrong) × Appends t t' (wrong_line wrong.next)
StopsWith t t' wrong (Err fault) = (fault ≡ Trace) × AppendsPart t t' (wrong_line wrong.next)

-- THE RUN THAT STOPPED before what is not allowed: its events were made, and led to the point.
pub record Halted {S : Type 0} (steps : Steps S) (g : Graph) (point : ℕ) (w w' : World S) : Type 0 where
  pub events : List Pair
  pub happened : Happened g.kind steps events w w'
  pub walk : IsWalk g Open events
  pub leads : LeadsTo g events point
  pub output : Appends w.out w'.out (received events)

-- its events refute each script of the graph, by what comes next at the card that is seen
pub record RefutesGraph (g : Graph) (c : Card) (es : List Pair) (wrong : Wrong) : Type 0 where
  pub coming : Coming
  pub named : Names wrong.next coming
  pub refutes : (s : Parsed) → IsGraphOfScript s g → (r : Refutes s c es coming) × (wrong.sight ≡ sight_of r.last)

-- It stands at a statement whose event, or `done`, is not allowed at what is seen. Beside a card, that refutes scripts.
pub record StandsBefore {S : Type 0} (steps : Steps S) (card : S → Option Card) (g : Graph) (wrong : Wrong)
    (w w' : World S) : Type 0 where
  pub halted : Halted steps g wrong.point w w'
  pub kind : wrong.kind ≡ g.kind
  pub here : Point
  pub at : slice_get g.points wrong.point ≡ Some here
  pub line : slice_get g.lines wrong.point ≡ Some wrong.line
  pub next : next_of g.kind here.action halted.leads.stand.host ≡ Some wrong.next
  pub not_allowed : allows g.kind halted.leads.stand.host wrong.sight wrong.next ≡ false
  pub shape : wrong.shape.0 ≡ code_of (fields_seen wrong.sight halted.leads.stand.host)
  pub refutes : (c : Card) → ShowsStart card g.kind false w.port c → RefutesGraph g c halted.events wrong

pub record StopsBefore {S : Type 0} (steps : Steps S) (card : S → Option Card) (g : Graph) (wrong : Wrong)
    (w w' : World S) : Type 0 where
  pub stands : StandsBefore steps card g wrong w w'
  pub trace : Appends w.trace w'.trace (lines stands.halted.events ++ wrong_line wrong.next)

-- THE RUN THAT ENDED: beside a card each event was allowed, and in `done` the card is in the transfer state.
pub record EndsAllowed {S : Type 0} (steps : Steps S) (card : S → Option Card) (g : Graph) (end : End)
    (w w' : World S) : Type 0 where
  pub ran : Ended steps g end w w'
  pub allowed : (c : Card) → ShowsStart card g.kind false w.port c →
      (last : Card) × AllowedStepsOf c ran.events last × EndsWell (ending_of end) last

-- THE RUN THAT WAS CUT SHORT: beside a card each event was allowed, the last one too, and no answer is refused.

-- the blocks that the input does not have were allowed, and so was the end whose line broke off
abbrev pub AllowsNext : {S : Type 0} → (fault : RunFault) → (g : Graph) → (es : List Pair) → (w w' : World S) →
    Because fault g es w w' → (last : Card) → Type 0
AllowsNext Input g es w w' short last =
    (blocks : List Block) → length blocks ≡ short.count → IsAllowed (GiveBlocks short.width blocks) last
AllowsNext Trace g es w w' (inr broken) last = EndsWell (ending_of broken.end) last
AllowsNext fault g es w w' because last = Unit {0}

pub record IsAllowedUntil {S : Type 0} (fault : RunFault) (g : Graph) (es : List Pair) (w w' : World S)
    (because : Because fault g es w w') (c : Card) : Type 0 where
  pub last : Card
  pub steps : AllowedStepsOf c es last
  pub next : AllowsNext fault g es w w' because last
  pub no_reply : fault ≢ Reply

pub record StopsAllowed {S : Type 0} (steps : Steps S) (card : S → Option Card) (g : Graph) (fault : RunFault)
    (w w' : World S) : Type 0 where
  pub ran : Stopped steps g fault w w'
  pub allowed : (c : Card) → ShowsStart card g.kind false w.port c → IsAllowedUntil fault g ran.events w w' ran.because c

-- the trace failed at the last line of a run that stops
pub record WrongLineBrokeOff {S : Type 0} (steps : Steps S) (card : S → Option Card) (g : Graph)
    (w w' : World S) : Type 0 where
  pub wrong : Wrong
  pub stands : StandsBefore steps card g wrong w w'
  pub trace : BreaksOff w.trace w'.trace (lines stands.halted.events) (wrong_line wrong.next)

abbrev pub CutShort : {S : Type 0} → Steps S → (S → Option Card) → Graph → RunFault → (w w' : World S) → Type 0
CutShort steps card g Trace w w' = StopsAllowed steps card g Trace w w' ⊎ WrongLineBrokeOff steps card g w w'
CutShort steps card g fault w w' = StopsAllowed steps card g fault w w'

abbrev pub Watches : {S : Type 0} → Steps S → (S → Option Card) → Graph → (w w' : World S) → Result Watched RunFault →
    Type 0
Watches steps card g w w' (Ok (comes.Ended end)) = EndsAllowed steps card g end w w'
Watches steps card g w w' (Ok (comes.Stopped wrong)) = StopsBefore steps card g wrong w w'
Watches steps card g w w' (Err fault) = CutShort steps card g fault w w'
