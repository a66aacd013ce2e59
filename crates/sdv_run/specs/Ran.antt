-- A RUN of a graph over a port: which events there were, what was given, written and printed, and why the run stopped
-- where it did.
use Rattle.std.specs.Prelude.{◌≡◌, ◌<◌, ◌≤◌, ◌^◌, ◌⊎◌, ◌++◌, ◌∷◌, [], ℕ, List, length, Option, Result, MatchResult, false}
use Rattle.std.specs.List.{concat}
use Rattle.std.specs.Io.KnownBytes.{Appends}
use Rattle.sdv_registers.specs.declared.kind.Kind.{Kind}
use Rattle.sdv_card.specs.declared.event.Ask.{Ask}
use Rattle.sdv_card.specs.declared.answer.Answer.{Answer}
use Rattle.sdv_card.specs.declared.answer.DataEnd.{DataEnd}
use Rattle.sdv_card.specs.declared.answer.DataEnd.TheVariants as ends
use Rattle.sdv_card.specs.declared.state.Width.{Width}
use Rattle.sdv_card.specs.Card.{Block}
use Rattle.sdv_card.specs.ScriptEvent.{ScriptEvent, SendCommand, ReceiveBlocks, GiveBlocks, Return, Answered, BlocksIn, BlocksOut}
use Rattle.sdv_graph.specs.Tree.{Statements, Declared}
use Rattle.sdv_graph.specs.Walk.{Pair, Ending, Open, Walk, given}
use Rattle.sdv_graph.specs.Path.{Path}
use Rattle.sdv_graph.specs.Graph.{Graph, begin}
use Rattle.sdv_graph.specs.GraphOf.{IsGraphOf}
use Rattle.sdv_trace.specs.declared.end.End.{End}
use Rattle.sdv_run.specs.declared.fault.RunFault.{RunFault}
use Rattle.sdv_run.specs.declared.fault.RunFault.TheVariants.{Reply, Input, Output, Trace, Memory}
use Rattle.sdv_trace.specs.Trace.{line_of, lines, end_line}
use Rattle.sdv_run.specs.Answers.{is_taken}
use Rattle.sdv_run.specs.Run.{Steps, RunMoved, received, ending_of}
use Rattle.sdv_run.specs.Step.{World}

-- THE EVENTS OF A RUN, each with what it returned

-- They are what was done at the port, call by call and nothing else, and each `give` took the next blocks of the input.
pub record Happened {S : Type 0} (k : Kind) (steps : Steps S) (es : List Pair) (w w' : World S) : Type 0 where
  pub port : RunMoved k steps w.port es w'.port
  pub input : w.input ≡ given es ++ w'.input

-- They are a path of the graph, and so a walk of its script, which ends so.
pub record IsWalk (g : Graph) (last : Ending) (es : List Pair) : Type 0 where
  pub path : Path g.kind g.points last (begin g) es
  pub walk : (names : Declared) (script : Statements) (begin_lines : List ℕ) → IsGraphOf names script begin_lines g
      → Walk names.kind names script last es

-- Their blocks were written, and their lines were printed.
pub record Written {S : Type 0} (es : List Pair) (w w' : World S) : Type 0 where
  pub output : Appends w.out w'.out (received es)
  pub trace : Appends w.trace w'.trace (lines es)

-- A RUN THAT ENDED: its events are a whole walk, and all of it was written and printed, with the last line.
pub record Ended {S : Type 0} (steps : Steps S) (g : Graph) (end : End) (w w' : World S) : Type 0 where
  pub events : List Pair
  pub happened : Happened g.kind steps events w w'
  pub walk : IsWalk g (ending_of end) events
  pub output : Appends w.out w'.out (received events)
  pub trace : Appends w.trace w'.trace (lines events ++ end_line end)

-- WHY A RUN STOPPED BEFORE ITS END

-- known bytes grow by a text and then by a front of another one, and not by all of it
abbrev pub BreaksOff : Option (List ℕ) → Option (List ℕ) → (whole text : List ℕ) → Type 0
BreaksOff old new whole text =
    (front back : List ℕ) × (text ≡ front ++ back) × (0 < length back) × Appends old new (whole ++ front)

-- REPLY: the answer to the last command is none that a run goes on with. All events before it were printed.
pub record AnswerIsRefused {S : Type 0} (k : Kind) (es : List Pair) (w w' : World S) : Type 0 where
  pub earlier : List Pair
  pub ask : Ask
  pub position : ℕ
  pub argument : ℕ
  pub answer : Answer
  pub last : es ≡ earlier ++ (SendCommand ask position argument, Answered answer) ∷ []
  pub refused : is_taken k ask answer ≡ false
  pub written : Written earlier w w'

-- or the next event is a command whose argument has more than 32 bits, and it was not sent
pub record ArgumentIsTooWide {S : Type 0} (g : Graph) (es : List Pair) (w w' : World S) : Type 0 where
  pub ask : Ask
  pub position : ℕ
  pub argument : ℕ
  pub wide : 2 ^ 32 ≤ argument
  pub next : (answer : Answer) →
      Path g.kind g.points Open (begin g) (es ++ (SendCommand ask position argument, Answered answer) ∷ [])
  pub written : Written es w w'

-- INPUT: the next event gives more blocks than are left of the input, and none was given.
pub record InputIsShort {S : Type 0} (g : Graph) (es : List Pair) (w w' : World S) : Type 0 where
  pub width : Width
  pub count : ℕ
  pub short : length w'.input < count
  pub next : (blocks : List Block) → length blocks ≡ count → (end : DataEnd) →
      Path g.kind g.points Open (begin g) (es ++ (GiveBlocks width blocks, BlocksOut end) ∷ [])
  pub written : Written es w w'

-- OUTPUT: the output did not take all blocks of the last event, a phase that ended well and was not printed.
pub record OutputBrokeOff {S : Type 0} (es : List Pair) (w w' : World S) : Type 0 where
  pub earlier : List Pair
  pub width : Width
  pub blocks : List Block
  pub last : es ≡ earlier ++ (ReceiveBlocks width (length blocks), BlocksIn ends.Ok blocks) ∷ []
  pub output : BreaksOff w.out w'.out (received earlier) (concat blocks)
  pub trace : Appends w.trace w'.trace (lines earlier)

-- TRACE: the trace did not take all of the line of the last event, whose blocks were written,
pub record LineBrokeOff {S : Type 0} (es : List Pair) (w w' : World S) : Type 0 where
  pub earlier : List Pair
  pub event : ScriptEvent
  pub returned : Return
  pub last : es ≡ earlier ++ (event, returned) ∷ []
  pub output : Appends w.out w'.out (received es)
  pub trace : BreaksOff w.trace w'.trace (lines earlier) (line_of event returned)

-- or of the last line of a run that had come to its end
pub record LastLineBrokeOff {S : Type 0} (g : Graph) (es : List Pair) (w w' : World S) : Type 0 where
  pub end : End
  pub walk : IsWalk g (ending_of end) es
  pub output : Appends w.out w'.out (received es)
  pub trace : BreaksOff w.trace w'.trace (lines es) (end_line end)

-- MEMORY: nothing was done, and nothing written.
pub record NothingHappened {S : Type 0} (es : List Pair) (w w' : World S) : Type 0 where
  pub none : es ≡ []
  pub same : w' ≡ w

abbrev pub Because : {S : Type 0} → RunFault → Graph → List Pair → (w w' : World S) → Type 0
Because Reply g es w w' = AnswerIsRefused g.kind es w w' ⊎ ArgumentIsTooWide g es w w'
Because Input g es w w' = InputIsShort g es w w'
Because Output g es w w' = OutputBrokeOff es w w'
Because Trace g es w w' = LineBrokeOff es w w' ⊎ LastLineBrokeOff g es w w'
Because Memory g es w w' = NothingHappened es w w'

-- A RUN THAT STOPPED: its events are an open walk.
pub record Stopped {S : Type 0} (steps : Steps S) (g : Graph) (fault : RunFault) (w w' : World S) : Type 0 where
  pub events : List Pair
  pub happened : Happened g.kind steps events w w'
  pub walk : IsWalk g Open events
  pub because : Because fault g events w w'

-- A RUN
abbrev pub Ran : {S : Type 0} → Steps S → Graph → (w w' : World S) → Result End RunFault → Type 0
Ran steps g w w' result = MatchResult result (λ end. Ended steps g end w w') (λ fault. Stopped steps g fault w w')
