-- Where a run over lines stops at the answer to a command, it has printed no line of that command. The trace then takes the
-- line behind the others, with the answer as the other side gave it.
use Rattle.std.specs.Prelude.{◌≡◌, ℕ, List, Option, Some, None, Result, Ok, Err}
use Rattle.std.specs.Io.KnownBytes.{Appends}
use Rattle.std.proofs.Common.{inl, inr}
use Rattle.sdv_text.specs.Written.{AppendsPart}
use Rattle.sdv_frames.specs.declared.command.Command.{Command}
use Rattle.sdv_registers.specs.declared.kind.Kind.{Kind}
use Rattle.sdv_card.specs.declared.answer.Answer.{Answer}
use Rattle.sdv_card.specs.Port.{command_of}
use Rattle.sdv_card.specs.ScriptEvent.{SendCommand}
use Rattle.sdv_graph.specs.Graph.{Graph}
use Rattle.sdv_graph.specs.Walk.{Pair, exactly}
use Rattle.sdv_graph.specs.Path.{Stand, Move, Does}
use Rattle.sdv_trace.specs.declared.end.End.{End}
use Rattle.sdv_trace.specs.Trace.{command_line}
use Rattle.sdv_run.specs.declared.fault.RunFault.{RunFault}
use Rattle.sdv_run.specs.declared.fault.RunFault.TheVariants.{Reply, Trace}
use Rattle.sdv_run.specs.Ran.{Because, Ran}
use Rattle.sdv_run.specs.Step.{CutShort, Stepped, World}
use Rattle.sdv_lines.specs.declared.fault.PortFault.{PortFault}
use Rattle.sdv_lines.specs.Streams.{LineSteps, Streams}

-- THE COMMAND AND ITS ANSWER, where a run stopped because it does not go on with that answer
abbrev pub refused_because : (fault : RunFault) (g : Graph) (es : List Pair) (w w' : World Streams) →
    Because fault g es w w' → Option (Command × Answer)
refused_because Reply g es w w' (inl refused) = Some (command_of refused.ask refused.argument, refused.answer)
refused_because fault g es w w' because = None

abbrev pub refused_in : (g : Graph) (w w' : World Streams) (result : Result End RunFault) →
    Ran LineSteps g w w' result → Option (Command × Answer)
refused_in g w w' (Ok end) ran = None
refused_in g w w' (Err fault) ran = refused_because fault g ran.events w w' ran.because

-- THE LINE

-- the trace took the line of this command with its answer, if there is one
abbrev pub TracesCommand : Option (Command × Answer) → (trace trace' : Option (List ℕ)) → Type 0
TracesCommand None trace trace' = trace' ≡ trace
TracesCommand (Some (command, answer)) trace trace' = Appends trace trace' (command_line command answer)

-- The same of an answer that was refused. A port that gave up has none, and what it returns is its own word: the trace takes
-- no line of that.
abbrev pub TracesRefused : (fault : Option PortFault) → Option (Command × Answer) →
    (trace trace' : Option (List ℕ)) → Type 0
TracesRefused None refused trace trace' = TracesCommand refused trace trace'
TracesRefused (Some why) refused trace trace' = trace' ≡ trace

-- ONE MOVE of such a run

-- the trace took the line, and the move stays refused; or the trace failed at the line
abbrev pub TracesLine : {A : Type 0} → (line : List ℕ) → (trace trace' : Option (List ℕ)) → Result A RunFault → Type 0
TracesLine line trace trace' (Err Reply) = Appends trace trace' line
TracesLine line trace trace' (Err Trace) = AppendsPart trace trace' line
TracesLine line trace trace' result = ⊥

-- So it is where a move is refused at which a command was answered. Any other comes out as it did, and nothing is traced.
abbrev pub TracesIfRefused : {A : Type 0} → (moved : Result A RunFault) → (answered : Option (Command × Answer)) →
    (trace trace' : Option (List ℕ)) → Result A RunFault → Type 0
TracesIfRefused (Err Reply) (Some (command, answer)) trace trace' result =
    TracesLine (command_line command answer) trace trace' result
TracesIfRefused moved answered trace trace' result = (result ≡ moved) × (trace' ≡ trace)

-- the command whose answer the move refused
abbrev pub refused_at : (fault : RunFault) (k : Kind) (m : Move) (w w' : World Streams) →
    CutShort fault k LineSteps m w w' → Option (Command × Answer)
refused_at Reply k (Does (exactly (SendCommand ask position argument)) before next) w w'
    (inr (answer, made, refused, same)) = Some (command_of ask argument, answer)
refused_at fault k m w w' cut = None

abbrev pub refused_by : (k : Kind) (m : Move) (w w' : World Streams) (stand : Stand)
    (result : Result (Option End) RunFault) → Stepped k LineSteps m w w' stand result → Option (Command × Answer)
refused_by k m w w' stand (Ok end) stepped = None
refused_by k m w w' stand (Err fault) stepped = refused_at fault k m w w' stepped

-- it was made as any, and then the trace took that line
pub record SteppedTraced (k : Kind) (m : Move) (w w' : World Streams) (stand : Stand)
    (result : Result (Option End) RunFault) : Type 0 where
  pub printed : Option (List ℕ)
  pub stepped : Stepped k LineSteps m w (record w' { trace = printed }) stand result
  pub refused : TracesRefused w'.port.fault (refused_by k m w (record w' { trace = printed }) stand result stepped)
      printed w'.trace

-- A RUN: as any, and then the trace took that line
pub record RanTraced (g : Graph) (w w' : World Streams) (result : Result End RunFault) : Type 0 where
  pub printed : Option (List ℕ)
  pub ran : Ran LineSteps g w (record w' { trace = printed }) result
  pub refused : TracesRefused w'.port.fault (refused_in g w (record w' { trace = printed }) result ran) printed w'.trace
