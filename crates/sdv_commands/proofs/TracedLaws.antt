-- A run over a port of lines, move by move: how it goes on, ends, or stops at a move that was cut short.
use Rattle.std.proofs.Common.{◌≡◌, ◌∙◌, ap, inl, inr, refl, subst, sym, ℕ, List, [], ◌∷◌, ◌++◌, Option, Some, None, Result, Ok, Err, IsErrAnd, false}
use Rattle.std.proofs.lemmas.List.{append-nil}
use Rattle.std.specs.Prelude.{slice_get, ◌≤◌, ◌^◌}
use Rattle.std.specs.Io.KnownBytes.{Appends}
use Rattle.sdv_registers.specs.declared.kind.Kind.{Kind}
use Rattle.sdv_card.specs.declared.event.Ask.{Ask}
use Rattle.sdv_card.specs.declared.answer.Answer.{Answer}
use Rattle.sdv_card.specs.Host.{Host, host_after}
use Rattle.sdv_card.specs.Port.{call_of}
use Rattle.sdv_card.specs.ScriptEvent.{SendCommand, ReceiveBlocks, ReceiveRegister, GiveBlocks, AwaitReady, Return, Answered}
use Rattle.sdv_graph.specs.Graph.{Graph, begin}
use Rattle.sdv_graph.specs.Walk.{Open, exactly, giving}
use Rattle.sdv_graph.specs.Path.{Point, Stand, Move, Goes, Does, Halts, Path, action_move, move_from}
use Rattle.sdv_graph.proofs.Paths.{roll}
use Rattle.sdv_text.specs.Written.{AppendsPart}
use Rattle.sdv_trace.specs.declared.end.End.{End}
use Rattle.sdv_trace.specs.Trace.{end_line, lines}
use Rattle.sdv_run.specs.declared.fault.RunFault.{RunFault}
use Rattle.sdv_run.specs.declared.fault.RunFault.TheVariants.{Reply, Input, Output, Trace, Memory}
use Rattle.sdv_run.specs.Answers.{is_taken}
use Rattle.sdv_run.specs.Run.{ending_of, received}
use Rattle.sdv_run.specs.Ran.{Happened, Stopped, Written}
use Rattle.sdv_run.specs.Step.{CutShort, Leads, World}
use Rattle.sdv_run.proofs.Made.{happened_more}
use Rattle.sdv_run.proofs.Runs.{SoFar, finishes, finishes_cut, here_is, is_walk, no_memory, stops}
use Rattle.sdv_lines.specs.Streams.{LineSteps, Streams}
use Rattle.sdv_commands.specs.RefusedAnswers.{RanTraced, SteppedTraced, TracesRefused, refused_at, refused_because}
use Rattle.sdv_commands.proofs.AnnouncingLaws.{takes_none, took_none}

-- A MOVE that was made
pub led : (k : Kind) (m : Move) (w w' : World Streams) (stand : Stand) → SteppedTraced k m w w' stand (Ok None) → Leads k LineSteps m w w' stand
led k m w w' stand s =
    subst (λ t. Leads k LineSteps m w (record w' { trace = t }) stand) (sym (took_none w'.port.fault s.printed w'.trace s.refused)) s.stepped

halted : (k : Kind) (m : Move) (w w' : World Streams) (stand : Stand) (end : End) → SteppedTraced k m w w' stand (Ok (Some end))
    → (m ≡ Halts (ending_of end)) × (w' ≡ w)
halted k m w w' stand end s = (
  s.stepped.0,
  ap (λ t. record w' { trace = t }) (took_none w'.port.fault s.printed w'.trace s.refused) ∙ s.stepped.1,
)

-- THE RUN before its first move
pub no_memory_traced : (g : Graph) (w : World Streams) → RanTraced g w w (Err Memory)
no_memory_traced g w = record { printed = w.trace; ran = no_memory LineSteps g w; refused = takes_none w.port.fault w.trace }

-- by the fault that the run answers
pub by_fault : (g : Graph) (w w' : World Streams) (fault : RunFault) (r : Result End RunFault) → IsErrAnd r (λ f. f ≡ fault)
    → RanTraced g w w' (Err fault) → RanTraced g w w' r
by_fault g w w' fault (Ok end) is ran = absurd is
by_fault g w w' fault (Err f) is ran = subst (λ f. RanTraced g w w' (Err f)) (sym is) ran

module _ (g : Graph) (room : ℕ) (start : World Streams) (n : ℕ) (s : Stand) (w : World Streams) (so : SoFar LineSteps g room start n s w) where
  -- what a run that stops at a move says of its last answer is what the move says of it
  abbrev StopsAs : (fault : RunFault) (m : Move) (w' : World Streams) → CutShort fault g.kind LineSteps m w w' → Type 0
  StopsAs fault m w' cut =
      (x : Stopped LineSteps g fault start w') × (refused_because fault g x.events start w' x.because ≡ refused_at fault g.kind m w w' cut)

  open_here : (at : Stand) → Path g.kind g.points Open at []
  open_here at = roll g.kind g.points Open at [] (inl (refl, refl))

  module _ (w' : World Streams) (ask : Ask) (position argument : ℕ) (before : Host) (next : Return → Host → Stand)
      (at : move_from g.kind g.points s ≡ Does (exactly (SendCommand ask position argument)) before next) where
    -- the command may be answered so next
    comes_next : (answer : Answer) → Path g.kind g.points Open (begin g) (so.events ++ (SendCommand ask position argument, Answered answer) ∷ [])
    comes_next answer =
        so.leads Open ((SendCommand ask position argument, Answered answer) ∷ [])
        (roll g.kind g.points Open s ((SendCommand ask position argument, Answered answer) ∷ []) (inr (rw at (
          SendCommand ask position argument,
          Answered answer,
          [],
          refl,
          tt,
          refl,
          open_here (next (Answered answer) (host_after g.kind (SendCommand ask position argument) (Answered answer) before)),
        ))))

    too_wide : (wide : (2 ^ 32 ≤ argument) × (w' ≡ w)) → StopsAs Reply (Does (exactly (SendCommand ask position argument)) before next) w' (inl wide)
    too_wide wide = (
      record {
        events = so.events;
        happened = subst (λ v. Happened g.kind LineSteps so.events start v) (sym wide.1) so.happened;
        walk = is_walk g Open so.events
            (subst (λ es. Path g.kind g.points Open (begin g) es) (append-nil so.events) (so.leads Open [] (open_here s)));
        because = inr (record {
          ask = ask;
          position = position;
          argument = argument;
          wide = wide.0;
          next = comes_next;
          written = subst (λ v. Written so.events start v) (sym wide.1) so.written;
        });
      },
      refl,
    )

    is_refused : (p : (answer : Answer) × LineSteps w.port (call_of g.kind (SendCommand ask position argument)) (Answered answer) w'.port
        × (is_taken g.kind ask answer ≡ false) × (w' ≡ record w { port = w'.port }))
        → StopsAs Reply (Does (exactly (SendCommand ask position argument)) before next) w' (inr p)
    is_refused p = (
      record {
        events = so.events ++ (SendCommand ask position argument, Answered p.0) ∷ [];
        happened = happened_more g.kind LineSteps so.events ((SendCommand ask position argument, Answered p.0) ∷ []) start w w' so.happened
            (record { port = (w'.port, p.1, refl); input = sym (ap (λ v. v.input) p.3) });
        walk = is_walk g Open (so.events ++ (SendCommand ask position argument, Answered p.0) ∷ []) (comes_next p.0);
        because = inl (record {
          earlier = so.events;
          ask = ask;
          position = position;
          argument = argument;
          answer = p.0;
          last = refl;
          refused = p.2;
          written = record {
            output = subst (λ o. Appends start.out o (received so.events)) (sym (ap (λ v. v.out) p.3)) so.written.output;
            trace = subst (λ t. Appends start.trace t (lines so.events)) (sym (ap (λ v. v.trace) p.3)) so.written.trace;
          };
        });
      },
      refl,
    )

  stops_as : (fault : RunFault) (m : Move) (w' : World Streams) → move_from g.kind g.points s ≡ m → (cut : CutShort fault g.kind LineSteps m w w')
      → StopsAs fault m w' cut
  stops_as Reply (Goes next) w' at cut = absurd cut
  stops_as Reply (Halts last) w' at cut = absurd cut
  stops_as Reply (Does (exactly (SendCommand ask position argument)) before next) w' at (inl wide) =
      too_wide w' ask position argument before next at wide
  stops_as Reply (Does (exactly (SendCommand ask position argument)) before next) w' at (inr p) =
      is_refused w' ask position argument before next at p
  stops_as Reply (Does (exactly (ReceiveBlocks width count)) before next) w' at cut = absurd cut
  stops_as Reply (Does (exactly (ReceiveRegister width count)) before next) w' at cut = absurd cut
  stops_as Reply (Does (exactly (GiveBlocks width blocks)) before next) w' at cut = absurd cut
  stops_as Reply (Does (exactly AwaitReady) before next) w' at cut = absurd cut
  stops_as Reply (Does (giving width count) before next) w' at cut = absurd cut
  stops_as Input m w' at cut = (stops LineSteps g room start Input n s w w' so m at cut, refl)
  stops_as Output m w' at cut = (stops LineSteps g room start Output n s w w' so m at cut, refl)
  stops_as Trace m w' at cut = (stops LineSteps g room start Trace n s w w' so m at cut, refl)
  stops_as Memory m w' at cut = (stops LineSteps g room start Memory n s w w' so m at cut, refl)

  -- AT A POINT, for a host of the same kind
  module _ (k : Kind) (same : k ≡ g.kind) (p : Point) (here : slice_get g.points s.point ≡ Some p) where
    pub stops_traced : (w' : World Streams) (stand : Stand) (fault : RunFault)
        → SteppedTraced k (action_move k p.action s.turns s.host) w w' stand (Err fault) → RanTraced g start w' (Err fault)
    stops_traced w' stand fault traced =
        let m = action_move g.kind p.action s.turns s.host in
        let step : SteppedTraced g.kind m w w' stand (Err fault) =
        subst (λ k. SteppedTraced k (action_move k p.action s.turns s.host) w w' stand (Err fault)) same traced in
        let stop = stops_as fault m (record w' { trace = step.printed }) (here_is LineSteps g room start s p here) step.stepped in
        record {
          printed = step.printed;
          ran = stop.0;
          refused = subst (λ refused. TracesRefused w'.port.fault refused step.printed w'.trace) (sym stop.1) step.refused;
        }

    pub finishes_traced : (w' : World Streams) (stand : Stand) (end : End) (t : Option (List ℕ))
        → SteppedTraced k (action_move k p.action s.turns s.host) w w' stand (Ok (Some end)) → Appends w'.trace t (end_line end)
        → RanTraced g start (record w' { trace = t }) (Ok end)
    finishes_traced w' stand end t traced printed =
        let halts = halted k (action_move k p.action s.turns s.host) w w' stand end traced in
        record {
          printed = t;
          ran = finishes LineSteps g room start n s w so k same p here w' end t halts printed;
          refused = takes_none w'.port.fault t;
        }

    pub finishes_cut_traced : (w' : World Streams) (stand : Stand) (end : End) (t : Option (List ℕ))
        → SteppedTraced k (action_move k p.action s.turns s.host) w w' stand (Ok (Some end)) → AppendsPart w'.trace t (end_line end)
        → RanTraced g start (record w' { trace = t }) (Err Trace)
    finishes_cut_traced w' stand end t traced part =
        let halts = halted k (action_move k p.action s.turns s.host) w w' stand end traced in
        record {
          printed = t;
          ran = finishes_cut LineSteps g room start n s w so k same p here w' end t halts part;
          refused = takes_none w'.port.fault t;
        }
