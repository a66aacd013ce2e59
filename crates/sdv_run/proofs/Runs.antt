-- A run, from its start to where it stands, and how it ends or is stopped there.
use Rattle.std.proofs.Common.{◌≡◌, ℕ, ◌-◌, ◌<◌, ◌≤◌, List, [], ◌∷◌, ◌++◌, length, false, Option, Some, refl, sym, ap, ◌∙◌, subst, inl, inr, append_assoc, arith}
use Rattle.std.proofs.lemmas.List.{append-nil}
use Rattle.std.specs.Prelude.{◌^◌, slice_get}
use Rattle.std.specs.List.{concat}
use Rattle.std.specs.Io.KnownBytes.{Appends}
use Rattle.sdv_registers.specs.declared.kind.Kind.{Kind}
use Rattle.sdv_card.specs.declared.event.Ask.{Ask}
use Rattle.sdv_card.specs.declared.answer.Answer.{Answer}
use Rattle.sdv_card.specs.declared.answer.DataEnd.TheVariants as ends
use Rattle.sdv_card.specs.declared.state.Width.{Width}
use Rattle.sdv_card.specs.Modes.{line_count}
use Rattle.sdv_card.specs.Card.{Block}
use Rattle.sdv_card.specs.Host.{Host, host_after}
use Rattle.sdv_card.specs.Port.{DataIn, call_of}
use Rattle.sdv_card.specs.ScriptEvent.{ScriptEvent, SendCommand, ReceiveBlocks, ReceiveRegister, GiveBlocks, AwaitReady, Return, Answered, BlocksIn, BlocksOut, MayReturn}
use Rattle.sdv_graph.specs.Walk.{Pair, Ending, Open, Walk, Deed, exactly, giving, IsDeed, given_by}
use Rattle.sdv_graph.specs.Path.{Point, Stand, Move, Goes, Does, Halts, Follows, Path, action_move, move, move_from}
use Rattle.sdv_graph.specs.Graph.{Graph, Lasts, begin}
use Rattle.sdv_graph.specs.GraphOf.{IsSound}
use Rattle.sdv_graph.proofs.Paths.{roll}
use Rattle.sdv_trace.specs.declared.end.End.{End}
use Rattle.sdv_run.specs.declared.fault.RunFault.{RunFault}
use Rattle.sdv_run.specs.declared.fault.RunFault.TheVariants.{Reply, Input, Output, Trace, Memory}
use Rattle.sdv_run.specs.Announced.{AnnounceAtMost}
use Rattle.sdv_run.specs.Answers.{is_taken}
use Rattle.sdv_text.specs.Written.{AppendsPart}
use Rattle.sdv_trace.specs.Trace.{line_of, lines, end_line}
use Rattle.sdv_run.specs.Run.{Steps, received_by, received, ending_of}
use Rattle.sdv_run.specs.Ran.{Happened, IsWalk, Written, Ended, Stopped}
use Rattle.sdv_run.specs.Step.{World, Leads, CutDeed, CutShort}
use Rattle.sdv_text.proofs.WrittenLaws.{appends_more}
use Rattle.sdv_run.proofs.Known.{breaks_off}
use Rattle.sdv_run.proofs.AtPoints.{Sits, Ready, ready, begins_sitting}
use Rattle.sdv_run.proofs.Announced.{announced_after}
use Rattle.sdv_run.proofs.Made.{received_more, happened_more, written_more, none_happened, none_written, moves, led_to, led_onward}

pub is_walk : (f : Graph) (e : Ending) (es : List Pair) → Path f.kind f.points e (begin f) es → IsWalk f e es
is_walk f e es path = record { path = path; walk = λ names script begin_lines is. subst (λ k. Walk k names script e es) is.kind_same ((is.walks e es).1 path) }

-- a path may stop anywhere
open_here : (k : Kind) (g : List Point) (s : Stand) → Path k g Open s []
open_here k g s = roll k g Open s [] (inl (refl, refl))

module _ {S : Type 0} (steps : Steps S) (f : Graph) (room : ℕ) (start : World S) where
  -- a run from its start to where it stands, which has at most n moves more
  pub record SoFar (n : ℕ) (s : Stand) (w : World S) : Type 0 where
    pub events : List Pair
    pub happened : Happened f.kind steps events start w
    pub written : Written events start w
    pub leads : (e : Ending) (rest : List Pair) → Path f.kind f.points e s rest → Path f.kind f.points e (begin f) (events ++ rest)
    pub lasts : Lasts f.kind f.points n s
    pub sits : Sits f.kind f.points s
    pub in_room : s.host.announced ≤ room

  pub begins : IsSound f → SoFar f.steps (begin f) start
  begins sound = record {
    events = [];
    happened = none_happened f.kind steps start;
    written = none_written f.kind steps start;
    leads = λ e rest path. path;
    lasts = sound.ends;
    sits = begins_sitting f sound;
    in_room = omega arith;
  }

  pub begins_at : (n : ℕ) (s : Stand) → IsSound f → n ≡ f.steps → s ≡ begin f → SoFar n s start
  begins_at n s sound same_steps same_stand =
      subst (λ n. SoFar n s start) (sym same_steps) (subst (λ s. SoFar f.steps s start) (sym same_stand) (begins sound))

  -- a path on from where the run stands is one from its start
  onward : (n : ℕ) (s : Stand) (w : World S) (so : SoFar n s w) (m : Move) (e : Ending) (rest : List Pair) → move_from f.kind f.points s ≡ m →
      Follows f.kind e (Path f.kind f.points e) m rest → Path f.kind f.points e (begin f) (so.events ++ rest)
  onward n s w so m e rest at follows =
      so.leads e rest (roll f.kind f.points e s rest (inr (subst (λ m. Follows f.kind e (Path f.kind f.points e) m rest) (sym at) follows)))

  -- it is an open walk
  stopped_here : (n : ℕ) (s : Stand) (w : World S) (so : SoFar n s w) → IsWalk f Open so.events
  stopped_here n s w so =
      is_walk f Open so.events (subst (λ es. Path f.kind f.points Open (begin f) es) (append-nil so.events) (so.leads Open [] (open_here f.kind f.points s)))

  pub here_is : (s : Stand) (p : Point) → slice_get f.points s.point ≡ Some p → move_from f.kind f.points s ≡ action_move f.kind p.action s.turns s.host
  here_is s p here = ap (λ o. move f.kind o s.turns s.host) here

  pub goes_on : (n : ℕ) (s s' : Stand) (w w' : World S) (p : Point) → IsSound f → AnnounceAtMost f.points room → slice_get f.points s.point ≡ Some p →
      SoFar n s w → Leads f.kind steps (action_move f.kind p.action s.turns s.host) w w' s' → SoFar (n - 1) s' w'
  goes_on n s s' w w' p sound few here so leads =
      let k = f.kind in
      let m = action_move k p.action s.turns s.host in
      let now = ready f n s p sound so.lasts so.sits here in
      let made = moves k steps f.points m w w' s' leads in
      record {
        events = so.events ++ made.events;
        happened = happened_more k steps so.events made.events start w w' so.happened made.happened;
        written = written_more k steps so.events made.events start w w' so.written made.written;
        leads = λ e rest path. subst (λ es. Path k f.points e (begin f) es) (sym (append_assoc so.events made.events rest))
            (onward n s w so m e (made.events ++ rest) (here_is s p here) (made.leads e rest path));
        lasts = led_to k steps (Lasts k f.points (n - 1)) m w w' s' now.lasts leads;
        sits = led_onward k steps (Sits k f.points) m w w' s' now.sits leads;
        in_room = announced_after k steps room p.action s.turns s.host (few s.point p here) so.in_room w w' s' leads;
      }

  -- THE END

  whole_walk : (n : ℕ) (s : Stand) (w : World S) (so : SoFar n s w) (last : Ending) → move_from f.kind f.points s ≡ Halts last → IsWalk f last so.events
  whole_walk n s w so last at =
      is_walk f last so.events
      (subst (λ es. Path f.kind f.points last (begin f) es) (append-nil so.events) (onward n s w so (Halts last) last [] at (refl, refl)))

  pub ends_well : (n : ℕ) (s : Stand) (w : World S) (end : End) (t : Option (List ℕ)) → SoFar n s w → move_from f.kind f.points s ≡ Halts (ending_of end) →
      Appends w.trace t (end_line end) → Ended steps f end start (record { port = w.port; input = w.input; out = w.out; trace = t })
  ends_well n s w end t so at printed = record {
    events = so.events;
    happened = record { port = so.happened.port; input = so.happened.input };
    walk = whole_walk n s w so (ending_of end) at;
    output = so.written.output;
    trace = appends_more start.trace w.trace t (lines so.events) (end_line end) so.written.trace printed;
  }

  pub ends_cut : (n : ℕ) (s : Stand) (w : World S) (end : End) (t : Option (List ℕ)) → SoFar n s w → move_from f.kind f.points s ≡ Halts (ending_of end) →
      AppendsPart w.trace t (end_line end) → Stopped steps f Trace start (record { port = w.port; input = w.input; out = w.out; trace = t })
  ends_cut n s w end t so at part = record {
    events = so.events;
    happened = record { port = so.happened.port; input = so.happened.input };
    walk = stopped_here n s w so;
    because = inr (record {
      end = end;
      walk = whole_walk n s w so (ending_of end) at;
      output = so.written.output;
      trace = breaks_off start.trace w.trace t (lines so.events) (end_line end) so.written.trace part;
    });
  }

  -- STOPPED BEFORE THE END

  module _ (n : ℕ) (s : Stand) (w w' : World S) (so : SoFar n s w) (deed : Deed) (before : Host) (next : Return → Host → Stand)
      (at : move_from f.kind f.points s ≡ Does deed before next) where
    -- the event may come next
    comes_next : (event : ScriptEvent) (returned : Return) → IsDeed deed event → MayReturn event returned →
        Path f.kind f.points Open (begin f) (so.events ++ (event, returned) ∷ [])
    comes_next event returned is may =
        onward n s w so (Does deed before next) Open ((event, returned) ∷ []) at
        (event, returned, [], is, may, refl, open_here f.kind f.points (next returned (host_after f.kind event returned before)))

    came : (event : ScriptEvent) (returned : Return) → IsDeed deed event → MayReturn event returned → IsWalk f Open (so.events ++ (event, returned) ∷ [])
    came event returned is may = is_walk f Open (so.events ++ (event, returned) ∷ []) (comes_next event returned is may)

    -- one more event happened
    one_more : (event : ScriptEvent) (returned : Return) → steps w.port (call_of f.kind event) returned w'.port → w.input ≡ given_by event ++ w'.input →
        Happened f.kind steps (so.events ++ (event, returned) ∷ []) start w'
    one_more event returned step input =
        happened_more f.kind steps so.events ((event, returned) ∷ []) start w w' so.happened
        (record { port = (w'.port, step, refl); input = input ∙ ap (λ l. l ++ w'.input) (sym (append-nil (given_by event))) })

    too_wide : (ask : Ask) (position argument : ℕ) → IsDeed deed (SendCommand ask position argument) → (2 ^ 32 ≤ argument) × (w' ≡ w) →
        Stopped steps f Reply start w'
    too_wide ask position argument is p = record {
      events = so.events;
      happened = subst (λ w. Happened f.kind steps so.events start w) (sym p.1) so.happened;
      walk = stopped_here n s w so;
      because = inr (record {
        ask = ask;
        position = position;
        argument = argument;
        wide = p.0;
        next = λ answer. comes_next (SendCommand ask position argument) (Answered answer) is tt;
        written = subst (λ w. Written so.events start w) (sym p.1) so.written;
      });
    }

    is_refused : (ask : Ask) (position argument : ℕ) → IsDeed deed (SendCommand ask position argument) →
        (answer : Answer) × steps w.port (call_of f.kind (SendCommand ask position argument)) (Answered answer) w'.port × (is_taken f.kind ask answer ≡ false)
        × (w' ≡ record w { port = w'.port }) → Stopped steps f Reply start w'
    is_refused ask position argument is p = record {
      events = so.events ++ (SendCommand ask position argument, Answered p.0) ∷ [];
      happened = one_more (SendCommand ask position argument) (Answered p.0) p.1 (sym (ap (λ w. w.input) p.3));
      walk = came (SendCommand ask position argument) (Answered p.0) is tt;
      because = inl (record {
        earlier = so.events;
        ask = ask;
        position = position;
        argument = argument;
        answer = p.0;
        last = refl;
        refused = p.2;
        written = record {
          output = subst (λ o. Appends start.out o (received so.events)) (sym (ap (λ w. w.out) p.3)) so.written.output;
          trace = subst (λ t. Appends start.trace t (lines so.events)) (sym (ap (λ w. w.trace) p.3)) so.written.trace;
        };
      });
    }

    too_short : (width : Width) (count : ℕ) → ((blocks : List Block) → length blocks ≡ count → IsDeed deed (GiveBlocks width blocks)) → (length w.input < count) × (w' ≡ w) → Stopped steps f Input start w'
    too_short width count is p = record {
      events = so.events;
      happened = subst (λ w. Happened f.kind steps so.events start w) (sym p.1) so.happened;
      walk = stopped_here n s w so;
      because = record {
        width = width;
        count = count;
        short = subst (λ w. length w.input < count) (sym p.1) p.0;
        next = λ blocks len end. comes_next (GiveBlocks width blocks) (BlocksOut end) (is blocks len) tt;
        written = subst (λ w. Written so.events start w) (sym p.1) so.written;
      };
    }

    output_fails : (width : Width) (count : ℕ) → IsDeed deed (ReceiveBlocks width count) → (blocks : List Block) × (length blocks ≡ count) × steps w.port (call_of f.kind (ReceiveBlocks width count)) (BlocksIn ends.Ok blocks) w'.port × AppendsPart w.out w'.out (concat blocks) × (w' ≡ record w { port = w'.port; out = w'.out }) → Stopped steps f Output start w'
    output_fails width count is p =
        let blocks = p.0 in
        let event = ReceiveBlocks width (length blocks) in
        let step = subst (λ n. steps w.port (DataIn (line_count width) n) (BlocksIn ends.Ok blocks) w'.port) (sym p.1) p.2 in
        record {
          events = so.events ++ (event, BlocksIn ends.Ok blocks) ∷ [];
          happened = one_more event (BlocksIn ends.Ok blocks) step (sym (ap (λ w. w.input) p.4));
          walk = came event (BlocksIn ends.Ok blocks) (subst (λ n. IsDeed deed (ReceiveBlocks width n)) (sym p.1) is) refl;
          because = record {
            earlier = so.events;
            width = width;
            blocks = blocks;
            last = refl;
            output = breaks_off start.out w.out w'.out (received so.events) (concat blocks) so.written.output p.3;
            trace = subst (λ t. Appends start.trace t (lines so.events)) (sym (ap (λ w. w.trace) p.4)) so.written.trace;
          };
        }

    trace_fails : (event : ScriptEvent) × (returned : Return) × IsDeed deed event × MayReturn event returned
        × steps w.port (call_of f.kind event) returned w'.port × (w.input ≡ given_by event ++ w'.input) × Appends w.out w'.out (received_by returned)
        × AppendsPart w.trace w'.trace (line_of event returned) → Stopped steps f Trace start w'
    trace_fails p =
        let event = p.0 in
        let returned = p.1 in
        let blocks = subst (λ l. Appends w.out w'.out l) (sym (append-nil (received_by returned))) p.6 in
        record {
          events = so.events ++ (event, returned) ∷ [];
          happened = one_more event returned p.4 p.5;
          walk = came event returned p.2 p.3;
          because = inl (record {
            earlier = so.events;
            event = event;
            returned = returned;
            last = refl;
            output = subst (λ l. Appends start.out w'.out l) (sym (received_more so.events ((event, returned) ∷ [])))
                (appends_more start.out w.out w'.out (received so.events) (received ((event, returned) ∷ [])) so.written.output blocks);
            trace = breaks_off start.trace w.trace w'.trace (lines so.events) (line_of event returned) so.written.trace p.7;
          });
        }

  either_reply : (n : ℕ) (s : Stand) (w w' : World S) (so : SoFar n s w) (ask : Ask) (position argument : ℕ) (before : Host) (next : Return → Host → Stand)
      (at : move_from f.kind f.points s ≡ Does (exactly (SendCommand ask position argument)) before next) →
      CutDeed Reply f.kind steps (exactly (SendCommand ask position argument)) w w' → Stopped steps f Reply start w'
  either_reply n s w w' so ask position argument before next at (inl p) =
      too_wide n s w w' so (exactly (SendCommand ask position argument)) before next at ask position argument refl p
  either_reply n s w w' so ask position argument before next at (inr p) =
      is_refused n s w w' so (exactly (SendCommand ask position argument)) before next at ask position argument refl p

  -- a move that was cut short
  pub stops : (fault : RunFault) (n : ℕ) (s : Stand) (w w' : World S) (so : SoFar n s w) (m : Move) → move_from f.kind f.points s ≡ m →
      CutShort fault f.kind steps m w w' → Stopped steps f fault start w'
  stops fault n s w w' so (Goes next) at p = absurd p
  stops fault n s w w' so (Halts last) at p = absurd p
  stops Reply n s w w' so (Does (exactly (SendCommand ask position argument)) before next) at p =
      either_reply n s w w' so ask position argument before next at p
  stops Reply n s w w' so (Does (exactly (ReceiveBlocks width count)) before next) at p = absurd p
  stops Reply n s w w' so (Does (exactly (ReceiveRegister width count)) before next) at p = absurd p
  stops Reply n s w w' so (Does (exactly (GiveBlocks width blocks)) before next) at p = absurd p
  stops Reply n s w w' so (Does (exactly AwaitReady) before next) at p = absurd p
  stops Reply n s w w' so (Does (giving width count) before next) at p = absurd p
  stops Input n s w w' so (Does (exactly event) before next) at p = absurd p
  stops Input n s w w' so (Does (giving width count) before next) at p = too_short n s w w' so (giving width count) before next at width count (λ blocks len. (blocks, len, refl)) p
  stops Output n s w w' so (Does (exactly (ReceiveBlocks width count)) before next) at p = output_fails n s w w' so (exactly (ReceiveBlocks width count)) before next at width count refl p
  stops Output n s w w' so (Does (exactly (SendCommand ask position argument)) before next) at p = absurd p
  stops Output n s w w' so (Does (exactly (ReceiveRegister width count)) before next) at p = absurd p
  stops Output n s w w' so (Does (exactly (GiveBlocks width blocks)) before next) at p = absurd p
  stops Output n s w w' so (Does (exactly AwaitReady) before next) at p = absurd p
  stops Output n s w w' so (Does (giving width count) before next) at p = absurd p
  stops Trace n s w w' so (Does deed before next) at p = trace_fails n s w w' so deed before next at p
  stops Memory n s w w' so (Does deed before next) at p = absurd p

-- AT A POINT, for a host of the same kind
module _ {S : Type 0} (steps : Steps S) (f : Graph) (room : ℕ) (start : World S) (n : ℕ) (s : Stand) (w : World S) (so : SoFar steps f room start n s w)
    (k : Kind) (same : k ≡ f.kind) (p : Point) (here : slice_get f.points s.point ≡ Some p) where
  moves_so : (m : Move) → action_move k p.action s.turns s.host ≡ m → move_from f.kind f.points s ≡ m
  moves_so m e = here_is steps f room start s p here ∙ subst (λ k. action_move k p.action s.turns s.host ≡ m) same e

  pub may_move : IsSound f → Ready k f.points n s p
  may_move sound = subst (λ k. Ready k f.points n s p) (sym same) (ready f n s p sound so.lasts so.sits here)

  pub moves_on : (w' : World S) (s' : Stand) → IsSound f → AnnounceAtMost f.points room → Leads k steps (action_move k p.action s.turns s.host) w w' s' →
      SoFar steps f room start (n - 1) s' w'
  moves_on w' s' sound few leads =
      goes_on steps f room start n s s' w w' p sound few here so (subst (λ k. Leads k steps (action_move k p.action s.turns s.host) w w' s') same leads)

  pub finishes : (w' : World S) (end : End) (t : Option (List ℕ)) → (action_move k p.action s.turns s.host ≡ Halts (ending_of end)) × (w' ≡ w) →
      Appends w'.trace t (end_line end) → Ended steps f end start (record { port = w'.port; input = w'.input; out = w'.out; trace = t })
  finishes w' end t halts printed =
      ends_well steps f room start n s w' end t (subst (SoFar steps f room start n s) (sym halts.1) so) (moves_so (Halts (ending_of end)) halts.0) printed

  pub finishes_cut : (w' : World S) (end : End) (t : Option (List ℕ)) → (action_move k p.action s.turns s.host ≡ Halts (ending_of end)) × (w' ≡ w) →
      AppendsPart w'.trace t (end_line end) → Stopped steps f Trace start (record { port = w'.port; input = w'.input; out = w'.out; trace = t })
  finishes_cut w' end t halts part =
      ends_cut steps f room start n s w' end t (subst (SoFar steps f room start n s) (sym halts.1) so) (moves_so (Halts (ending_of end)) halts.0) part

  pub cut_short : (w' : World S) (fault : RunFault) → CutShort fault k steps (action_move k p.action s.turns s.host) w w' → Stopped steps f fault start w'
  cut_short w' fault cut =
      stops steps f room start fault n s w w' so (action_move f.kind p.action s.turns s.host) (here_is steps f room start s p here)
      (subst (λ k. CutShort fault k steps (action_move k p.action s.turns s.host) w w') same cut)

-- without memory nothing happens
pub no_memory : {S : Type 0} (steps : Steps S) (f : Graph) (w : World S) → Stopped steps f Memory w w
no_memory steps f w = record {
  events = [];
  happened = none_happened f.kind steps w;
  walk = is_walk f Open [] (open_here f.kind f.points (begin f));
  because = record { none = refl; same = refl };
}
