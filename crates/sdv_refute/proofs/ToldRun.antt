-- A watched run whose trace may tell the data lines: it is one as any over a trace without them.
use Rattle.std.proofs.Common.{◌≡◌, ℕ, zero, suc, ◌-◌, ◌<◌, length, arith, List, [], ◌∷◌, ◌++◌, Bool, true, false, Option, Some, None, inl, inr, refl, sym, ap, ◌∙◌, subst, append_assoc}
use Rattle.std.proofs.lemmas.List.{append-nil}
use Rattle.std.specs.Prelude.{slice_get, Result, Ok, Err, IsErrAnd, if◌then◌else◌}
use Rattle.std.specs.Io.KnownBytes.{Appends, Keeps, append_known}
use Rattle.sdv_text.specs.Written.{AppendsPart}
use Rattle.sdv_text.proofs.WrittenLaws.{appends_more, appends_none}
use Rattle.sdv_card.specs.declared.answer.DataEnd.TheVariants as phase_ends
use Rattle.sdv_card.specs.declared.state.Width.{Width}
use Rattle.sdv_card.specs.Card.{Card}
use Rattle.sdv_card.specs.Modes.{same_width}
use Rattle.sdv_card.specs.Port.{KeepsTables, call_of}
use Rattle.sdv_card.specs.ScriptEvent.{SendCommand, ReceiveBlocks, ReceiveRegister, GiveBlocks, AwaitReady, Answered, BlocksIn}
use Rattle.sdv_graph.specs.Graph.{Graph, begin}
use Rattle.sdv_graph.specs.GraphOf.{IsSound}
use Rattle.sdv_graph.specs.Path.{Point, Stand, Move, Goes, Does, Halts, Path, action_move, move, move_from}
use Rattle.sdv_graph.specs.Walk.{Pair, Open, exactly, giving, given_by}
use Rattle.sdv_graph.proofs.Paths.{roll}
use Rattle.sdv_run.specs.declared.fault.RunFault.{RunFault}
use Rattle.sdv_run.specs.declared.fault.RunFault.TheVariants.{Reply, Input, Output, Trace, Memory}
use Rattle.sdv_trace.specs.declared.end.End.{End}
use Rattle.sdv_trace.specs.Trace.{end_line, line_of, lines}
use Rattle.sdv_run.specs.Announced.{AnnounceAtMost}
use Rattle.sdv_run.specs.Ran.{Happened}
use Rattle.sdv_run.specs.Run.{Steps, ending_of}
use Rattle.sdv_run.specs.Step.{World, Leads}
use Rattle.sdv_run.specs.Step.{CutShort as IsCut}
use Rattle.sdv_run.proofs.Known.{breaks_off}
use Rattle.sdv_run.proofs.Made.{happened_more, lines_more, none_happened}
use Rattle.sdv_run.proofs.Runs.{is_walk}
use Rattle.sdv_refute.specs.declared.wrong.Watched.{Watched}
use Rattle.sdv_refute.specs.declared.wrong.Watched.TheVariants as comes
use Rattle.sdv_refute.specs.declared.wrong.Wrong.{Wrong}
use Rattle.sdv_refute.specs.Told.{lines_line, change_told, Moves, IsTold, WatchesAs}
use Rattle.sdv_refute.specs.Watched.{IsAllowedAt, IsWrongHere, StopsWith, Watches}
use Rattle.sdv_refute.specs.WrongLine.{wrong_line}
use Rattle.sdv_refute.proofs.WatchedRun.{Watching, begins, goes, ends, stops, cut_at_end, cuts, events_of, written_of}
use Rattle.sdv_refute.proofs.WatchedRun.{no_memory as nothing_ran}

-- TEXTS

appends_all : (known : Option (List ℕ)) (bs : List ℕ) → Appends known (append_known known bs) bs
appends_all None bs = tt
appends_all (Some xs) bs = refl

no_part : (old new : Option (List ℕ)) → AppendsPart old new [] → ⊥
no_part old new ([], b ∷ back, is, lt, part) = let f : [] ≡ b ∷ back = is in absurd (cc)
no_part old new ([], [], is, lt, part) = let f : 0 < 0 = lt in absurd (omega (arith, f))
no_part old new (a ∷ front, back, is, lt, part) = let f : [] ≡ a ∷ (front ++ back) = is in absurd (cc)

part_of : (b : Bool) (old new : Option (List ℕ)) (text : List ℕ) → AppendsPart old new (if b then [] else text) → (if b then [] else text) ≡ text
part_of true old new text part = absurd (no_part old new part)
part_of false old new text part = refl

-- a line of a change of which a part was written is that of the data lines that are used now, and these are told
change_is : (telling : Bool) (before now : Width) (old new : Option (List ℕ)) → AppendsPart old new (change_told telling before now) →
    (telling ≡ true) × (change_told telling before now ≡ lines_line now)
change_is false before now old new part = absurd (no_part old new part)
change_is true before now old new part = (refl, part_of (same_width before now) old new (lines_line now) part)

keeps_same : (known : Option (List ℕ)) → Keeps known known
keeps_same None = tt
keeps_same (Some xs) = refl

told_none : (telling : Bool) (g : Graph) (s : Stand) → s ≡ begin g → IsTold telling g s [] []
told_none false g s at = refl
told_none true g s at = (zero, (at, refl, refl))

told_more : (telling : Bool) (g : Graph) (s s' : Stand) (es more : List Pair) (text : List ℕ) → IsTold telling g s es text →
    Moves g.kind (move_from g.kind g.points s) more s' →
    IsTold telling g s' (es ++ more) (text ++ (lines more ++ change_told telling s.host.lines s'.host.lines))
told_more false g s s' es more text told moves =
    ap (λ l. text ++ l) (append-nil (lines more)) ∙ ap (λ l. l ++ lines more) told ∙ sym (lines_more es more)
told_more true g s s' es more text (n, told) moves = (suc n, (s, es, more, text, told, moves, refl, refl))

module _ {S : Type 0} (steps : Steps S) (card : S → Option Card) (g : Graph) where
  -- the world of a run whose trace is this
  abbrev pub plain : World S → List ℕ → World S
  plain w p = record w { trace = Some p }

  same_plain : (w w' : World S) (p : List ℕ) → w' ≡ w → plain w' (p ++ []) ≡ plain w p
  same_plain w w' p same = ap (λ l. plain w' l) (append-nil p) ∙ ap (λ v. plain v p) same

  moves_of : (m : Move) (w w' : World S) (s' : Stand) (leads : Leads g.kind steps m w w' s') → Moves g.kind m (events_of steps card g m w w' s' leads) s'
  moves_of (Goes next) w w' s' leads = (refl, leads.1)
  moves_of (Does deed before next) w w' s' leads = (leads.0, leads.1, leads.2, refl, leads.4)
  moves_of (Halts last) w w' s' leads = absurd leads

  -- a move is made over such a trace too
  abbrev leads_plain : (m : Move) (w w' : World S) (s' : Stand) (p : List ℕ) (leads : Leads g.kind steps m w w' s') →
      Leads g.kind steps m (plain w p) (plain w' (p ++ lines (events_of steps card g m w w' s' leads))) s'
  leads_plain (Goes next) w w' s' p leads = (same_plain w w' p leads.0, leads.1)
  leads_plain (Does deed before next) w w' s' p (event, returned, is, made, same) = (
    event,
    returned,
    is,
    record { fits = made.fits; step = made.step; input = made.input; out = made.out; trace = ap (λ l. p ++ l) (append-nil (line_of event returned)) },
    same,
  )
  leads_plain (Halts last) w w' s' p leads = absurd leads

  events_plain : (m : Move) (w w' : World S) (s' : Stand) (p : List ℕ) (leads : Leads g.kind steps m w w' s') →
      events_of steps card g m (plain w p) (plain w' (p ++ lines (events_of steps card g m w w' s' leads))) s' (leads_plain m w w' s' p leads)
      ≡ events_of steps card g m w w' s' leads
  events_plain (Goes next) w w' s' p leads = refl
  events_plain (Does deed before next) w w' s' p (event, returned, is, made, same) = refl
  events_plain (Halts last) w w' s' p leads = absurd leads

  -- A MOVE IS CUT SHORT over such a trace too
  record Cut (fault : RunFault) (m : Move) (w w' : World S) (p : List ℕ) : Type 0 where
    pub front : List ℕ
    pub more : List Pair
    pub happened : Happened g.kind steps more w w'
    pub trace : Appends w.trace w'.trace front
    pub cut : IsCut fault g.kind steps m (plain w p) (plain w' (p ++ front))
    pub no_memory : fault ≡ Memory → ⊥

  nothing_more : (w w' : World S) → w' ≡ w → Happened g.kind steps [] w w'
  nothing_more w w' same = subst (λ v. Happened g.kind steps [] w v) (sym same) (none_happened g.kind steps w)

  nothing_printed : (w w' : World S) → w' ≡ w → Appends w.trace w'.trace []
  nothing_printed w w' same = subst (λ (v : World S). Appends w.trace v.trace []) (sym same) (appends_none w.trace)

  cut_plain : (fault : RunFault) (m : Move) (w w' : World S) (p : List ℕ) → IsCut fault g.kind steps m w w' → Cut fault m w w' p
  cut_plain fault (Goes next) w w' p cut = absurd cut
  cut_plain fault (Halts last) w w' p cut = absurd cut
  cut_plain Reply (Does (exactly (SendCommand ask position argument)) before next) w w' p (inl (wide, same)) = record {
    front = [];
    more = [];
    happened = nothing_more w w' same;
    trace = nothing_printed w w' same;
    cut = inl (wide, same_plain w w' p same);
    no_memory = λ is. absurd (cc);
  }
  cut_plain Reply (Does (exactly (SendCommand ask position argument)) before next) w w' p (inr (answer, step, refused, same)) = record {
    front = [];
    more = (SendCommand ask position argument, Answered answer) ∷ [];
    happened = record { port = (w'.port, step, refl); input = sym (ap (λ w. w.input) same) };
    trace = subst (λ t. Appends w.trace t []) (sym (ap (λ w. w.trace) same)) (appends_none w.trace);
    cut = inr (answer, step, refused, same_plain (record w { port = w'.port }) w' p same);
    no_memory = λ is. absurd (cc);
  }
  cut_plain Input (Does (giving width count) before next) w w' p (short, same) = record {
    front = [];
    more = [];
    happened = nothing_more w w' same;
    trace = nothing_printed w w' same;
    cut = (short, same_plain w w' p same);
    no_memory = λ is. absurd (cc);
  }
  cut_plain Output (Does (exactly (ReceiveBlocks width count)) before next) w w' p (blocks, len, step, part, same) = record {
    front = [];
    more = (ReceiveBlocks width (length blocks), BlocksIn phase_ends.Ok blocks) ∷ [];
    happened = record {
      port = (w'.port, subst (λ n. steps w.port (call_of g.kind (ReceiveBlocks width n)) (BlocksIn phase_ends.Ok blocks) w'.port) (sym len) step, refl);
      input = sym (ap (λ w. w.input) same);
    };
    trace = subst (λ t. Appends w.trace t []) (sym (ap (λ w. w.trace) same)) (appends_none w.trace);
    cut = (blocks, len, step, part, same_plain (record w { port = w'.port; out = w'.out }) w' p same);
    no_memory = λ is. absurd (cc);
  }
  cut_plain Trace (Does deed before next) w w' p (event, returned, of, fits, step, input, out, part) = record {
    front = part.0;
    more = (event, returned) ∷ [];
    happened = record { port = (w'.port, step, refl); input = input ∙ ap (λ l. l ++ w'.input) (sym (append-nil (given_by event))) };
    trace = part.4;
    cut = (event, returned, of, fits, step, input, out, (part.0, part.1, part.2, part.3, refl));
    no_memory = λ is. absurd (cc);
  }
  cut_plain Reply (Does (exactly (ReceiveBlocks width count)) before next) w w' p cut = absurd cut
  cut_plain Reply (Does (exactly (ReceiveRegister width count)) before next) w w' p cut = absurd cut
  cut_plain Reply (Does (exactly (GiveBlocks width blocks)) before next) w w' p cut = absurd cut
  cut_plain Reply (Does (exactly AwaitReady) before next) w w' p cut = absurd cut
  cut_plain Reply (Does (giving width count) before next) w w' p cut = absurd cut
  cut_plain Input (Does (exactly event) before next) w w' p cut = absurd cut
  cut_plain Output (Does (exactly (SendCommand ask position argument)) before next) w w' p cut = absurd cut
  cut_plain Output (Does (exactly (ReceiveRegister width count)) before next) w w' p cut = absurd cut
  cut_plain Output (Does (exactly (GiveBlocks width blocks)) before next) w w' p cut = absurd cut
  cut_plain Output (Does (exactly AwaitReady) before next) w w' p cut = absurd cut
  cut_plain Output (Does (giving width count) before next) w w' p cut = absurd cut
  cut_plain Memory (Does deed before next) w w' p cut = absurd cut

  -- THE RUN SO FAR
  pub record Telling (telling : Bool) (room : ℕ) (start : World S) (n : ℕ) (s : Stand) (w : World S) : Type 0 where
    -- what would have been printed
    pub printed : List ℕ
    pub watching : Watching steps card g room (plain start []) n s (plain w printed)
    -- what was printed
    pub text : List ℕ
    pub told : IsTold telling g s watching.events text
    pub trace : Appends start.trace w.trace text

  pub begins_told : (telling : Bool) (room : ℕ) (start : World S) (n : ℕ) (s : Stand) → IsSound g → n ≡ g.steps → s ≡ begin g → Telling telling room start n s start
  unfolding begins
  begins_told telling room start n s sound all at = record {
    printed = [];
    watching = begins steps card g room (plain start []) n s sound all at;
    text = [];
    told = told_none telling g s at;
    trace = appends_none start.trace;
  }

  module _ (keeps : KeepsTables steps card) (sound : IsSound g) (telling : Bool) (room : ℕ) (start : World S) (n : ℕ) (s : Stand) (w : World S)
      (so : Telling telling room start n s w) (p : Point) (here : slice_get g.points s.point ≡ Some p) where
    abbrev IsAllowed : Type 0
    IsAllowed = IsAllowedAt card g.kind s w.port p

    abbrev moved : Move
    moved = action_move g.kind p.action s.turns s.host

    here_is : move_from g.kind g.points s ≡ moved
    here_is = ap (λ o. move g.kind o s.turns s.host) here

    -- it goes on, and tells the data lines if they changed
    pub goes_told : AnnounceAtMost g.points room → IsAllowed → (s' : Stand) (w' : World S) → Leads g.kind steps moved w w' s' → (t : Option (List ℕ)) →
        Appends w'.trace t (change_told telling s.host.lines s'.host.lines) → Telling telling room start (n - 1) s' (record w' { trace = t })
    unfolding goes
    goes_told few allowed s' w' leads t change =
        let es = events_of steps card g moved w w' s' leads in
        let on = goes steps card g keeps sound room (plain start []) n s (plain w so.printed) so.watching p here few allowed s' (plain w' (so.printed ++ lines es))
        (leads_plain moved w w' s' so.printed leads) in
        let same : on.events ≡ so.watching.events ++ es = ap (λ l. so.watching.events ++ l) (events_plain moved w w' s' so.printed leads) in
        let made : Moves g.kind (move_from g.kind g.points s) es s' = subst (λ m. Moves g.kind m es s') (sym here_is) (moves_of moved w w' s' leads) in
        record {
          printed = so.printed ++ lines es;
          watching = on;
          text = so.text ++ (lines es ++ change_told telling s.host.lines s'.host.lines);
          told = subst (λ l. IsTold telling g s' l (so.text ++ (lines es ++ change_told telling s.host.lines s'.host.lines))) (sym same)
              (told_more telling g s s' so.watching.events es so.text so.told made);
          trace = appends_more start.trace w.trace t so.text (lines es ++ change_told telling s.host.lines s'.host.lines) so.trace
              (appends_more w.trace w'.trace t (lines es) (change_told telling s.host.lines s'.host.lines) (written_of steps card g moved w w' s' leads).trace change);
        }

    -- the trace without the data lines has the lines of the events, and then this
    then_plain : (last : List ℕ) → lines so.watching.events ++ last ≡ so.printed ++ last
    then_plain last = ap (λ l. l ++ last) (sym so.watching.written.trace)

    -- what was told of it, where it comes to its end or is cut short
    told_as : (w' : World S) (more : List Pair) (last : List ℕ) (result : Result Watched RunFault) → Happened g.kind steps more w w' → Appends w.trace w'.trace last →
        Watches steps card g (plain start []) (plain w' (lines so.watching.events ++ last)) result → (result ≡ Err Memory → ⊥) → WatchesAs telling steps card g start w' result
    told_as w' more last result made printed watched some = inl (record {
      events = so.watching.events;
      more = more;
      happened = happened_more g.kind steps so.watching.events more start w w'
          (record { port = so.watching.happened.port; input = so.watching.happened.input }) made;
      stand = s;
      text = so.text;
      told = so.told;
      last = last;
      trace = appends_more start.trace w.trace w'.trace so.text last so.trace printed;
      watched = watched;
      nothing = λ is. absurd (some is);
    })

    same_world : (t : Option (List ℕ)) → Happened g.kind steps [] w (record w { trace = t })
    same_world t = record { port = refl; input = refl }

    -- IT ENDS
    pub ends_told : (w' : World S) (end : End) (t : Option (List ℕ)) → IsAllowed → (moved ≡ Halts (ending_of end)) × (w' ≡ w) → Appends w'.trace t (end_line end) →
        WatchesAs telling steps card g start (record { port = w'.port; input = w'.input; out = w'.out; trace = t }) (Ok (comes.Ended end))
    ends_told w' end t allowed halts appended =
        let printed : Appends w.trace t (end_line end) = subst (λ (v : World S). Appends v.trace t (end_line end)) halts.1 appended in
        subst (λ (v : World S). WatchesAs telling steps card g start (record { port = v.port; input = v.input; out = v.out; trace = t }) (Ok (comes.Ended end))) (sym halts.1)
        (told_as (record w { trace = t }) [] (end_line end) (Ok (comes.Ended end)) (same_world t) printed
        (ends steps card g keeps sound room (plain start []) n s (plain w so.printed) so.watching p here (plain w so.printed) end
        (Some (lines so.watching.events ++ end_line end)) allowed (halts.0, refl) (then_plain (end_line end)))
        (λ is. absurd (cc)))

    pub cut_at_end_told : (w' : World S) (end : End) (t : Option (List ℕ)) → IsAllowed → (moved ≡ Halts (ending_of end)) × (w' ≡ w) → AppendsPart w'.trace t (end_line end) →
        WatchesAs telling steps card g start (record { port = w'.port; input = w'.input; out = w'.out; trace = t }) (Err Trace)
    cut_at_end_told w' end t allowed halts appended =
        let part : AppendsPart w.trace t (end_line end) = subst (λ (v : World S). AppendsPart v.trace t (end_line end)) halts.1 appended in
        subst (λ (v : World S). WatchesAs telling steps card g start (record { port = v.port; input = v.input; out = v.out; trace = t }) (Err Trace)) (sym halts.1)
        (told_as (record w { trace = t }) [] part.0 (Err Trace) (same_world t) part.4
        (cut_at_end steps card g keeps sound room (plain start []) n s (plain w so.printed) so.watching p here allowed (plain w so.printed) end
        (Some (lines so.watching.events ++ part.0)) (halts.0, refl) (part.0, part.1, part.2, part.3, then_plain part.0))
        (λ is. absurd (cc)))

    -- IT STOPS
    pub stops_told : (wrong : Wrong) (t : Option (List ℕ)) (result : Result Watched RunFault) → IsWrongHere card g.lines g.kind s w.port p wrong →
        StopsWith w.trace t wrong result → WatchesAs telling steps card g start (record w { trace = t }) result
    stops_told wrong t (Ok watched) is (same, printed) =
        told_as (record w { trace = t }) [] (wrong_line wrong.next) (Ok watched) (same_world t) printed
        (stops steps card g keeps sound room (plain start []) n s (plain w so.printed) so.watching p here wrong
        (Some (lines so.watching.events ++ wrong_line wrong.next)) (Ok watched) is (same, then_plain (wrong_line wrong.next)))
        (λ is. absurd (cc))
    stops_told wrong t (Err fault) is (same, part) =
        told_as (record w { trace = t }) [] part.0 (Err fault) (same_world t) part.4
        (stops steps card g keeps sound room (plain start []) n s (plain w so.printed) so.watching p here wrong
        (Some (lines so.watching.events ++ part.0)) (Err fault) is (same, (part.0, part.1, part.2, part.3, then_plain part.0)))
        (λ is. absurd (cc (is, same)))

    -- IT IS CUT SHORT
    pub cuts_told : IsAllowed → (fault : RunFault) (w' : World S) → IsCut fault g.kind steps moved w w' → WatchesAs telling steps card g start w' (Err fault)
    cuts_told allowed fault w' cut =
        let c = cut_plain fault moved w w' so.printed cut in
        let plain_cut : IsCut fault g.kind steps moved (plain w so.printed) (plain w' (lines so.watching.events ++ c.front)) =
        subst (λ l. IsCut fault g.kind steps moved (plain w so.printed) (plain w' l)) (sym (then_plain c.front)) c.cut in
        told_as w' c.more c.front (Err fault) c.happened c.trace
        (cuts steps card g keeps sound room (plain start []) n s (plain w so.printed) so.watching p here allowed fault (plain w' (lines so.watching.events ++ c.front)) plain_cut)
        (λ is. c.no_memory (cc is))

    -- at the line of a change
    pub cut_at_change : AnnounceAtMost g.points room → IsAllowed → (s' : Stand) (w' : World S) → Leads g.kind steps moved w w' s' → (t : Option (List ℕ)) →
        AppendsPart w'.trace t (change_told telling s.host.lines s'.host.lines) → WatchesAs telling steps card g start (record w' { trace = t }) (Err Trace)
    unfolding goes_told
    cut_at_change few allowed s' w' leads t part =
        let line = change_told telling s.host.lines s'.host.lines in
        let es = events_of steps card g moved w w' s' leads in
        let whole : Option (List ℕ) = append_known w'.trace line in
        let on = goes_told few allowed s' w' leads whole (appends_all w'.trace line) in
        let is = change_is telling s.host.lines s'.host.lines w'.trace t part in
        let text : List ℕ = so.text ++ lines es in
        let all : on.text ≡ text ++ lines_line s'.host.lines = sym (append_assoc so.text (lines es) line) ∙ ap (λ l. text ++ l) is.1 in
        let path : Path g.kind g.points Open (begin g) (on.watching.events ++ []) =
        on.watching.leads Open [] (roll g.kind g.points Open s' [] (inl (refl, refl))) in
        inr (
          refl,
          record {
            asked = is.0;
            events = on.watching.events;
            happened = record { port = on.watching.happened.port; input = on.watching.happened.input };
            walk = is_walk g Open on.watching.events (subst (λ l. Path g.kind g.points Open (begin g) l) (append-nil on.watching.events) path);
            stand = s';
            text = text;
            width = s'.host.lines;
            told = subst (λ l. IsTold telling g s' on.watching.events l) all on.told;
            output = on.watching.written.output;
            trace = breaks_off start.trace w'.trace t text (lines_line s'.host.lines)
                (appends_more start.trace w.trace w'.trace so.text (lines es) so.trace (written_of steps card g moved w w' s' leads).trace)
                (subst (λ l. AppendsPart w'.trace t l) is.1 part);
            allowed = λ c shows. (let b = on.watching.beside c (record { shown = shows.shown; kind = shows.kind; start = shows.start }) in (b.last, b.on));
          },
        )

  -- without memory nothing happens
  pub no_memory : (telling : Bool) (w : World S) → WatchesAs telling steps card g w w (Err Memory)
  no_memory telling w = inl (record {
    events = [];
    more = [];
    happened = none_happened g.kind steps w;
    stand = begin g;
    text = [];
    told = told_none telling g (begin g) refl;
    last = [];
    trace = appends_none w.trace;
    watched = nothing_ran steps card g (plain w []);
    nothing = λ is. refl;
  })

  -- what holds of a fault holds where that is answered
  pub by_fault : (telling : Bool) (w w' : World S) (result : Result Watched RunFault) (fault : RunFault) → IsErrAnd result (λ f. f ≡ fault) →
      WatchesAs telling steps card g w w' (Err fault) → WatchesAs telling steps card g w w' result
  by_fault telling w w' (Ok watched) fault is so = absurd is
  by_fault telling w w' (Err f) fault is so = subst (λ (f : RunFault). WatchesAs telling steps card g w w' (Err f)) (sym is) so

  -- so nothing is printed
  pub quiet_without_memory : (telling : Bool) (w w' : World S) → WatchesAs telling steps card g w w' (Err Memory) → Keeps w.trace w'.trace
  quiet_without_memory telling w w' (inl told) = subst (λ (v : World S). Keeps w.trace v.trace) (sym (told.nothing refl)) (keeps_same w.trace)
  quiet_without_memory telling w w' (inr (is, broke)) = absurd (cc)
