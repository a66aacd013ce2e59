-- A watched run, from its start to where it stands, beside the card that the port showed at its start.
use Rattle.std.proofs.Common.{◌≡◌, ℕ, ◌-◌, ◌<◌, ◌≤◌, length, arith, List, [], ◌∷◌, ◌++◌, Bool, true, false, Option, Some, inl, inr, refl, sym, ap, ◌∙◌, subst, append_assoc, replicate}
use Rattle.std.proofs.lemmas.List.{append-nil, length-replicate}
use Rattle.std.specs.Prelude.{◌^◌, slice_get, Result, Ok, Err}
use Rattle.std.specs.List.{concat}
use Rattle.std.specs.Io.KnownBytes.{Appends}
use Rattle.sdv_text.specs.Written.{AppendsPart}
use Rattle.sdv_text.proofs.WrittenLaws.{appends_more}
use Rattle.sdv_card.specs.declared.answer.DataEnd.TheVariants as phase_ends
use Rattle.sdv_card.specs.declared.event.Ask.{Ask}
use Rattle.sdv_card.specs.declared.state.Width.{Width}
use Rattle.sdv_card.specs.Card.{Card, Block}
use Rattle.sdv_card.specs.Host.{Host, host_after}
use Rattle.sdv_card.specs.HostEvents.{Makes}
use Rattle.sdv_card.specs.Legal.{TransferOnCard}
use Rattle.sdv_card.proofs.PortLaws.{phase_on_card}
use Rattle.sdv_card.specs.Port.{Shows, Kept, IsFine, KeepsTables, call_of}
use Rattle.sdv_card.specs.Profile.{IsAtStart}
use Rattle.sdv_card.specs.ScriptEvent.{ScriptEvent, SendCommand, ReceiveBlocks, ReceiveRegister, GiveBlocks, AwaitReady, Return, Answered, BlocksIn, BlocksOut, MayReturn}
use Rattle.sdv_card.specs.Step.{Step}
use Rattle.sdv_graph.specs.Graph.{Graph, begin}
use Rattle.sdv_graph.specs.GraphOf.{IsSound}
use Rattle.sdv_graph.specs.Path.{Point, Stand, Move, Goes, Does, Halts, Follows, Path, action_move, move, move_from}
use Rattle.sdv_graph.specs.Walk.{Pair, Ending, Finished, Failed, Fell, Broke, Open, Walk, Deed, exactly, giving, IsDeed, given_by}
use Rattle.sdv_graph.proofs.Paths.{roll}
use Rattle.sdv_script.specs.OneGraph.{IsGraphOfScript}
use Rattle.sdv_script.specs.Script.{Parsed}
use Rattle.sdv_facts.specs.Beside.{IsAllowed, EndsWell}
use Rattle.sdv_facts.specs.Keeps.{IsHonest}
use Rattle.sdv_facts.proofs.AnyStart.{start_only}
use Rattle.sdv_facts.proofs.ArgumentLaws.{narrow}
use Rattle.sdv_facts.proofs.StepLaws.{laws_of, honest_after}
use Rattle.sdv_facts.proofs.SuitLaws.{each_action_suits}
use Rattle.sdv_run.specs.declared.fault.RunFault.{RunFault}
use Rattle.sdv_run.specs.declared.fault.RunFault.TheVariants.{Reply, Input, Output, Trace, Memory}
use Rattle.sdv_trace.specs.declared.end.End.{End}
use Rattle.sdv_trace.specs.declared.end.End.TheVariants.{Done, Fault}
use Rattle.sdv_run.specs.Announced.{AnnounceAtMost}
use Rattle.sdv_run.specs.Answers.{is_taken}
use Rattle.sdv_run.specs.OnCard.{ShowsStart}
use Rattle.sdv_run.specs.Ran.{Happened, IsWalk, Written}
use Rattle.sdv_run.specs.Run.{Steps, received, received_by, ending_of}
use Rattle.sdv_trace.specs.Trace.{end_line, line_of, lines}
use Rattle.sdv_run.specs.Step.{World, Leads, CutDeed}
use Rattle.sdv_run.specs.Step.{CutShort as IsCut}
use Rattle.sdv_run.proofs.Known.{breaks_off}
use Rattle.sdv_run.proofs.Made.{happened_more, received_more, written_more, none_happened, none_written, one_happened, one_written}
use Rattle.sdv_run.proofs.OnCard.{taken}
use Rattle.sdv_run.proofs.Runs.{SoFar, begins_at, goes_on}
use Rattle.sdv_run.proofs.Runs.{no_memory as nothing_ran, stops as cut_so}
use Rattle.sdv_refute.specs.declared.wrong.Watched.{Watched}
use Rattle.sdv_refute.specs.declared.wrong.Wrong.{Wrong}
use Rattle.sdv_refute.specs.Sight.{sight_of}
use Rattle.sdv_refute.specs.Allows.{allows, allows_next}
use Rattle.sdv_refute.specs.Next.{next_of}
use Rattle.sdv_refute.specs.Refutes.{WalkOf, AllowedStepsOf, an_event, the_end}
use Rattle.sdv_refute.specs.Watched.{Halted, RefutesGraph, StandsBefore, StopsBefore, EndsAllowed, StopsAllowed, WrongLineBrokeOff, CutShort, IsAllowedAt, IsWrongHere, StopsWith, Watches}
use Rattle.sdv_refute.specs.WrongLine.{wrong_line}
use Rattle.sdv_refute.proofs.Judged.{MayMove, allows_exactly, Moves, moves}
use Rattle.sdv_refute.proofs.Named.{NamesMove, named}

steps_more : (es : List Pair) (c last u : Card) (event : ScriptEvent) (returned : Return) → AllowedStepsOf c es last → IsAllowed event last →
    Step event last returned u → AllowedStepsOf c (es ++ (event, returned) ∷ []) u
steps_more [] c last u event returned on allowed step =
    (u, subst (IsAllowed event) (sym on) allowed, subst (λ v. Step event v returned u) (sym on) step, refl)
steps_more (p ∷ es) c last u event returned (v, fine, one, more) allowed step = (v, fine, one, steps_more es v last u event returned more allowed step)

-- one of the events that a deed may be
some_event : (deed : Deed) → (event : ScriptEvent) × IsDeed deed event
some_event (exactly wanted) = (wanted, refl)
some_event (giving lines count) = let blocks : List Block = replicate count [] in (GiveBlocks lines blocks, (blocks, length-replicate count [], refl))

module _ {S : Type 0} (steps : Steps S) (card : S → Option Card) (g : Graph) where
  -- these events were made beside the card
  pub record Beside (es : List Pair) (s : Stand) (w : World S) (c : Card) : Type 0 where
    pub last : Card
    pub on : AllowedStepsOf c es last
    pub shown : Shows card w.port last
    pub honest : IsHonest g.kind last s.host
    pub on_card : TransferOnCard last

  pub begins_beside : (s : Stand) (w : World S) (c : Card) → s ≡ begin g → ShowsStart card g.kind false w.port c → Beside [] s w c
  begins_beside s w c at start =
      let before : IsAtStart c = start_only c start.start in
      let held = (laws_of g.kind).starts_hold c g.numbers start.kind before in
      let honest : IsHonest g.kind c (begin g).host = record { pair = held.pair; profile = before.profile; sound = held.sound } in
      record {
        last = c;
        on = refl;
        shown = start.shown;
        honest = subst (λ s. IsHonest g.kind c s.host) (sym at) honest;
        on_card = held.on_card;
      }

  -- an event that the host makes is one of those that the card takes by the tables, if it is allowed
  fine_of : (es : List Pair) (s : Stand) (w : World S) (c : Card) (b : Beside es s w c) (event : ScriptEvent) → Makes g.kind event s.host →
      IsAllowed event b.last → IsFine g.kind event b.last s.host
  fine_of es s w c b event makes allowed =
      record { pair = b.honest.pair; made = makes; legal = allowed.legal; bounds = allowed.bounds; on_card = phase_on_card event b.last b.on_card }

  -- the event that a move made, if it made one
  abbrev pub events_of : (m : Move) (w w' : World S) (s' : Stand) → Leads g.kind steps m w w' s' → List Pair
  events_of (Goes next) w w' s' leads = []
  events_of (Does deed before next) w w' s' leads = (leads.0, leads.1) ∷ []
  events_of (Halts last) w w' s' leads = []

  pub happened_of : (m : Move) (w w' : World S) (s' : Stand) (leads : Leads g.kind steps m w w' s') → Happened g.kind steps (events_of m w w' s' leads) w w'
  happened_of (Goes next) w w' s' leads = subst (λ v. Happened g.kind steps [] w v) (sym leads.0) (none_happened g.kind steps w)
  happened_of (Does deed before next) w w' s' leads = one_happened g.kind steps leads.0 leads.1 w w' leads.3
  happened_of (Halts last) w w' s' leads = absurd leads

  pub written_of : (m : Move) (w w' : World S) (s' : Stand) (leads : Leads g.kind steps m w w' s') → Written (events_of m w w' s' leads) w w'
  written_of (Goes next) w w' s' leads = subst (λ v. Written [] w v) (sym leads.0) (none_written g.kind steps w)
  written_of (Does deed before next) w w' s' leads = one_written g.kind steps leads.0 leads.1 w w' leads.3
  written_of (Halts last) w w' s' leads = absurd leads

  pub follows_of : (m : Move) (w w' : World S) (s' : Stand) (leads : Leads g.kind steps m w w' s') (e : Ending) (rest : List Pair) →
      Path g.kind g.points e s' rest → Follows g.kind e (Path g.kind g.points e) m (events_of m w w' s' leads ++ rest)
  follows_of (Goes next) w w' s' leads e rest path = subst (λ s. Path g.kind g.points e s rest) leads.1 path
  follows_of (Does deed before next) w w' s' leads e rest path =
      (leads.0, leads.1, rest, leads.2, leads.3.fits, refl, subst (λ s. Path g.kind g.points e s rest) leads.4 path)
  follows_of (Halts last) w w' s' leads e rest path = absurd leads

  -- A MOVE that is allowed
  pub by_move : KeepsTables steps card → (es : List Pair) (s s' : Stand) (w w' : World S) (c : Card) (b : Beside es s w c) (m : Move) →
      Moves g.kind (laws_of g.kind) b.last s.host b.honest m → MayMove true m b.last → (leads : Leads g.kind steps m w w' s') →
      Beside (es ++ events_of m w w' s' leads) s' w' c
  by_move keeps es s s' w w' c b (Goes next) known may leads = record {
    last = b.last;
    on = subst (λ es. AllowedStepsOf c es b.last) (sym (append-nil es)) b.on;
    shown = subst (λ w. Shows card w.port b.last) (sym leads.0) b.shown;
    honest = subst (λ s. IsHonest g.kind b.last s.host) (sym leads.1) known;
    on_card = b.on_card;
  }
  by_move keeps es s s' w w' c b (Does deed before next) known may (event, returned, is, made, same) =
      let k = g.kind in
      let laws = laws_of k in
      let h = s.host in
      let allowed = may event is in
      let fine = fine_of es s w c b event (known.1 event is) allowed in
      let kept : Kept card event b.last returned w'.port = keeps w.port w'.port k event b.last h returned b.shown fine made.step in
      let honest = honest_after k laws event b.last h returned kept.after fine b.honest kept.step in
      let host_is : s'.host ≡ host_after k event returned h =
      ap (λ (s : Stand). s.host) same ∙ known.2 returned (host_after k event returned before) ∙ ap (λ h. host_after k event returned h) known.0 in
      record {
        last = kept.after;
        on = steps_more es c b.last kept.after event returned b.on allowed kept.step;
        shown = kept.shown;
        honest = subst (λ h. IsHonest k kept.after h) (sym host_is) honest;
        on_card = laws.steps_keep_on_card event b.last h returned kept.after b.honest.pair allowed.legal allowed.bounds kept.step b.on_card;
      }
  by_move keeps es s s' w w' c b (Halts last) known may leads = absurd leads

  -- THE RUN SO FAR, by its events
  pub record Watching (room : ℕ) (start : World S) (n : ℕ) (s : Stand) (w : World S) : Type 0 where
    pub so_far : SoFar steps g room start n s w
    pub events : List Pair
    pub happened : Happened g.kind steps events start w
    pub written : Written events start w
    pub leads : (e : Ending) (rest : List Pair) → Path g.kind g.points e s rest → Path g.kind g.points e (begin g) (events ++ rest)
    pub beside : (c : Card) → ShowsStart card g.kind false start.port c → Beside events s w c

  unfoldable pub begins : (room : ℕ) (start : World S) (n : ℕ) (s : Stand) → IsSound g → n ≡ g.steps → s ≡ begin g → Watching room start n s start
  begins room start n s sound all at = record {
    so_far = begins_at steps g room start n s sound all at;
    events = [];
    happened = none_happened g.kind steps start;
    written = none_written g.kind steps start;
    leads = λ e rest path. subst (λ s. Path g.kind g.points e s rest) at path;
    beside = λ c shows. begins_beside s start c at shows;
  }

  -- what comes next at a point is allowed at each card that the port shows
  abbrev pub IsAllowedHere : Stand → World S → Point → Type 0
  IsAllowedHere s w p = IsAllowedAt card g.kind s w.port p

  pub may_move : (s : Stand) (c : Card) (honest : IsHonest g.kind c s.host) (p : Point) (b : Bool) →
      allows_next g.kind s.host (sight_of c) (next_of g.kind p.action s.host) ≡ b → MayMove b (action_move g.kind p.action s.turns s.host) c
  may_move s c honest p b is =
      subst (λ v. MayMove v (action_move g.kind p.action s.turns s.host) c) is (allows_exactly g.kind (laws_of g.kind) c s.host honest p.action s.turns)

  module _ (keeps : KeepsTables steps card) (sound : IsSound g) (room : ℕ) (start : World S) (n : ℕ) (s : Stand) (w : World S)
      (so : Watching room start n s w) (p : Point) (here : slice_get g.points s.point ≡ Some p) where
    here_is : move_from g.kind g.points s ≡ action_move g.kind p.action s.turns s.host
    here_is = ap (λ o. move g.kind o s.turns s.host) here

    pub onward : (m : Move) (e : Ending) (rest : List Pair) → action_move g.kind p.action s.turns s.host ≡ m → Follows g.kind e (Path g.kind g.points e) m rest →
        Path g.kind g.points e (begin g) (so.events ++ rest)
    onward m e rest is follows =
        so.leads e rest (roll g.kind g.points e s rest (inr (subst (λ m. Follows g.kind e (Path g.kind g.points e) m rest) (sym (here_is ∙ is)) follows)))

    -- it goes on
    unfoldable pub goes : AnnounceAtMost g.points room → IsAllowedHere s w p → (s' : Stand) (w' : World S) →
        Leads g.kind steps (action_move g.kind p.action s.turns s.host) w w' s' → Watching room start (n - 1) s' w'
    goes few allowed s' w' leads =
        let m = action_move g.kind p.action s.turns s.host in
        let es = events_of m w w' s' leads in
        record {
          so_far = goes_on steps g room start n s s' w w' p sound few here so.so_far leads;
          events = so.events ++ es;
          happened = happened_more g.kind steps so.events es start w w' so.happened (happened_of m w w' s' leads);
          written = written_more g.kind steps so.events es start w w' so.written (written_of m w w' s' leads);
          leads = λ e rest path. subst (λ es. Path g.kind g.points e (begin g) es) (sym (append_assoc so.events es rest))
              (onward m e (es ++ rest) refl (follows_of m w w' s' leads e rest path));
          beside = λ c shows. (
              let b = so.beside c shows in
              by_move keeps so.events s s' w w' c b m (moves g.kind (laws_of g.kind) b.last s.host b.honest p.action s.turns (each_action_suits g sound s.point p here))
              (may_move s b.last b.honest p true (allowed b.last b.shown)) leads);
        }

    open_at : (s : Stand) → Path g.kind g.points Open s []
    open_at s = roll g.kind g.points Open s [] (inl (refl, refl))

    is_walk : (e : Ending) (es : List Pair) → Path g.kind g.points e (begin g) es → IsWalk g e es
    is_walk e es path = record { path = path; walk = λ names script begin_lines is. subst (λ k. Walk k names script e es) is.kind_same ((is.walks e es).1 path) }

    halts_with : (m : Move) (e : Ending) → action_move g.kind p.action s.turns s.host ≡ m → Follows g.kind e (Path g.kind g.points e) m [] →
        Path g.kind g.points e (begin g) so.events
    halts_with m e is follows = subst (λ es. Path g.kind g.points e (begin g) es) (append-nil so.events) (onward m e [] is follows)

    -- IT ENDS
    ends_well : (end : End) (c : Card) → MayMove true (Halts (ending_of end)) c → EndsWell (ending_of end) c
    ends_well Done c may = may
    ends_well (Fault name) c may = tt

    pub ends : (w' : World S) (end : End) (t : Option (List ℕ)) → IsAllowedHere s w p →
        (action_move g.kind p.action s.turns s.host ≡ Halts (ending_of end)) × (w' ≡ w) → Appends w'.trace t (end_line end) →
        EndsAllowed steps card g end start (record { port = w'.port; input = w'.input; out = w'.out; trace = t })
    ends w' end t allowed halts printed =
        let happened = subst (λ (w : World S). Happened g.kind steps so.events start w) (sym halts.1) so.happened in
        record {
          ran = record {
            events = so.events;
            happened = record { port = happened.port; input = happened.input };
            walk = is_walk (ending_of end) so.events (halts_with (Halts (ending_of end)) (ending_of end) halts.0 (refl, refl));
            output = subst (λ (w : World S). Appends start.out w.out (received so.events)) (sym halts.1) so.written.output;
            trace = appends_more start.trace w'.trace t (lines so.events) (end_line end)
                (subst (λ (w : World S). Appends start.trace w.trace (lines so.events)) (sym halts.1) so.written.trace) printed;
          };
          allowed = λ c shows. (
              let b = so.beside c shows in
              (b.last, b.on, ends_well end b.last (subst (λ m. MayMove true m b.last) halts.0 (may_move s b.last b.honest p true (allowed b.last b.shown)))));
        }

    -- it has come so far
    open_walk : IsWalk g Open so.events
    open_walk = is_walk Open so.events
        (subst (λ es. Path g.kind g.points Open (begin g) es) (append-nil so.events) (so.leads Open [] (open_at s)))

    -- IT STOPS
    halted : (point : ℕ) → s.point ≡ point → (t : Option (List ℕ)) → Halted steps g point start (record w { trace = t })
    halted point at t = record {
      events = so.events;
      happened = record { port = so.happened.port; input = so.happened.input };
      walk = open_walk;
      leads = record { stand = s; at = at; onward = so.leads };
      output = so.written.output;
    }

    walked : (script : Parsed) → IsGraphOfScript script g → (e : Ending) (es : List Pair) → Path g.kind g.points e (begin g) es → WalkOf script e es
    walked script of e es path = subst (λ k. Walk k script.names script.body e es) of.kind_same ((of.walks e es).1 path)

    refutes_by : (c : Card) (b : Beside so.events s w c) (wrong : Wrong) → wrong.sight ≡ sight_of b.last → (m : Move) →
        action_move g.kind p.action s.turns s.host ≡ m → MayMove false m b.last → NamesMove wrong.next m → ShowsStart card g.kind false start.port c →
        RefutesGraph g c so.events wrong
    refutes_by c b wrong seen (Goes next) is may names shows = absurd may
    refutes_by c b wrong seen (Does deed before next) is may names shows =
        let event = some_event deed in
        record {
          coming = an_event event.0;
          named = names event.0 event.1;
          refutes = λ script of. (
            record {
              kind = sym of.kind_same ∙ shows.kind;
              start = start_only c shows.start;
              last = b.last;
              steps = b.on;
              comes = λ returned fits. walked script of Open (so.events ++ (event.0, returned) ∷ [])
                  (onward (Does deed before next) Open ((event.0, returned) ∷ []) is
                  (event.0, returned, [], event.1, fits, refl, open_at (next returned (host_after g.kind event.0 returned before))));
              wrong = may event.0 event.1;
            },
            seen,
          );
        }
    refutes_by c b wrong seen (Halts Finished) is may names shows = record {
      coming = the_end;
      named = names;
      refutes = λ script of. (
        record {
          kind = sym of.kind_same ∙ shows.kind;
          start = start_only c shows.start;
          last = b.last;
          steps = b.on;
          comes = walked script of Finished so.events (halts_with (Halts Finished) Finished is (refl, refl));
          wrong = may;
        },
        seen,
      );
    }
    refutes_by c b wrong seen (Halts (Failed name)) is may names shows = absurd may
    refutes_by c b wrong seen (Halts Fell) is may names shows = absurd may
    refutes_by c b wrong seen (Halts Broke) is may names shows = absurd may
    refutes_by c b wrong seen (Halts Open) is may names shows = absurd may

    stands_before : (wrong : Wrong) (t : Option (List ℕ)) → IsWrongHere card g.lines g.kind s w.port p wrong → StandsBefore steps card g wrong start (record w { trace = t })
    unfolding halted
    stands_before wrong t is = record {
      halted = halted wrong.point is.at t;
      kind = is.kind;
      here = p;
      at = subst (λ n. slice_get g.points n ≡ Some p) is.at here;
      line = is.line;
      next = is.next;
      not_allowed = is.not_allowed;
      shape = is.shape;
      refutes = λ c shows. (
          let b = so.beside c shows in
          let look = is.seen b.last b.shown in
          let no : allows_next g.kind s.host (sight_of b.last) (next_of g.kind p.action s.host) ≡ false =
          ap (allows_next g.kind s.host (sight_of b.last)) is.next ∙ subst (λ v. allows g.kind s.host v wrong.next ≡ false) look is.not_allowed in
          refutes_by c b wrong look (action_move g.kind p.action s.turns s.host) refl
          (may_move s b.last b.honest p false no) (named g.kind p.action s.turns s.host wrong.next is.next) shows);
    }

    stops_before : (wrong : Wrong) (t : Option (List ℕ)) → IsWrongHere card g.lines g.kind s w.port p wrong → Appends w.trace t (wrong_line wrong.next) →
        StopsBefore steps card g wrong start (record w { trace = t })
    unfolding stands_before halted
    stops_before wrong t is printed = record {
      stands = stands_before wrong t is;
      trace = appends_more start.trace w.trace t (lines so.events) (wrong_line wrong.next) so.written.trace printed;
    }

    line_breaks_off : (wrong : Wrong) (t : Option (List ℕ)) → IsWrongHere card g.lines g.kind s w.port p wrong → AppendsPart w.trace t (wrong_line wrong.next) →
        WrongLineBrokeOff steps card g start (record w { trace = t })
    unfolding stands_before halted
    line_breaks_off wrong t is part = record {
      wrong = wrong;
      stands = stands_before wrong t is;
      trace = breaks_off start.trace w.trace t (lines so.events) (wrong_line wrong.next) so.written.trace part;
    }

    pub stops : (wrong : Wrong) (t : Option (List ℕ)) (result : Result Watched RunFault) → IsWrongHere card g.lines g.kind s w.port p wrong →
        StopsWith w.trace t wrong result → Watches steps card g start (record w { trace = t }) result
    stops wrong t (Ok watched) is (same, printed) =
        subst (λ v. Watches steps card g start (record w { trace = t }) (Ok v)) (sym same) (stops_before wrong t is printed)
    stops wrong t (Err fault) is (same, part) =
        subst (λ f. Watches steps card g start (record w { trace = t }) (Err f)) (sym same) (inr (line_breaks_off wrong t is part))

    -- IT IS CUT SHORT
    module _ (allowed : IsAllowedHere s w p) where
      -- at its end
      pub cut_at_end : (w' : World S) (end : End) (t : Option (List ℕ)) → (action_move g.kind p.action s.turns s.host ≡ Halts (ending_of end)) × (w' ≡ w) →
          AppendsPart w'.trace t (end_line end) → CutShort steps card g Trace start (record { port = w'.port; input = w'.input; out = w'.out; trace = t })
      cut_at_end w' end t halts part =
          let happened = subst (λ (w : World S). Happened g.kind steps so.events start w) (sym halts.1) so.happened in
          inl (record {
            ran = record {
              events = so.events;
              happened = record { port = happened.port; input = happened.input };
              walk = open_walk;
              because = inr (record {
                end = end;
                walk = is_walk (ending_of end) so.events (halts_with (Halts (ending_of end)) (ending_of end) halts.0 (refl, refl));
                output = subst (λ (w : World S). Appends start.out w.out (received so.events)) (sym halts.1) so.written.output;
                trace = breaks_off start.trace w'.trace t (lines so.events) (end_line end)
                    (subst (λ (w : World S). Appends start.trace w.trace (lines so.events)) (sym halts.1) so.written.trace) part;
              });
            };
            allowed = λ c shows. (
                let b = so.beside c shows in
                record {
                  last = b.last;
                  steps = b.on;
                  next = ends_well end b.last (subst (λ m. MayMove true m b.last) halts.0 (may_move s b.last b.honest p true (allowed b.last b.shown)));
                  no_reply = λ is. absurd (cc);
                });
          })

      module _ (w' : World S) (deed : Deed) (before : Host) (next : Return → Host → Stand)
          (is : action_move g.kind p.action s.turns s.host ≡ Does deed before next) where
        may_make : (c : Card) (b : Beside so.events s w c) (event : ScriptEvent) → IsDeed deed event → IsAllowed event b.last
        may_make c b = subst (λ m. MayMove true m b.last) is (may_move s b.last b.honest p true (allowed b.last b.shown))

        makes_fine : (c : Card) (b : Beside so.events s w c) (event : ScriptEvent) → IsDeed deed event → IsFine g.kind event b.last s.host
        makes_fine c b event of =
            let known = subst (Moves g.kind (laws_of g.kind) b.last s.host b.honest) is
            (moves g.kind (laws_of g.kind) b.last s.host b.honest p.action s.turns (each_action_suits g sound s.point p here)) in
            fine_of so.events s w c b event (known.1 event of) (may_make c b event of)

        kept_by : (c : Card) (b : Beside so.events s w c) (event : ScriptEvent) (returned : Return) → IsDeed deed event →
            steps w.port (call_of g.kind event) returned w'.port → Kept card event b.last returned w'.port
        kept_by c b event returned of step = keeps w.port w'.port g.kind event b.last s.host returned b.shown (makes_fine c b event of) step

        comes_next : (event : ScriptEvent) (returned : Return) → IsDeed deed event → MayReturn event returned →
            Path g.kind g.points Open (begin g) (so.events ++ (event, returned) ∷ [])
        comes_next event returned of fits = onward (Does deed before next) Open ((event, returned) ∷ []) is
            (event, returned, [], of, fits, refl, open_at (next returned (host_after g.kind event returned before)))

        -- one more event was made
        one_more : (event : ScriptEvent) (returned : Return) → steps w.port (call_of g.kind event) returned w'.port → w.input ≡ given_by event ++ w'.input →
            Happened g.kind steps (so.events ++ (event, returned) ∷ []) start w'
        one_more event returned step input =
            happened_more g.kind steps so.events ((event, returned) ∷ []) start w w' so.happened
            (record { port = (w'.port, step, refl); input = input ∙ ap (λ l. l ++ w'.input) (sym (append-nil (given_by event))) })

        -- A CARD'S ANSWERS are taken, and the arguments of its commands have 32 bits
        no_reply : (ask : Ask) (position argument : ℕ) → IsDeed deed (SendCommand ask position argument) →
            CutDeed Reply g.kind steps (exactly (SendCommand ask position argument)) w w' → (c : Card) → ShowsStart card g.kind false start.port c → ⊥
        no_reply ask position argument of (inl wide) c shows =
            let b = so.beside c shows in
            let event = SendCommand ask position argument in
            let small : argument < 2 ^ 32 =
            narrow g.kind ask position argument b.last s.host (laws_of g.kind).asks_address (makes_fine c b event of) b.honest.profile in
            let big : 2 ^ 32 ≤ argument = wide.0 in
            absurd (omega (arith, small, big))
        no_reply ask position argument of (inr refused) c shows =
            let b = so.beside c shows in
            let event = SendCommand ask position argument in
            let kept = kept_by c b event (Answered refused.0) of refused.1 in
            let t : is_taken g.kind ask refused.0 ≡ true =
            taken g.kind (laws_of g.kind) ask position argument b.last refused.0 kept.after
            (record { host = s.host; fine = makes_fine c b event of; honest = b.honest }) kept.step in
            let clash : true ≡ false = sym t ∙ refused.2 in
            absurd (cc)

        -- THE INPUT has too few blocks
        too_short : (width : Width) (count : ℕ) → ((blocks : List Block) → length blocks ≡ count → IsDeed deed (GiveBlocks width blocks)) →
            (length w.input < count) × (w' ≡ w) → StopsAllowed steps card g Input start w'
        too_short width count of cut = record {
          ran = record {
            events = so.events;
            happened = subst (λ w. Happened g.kind steps so.events start w) (sym cut.1) so.happened;
            walk = open_walk;
            because = record {
              width = width;
              count = count;
              short = subst (λ w. length w.input < count) (sym cut.1) cut.0;
              next = λ blocks len end. comes_next (GiveBlocks width blocks) (BlocksOut end) (of blocks len) tt;
              written = subst (λ w. Written so.events start w) (sym cut.1) so.written;
            };
          };
          allowed = λ c shows. (
              let b = so.beside c shows in
              record {
                last = b.last;
                steps = b.on;
                next = λ blocks len. may_make c b (GiveBlocks width blocks) (of blocks len);
                no_reply = λ is. absurd (cc);
              });
        }

        -- THE OUTPUT broke off behind the last event
        output_fails : (width : Width) (count : ℕ) → IsDeed deed (ReceiveBlocks width count) → CutDeed Output g.kind steps (exactly (ReceiveBlocks width count)) w w'
            → StopsAllowed steps card g Output start w'
        output_fails width count of (blocks, len, stepped, part, same) =
            let event = ReceiveBlocks width (length blocks) in
            let returned = BlocksIn phase_ends.Ok blocks in
            let step = subst (λ n. steps w.port (call_of g.kind (ReceiveBlocks width n)) returned w'.port) (sym len) stepped in
            let is_deed = subst (λ n. IsDeed deed (ReceiveBlocks width n)) (sym len) of in
            record {
              ran = record {
                events = so.events ++ (event, returned) ∷ [];
                happened = one_more event returned step (sym (ap (λ w. w.input) same));
                walk = is_walk Open (so.events ++ (event, returned) ∷ []) (comes_next event returned is_deed refl);
                because = record {
                  earlier = so.events;
                  width = width;
                  blocks = blocks;
                  last = refl;
                  output = breaks_off start.out w.out w'.out (received so.events) (concat blocks) so.written.output part;
                  trace = subst (λ t. Appends start.trace t (lines so.events)) (sym (ap (λ w. w.trace) same)) so.written.trace;
                };
              };
              allowed = λ c shows. (
                  let b = so.beside c shows in
                  let kept = kept_by c b event returned is_deed step in
                  record {
                    last = kept.after;
                    steps = steps_more so.events c b.last kept.after event returned b.on (may_make c b event is_deed) kept.step;
                    next = tt;
                    no_reply = λ is. absurd (cc);
                  });
            }

        -- THE TRACE broke off at the line of the last event
        trace_fails : CutDeed Trace g.kind steps deed w w' → StopsAllowed steps card g Trace start w'
        trace_fails (event, returned, of, fits, step, input, output, part) =
            let blocks = subst (λ l. Appends w.out w'.out l) (sym (append-nil (received_by returned))) output in
            record {
              ran = record {
                events = so.events ++ (event, returned) ∷ [];
                happened = one_more event returned step input;
                walk = is_walk Open (so.events ++ (event, returned) ∷ []) (comes_next event returned of fits);
                because = inl (record {
                  earlier = so.events;
                  event = event;
                  returned = returned;
                  last = refl;
                  output = subst (λ l. Appends start.out w'.out l) (sym (received_more so.events ((event, returned) ∷ [])))
                      (appends_more start.out w.out w'.out (received so.events) (received ((event, returned) ∷ [])) so.written.output blocks);
                  trace = breaks_off start.trace w.trace w'.trace (lines so.events) (line_of event returned) so.written.trace part;
                });
              };
              allowed = λ c shows. (
                  let b = so.beside c shows in
                  let kept = kept_by c b event returned of step in
                  record {
                    last = kept.after;
                    steps = steps_more so.events c b.last kept.after event returned b.on (may_make c b event of) kept.step;
                    next = tt;
                    no_reply = λ is. absurd (cc);
                  });
            }

      cut_move : (fault : RunFault) (w' : World S) (m : Move) → action_move g.kind p.action s.turns s.host ≡ m → IsCut fault g.kind steps m w w' →
          StopsAllowed steps card g fault start w'
      cut_move fault w' (Goes next) is cut = absurd cut
      cut_move fault w' (Halts last) is cut = absurd cut
      cut_move Reply w' (Does (exactly (SendCommand ask position argument)) before next) is cut = record {
        ran = cut_so steps g room start Reply n s w w' so.so_far (Does (exactly (SendCommand ask position argument)) before next) (here_is ∙ is) cut;
        allowed = λ c shows. absurd (no_reply w' (exactly (SendCommand ask position argument)) before next is ask position argument refl cut c shows);
      }
      cut_move Reply w' (Does (exactly (ReceiveBlocks width count)) before next) is cut = absurd cut
      cut_move Reply w' (Does (exactly (ReceiveRegister width count)) before next) is cut = absurd cut
      cut_move Reply w' (Does (exactly (GiveBlocks width blocks)) before next) is cut = absurd cut
      cut_move Reply w' (Does (exactly AwaitReady) before next) is cut = absurd cut
      cut_move Reply w' (Does (giving width count) before next) is cut = absurd cut
      cut_move Input w' (Does (exactly event) before next) is cut = absurd cut
      cut_move Input w' (Does (giving width count) before next) is cut =
          too_short w' (giving width count) before next is width count (λ blocks len. (blocks, len, refl)) cut
      cut_move Output w' (Does (exactly (ReceiveBlocks width count)) before next) is cut =
          output_fails w' (exactly (ReceiveBlocks width count)) before next is width count refl cut
      cut_move Output w' (Does (exactly (SendCommand ask position argument)) before next) is cut = absurd cut
      cut_move Output w' (Does (exactly (ReceiveRegister width count)) before next) is cut = absurd cut
      cut_move Output w' (Does (exactly (GiveBlocks width blocks)) before next) is cut = absurd cut
      cut_move Output w' (Does (exactly AwaitReady) before next) is cut = absurd cut
      cut_move Output w' (Does (giving width count) before next) is cut = absurd cut
      cut_move Trace w' (Does deed before next) is cut = trace_fails w' deed before next is cut
      cut_move Memory w' (Does deed before next) is cut = absurd cut

      pub cuts : (fault : RunFault) (w' : World S) → IsCut fault g.kind steps (action_move g.kind p.action s.turns s.host) w w' → CutShort steps card g fault start w'
      cuts Trace w' cut = inl (cut_move Trace w' (action_move g.kind p.action s.turns s.host) refl cut)
      cuts Reply w' cut = cut_move Reply w' (action_move g.kind p.action s.turns s.host) refl cut
      cuts Input w' cut = cut_move Input w' (action_move g.kind p.action s.turns s.host) refl cut
      cuts Output w' cut = cut_move Output w' (action_move g.kind p.action s.turns s.host) refl cut
      cuts Memory w' cut = cut_move Memory w' (action_move g.kind p.action s.turns s.host) refl cut

  -- without memory nothing happens
  pub no_memory : (w : World S) → StopsAllowed steps card g Memory w w
  no_memory w =
      let ran = nothing_ran steps g w in
      record {
        ran = ran;
        allowed = λ c shows. record {
          last = c;
          steps = subst (λ es. AllowedStepsOf c es c) (sym ran.because.none) refl;
          next = tt;
          no_reply = λ is. absurd (cc);
        };
      }
