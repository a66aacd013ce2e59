-- How a run over lines comes out, and what its files take.
use Rattle.std.proofs.Common.{◌≡◌, ◌∙◌, ap, refl, subst, sym, inl, inr, ℕ, List, [], ◌∷◌, ◌++◌, Option, Some, None, Result, Ok, Err, IfErr, IsErrAnd, OnOk}
use Rattle.std.specs.Prelude.{MatchOption, MatchResult, string_bytes}
use Rattle.std.specs.Borrow.{Bor}
use Rattle.std.specs.List.{AllByRecursion}
use Rattle.std.specs.Io.KnownBytes.{Appends, Consumes}
use Rattle.clap.specs.Words.{Text}
use Rattle.sdv_card.specs.Card.{Block}
use Rattle.sdv_graph.specs.Graph.{Graph}
use Rattle.sdv_facts.specs.Beside.{commands}
use Rattle.sdv_graph.specs.Walk.{Pair}
use Rattle.sdv_check.specs.Verified.{Acceptance, IsAccepted}
use Rattle.sdv_trace.specs.declared.end.End.{End}
use Rattle.sdv_trace.specs.declared.end.End.TheVariants as ends
use Rattle.sdv_run.specs.declared.fault.RunFault.{RunFault}
use Rattle.sdv_run.specs.declared.fault.RunFault.TheVariants as runs
use Rattle.sdv_trace.specs.Trace.{end_line}
use Rattle.sdv_run.specs.Run.{RunMoved, Steps, received}
use Rattle.sdv_trace.specs.Trace.{lines}
use Rattle.sdv_run.specs.Step.{World}
use Rattle.sdv_run.specs.Ran.{Ran}
use Rattle.sdv_text.proofs.WrittenLaws.{appends_more}
use Rattle.sdv_lines.specs.declared.fault.ProtocolFault.TheVariants as faults
use Rattle.sdv_lines.specs.declared.fault.PortFault.{PortFault}
use Rattle.sdv_lines.specs.declared.fault.PortFault.TheVariants.{Lines, Commands}
use Rattle.sdv_lines.specs.declared.port.LinePort.{LinePort}
use Rattle.sdv_lines.specs.Streams.{AppendsFront, LineSteps, Streams, TellsEnd, limited, streams_of, unheard_at, unheard_command}
use Rattle.sdv_program.specs.Requests.{DriveNames}
use Rattle.sdv_program.specs.declared.fault.Fault.{Fault}
use Rattle.sdv_program.specs.declared.fault.Fault.TheVariants.{File, Script, Certificate, Refused, Memory}
use Rattle.sdv_program.specs.Files.{Files}
use Rattle.sdv_commands.specs.Run.{FileUse, IsUnread, IsUnusable, IsUsed, as_input, as_output, as_text, blocks_of, some_use}
use Rattle.sdv_commands.proofs.GivenLaws.{both_used, input_gave, text_gave}
use Rattle.sdv_commands.specs.declared.drive.Given.{Given}
use Rattle.sdv_commands.specs.declared.drive.Outcome.{Outcome}
use Rattle.sdv_commands.specs.declared.drive.Outcome.TheVariants.{Lost, Ended, Stopped}
use Rattle.sdv_commands.proofs.AnnouncingLaws.{took_none}
use Rattle.sdv_commands.proofs.TalkLaws.{few_asked, said, spends_few, talks}
use Rattle.sdv_commands.specs.RefusedAnswers.{RanTraced, TracesRefused, refused_in}
use Rattle.sdv_commands.specs.Talk.{Talked, Talks, answer_lines, events_of, requests}
use Rattle.sdv_program.specs.Outcomes.{outcome_of as ended_as}
use Rattle.sdv_commands.specs.Drive.{AnswersOutcome, AreGiven, ComesOut, DriveFails, DrivesApart, EndsDrive, FailsToTrace, IsDrive, IsTraced, Takes, TellsIfEnded, TracesUnheard, outcome_of, uses_of}

-- THE RUN over the streams of a port

moved_of : {S : Type 0} (steps : Steps S) (g : Graph) (w w' : World S) (result : Result End RunFault) (ran : Ran steps g w w' result)
    → RunMoved g.kind steps w.port (events_of steps g w w' result ran) w'.port
moved_of steps g w w' (Ok end) ran = ran.happened.port
moved_of steps g w w' (Err fault) ran = ran.happened.port

module _ {R W : Type 0} (remaining : R → Option (List ℕ)) (contents : W → Option (List ℕ)) where
  abbrev pub streams : LinePort R W → Streams
  streams port = streams_of remaining contents port

-- what was run within the limit, with what it asked and heard
pub drove : (given : Given) (outcome : Outcome) (out out' trace traced trace' : Option (List ℕ)) (s begun after t s' : Streams) → s.fault ≡ None
    → (a : Acceptance) → IsAccepted (string_bytes given.script) (string_bytes given.certificate) a
    → begun ≡ limited (Some a.bound) s → t ≡ limited s.left after
    → (result : Result End RunFault) (input left : List Block) → input ≡ blocks_of given.input.items
    → RanTraced a.graph (record { port = begun; input = input; out = out; trace = trace })
    (record { port = after; input = left; out = out'; trace = traced }) result
    → TracesUnheard (unheard_command t) traced trace' → TellsIfEnded result t s' → outcome ≡ outcome_of s'.fault result → IsDrive given outcome out out' trace trace' s s'
drove given outcome out out' trace traced trace' s begun after t s' well a accepted limit lifted result input left same ran unheard told came =
    let b = limited (Some a.bound) s in
    let w : World Streams = record { port = b; input = blocks_of given.input.items; out = out; trace = trace } in
    let w' : World Streams = record { port = after; input = left; out = out'; trace = traced } in
    let within : RanTraced a.graph (record { port = b; input = input; out = out; trace = trace }) w' result =
    subst (λ p. RanTraced a.graph (record { port = p; input = input; out = out; trace = trace }) w' result) limit ran in
    let run : RanTraced a.graph w w' result =
    subst (λ i. RanTraced a.graph (record { port = b; input = i; out = out; trace = trace }) w' result) same within in
    let w'' : World Streams = record { port = after; input = left; out = out'; trace = run.printed } in
    let es = events_of LineSteps a.graph w w'' result run.ran in
    let talk : Talks a.graph.kind es b after = talks a.graph.kind es b after well (moved_of LineSteps a.graph w w'' result run.ran) in
    record {
      acceptance = a;
      accepted = accepted;
      result = result;
      after = after;
      left = left;
      printed = run.printed;
      traced = traced;
      ran = run.ran;
      refused = run.refused;
      talks = talk;
      few = few_asked a.graph.kind a.bound es b after refl talk;
      unheard = subst (λ p. TracesUnheard (unheard_command p) traced trace') lifted unheard;
      told = subst (λ p. TellsIfEnded result p s') lifted told;
      came_out = came;
    }

-- HOW IT COMES OUT

ended_so : (end : End) (o : Option PortFault) (result : Result End RunFault) → Ended end ≡ outcome_of o result → (o ≡ None) × (result ≡ Ok end)
ended_so end None (Ok e) is = let same : end ≡ e = cc in (refl, ap Ok (sym same))
ended_so end None (Err fault) is = absurd (cc is)
ended_so end (Some (Lines why)) result is = absurd (cc is)
ended_so end (Some Commands) result is = absurd (cc is)

-- want of memory is no end over the limit
no_memory : (o : Option PortFault) (result : Result End RunFault) → Stopped runs.Memory ≡ outcome_of o result → result ≡ Err runs.Memory
no_memory None (Ok e) is = absurd (cc is)
no_memory None (Err f) is = let same : runs.Memory ≡ f = cc in ap Err (sym same)
no_memory (Some (Lines why)) result is = absurd (cc is)
no_memory (Some Commands) result is = let same : runs.Memory ≡ runs.Reply = cc in absurd (cc)

-- the end was told by a port that did not give up
record WasTold (line : List ℕ) (t s' : Streams) : Type 0 where
  well : t.fault ≡ None
  written : Appends t.requests s'.requests line
  quiet : s'.answers ≡ t.answers

abbrev TellsAt : Option PortFault → (line : List ℕ) → Result (Unit {0}) PortFault → (t s' : Streams) → Type 0
TellsAt o line told t s' =
    MatchOption o
    (MatchResult told (λ _. Appends t.requests s'.requests line × (s'.fault ≡ None))
    (λ why. (why ≡ Lines faults.Write) × AppendsFront t.requests s'.requests line × (s'.fault ≡ Some why))
    × (s'.answers ≡ t.answers) × (s'.left ≡ t.left))
    (λ why. (told ≡ Err why) × (s' ≡ t))

told_at : (o : Option PortFault) (line : List ℕ) (told : Result (Unit {0}) PortFault) (t s' : Streams) → t.fault ≡ o → TellsAt o line told t s'
    → s'.fault ≡ None → WasTold line t s'
told_at None line (Ok x) t s' e tells well = record { well = e; written = tells.0.0; quiet = tells.1 }
told_at None line (Err why) t s' e tells well = let clash : None ≡ Some why = sym well ∙ tells.0.2 in absurd (cc)
told_at (Some why) line told t s' e tells well =
    let clash : None ≡ Some why = sym well ∙ ap (λ u. u.fault) tells.1 ∙ e in absurd (cc)

was_told : (line : List ℕ) (told : Result (Unit {0}) PortFault) (t s' : Streams) → TellsEnd t line told s' → s'.fault ≡ None → WasTold line t s'
was_told line told t s' tells well = told_at t.fault line told t s' refl tells well

-- a port that did not give up asked for all events, and heard all answers
talked_at : (o : Option PortFault) (g : Graph) (es : List Pair) (s t : Streams) → t.fault ≡ o → o ≡ None → Talks g.kind es s t → Talked g.kind es s t
talked_at None g es s t e well talk = said g.kind es s t None e talk
talked_at (Some why) g es s t e well talk = absurd (cc well)

module _ (files : Files) (names : DriveNames) (given : Given) (are : AreGiven files names given) (s s' : Streams) where
  -- the parts of a run that came out so
  module _ (out out' trace printed traced trace' : Option (List ℕ)) (outs : Takes files names.output out out') (traces : Takes files names.trace trace trace')
      (a : Acceptance) (accepted : IsAccepted (string_bytes given.script) (string_bytes given.certificate) a) (after : Streams) (left : List Block)
      (unheard : TracesUnheard (unheard_command after) traced trace') where
    abbrev begun : Streams
    begun = limited (Some a.bound) s

    abbrev world : World Streams
    world = record { port = begun; input = blocks_of given.input.items; out = out; trace = trace }

    abbrev world' : World Streams
    world' = record { port = after; input = left; out = out'; trace = printed }

    ends_so : (end : End) (ran : Ran LineSteps a.graph world world' (Ok end)) → TracesRefused after.fault None printed traced → Talks a.graph.kind ran.events begun after
        → TellsIfEnded (Ok end) (limited s.left after) s' → s'.fault ≡ None → EndsDrive files names end s s'
    ends_so end ran refused talk told well =
        let was : WasTold (end_line end) (limited s.left after) s' = was_told (end_line end) told.0 (limited s.left after) s' told.1 well in
        let none : unheard_command after ≡ None = ap (λ o. unheard_at o after.unheard) was.well in
        let same : trace' ≡ printed = subst (λ u. TracesUnheard u traced trace') none unheard ∙ took_none after.fault printed traced refused in
        let talked : Talked a.graph.kind ran.events begun after = talked_at after.fault a.graph ran.events begun after refl was.well talk in
        record {
          given = given;
          are_given = are;
          acceptance = a;
          accepted = accepted;
          events = ran.events;
          walk = ran.walk;
          few = spends_few (commands ran.events) a.bound (Some a.bound) after.left refl talked.spent;
          left = left;
          input = ran.happened.input;
          dues = talked.dues;
          announced = talked.announced;
          written = appends_more s.requests after.requests s'.requests (requests a.graph.kind ran.events talked.dues) (end_line end) talked.written
              was.written;
          answers = talked.answers;
          are_answers = talked.are_answers;
          read = subst (λ known. Consumes s.answers known (answer_lines talked.answers)) (sym was.quiet) talked.read;
          trace = traces (lines ran.events ++ end_line end)
              (subst (λ known. Appends trace known (lines ran.events ++ end_line end)) (sym same) ran.trace);
          output = outs (received ran.events) ran.output;
        }

    ends_by : (end : End) (result : Result End RunFault) (ran : Ran LineSteps a.graph world world' result)
        → TracesRefused after.fault (refused_in a.graph world world' result ran) printed traced → Talks a.graph.kind (events_of LineSteps a.graph world world' result ran) begun after → TellsIfEnded result (limited s.left after) s'
        → (s'.fault ≡ None) × (result ≡ Ok end) → EndsDrive files names end s s'
    ends_by end (Ok e) ran refused talk told is =
        let same : e ≡ end = cc is.1 in subst (λ x. EndsDrive files names x s s') same (ends_so e ran refused talk told is.0)
    ends_by end (Err fault) ran refused talk told is = absurd (cc is.1)

    -- where memory was refused nothing was asked
    quiet_by : (result : Result End RunFault) (ran : Ran LineSteps a.graph world world' result) → TellsIfEnded result (limited s.left after) s'
        → result ≡ Err runs.Memory → s' ≡ s
    quiet_by (Ok e) ran told is = absurd (cc is)
    quiet_by (Err runs.Memory) ran told is = told ∙ ap (λ w. limited s.left w.port) ran.because.same
    quiet_by (Err fault) ran told is = absurd (cc is)

module _ (files : Files) (names : DriveNames) (s s' : Streams) where
  ends_of : (end : End) → ComesOut files names (Ended end) s s' → EndsDrive files names end s s'
  ends_of end came =
      let drive = came.traced.drive in
      ends_by files names came.given came.are_given s s' came.out came.out' came.traced.trace drive.printed drive.traced came.traced.trace' came.taken came.traced.traced
      drive.acceptance drive.accepted drive.after drive.left drive.unheard end drive.result drive.ran drive.refused drive.talks drive.told
      (ended_so end s'.fault drive.result drive.came_out)

  quiet_of : ComesOut files names (Stopped runs.Memory) s s' → s' ≡ s
  quiet_of came =
      let drive = came.traced.drive in
      quiet_by files names came.given came.are_given s s' came.out came.out' came.traced.trace drive.printed drive.traced came.traced.trace' came.taken came.traced.traced
      drive.acceptance drive.accepted drive.after drive.left drive.unheard drive.result drive.ran drive.told (no_memory s'.fault drive.result drive.came_out)

  pub answered : (outcome : Outcome) (r : Result (Unit {0}) Fault) → AnswersOutcome outcome r → ComesOut files names outcome s s'
      → OnOk r (EndsDrive files names ends.Done s s')
  answered (Lost why) r is came = rw is.1 tt
  answered (Ended ends.Done) r is came = rw is (ends_of ends.Done came)
  answered (Ended (ends.Fault name)) r is came = rw is tt
  answered (Stopped fault) r is came = rw is tt

  pub answered_fails : (outcome : Outcome) (r : Result (Unit {0}) Fault) → AnswersOutcome outcome r → ComesOut files names outcome s s'
      → IfErr r (λ fault. DriveFails files names fault s s')
  answered_fails (Lost why) r is came = rw is.1 came
  answered_fails (Ended ends.Done) r is came = rw is tt
  answered_fails (Ended (ends.Fault name)) r is came = rw is (ends.Fault name, (λ same. absurd (cc same)), ends_of (ends.Fault name) came)
  answered_fails (Stopped runs.Reply) r is came = rw is came
  answered_fails (Stopped runs.Input) r is came = rw is came
  answered_fails (Stopped runs.Output) r is came = rw is came
  answered_fails (Stopped runs.Trace) r is came = rw is came
  answered_fails (Stopped runs.Memory) r is came = rw is (quiet_of came)

  -- WHERE FILES FAIL

  -- a file that is read gave nothing
  pub unread_fails : {T : Type 0} (fault : Fault) (r : Result T Fault) → IsUnread files (uses_of names) fault → s' ≡ s → IsErrAnd r (λ f. f ≡ fault)
      → IfErr r (λ f. DriveFails files names f s s')
  unread_fails fault (Ok x) unread quiet is = absurd is
  unread_fails (File file) (Err f) unread quiet is = rw is (inl (unread, quiet))
  unread_fails Memory (Err f) unread quiet is = rw is quiet
  unread_fails fault (Err f) unread quiet is = absurd unread

  module _ (given : Given) (are : AreGiven files names given) where
    -- the uses before those of the output and of the trace
    abbrev reads : List FileUse
    reads = as_text names.script ∷ as_text names.certificate ∷ some_use as_input names.input

    reads_used : AllByRecursion (IsUsed files) reads
    reads_used =
        let script = text_gave files names.script given.script are.script in
        let certificate = text_gave files names.certificate given.certificate are.certificate in
        (script, (certificate, input_gave files names.input given.input.items are.input))

    output_made : (output : Option Text) → AllByRecursion (IsUsed files) (some_use as_output output)
    output_made None = tt
    output_made (Some file) = (tt, tt)

    made_unused : (earlier later : List FileUse) (file : Text) → uses_of names ≡ earlier ++ as_output file ∷ later
        → AllByRecursion (IsUsed files) earlier → files.uncreated file → IsUnusable files (uses_of names) file
    made_unused earlier later file place used uncreated = record {
      wanted = as_output file;
      is_file = refl;
      earlier = earlier;
      later = later;
      place = place;
      used = used;
      failed = uncreated;
    }

    output_place : (input output trace : Option Text) (file : Text) → output ≡ Some file
        → as_text names.script ∷ as_text names.certificate ∷ some_use as_input input ++ (some_use as_output output ++ some_use as_output trace)
        ≡ (as_text names.script ∷ as_text names.certificate ∷ some_use as_input input) ++ as_output file ∷ some_use as_output trace
    output_place input output trace file is = rw is refl

    trace_place : (input output trace : Option Text) (file : Text) → trace ≡ Some file
        → as_text names.script ∷ as_text names.certificate ∷ some_use as_input input ++ (some_use as_output output ++ some_use as_output trace)
        ≡ (as_text names.script ∷ as_text names.certificate ∷ some_use as_input input ++ some_use as_output output) ++ as_output file ∷ []
    trace_place None None trace file is = rw is refl
    trace_place None (Some o) trace file is = rw is refl
    trace_place (Some i) None trace file is = rw is refl
    trace_place (Some i) (Some o) trace file is = rw is refl

    pub output_unusable : (file : Text) → names.output ≡ Some file → files.uncreated file → IsUnusable files (uses_of names) file
    output_unusable file is uncreated =
        made_unused reads (some_use as_output names.trace) file (output_place names.input names.output names.trace file is) reads_used uncreated

    pub trace_unusable : (file : Text) → Some file ≡ names.trace → files.uncreated file → IsUnusable files (uses_of names) file
    trace_unusable file is uncreated =
        made_unused (reads ++ some_use as_output names.output) [] file (trace_place names.input names.output names.trace file (sym is))
        (both_used files reads (some_use as_output names.output) reads_used (output_made names.output)) uncreated

    -- the trace had no file, or there was no run
    fails_of : (fault : Fault) → FailsToTrace files names given fault s s' → DriveFails files names fault s s'
    fails_of (File file) (is, inl (uncreated, quiet)) = inl (trace_unusable file.now is uncreated, quiet)
    fails_of (File file) (is, inr (unfinished, lost)) =
        inr (record { given = given; are_given = are; lost = lost; is_file = inl is; unfinished = unfinished })
    fails_of (Script fault) (refuses, quiet) = record { given = given; are_given = are; refused = refuses; quiet = quiet }
    fails_of (Certificate fault) (refuses, quiet) = record { given = given; are_given = are; refused = refuses; quiet = quiet }
    fails_of (Refused fault) (refuses, quiet) = record { given = given; are_given = are; refused = refuses; quiet = quiet }
    fails_of Memory (refuses, quiet) = quiet
    fails_of fault fails = absurd fails.0

    pub untraced_fails : {T : Type 0} (fault : Fault) (r : Result T Fault) → FailsToTrace files names given fault s s' → IsErrAnd r (λ f. f ≡ fault)
        → IfErr r (λ f. DriveFails files names f s s')
    untraced_fails fault (Ok x) fails is = absurd is
    untraced_fails fault (Err f) fails is = rw is (fails_of fault fails)

    -- the file of the output does not take all
    pub finish_fails : (file : Bor Text) → Some file.now ≡ names.output → files.unfinished file.now → (outcome : Outcome) (out out' : Option (List ℕ))
        → IsTraced files names given outcome out out' s s' → DriveFails files names (File file) s s'
    finish_fails file output unfinished outcome out out' traced = inr (record {
      given = given;
      are_given = are;
      lost = record { outcome = outcome; out = out; out' = out'; trace = traced.trace; trace' = traced.trace'; drive = traced.drive };
      is_file = inr (output, traced.traced);
      unfinished = unfinished;
    })

    pub comes_out : (outcome : Outcome) (out out' : Option (List ℕ)) → IsTraced files names given outcome out out' s s'
        → Takes files names.output out out' → ComesOut files names outcome s s'
    comes_out outcome out out' traced taken =
        record { given = given; are_given = are; out = out; out' = out'; traced = traced; taken = taken }

    pub unmade_fails : {T : Type 0} (file : Bor Text) → names.output ≡ Some file.now → files.uncreated file.now → s' ≡ s
        → (fault : Fault) → fault ≡ File file → (r : Result T Fault) → IsErrAnd r (λ f. f ≡ fault) → IfErr r (λ f. DriveFails files names f s s')
    unmade_fails file output uncreated quiet fault of (Ok x) is = absurd is
    unmade_fails file output uncreated quiet fault of (Err f) is = rw (is, of) (inl (output_unusable file.now output uncreated, quiet))

-- THE COMMAND, by the answer of its function
pub drives_apart : (files : Files) (names : DriveNames) (s s' : Streams) (r : Result (Unit {0}) Fault) → OnOk r (EndsDrive files names ends.Done s s')
    → IfErr r (λ fault. DriveFails files names fault s s') → DrivesApart files names s s' (ended_as r)
drives_apart files names s s' (Ok done) ended fails = ended
drives_apart files names s s' (Err fault) ended fails = fails
