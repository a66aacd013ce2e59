-- What a run without a certificate leaves, and why there is none.
use Rattle.std.proofs.Common.{◌≡◌, ◌/◌, refl, inl, inr, Some, None, ℕ, List, ◌∷◌, ◌++◌, [], Option, Result, Ok, Err, IfErr, IsErrAnd}
use Rattle.std.specs.Prelude.{◌≢◌, ◌⊎◌, string_bytes}
use Rattle.std.specs.Borrow.{Bor}
use Rattle.std.specs.Io.KnownBytes.{Appends, Keeps}
use Rattle.std.specs.List.{AllByRecursion}
use Rattle.clap.specs.Words.{Text}
use Rattle.sdv_behavior.specs.declared.card_desc.CardDesc.{CardDesc}
use Rattle.sdv_behavior.specs.Gives.{Describes}
use Rattle.sdv_behavior.specs.Gives.{Refuses as IsNoCard}
use Rattle.sdv_image.specs.Refused.{IsRefused as IsNoImage}
use Rattle.sdv_graph.specs.Graph.{Graph}
use Rattle.sdv_image.specs.declared.fault.SimFault.{SimFault}
use Rattle.sdv_image.specs.declared.fault.SimFault.TheVariants.{Description, Capacity, ImageLength, ImageRead, Memory}
use Rattle.sdv_script.specs.declared.fault.FaultKind.{FaultKind}
use Rattle.sdv_script.specs.declared.fault.FaultKind.TheVariants as kinds
use Rattle.sdv_script.specs.declared.fault.ScriptFault.{ScriptFault}
use Rattle.sdv_check.specs.Verified.{IsNoScript}
use Rattle.sdv_trace.specs.declared.end.End.TheVariants as ends
use Rattle.sdv_run.specs.declared.fault.RunFault.{RunFault}
use Rattle.sdv_run.specs.declared.fault.RunFault.TheVariants as runs
use Rattle.sdv_refute.specs.declared.simulated.TryFault.{TryFault}
use Rattle.sdv_refute.specs.declared.simulated.TryFault.TheVariants as tries
use Rattle.sdv_refute.specs.declared.wrong.Watched.{Watched}
use Rattle.sdv_refute.specs.declared.wrong.Watched.TheVariants.{Ended, Stopped}
use Rattle.sdv_behavior.specs.Schedules.{are_codes}
use Rattle.sdv_refute.specs.Tries.{HasNoCard, IsUnmadeFor, TryRefuses}
use Rattle.sdv_refute.proofs.ToldRun.{quiet_without_memory}
use Rattle.sdv_program.specs.Requests.{TryNames}
use Rattle.sdv_named_schedules.specs.declared.fault.ScheduleFault.{ScheduleFault}
use Rattle.sdv_named_schedules.specs.declared.idle.Idle.{Idle}
use Rattle.sdv_program.specs.Fault.{fault_of_card, fault_of_script, fault_of_try}
use Rattle.sdv_program.specs.declared.fault.Fault.{Fault}
use Rattle.sdv_program.specs.declared.fault.Fault.TheVariants.{File, Script, Card, Schedule as Unscheduled, OtherKind, Named, Memory as NoMemory}
use Rattle.sdv_program.specs.Files.{CardImage, Files}
use Rattle.sdv_program.specs.Outcomes.{outcome_of}
use Rattle.sdv_commands.specs.Run.{FileUse, GivesImage, IsUnread, IsUnreadable, IsUnusable, IsUsed, LosesImage, Receives}
use Rattle.sdv_commands.specs.Run.{as_image, as_input, as_output, as_schedule, as_text, schedule_codes, some_use}
use Rattle.sdv_commands.proofs.GivenLaws.{both_used, input_gave, text_gave}
use Rattle.sdv_commands.proofs.RunLaws.{refused_so}
use Rattle.sdv_commands.specs.declared.attempt.Given.{Given}
use Rattle.sdv_commands.specs.Schedules.{GivesValues}
use Rattle.sdv_commands.specs.Try.{Answers, AreGiven, ComesTo, EndsApart, FailsToKeep, HasNoCardOver, HasWrongSchedule, IsKept, IsLost, IsUnreadFor, RefusesTry, TryFails, unless_idle, uses_of}

-- WHY NOTHING IS RUN

module _ (given : Given) (image : CardImage) (unread : Type 0) where
  Refused : Option Fault → Type 0
  Refused None = ⊥
  Refused (Some fault) = RefusesTry given image unread fault

  no_card : (fault : SimFault) → (fault ≢ Memory → HasNoCardOver (string_bytes given.script) (string_bytes given.card) given.codes.items image unread fault)
      → RefusesTry given image unread (fault_of_card fault)
  no_card Memory has = tt
  no_card Description has = has (λ same. absurd (cc same))
  no_card Capacity has = has (λ same. absurd (cc same))
  no_card ImageLength has = has (λ same. absurd (cc same))
  no_card ImageRead has = has (λ same. absurd (cc same))

  no_script : (kind : FaultKind) (fault : ScriptFault) → (kind ≢ kinds.Memory → IsNoScript (string_bytes given.script))
      → RefusesTry given image unread (fault_of_script kind fault)
  no_script kinds.Memory fault is = tt
  no_script kinds.Token fault is = is (λ same. absurd (cc same))
  no_script kinds.Syntax fault is = is (λ same. absurd (cc same))
  no_script kinds.Name fault is = is (λ same. absurd (cc same))
  no_script kinds.Command fault is = is (λ same. absurd (cc same))
  no_script kinds.Argument fault is = is (λ same. absurd (cc same))
  no_script kinds.Guard fault is = is (λ same. absurd (cc same))
  no_script kinds.Limit fault is = is (λ same. absurd (cc same))
  no_script kinds.NoEnd fault is = is (λ same. absurd (cc same))

  -- the image is no whole number of blocks
  pub no_image : {T : Type 0} (fault : SimFault) → IsNoImage image.bytes fault → (r : Result T Fault) → IsErrAnd r (λ f. f ≡ fault_of_card fault)
      → IfErr r (RefusesTry given image unread)
  no_image fault none (Ok x) is = absurd is
  no_image ImageLength none (Err f) is = rw is (inl (none, refl))
  no_image Memory none (Err f) is = rw is tt
  no_image _ none (Err f) is = absurd none

  untried_so : (fault : TryFault) → TryRefuses (string_bytes given.script) (string_bytes given.card) given.codes.items (image.bytes / 512) unread fault
      → RefusesTry given image unread (fault_of_try fault)
  untried_so (tries.Script fault) refuses = no_script fault.kind fault refuses
  untried_so tries.Kind refuses = refuses
  untried_so (tries.Card fault) refuses = no_card fault (λ other. inr (refuses other))
  untried_so tries.Memory refuses = tt

  pub untried : {T : Type 0} (fault : TryFault)
      → TryRefuses (string_bytes given.script) (string_bytes given.card) given.codes.items (image.bytes / 512) unread fault
      → (r : Result T Fault) → IsErrAnd r (λ f. f ≡ fault_of_try fault) → IfErr r (RefusesTry given image unread)
  untried fault refuses (Ok x) is = absurd is
  untried fault refuses (Err f) is = rw is (untried_so fault refuses)

-- what a refusal says where a failed call says more
module _ (U V : Type 0) (more : U → V) where
  none_so : (g : Graph) (card codes : List ℕ) (size : ℕ) (fault : SimFault)
      → (IsNoCard card fault ⊎ ((desc : CardDesc) × Describes card desc × IsUnmadeFor g desc codes size U fault))
      → IsNoCard card fault ⊎ ((desc : CardDesc) × Describes card desc × IsUnmadeFor g desc codes size V fault)
  none_so g card codes size fault (inl none) = inl none
  none_so g card codes size fault (inr (desc, described, none)) =
      inr (desc, described, record { kind = none.kind; unmade = refused_so U V more (are_codes codes) size _ fault none.unmade })

  has_no_card_so : (text card codes : List ℕ) (size : ℕ) (fault : SimFault) → HasNoCard text card codes size U fault
      → HasNoCard text card codes size V fault
  has_no_card_so text card codes size fault refused =
      record { graph = refused.graph; of_text = refused.of_text; none = none_so refused.graph card codes size fault refused.none }

  pub try_refuses_so : (text card codes : List ℕ) (size : ℕ) (fault : TryFault) → TryRefuses text card codes size U fault → TryRefuses text card codes size V fault
  try_refuses_so text card codes size (tries.Script fault) refuses = refuses
  try_refuses_so text card codes size tries.Kind refuses = refuses
  try_refuses_so text card codes size (tries.Card fault) refuses = λ other. has_no_card_so text card codes size fault (refuses other)
  try_refuses_so text card codes size tries.Memory refuses = refuses

  no_card_over_so : (text card codes : List ℕ) (image : CardImage) (fault : SimFault) → HasNoCardOver text card codes image U fault
      → HasNoCardOver text card codes image V fault
  no_card_over_so text card codes image fault (inl part) = inl part
  no_card_over_so text card codes image fault (inr none) = inr (has_no_card_so text card codes (image.bytes / 512) fault none)

  refuses_so : (given : Given) (image : CardImage) (fault : Fault) → RefusesTry given image U fault → RefusesTry given image V fault
  refuses_so given image (Script fault) refuses = refuses
  refuses_so given image OtherKind refuses = refuses
  refuses_so given image (Card fault) refuses = no_card_over_so (string_bytes given.script) (string_bytes given.card) given.codes.items image fault refuses
  refuses_so given image NoMemory refuses = refuses
  refuses_so given image _ refuses = absurd refuses

-- nothing was run, and so nothing is kept
module _ (files : Files) (names : TryNames) (given : Given) (image : CardImage) (trace trace' : Option (List ℕ)) where
  unkept : (fault : Fault) → RefusesTry given image (IsUnreadable files names.image) fault → Keeps trace trace'
      → FailsToKeep files names given image fault trace trace'
  unkept (File file) refuses kept = absurd refuses
  unkept (Script fault) refuses kept = (refuses, kept)
  unkept OtherKind refuses kept = (refuses, kept)
  unkept (Card fault) refuses kept = (refuses, kept)
  unkept NoMemory refuses kept = (refuses, kept)
  unkept _ refuses kept = absurd refuses

  pub refusal_unkept : {T : Type 0} (U : Type 0) → (U → IsUnreadable files names.image) → (fault : Fault) → RefusesTry given image U fault
      → Keeps trace trace' → (r : Result T Fault) → IsErrAnd r (λ f. f ≡ fault) → IfErr r (λ f. FailsToKeep files names given image f trace trace')
  refusal_unkept U more fault refuses kept (Ok x) is = absurd is
  refusal_unkept U more fault refuses kept (Err f) is = rw is (unkept fault (refuses_so U (IsUnreadable files names.image) more given image fault refuses) kept)

  -- the file of the image did not take the card's blocks
  pub close_fails : {T : Type 0} (file : Bor Text) → file.now ≡ names.image → IsLost given image trace trace' → LosesImage files names.image
      → (fault : Fault) → fault ≡ File file → (r : Result T Fault) → IsErrAnd r (λ f. f ≡ fault)
      → IfErr r (λ f. FailsToKeep files names given image f trace trace')
  close_fails file same lost loses fault of (Ok x) is = absurd is
  close_fails file same lost loses fault of (Err f) is = rw (is, of) (lost, same, loses)

-- THE FILES

values_used : (files : Files) (name : Option Text) (codes : List ℕ) (idle : List Idle) → GivesValues files name codes idle
    → AllByRecursion (IsUsed files) (some_use as_schedule name)
values_used files None codes idle given = tt
values_used files (Some file) codes idle given = ((schedule_codes given.0, (given.0, given.1, refl)), tt)

module _ (files : Files) (names : TryNames) where
  abbrev pub three : List FileUse → List FileUse
  three more = as_text names.script ∷ as_text names.card ∷ as_image names.image ∷ more

  pub three_used : IsUsed files (as_text names.script) → IsUsed files (as_text names.card) → (image : CardImage) → GivesImage files names.image image
      → (more : List FileUse) → AllByRecursion (IsUsed files) more → AllByRecursion (IsUsed files) (three more)
  three_used script card image opened more used = (script, (card, ((image, opened), used)))

  pub input_place : (schedule input : Option Text) (file : Text) (more : List FileUse) → input ≡ Some file
      → three (some_use as_schedule schedule ++ (some_use as_input input ++ more)) ≡ three (some_use as_schedule schedule) ++ as_input file ∷ more
  input_place None input file more is = rw is refl
  input_place (Some first) input file more is = rw is refl

  output_place : (schedule input output : Option Text) (file : Text) → output ≡ Some file
      → three (some_use as_schedule schedule ++ (some_use as_input input ++ some_use as_output output))
      ≡ three (some_use as_schedule schedule ++ some_use as_input input) ++ as_output file ∷ []
  output_place None None output file is = rw is refl
  output_place None (Some second) output file is = rw is refl
  output_place (Some first) None output file is = rw is refl
  output_place (Some first) (Some second) output file is = rw is refl

  -- a file of the output that cannot be made or emptied
  output_unusable : (given : Given) (image : CardImage) (file : Text) → AreGiven files names given image → names.output ≡ Some file
      → files.uncreated file → IsUnusable files (uses_of names) file
  output_unusable given image file are is uncreated = record {
    wanted = as_output file;
    is_file = refl;
    earlier = three (some_use as_schedule names.schedule ++ some_use as_input names.input);
    later = [];
    place = output_place names.schedule names.input names.output file is;
    used = three_used (text_gave files names.script given.script are.script) (text_gave files names.card given.card are.card) image are.of_image
        (some_use as_schedule names.schedule ++ some_use as_input names.input)
        (both_used files (some_use as_schedule names.schedule) (some_use as_input names.input) (values_used files names.schedule given.codes.items given.idle.items are.schedule)
        (input_gave files names.input given.input.items are.input));
    failed = uncreated;
  }

-- THE END of a run, for what the files gave
module _ (files : Files) (names : TryNames) (trace trace' : Option (List ℕ)) where
  -- a file was not read
  unread_fails : (fault : Fault) → IsUnread files (uses_of names) fault → Keeps trace trace' → TryFails files names fault trace trace'
  unread_fails (File file) unread kept = inl (unread, kept)
  unread_fails NoMemory unread kept = kept
  unread_fails _ unread kept = absurd unread

  -- or that of the schedule is wrong
  wrong_fails : (why : ScheduleFault) (fault : Fault) → fault ≡ Unscheduled why → HasWrongSchedule files names why → Keeps trace trace'
      → TryFails files names fault trace trace'
  wrong_fails why fault same wrong kept = rw same (wrong, kept)

  unready : (fault : Fault) → IsUnreadFor files names fault → Keeps trace trace' → TryFails files names fault trace trace'
  unready fault (inl unread) kept = unread_fails fault unread kept
  unready fault (inr wrong) kept = wrong_fails wrong.0 fault wrong.1 wrong.2 kept

  pub unread_ends : {T : Type 0} (fault : Fault) → IsUnreadFor files names fault → Keeps trace trace' → (r : Result T Fault) → IsErrAnd r (λ f. f ≡ fault)
      → EndsApart files names (outcome_of r) trace trace'
  unread_ends fault unread kept (Ok x) is = absurd is
  unread_ends fault unread kept (Err f) is = rw is (unready fault unread kept)

  -- memory was refused before the run
  pub memory_ends : {T : Type 0} (r : Result T Fault) → IsErrAnd r (λ f. f ≡ NoMemory) → Keeps trace trace' → EndsApart files names (outcome_of r) trace trace'
  memory_ends (Ok x) is kept = absurd is
  memory_ends (Err f) is kept = rw is kept

  module _ (given : Given) (image : CardImage) (are : AreGiven files names given image) where
    fails_of : (fault : Fault) → FailsToKeep files names given image fault trace trace' → TryFails files names fault trace trace'
    fails_of (File file) fails =
        inr (record { given = given; image = image; are_given = are; lost = fails.0; is_file = inl (fails.1, fails.2) })
    fails_of (Script fault) fails = record { given = given; image = image; are_given = are; refused = fails.0; kept = fails.1 }
    fails_of OtherKind fails = record { given = given; image = image; are_given = are; refused = fails.0; kept = fails.1 }
    fails_of (Card fault) fails = record { given = given; image = image; are_given = are; refused = fails.0; kept = fails.1 }
    fails_of NoMemory fails = fails.1
    fails_of _ fails = absurd fails.0

    pub kept_fails : {T : Type 0} (fault : Fault) → FailsToKeep files names given image fault trace trace' → (r : Result T Fault) → IsErrAnd r (λ f. f ≡ fault)
        → EndsApart files names (outcome_of r) trace trace'
    kept_fails fault fails (Ok x) is = absurd is
    kept_fails fault fails (Err f) is = rw is (fails_of fault fails)

    -- the file of the output cannot be made or emptied
    pub made_fails : {T : Type 0} (file : Bor Text) → names.output ≡ Some file.now → files.uncreated file.now → Keeps trace trace'
        → (fault : Fault) → fault ≡ File file → (r : Result T Fault) → IsErrAnd r (λ f. f ≡ fault) → EndsApart files names (outcome_of r) trace trace'
    made_fails file output uncreated kept fault unopened (Ok x) is = absurd is
    made_fails file output uncreated kept fault unopened (Err f) is =
        rw (is, unopened) (inl (output_unusable files names given image file.now are output uncreated, kept))

    -- or does not take all
    pub finish_fails : (file : Bor Text) → Some file.now ≡ names.output → files.unfinished file.now
        → (end : Result Watched RunFault) (out out' : Option (List ℕ))
        → IsKept files names given image end out out' trace trace' → TryFails files names (File file) trace trace'
    finish_fails file output unfinished end out out' kept = inr (record {
      given = given;
      image = image;
      are_given = are;
      lost = record { blocks' = kept.blocks'; result = end; out = out; out' = out'; tried = kept.tried };
      is_file = inr (output, unfinished, kept.stored);
    })

    module _ (out out' : Option (List ℕ)) (takes : (bytes : List ℕ) → Appends out out' bytes → Receives files names.output bytes) where
      comes : (end : Result Watched RunFault) → IsKept files names given image end out out' trace trace' → ComesTo files names end trace trace'
      comes end kept = record { given = given; image = image; are_given = are; out = out; out' = out'; kept = kept; output = takes }

      -- a run that has no memory leaves all as it was
      unmoved : IsKept files names given image (Err runs.Memory) out out' trace trace' → Keeps trace trace'
      unmoved kept = quiet_without_memory _ _ _ _ _ _ kept.tried.tries.watched

      -- a run that came to its end, by the lines of the schedule that had no effect
      done_by : (idle : List Idle) → given.idle.items ≡ idle → IsKept files names given image (Ok (Ended ends.Done)) out out' trace trace'
          → EndsApart files names (unless_idle idle None) trace trace'
      unfolding comes
      done_by [] same kept = (comes _ kept, same)
      done_by (line ∷ lines) same kept = (ends.Done, comes _ kept, (λ none. absurd (cc (same, none))))

      fault_by : (name : _) (idle : List Idle) → given.idle.items ≡ idle → IsKept files names given image (Ok (Ended (ends.Fault name))) out out' trace trace'
          → EndsApart files names (unless_idle idle (Some Named)) trace trace'
      unfolding comes
      fault_by name [] same kept = (ends.Fault name, (λ is. absurd (cc is)), (comes _ kept, same))
      fault_by name (line ∷ lines) same kept = (ends.Fault name, comes _ kept, (λ none. absurd (cc (same, none))))

      pub ended : (end : Result Watched RunFault) (outcome : Option Fault) → Answers given.idle.items end outcome
          → IsKept files names given image end out out' trace trace' → EndsApart files names outcome trace trace'
      ended (Ok (Ended ends.Done)) outcome answers kept = rw answers (done_by given.idle.items refl kept)
      ended (Ok (Ended (ends.Fault name))) outcome answers kept = rw answers (fault_by name given.idle.items refl kept)
      ended (Ok (Stopped wrong)) outcome answers kept = rw answers.2 (wrong, answers.1, comes _ kept)
      ended (Err runs.Reply) outcome answers kept = rw answers (comes _ kept)
      ended (Err runs.Input) outcome answers kept = rw answers (comes _ kept)
      ended (Err runs.Output) outcome answers kept = rw answers (comes _ kept)
      ended (Err runs.Trace) outcome answers kept = rw answers (comes _ kept)
      ended (Err runs.Memory) outcome answers kept = rw answers (unmoved kept)
