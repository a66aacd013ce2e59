-- What a run is given and what it leaves.
use Rattle.std.proofs.Common.{arith, ◌≡◌, ◌⊎◌, refl, ap, subst, sym, inl, inr, Some, None, IfSome, OnOk, ℕ, zero, suc, List, ◌∷◌, take, drop, Option, Result, Ok, Err, IfErr, IsErrAnd, ◌/◌, Bool, true, false}
use Rattle.std.specs.Prelude.{◌≢◌, string_bytes}
use Rattle.std.specs.Simd.{first_chunks}
use Rattle.std.specs.Borrow.{Bor}
use Rattle.std.specs.Option.{ok_or}
use Rattle.std.specs.Io.KnownBytes.{Appends, Keeps}
use Rattle.sdv_text.specs.Written.{AppendsPart}
use Rattle.clap.specs.Words.{Text}
use Rattle.sdv_card.specs.Card.{Block, Card as SeenCard}
use Rattle.sdv_card.specs.Port.{Call}
use Rattle.sdv_card.specs.ScriptEvent.{Return}
use Rattle.sdv_check.specs.Verified.{Acceptance, IsAccepted}
use Rattle.sdv_image.specs.FileImages.{failed_of, file_of, shown_of, size_of}
use Rattle.sdv_image.specs.Refused.{IsRefused as IsNoImage}
use Rattle.sdv_image.specs.declared.block_file.BlockFile.{Ghosts as FileGhosts}
use Rattle.sdv_image.specs.declared.file_image.FileImage.{FileImage}
use Rattle.sdv_image.specs.Images.{HasFailed}
use Rattle.sdv_image.specs.MemBlocks.{blocks_in}
use Rattle.sdv_image.specs.declared.fault.SimFault.{SimFault}
use Rattle.sdv_image.specs.declared.fault.SimFault.TheVariants.{Description, Capacity, ImageLength, ImageRead, Memory}
use Rattle.sdv_image.specs.declared.image.Image.{Ghosts}
use Rattle.sdv_behavior.specs.Gives.{Describes}
use Rattle.sdv_behavior.specs.declared.card_desc.CardDesc.{CardDesc}
use Rattle.sdv_behavior.specs.Layout.{image_size}
use Rattle.sdv_behavior.specs.SimSteps.{SimState, SimSteps, card_shown}
use Rattle.sdv_sim.specs.declared.sim.Sim.{Sim}
use Rattle.sdv_sim.specs.SimOf.{state_of}
use Rattle.sdv_sim.specs.Made.{IsMade, IsRefused, IsUnread, are_digits}
use Rattle.sdv_controller.specs.declared.controller.Controller.{Controller}
use Rattle.sdv_controller.specs.Controlled.{ControllerSteps, wire_of}
use Rattle.sdv_graph.specs.Graph.{Graph}
use Rattle.sdv_trace.specs.declared.end.End.{End}
use Rattle.sdv_trace.specs.declared.end.End.TheVariants.{Done, Fault as Ended}
use Rattle.sdv_run.specs.declared.fault.RunFault.{RunFault}
use Rattle.sdv_run.specs.declared.fault.RunFault.TheVariants as runs
use Rattle.sdv_run.specs.Run.{Steps, received}
use Rattle.sdv_run.specs.Step.{World}
use Rattle.sdv_run.specs.OnCard.{RanBeside}
use Rattle.sdv_program.specs.Fault.{fault_of_card}
use Rattle.sdv_program.specs.Requests.{RunNames}
use Rattle.sdv_program.specs.Files.{CardImage, Files}
use Rattle.sdv_program.specs.Outcomes.{outcome_of}
use Rattle.sdv_commands.specs.Run.{AreGiven, EndsRun, FailsToKeep, FailsToRegister, HasNoCard, IsKeptWith, IsLost, IsRunWith, IsOfFile, IsUnreadable, LosesImage, LosesRegisters, Receives, RefusesRun, EndsApart, RunFails, StopsRun, StoresImage, answer_of, registers_of}
use Rattle.sdv_program.specs.declared.fault.Fault.{Fault}
use Rattle.sdv_program.specs.declared.fault.Fault.TheVariants.{File, Script, Certificate, Refused, Card, Memory as NoMemory}
use Rattle.sdv_commands.specs.declared.given.Given.{Given}
use Rattle.sdv_commands.specs.RunImages.{MayHaveFailed}
use Rattle.sdv_commands.specs.Registers.{RegisterSteps, Taken, Took, events_of, port_of, registered, sink_of, taken_of}
use Rattle.sdv_commands.specs.declared.registers.RegisterPort.{RegisterPort}
use Rattle.sdv_commands.specs.declared.registers.RegisterSink.{RegisterSink}
use Rattle.sdv_commands.proofs.GivenLaws.{output_unusable, registers_unusable}
use Rattle.sdv_commands.proofs.TakenLaws.{taken as output_taken}
use Rattle.sdv_commands.proofs.RegisterLaws.{ran_taken}
use Rattle.sdv_commands.proofs.RunMaps.{seen, seen_events, seen_run, seen_step}
use Rattle.sdv_program.proofs.StartLaws.{keeps_same}

-- chunks of 512 bytes are blocks
pub chunks_are_blocks : (n : ℕ) (bytes : List ℕ) → first_chunks 512 n bytes ≡ blocks_in n bytes
chunks_are_blocks zero bytes = refl
chunks_are_blocks (suc n) bytes = ap (λ blocks. take 512 bytes ∷ blocks) (chunks_are_blocks n (drop 512 bytes))

-- there is no card
abbrev pub NoCard : (description : Text) → (codes : List ℕ) → CardImage → (unread : Type 0) → SimFault → Type 0
NoCard description codes image unread fault = fault ≢ Memory → HasNoCard description codes image unread fault

module _ {T : Type 0} (description : Text) (codes : List ℕ) (image : CardImage) (unread : Type 0) where
  pub no_card : (fault : SimFault) (r : Result T SimFault) → NoCard description codes image unread fault → IsErrAnd r (λ f. f ≡ fault)
      → IfErr r (NoCard description codes image unread)
  no_card fault (Ok x) has is = absurd is
  no_card fault (Err f) has is = rw is has

  -- nor an image
  pub no_image : (desc : CardDesc) → Describes description desc → (fault : SimFault) → IsNoImage image.bytes fault
      → (r : Result T SimFault) → IsErrAnd r (λ f. f ≡ fault)
      → IfErr r (NoCard description codes image unread)
  no_image desc described ImageLength other r is = no_card ImageLength r (λ _. inr (inl (desc, described, other, refl))) is
  no_image desc described Memory other r is = no_card Memory r (λ differs. absurd (differs refl)) is
  no_image desc described fault other r is = absurd other

-- a script is accepted, and there is no card
module _ {T : Type 0} (given : Given) (image : CardImage) (unread : Type 0) (a : Acceptance)
    (accepted : IsAccepted (string_bytes given.script) (string_bytes given.certificate) a) where
  pub refused_card : (fault : SimFault) (r : Result T Fault) → NoCard (string_bytes given.card) given.codes.items image unread fault
      → IsErrAnd r (λ f. f ≡ fault_of_card fault) → IfErr r (RefusesRun given image unread)
  refused_card fault (Ok x) has is = absurd is
  refused_card Memory (Err f) has is = rw is tt
  refused_card Description (Err f) has is = rw is ((a, accepted), has (λ same. absurd (cc same)))
  refused_card Capacity (Err f) has is = rw is ((a, accepted), has (λ same. absurd (cc same)))
  refused_card ImageLength (Err f) has is = rw is ((a, accepted), has (λ same. absurd (cc same)))
  refused_card ImageRead (Err f) has is = rw is ((a, accepted), has (λ same. absurd (cc same)))

-- the port of a run, as its steps see it
module _ {I : Type 0} {images : Ghosts I} where
  abbrev pub sim_of : Controller (Sim I images) → SimState
  sim_of port = state_of (wire_of port)

  pub made_over : (desc : CardDesc) (codes codes' : List ℕ) (shown shown' : Option (List Block)) (s s' : Sim I images) → codes ≡ codes' → shown ≡ shown'
      → s' ≡ s → IsMade desc codes shown (state_of s) → IsMade desc codes' shown' (state_of s')
  made_over desc codes codes' shown shown' s s' same_codes same_shown same made =
      subst (λ t. IsMade desc codes' shown' (state_of t)) (sym same)
      (subst (λ known. IsMade desc codes' known (state_of s)) same_shown (subst (λ c. IsMade desc c shown (state_of s)) same_codes made))

-- a run of the script beside the card, with what its writer of registers took
abbrev pub RanWith : (took : List ℕ → Type 0) (g : Graph) (most : ℕ) (w w' : World SimState) (result : Result End RunFault) → Type 0
RanWith took g most w w' result =
    (ran : RanBeside (ControllerSteps SimSteps) card_shown g most w w' result)
    × took (registered (events_of (ControllerSteps SimSteps) card_shown g most w w' result ran))

-- the port of a run with its writer of registers
module _ {I : Type 0} (images : Ghosts I) {R : Type 0} (contents : R → Option (List ℕ)) where
  abbrev CardPort : Type 0
  CardPort = RegisterPort (Controller (Sim I images)) R

  abbrev pub sim_of_port : CardPort → SimState
  sim_of_port port = sim_of (port_of port)

  abbrev taken : CardPort → Taken
  taken port = taken_of contents (sink_of port)

  abbrev WireSteps : Steps (Controller (Sim I images))
  WireSteps c call returned c' =
      ControllerSteps (λ s call returned s'. SimSteps (state_of s) call returned (state_of s')) (wire_of c) call returned (wire_of c')

  abbrev SinkSteps : Steps CardPort
  SinkSteps p call returned p' = RegisterSteps WireSteps (port_of p) (taken p) call returned (port_of p') (taken p')

  abbrev SinkCard : CardPort → Option SeenCard
  SinkCard p = card_shown (sim_of_port p)

  pub run_of_sim : (g : Graph) (most : ℕ) (w w' : World CardPort) (result : Result End RunFault)
      → RanBeside SinkSteps SinkCard g most w w' result → (taken w.port).failed ≡ false
      → RanWith (Took (taken w'.port).failed (taken w.port).known (taken w'.port).known) g most (seen sim_of_port w) (seen sim_of_port w') result
  run_of_sim g most w w' result ran well =
      let step : (p : CardPort) (call : Call) (returned : Return) (p' : CardPort) → SinkSteps p call returned p'
      → ControllerSteps SimSteps (sim_of_port p) call returned (sim_of_port p') =
      λ p call returned p' made. seen_step state_of SimSteps (wire_of (port_of p)) call returned (wire_of (port_of p')) made.0 in
      let same = seen_events sim_of_port SinkSteps (ControllerSteps SimSteps) step SinkCard card_shown (λ p. refl) g most w w' result ran in
      let took = ran_taken WireSteps port_of taken SinkCard g most w w' result ran well in (
        seen_run sim_of_port SinkSteps (ControllerSteps SimSteps) step SinkCard card_shown (λ p. refl) g most w w' result ran,
        subst (λ events. Took (taken w'.port).failed (taken w.port).known (taken w'.port).known (registered events)) (sym same) took,
      )

  -- for what the port was made of, and what became of its writer
  pub run_over : (g : Graph) (most : ℕ) (port port' : CardPort) (card : Controller (Sim I images)) (writer : R) (sink' : RegisterSink R)
      (input input' left : List Block) (out out' trace trace' : Option (List ℕ)) (result : Result End RunFault)
      → port_of port ≡ card → (sink_of port).writer ≡ writer → (sink_of port).has_failed ≡ false → sink' ≡ sink_of port' → input ≡ input'
      → RanBeside SinkSteps SinkCard g most (record { port = port; input = input; out = out; trace = trace })
      (record { port = port'; input = left; out = out'; trace = trace' }) result
      → RanWith (Took sink'.has_failed (contents writer) (contents sink'.writer)) g most
      (record { port = sim_of card; input = input'; out = out; trace = trace })
      (record { port = sim_of_port port'; input = left; out = out'; trace = trace' }) result
  run_over g most port port' card writer sink' input input' left out out' trace trace' result is_card is_writer good is_after is_input ran =
      let With : (c : Controller (Sim I images)) (x : R) (s' : RegisterSink R) (i : List Block) → Type 0 =
      λ c x s' i. RanWith (Took s'.has_failed (contents x) (contents s'.writer)) g most
      (record { port = sim_of c; input = i; out = out; trace = trace })
      (record { port = sim_of_port port'; input = left; out = out'; trace = trace' }) result in
      let first : With (port_of port) (sink_of port).writer (sink_of port') input =
      run_of_sim g most (record { port = port; input = input; out = out; trace = trace })
      (record { port = port'; input = left; out = out'; trace = trace' }) result ran good in
      subst (λ c. With c writer sink' input') is_card
      (subst (λ x. With (port_of port) x sink' input') is_writer
      (subst (λ s'. With (port_of port) (sink_of port).writer s' input') (sym is_after)
      (subst (λ i. With (port_of port) (sink_of port).writer (sink_of port') i) is_input first)))

-- a failed read of an image is a failed call of its file
pub file_unread : {F : Type 0} {file : FileGhosts F} (image : FileImage F file) (f : F) → file_of image ≡ f → IsUnread size_of shown_of failed_of image →
    MayHaveFailed file.failed f
file_unread {file = file} image f same unread =
    (file_of unread.after, subst (λ known. HasFailed (file.failed known) (failed_of unread.after)) same unread.counted)

-- no call of a new image fails
pub never_unread : {I : Type 0} (image : I) → MayHaveFailed (λ _. 0) image → ⊥
never_unread image (after, inl rose) = absurd (omega (arith, rose))
never_unread image (after, inr greatest) = absurd (omega (arith, greatest))

-- what a refusal says where a failed call says more
module _ (U V : Type 0) (more : U → V) where
  pub refused_so : (is_known : Bool) (size capacity : ℕ) (fault : SimFault) → IsRefused is_known size capacity U fault → IsRefused is_known size capacity V fault
  refused_so is_known size capacity Description refused = refused
  refused_so is_known size capacity ImageLength refused = refused
  refused_so is_known size capacity ImageRead refused = (refused.0, more refused.1)
  refused_so is_known size capacity Memory refused = refused
  refused_so is_known size capacity Capacity refused = refused

  pub no_card_so : (description : Text) (codes : List ℕ) (image : CardImage) (fault : SimFault) → HasNoCard description codes image U fault
      → HasNoCard description codes image V fault
  no_card_so description codes image fault (inl none) = inl none
  no_card_so description codes image fault (inr (inl other)) = inr (inl other)
  no_card_so description codes image fault (inr (inr refused)) =
      inr (inr (refused.0, refused.1, refused.2, refused_so (are_digits codes) (image.bytes / 512) (image_size refused.0) fault refused.3))

  refuses_so : (given : Given) (image : CardImage) (fault : Fault) → RefusesRun given image U fault → RefusesRun given image V fault
  refuses_so given image (Script fault) refuses = refuses
  refuses_so given image (Certificate fault) refuses = refuses
  refuses_so given image (Refused fault) refuses = refuses
  refuses_so given image (Card fault) refuses = (refuses.0, no_card_so (string_bytes given.card) given.codes.items image fault refuses.1)
  refuses_so given image NoMemory refuses = refuses
  refuses_so given image _ refuses = absurd refuses

-- nothing was run, and so nothing is kept
module _ (files : Files) (names : RunNames) (given : Given) (image : CardImage) (trace trace' : Option (List ℕ)) where
  unkept : (fault : Fault) → RefusesRun given image (IsUnreadable files names.image) fault → Keeps trace trace'
      → FailsToKeep files names given image fault trace trace'
  unkept (File file) refuses kept = absurd refuses
  unkept (Script fault) refuses kept = (refuses, kept)
  unkept (Certificate fault) refuses kept = (refuses, kept)
  unkept (Refused fault) refuses kept = (refuses, kept)
  unkept (Card fault) refuses kept = (refuses, kept)
  unkept NoMemory refuses kept = (refuses, kept)
  unkept _ refuses kept = absurd refuses

  pub refusal_unkept : {T : Type 0} (U : Type 0) → (U → IsUnreadable files names.image) → (fault : Fault) → RefusesRun given image U fault
      → Keeps trace trace' → (r : Result T Fault) → IsErrAnd r (λ f. f ≡ fault) → IfErr r (λ f. FailsToKeep files names given image f trace trace')
  refusal_unkept U more fault refuses kept (Ok x) is = absurd is
  refusal_unkept U more fault refuses kept (Err f) is = rw is (unkept fault (refuses_so U (IsUnreadable files names.image) more given image fault refuses) kept)

  -- the file of the image did not take the card's blocks
  pub close_fails : {T : Type 0} (file : Bor Text) → file.now ≡ names.image → IsLost given image trace trace' → LosesImage files names.image
      → (fault : Fault) → fault ≡ File file → (r : Result T Fault) → IsErrAnd r (λ f. f ≡ fault)
      → IfErr r (λ f. FailsToKeep files names given image f trace trace')
  close_fails file same lost loses fault of (Ok x) is = absurd is
  close_fails file same lost loses fault of (Err f) is = rw (is, of) (lost, same, loses)

-- a run that was kept, and what is known of its registers
module _ (files : Files) (names : RunNames) (given : Given) (result : Result End RunFault) (out out' trace trace' : Option (List ℕ)) where
  pub kept_over : {G : Type 0} (took : List ℕ → Type 0) (image_of : G → CardImage) (image same : G) → image ≡ same → (blocks' : Option (List Block))
      → IsRunWith took given (image_of same) blocks' result out out' trace trace' → StoresImage files names.image blocks'
      → IsKeptWith took files names given (image_of image) result out out' trace trace'
  kept_over took image_of image same is blocks' ran stored =
      subst (λ i. IsKeptWith took files names given (image_of i) result out out' trace trace') (sym is)
      (record { kept = record { blocks' = blocks'; run = ran.run; stored = stored }; registers = ran.registers })

  module _ (image : CardImage) (old new : Option (List ℕ)) where
    -- their file took what was written to it
    pub registers_told : (file : Text) → Some file ≡ names.registers → (failed : Bool) → failed ≡ false
        → ((bytes : List ℕ) → Appends old new bytes → files.received file bytes)
        → IsKeptWith (Took failed old new) files names given image result out out' trace trace'
        → IsKeptWith (Receives files names.registers) files names given image result out out' trace trace'
    registers_told file is failed good ended told = record {
      kept = told.kept;
      registers = subst (λ name. Receives files name (registers_of told.kept.run)) is
          (ended (registers_of told.kept.run) (subst (λ f. Took f old new (registers_of told.kept.run)) good told.registers));
    }

    loses : (file : Text) (failed : Bool) (bytes : List ℕ) → Took failed old new bytes
        → files.unfinished file ⊎ ((failed ≡ true) × ((front : List ℕ) → Appends old new front → files.received file front))
        → LosesRegisters files file bytes
    loses file failed bytes took (inl unfinished) = inl unfinished
    loses file failed bytes took (inr broken) =
        let part : AppendsPart old new bytes = subst (λ f. Took f old new bytes) broken.0 took in
        inr (record { front = part.0; rest = part.1; is_front = part.2; is_part = part.3; received = broken.1 part.0 part.4 })

    -- it did not
    pub registers_lost : {T : Type 0} (file : Bor Text) → Some file.now ≡ names.registers → (failed : Bool)
        → files.unfinished file.now ⊎ ((failed ≡ true) × ((front : List ℕ) → Appends old new front → files.received file.now front))
        → IsKeptWith (Took failed old new) files names given image result out out' trace trace'
        → (fault : Fault) → fault ≡ File file → (r : Result T Fault) → IsErrAnd r (λ f. f ≡ fault)
        → IfErr r (λ f. FailsToRegister files names given image f trace trace')
    registers_lost file is failed why told fault of (Ok x) found = absurd found
    registers_lost file is failed why told fault of (Err f) found =
        rw (found, of) (inr (
          is,
          inr (record {
            lost = record { blocks' = told.kept.blocks'; result = result; out = out; out' = out'; run = told.kept.run };
            stored = told.kept.stored;
            loses = loses file.now failed (registers_of told.kept.run) told.registers why;
          }),
        ))

pub loses_image : (files : Files) (name : Text) (failed : Type 0) → IsOfFile name → (failed → files.images.failed name)
    → failed ⊎ files.images.unclosed name → LosesImage files name
loses_image files name failed is says (inl once) = (is, inl (says once))
loses_image files name failed is says (inr unclosed) = (is, inr unclosed)

-- what comes of what was opened
pub opened_of : {S : Type 0} (o : Option S) (fault : Fault) (s : S) (P : S → Type 0) → Ok s ≡ ok_or o fault → IfSome o P → P s
opened_of None fault s P is opened = absurd (cc is)
opened_of (Some x) fault s P is opened = let same : x ≡ s = cc in subst P same opened

pub none_of : {S : Type 0} (o : Option S) (fault f : Fault) → Err f ≡ ok_or o fault → o ≡ None
none_of None fault f is = refl
none_of (Some x) fault f is = absurd (cc is)

pub unopened : {S : Type 0} (o : Option S) (fault f : Fault) → Err f ≡ ok_or o fault → f ≡ fault
unopened None fault f is = cc
unopened (Some x) fault f is = absurd (cc is)

-- THE END of a run, for what the files gave
module _ (files : Files) (names : RunNames) (given : Given) (image : CardImage) (are : AreGiven files names given image) (trace trace' : Option (List ℕ)) where
  fails_of : (fault : Fault) → FailsToKeep files names given image fault trace trace' → RunFails files names fault trace trace'
  fails_of (File file) fails =
      inr (record { given = given; image = image; are_given = are; lost = fails.0; is_file = inl (fails.1, fails.2) })
  fails_of (Script fault) fails = record { given = given; image = image; are_given = are; refused = fails.0; kept = fails.1 }
  fails_of (Certificate fault) fails = record { given = given; image = image; are_given = are; refused = fails.0; kept = fails.1 }
  fails_of (Refused fault) fails = record { given = given; image = image; are_given = are; refused = fails.0; kept = fails.1 }
  fails_of (Card fault) fails = record { given = given; image = image; are_given = are; refused = fails.0; kept = fails.1 }
  fails_of NoMemory fails = fails.1
  fails_of _ fails = absurd fails.0

  -- nor of the registers
  register_fails : (fault : Fault) → FailsToRegister files names given image fault trace trace' → RunFails files names fault trace trace'
  register_fails (File file) (inl fails) = fails_of (File file) fails
  register_fails (File file) (inr (is, inl (uncreated, kept))) = inl (registers_unusable files names given image are file.now (sym is) uncreated, kept)
  register_fails (File file) (inr (is, inr lost)) =
      inr (record { given = given; image = image; are_given = are; lost = lost.lost; is_file = inr (lost.stored, inl (is, lost.loses)) })
  register_fails (Script fault) fails = fails_of (Script fault) fails
  register_fails (Certificate fault) fails = fails_of (Certificate fault) fails
  register_fails (Refused fault) fails = fails_of (Refused fault) fails
  register_fails (Card fault) fails = fails_of (Card fault) fails
  register_fails NoMemory fails = fails_of NoMemory fails
  register_fails _ fails = absurd fails.0

  pub kept_fails : {T : Type 0} (fault : Fault) (r : Result T Fault) → FailsToRegister files names given image fault trace trace'
      → IsErrAnd r (λ f. f ≡ fault) → IfErr r (λ f. RunFails files names f trace trace')
  kept_fails fault (Ok x) fails is = absurd is
  kept_fails fault (Err f) fails is = rw is (register_fails fault fails)

  -- the file of the output cannot be made or emptied
  pub made_fails : {T : Type 0} (file : Bor Text) → names.output ≡ Some file.now → files.uncreated file.now → Keeps trace trace'
      → (fault : Fault) → fault ≡ File file → (r : Result T Fault) → IsErrAnd r (λ f. f ≡ fault) → IfErr r (λ f. RunFails files names f trace trace')
  made_fails file output uncreated kept fault unopened (Ok x) is = absurd is
  made_fails file output uncreated kept fault unopened (Err f) is =
      rw (is, unopened) (inl (output_unusable files names given image are file.now output uncreated, kept))

  -- or does not take all
  pub finish_fails : (file : Bor Text) → Some file.now ≡ names.output → files.unfinished file.now
      → (end : Result End RunFault) (out out' : Option (List ℕ))
      → IsKeptWith (Receives files names.registers) files names given image end out out' trace trace' → RunFails files names (File file) trace trace'
  finish_fails file output unfinished end out out' told = inr (record {
    given = given;
    image = image;
    are_given = are;
    lost = record { blocks' = told.kept.blocks'; result = end; out = out; out' = out'; run = told.kept.run };
    is_file = inr (told.kept.stored, inr (output, unfinished, told.registers));
  })

  module _ (out out' : Option (List ℕ)) (takes : (bytes : List ℕ) → Appends out out' bytes → Receives files names.output bytes) where
    abbrev pub Told : Result End RunFault → Type 0
    Told end = IsKeptWith (Receives files names.registers) files names given image end out out' trace trace'

    ends : (e : End) → Told (Ok e) → EndsRun files names e trace trace'
    ends e told = record {
      given = given;
      image = image;
      are_given = are;
      out = out;
      out' = out';
      kept = told.kept;
      output = takes (received told.kept.run.ran.0.events) told.kept.run.ran.0.output;
      registers = told.registers;
    }

    pub ended : (end : Result End RunFault) (r : Result (Unit {0}) Fault) → r ≡ answer_of end → Told end
        → OnOk r (EndsRun files names Done trace trace')
    ended (Ok Done) r is kept = rw is (ends Done kept)
    ended (Ok (Ended name)) r is kept = rw is tt
    ended (Err fault) r is kept = rw is tt

    stops : (fault : RunFault) → (fault ≡ runs.Memory → ⊥) → Told (Err fault)
        → StopsRun files names fault trace trace'
    stops fault other told = record {
      given = given;
      image = image;
      are_given = are;
      out = out;
      out' = out';
      kept = told.kept;
      output = output_taken files names.output _ _ takes fault told.kept.run.acceptance.graph told.kept.run.ran.0.events told.kept.run.ran.0.because other;
      registers = told.registers;
    }

    unmoved : Told (Err runs.Memory) → Keeps trace trace'
    unmoved told = let same : trace' ≡ trace = ap (λ w. w.trace) told.kept.run.ran.0.because.same in rw same (keeps_same trace)

    pub ended_fails : (end : Result End RunFault) (r : Result (Unit {0}) Fault) → r ≡ answer_of end
        → Told end → IfErr r (λ fault. RunFails files names fault trace trace')
    ended_fails (Ok Done) r is kept = rw is tt
    ended_fails (Ok (Ended name)) r is kept = rw is (Ended name, (λ same. absurd (cc same)), ends (Ended name) kept)
    ended_fails (Err runs.Reply) r is kept = rw is (stops runs.Reply (λ same. absurd (cc same)) kept)
    ended_fails (Err runs.Input) r is kept = rw is (stops runs.Input (λ same. absurd (cc same)) kept)
    ended_fails (Err runs.Output) r is kept = rw is (stops runs.Output (λ same. absurd (cc same)) kept)
    ended_fails (Err runs.Trace) r is kept = rw is (stops runs.Trace (λ same. absurd (cc same)) kept)
    ended_fails (Err runs.Memory) r is kept = rw is (unmoved kept)

-- THE COMMAND, by the answer of its function
module _ (files : Files) (names : RunNames) (trace trace' : Option (List ℕ)) where
  pub run_ends : (r : Result (Unit {0}) Fault) → OnOk r (EndsRun files names Done trace trace') → IfErr r (λ fault. RunFails files names fault trace trace')
      → EndsApart files names (outcome_of r) trace trace'
  run_ends (Ok u) done fails = done
  run_ends (Err fault) done fails = fails

  pub run_fails : (fault : Fault) (r : Result (Unit {0}) Fault) → IsErrAnd r (λ f. f ≡ fault) → IfErr r (λ fault. RunFails files names fault trace trace')
      → EndsApart files names (outcome_of r) trace trace'
  run_fails fault (Ok u) is fails = absurd is
  run_fails fault (Err f) is fails = fails
