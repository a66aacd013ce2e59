-- What the end of a request says of standard output.
use Rattle.std.proofs.Common.{subst, ◌≡◌, ◌≢◌, ◌∙◌, inl, inr, refl, sym, ap, ℕ, IfErr, IsErrAnd, List, OnOk, Option, Result, Ok, Err, Some, None, false}
use Rattle.std.specs.Io.KnownBytes.{Keeps}
use Rattle.clap.specs.Words.{Text}
use Rattle.sdv_commands.specs.Sweep.{ImageEnds, InputEnds}
use Rattle.sdv_commands.specs.Try.{TryEnds}
use Rattle.sdv_commands.specs.Run.{RunEnds}
use Rattle.sdv_program.specs.Requests.{CardNames, EmitNames, RunNames, SweepNames, TryNames, Request, verify, frame, certify, check, run, batch, explain, graph, emit, audit, decode, drive, serve, describe, attempt, sweep}
use Rattle.sdv_program.specs.CommandLine.{request_of_words}
use Rattle.sdv_program.specs.declared.line.LineFault.{LineFault}
use Rattle.sdv_program.specs.declared.line.LineFault.TheVariants as requests
use Rattle.sdv_commands.specs.Page.{asks_page}
use Rattle.sdv_program.specs.Fault.{fault_of_request, status_of}
use Rattle.sdv_program.specs.declared.fault.Fault.{Fault}
use Rattle.sdv_program.specs.declared.fault.Fault.TheVariants.{Memory, Output}
use Rattle.sdv_program.specs.Files.{Files}
use Rattle.sdv_program.specs.Outcomes.{Ending, OverText, Prints, Reports, outcome_of}
use Rattle.sdv_program.proofs.OutcomeLaws.{failed, over-kept, prints-kept}
use Rattle.sdv_program.proofs.StartLaws.{keeps_same}
use Rattle.sdv_program.specs.Refused.{Refuses}
use Rattle.sdv_lines.specs.Streams.{Streams}
use Rattle.sdv_commands.specs.Emit.{EmitEnds, IsTableText, TableEnds, Unemitted}
use Rattle.sdv_commands.specs.CardSide.{CardEnds, CardFails, EndsCard}
use Rattle.sdv_commands.specs.Batch.{HasNoBatch, IsBatchText}
use Rattle.sdv_commands.specs.Certify.{HasNone, IsCertificate}
use Rattle.sdv_commands.specs.Check.{IsBoundLine}
use Rattle.sdv_commands.specs.Describe.{DescribesText, HasNoPage, IsPageOf}
use Rattle.sdv_commands.specs.Given.{OverGiven}
use Rattle.sdv_commands.specs.Explain.{ExplainsText, HasNoAnswer, IsJudgement}
use Rattle.sdv_commands.specs.Frame.{IsFrameText, WriteNone}
use Rattle.sdv_commands.specs.Graph.{IsDrawing, IsUndrawn}
use Rattle.sdv_commands.specs.Ends.{AreQuiet, AreWhole, EndsRequest, EndsWords, IsQuiet, IsWhole, exit_status, for_memory, for_nothing, for_page, for_request}

module _ (files : Files) (s s' : Streams) (before after : Option (List ℕ)) where
  emit-kept : (names : EmitNames) (fault : Fault) → fault ≢ Output → EmitEnds files names (Some fault) before after → Keeps before after
  emit-kept names fault other (inl taken) = taken.1
  emit-kept names fault other (inr apart) =
      over-kept before after files names.script (λ (script : Text). OverText files names.certificate (TableEnds files names script)) (Some fault)
      (λ script. over-kept before after files names.certificate (TableEnds files names script) (Some fault)
      (λ certificate. prints-kept before after (IsTableText files names script certificate) (Unemitted files names script certificate) fault other))
      apart.1

  emit-memory : (names : EmitNames) → EmitEnds files names (Some Memory) before after → Keeps before after
  emit-memory names (inl taken) = taken.1
  emit-memory names (inr apart) =
      over-kept before after files names.script (λ (script : Text). OverText files names.certificate (TableEnds files names script)) (Some Memory)
      (λ script. over-kept before after files names.certificate (TableEnds files names script) (Some Memory) (λ certificate kept. kept)) apart.1

  -- a request that is refused prints nothing, but a run with or without a certificate, an explanation, a drawing, an audit, the
  -- page of a description and a sweep
  quiet-kept : (request : Request) → IsQuiet request → (fault : Fault) → fault ≢ Output → EndsRequest files s s' request (Some fault) before after
      → Keeps before after
  quiet-kept (verify names) quiet fault other ends = absurd quiet
  quiet-kept (frame index argument) quiet fault other ends =
      prints-kept before after (IsFrameText index argument) (WriteNone index argument) fault other ends.1
  quiet-kept (certify script) quiet fault other ends =
      over-kept before after files script (λ (text : Text). Prints (IsCertificate text) (HasNone text)) (Some fault)
      (λ text. prints-kept before after (IsCertificate text) (HasNone text) fault other) ends.1
  quiet-kept (check script certificate) quiet fault other ends =
      over-kept before after files script
      (λ (text : Text). OverText files certificate (λ (closed : Text). Prints (IsBoundLine text closed) (Refuses text closed))) (Some fault)
      (λ text. over-kept before after files certificate (λ (closed : Text). Prints (IsBoundLine text closed) (Refuses text closed)) (Some fault)
      (λ closed. prints-kept before after (IsBoundLine text closed) (Refuses text closed) fault other)) ends.1
  quiet-kept (run names) quiet fault other ends = absurd quiet
  quiet-kept (batch kind requests) quiet fault other ends =
      prints-kept before after (IsBatchText kind requests) (HasNoBatch kind requests) fault other ends.1
  quiet-kept (explain names) quiet fault other ends = absurd quiet
  quiet-kept (graph names) quiet fault other ends = absurd quiet
  quiet-kept (emit names) quiet fault other ends = emit-kept names fault other ends.1
  quiet-kept (audit names) quiet fault other ends = absurd quiet
  quiet-kept (describe card schedule) quiet fault other ends = absurd quiet
  quiet-kept (drive names) quiet fault other ends = ends.1
  quiet-kept (serve names) quiet fault other ends = ends.1
  quiet-kept (attempt names) quiet fault other ends = absurd quiet
  quiet-kept (sweep names) quiet fault other ends = absurd quiet
  quiet-kept (decode names) quiet fault other ends = absurd quiet

  run-memory : (names : RunNames) → RunEnds files names (Some Memory) before after → Keeps before after
  run-memory names (image, is, inl taken) = taken.1
  run-memory names (image, is, inr apart) = apart.1

  try-memory : (names : TryNames) → TryEnds files names (Some Memory) before after → Keeps before after
  try-memory names (image, is, inl taken) = taken.1
  try-memory names (image, is, inr apart) = apart.1

  input-memory : (names : SweepNames) (script card image : Text) → InputEnds files names script card image (Some Memory) before after → Keeps before after
  input-memory names script card image (inl none) = none.1
  input-memory names script card image (inr given) = given.2

  image-memory : (names : SweepNames) (script card : Text) → ImageEnds files names script card (Some Memory) before after → Keeps before after
  image-memory names script card (inl none) = none.1
  image-memory names script card (inr given) = input-memory names script card given.0 given.2

  explain-memory : (script : Text) (certificate : Option Text)
      → ExplainsText files script certificate (Some Memory) before after → Keeps before after
  explain-memory script None ends = ends
  explain-memory script (Some file) ends =
      over-kept before after files file (λ (text : Text). Reports (IsJudgement script text) HasNoAnswer) (Some Memory) (λ text kept. kept) ends

  given-memory : (file : Option Text) (Ends : Option (List ℕ) → Ending)
      → ((given : Option (List ℕ)) → Ends given (Some Memory) before after → Keeps before after)
      → OverGiven files file Ends (Some Memory) before after → Keeps before after
  given-memory None Ends kept ends = kept None ends
  given-memory (Some file) Ends kept (inl none) = none.1
  given-memory (Some file) Ends kept (inr given) = kept (Some given.0) given.2

  -- nothing is printed for want of memory, but by an audit
  memory-kept : (request : Request) → IsWhole request → EndsRequest files s s' request (Some Memory) before after → Keeps before after
  memory-kept (verify names) whole ends = ends.1
  memory-kept (frame index argument) whole ends = ends.1
  memory-kept (certify script) whole ends =
      over-kept before after files script (λ (text : Text). Prints (IsCertificate text) (HasNone text)) (Some Memory) (λ text kept. kept) ends.1
  memory-kept (check script certificate) whole ends =
      over-kept before after files script
      (λ (text : Text). OverText files certificate (λ (closed : Text). Prints (IsBoundLine text closed) (Refuses text closed))) (Some Memory)
      (λ text. over-kept before after files certificate (λ (closed : Text). Prints (IsBoundLine text closed) (Refuses text closed)) (Some Memory)
      (λ closed kept. kept)) ends.1
  memory-kept (run names) whole ends = run-memory names ends.1
  memory-kept (batch kind requests) whole ends = ends.1
  memory-kept (explain names) whole ends =
      over-kept before after files names.script (λ (text : Text). ExplainsText files text names.certificate) (Some Memory)
      (λ text. explain-memory text names.certificate) ends.1
  memory-kept (graph names) whole ends =
      over-kept before after files names.script (λ (text : Text). Reports (IsDrawing names.no_faults text) (IsUndrawn text)) (Some Memory)
      (λ text kept. kept) ends.1
  memory-kept (emit names) whole ends = emit-memory names ends.1
  memory-kept (audit names) whole ends = absurd whole
  memory-kept (describe card schedule) whole ends =
      over-kept before after files card (λ (text : Text). DescribesText files text schedule) (Some Memory)
      (λ text. given-memory schedule (λ given. Reports (IsPageOf text given) HasNoPage) (λ given kept. kept)) ends.1
  memory-kept (drive names) whole ends = ends.1
  memory-kept (serve names) whole ends = ends.1
  memory-kept (attempt names) whole ends = try-memory names ends.1
  memory-kept (sweep names) whole ends =
      over-kept before after files names.script (λ (script : Text). OverText files names.card (ImageEnds files names script)) (Some Memory)
      (λ script. over-kept before after files names.card (ImageEnds files names script) (Some Memory) (image-memory names script)) ends.1
  memory-kept (decode names) whole ends = absurd whole

  pub words-kept : (words : List Text) → AreQuiet words → (fault : Fault) → fault ≢ Output → EndsWords files s s' words (Some fault) before after
      → Keeps before after
  words-kept words quiet fault other (for_page asked silent ends) =
      prints-kept before after (λ (page : Text). Unit {0}) (λ (fault : Fault). ⊥) fault other ends
  words-kept words quiet fault other (for_request request means ends) = quiet-kept request (quiet request means) fault other ends
  words-kept words quiet fault other (for_nothing no_page none is silent kept) = kept
  words-kept words quiet fault other (for_memory is silent kept) = kept

  pub words-memory-kept : (words : List Text) → AreWhole words → EndsWords files s s' words (Some Memory) before after → Keeps before after
  words-memory-kept words whole (for_page asked silent ends) = ends
  words-memory-kept words whole (for_request request means ends) = memory-kept request (whole request means) ends
  words-memory-kept words whole (for_nothing no_page none is silent kept) = kept
  words-memory-kept words whole (for_memory is silent kept) = kept

-- STATUSES

pub no_output : (fault : Fault) → status_of fault ≡ 1 → fault ≢ Output
no_output fault one is = let two : 2 ≡ 1 = sym (ap status_of is) ∙ one in cc

pub of_memory : (fault : Fault) → status_of fault ≡ 3 → fault ≡ Memory
of_memory Memory three = refl
of_memory _ three = cc

module _ (files : Files) (s s' : Streams) (words : List Text) (before after : Option (List ℕ)) where
  -- a status of 1 or 3 after words that print nothing then
  pub refused-kept : (outcome : Option Fault) → EndsWords files s s' words outcome before after → AreQuiet words → exit_status outcome ≡ 1
      → Keeps before after
  refused-kept None ends quiet one = cc
  refused-kept (Some fault) ends quiet one = words-kept files s s' before after words quiet fault (no_output fault one) ends

  pub no_memory-kept : (outcome : Option Fault) → EndsWords files s s' words outcome before after → AreWhole words → exit_status outcome ≡ 3
      → Keeps before after
  no_memory-kept None ends whole three = cc
  no_memory-kept (Some fault) ends whole three =
      words-memory-kept files s s' before after words whole
      (subst (λ (f : Fault). EndsWords files s s' words (Some f) before after) (of_memory fault three) ends)

-- WORDS that are no request

module _ (files : Files) (s : Streams) (words : List Text) (known : Option (List ℕ)) (none_asked : asks_page words ≡ false) where
  unread : (fault : LineFault) → (fault ≡ requests.Usage → request_of_words words ≡ None) → EndsWords files s s words (Some (fault_of_request fault)) known known
  unread requests.Usage none = for_nothing none_asked (none refl) refl refl (keeps_same known)
  unread requests.Memory none = for_memory refl refl (keeps_same known)

  pub no_request : {T : Type 0} (fault : LineFault) → (fault ≡ requests.Usage → request_of_words words ≡ None) → (r : Result T Fault)
      → IsErrAnd r (λ f. f ≡ fault_of_request fault) → EndsWords files s s words (outcome_of r) known known
  no_request fault none r is = failed (λ outcome. EndsWords files s s words outcome known known) _ r is (unread fault none)

-- THE COMMAND that answers in lines, by the answer of its function
pub card_ends : (files : Files) (names : CardNames) (a a' q q' : Option (List ℕ)) (r : Result (Unit {0}) Fault) → OnOk r (EndsCard files names a a' q q')
    → IfErr r (λ fault. CardFails files names fault a a' q q') → CardEnds files names a a' q q' (outcome_of r)
card_ends files names a a' q q' (Ok done) ends fails = ends
card_ends files names a a' q q' (Err fault) ends fails = fails
