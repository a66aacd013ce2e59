-- What the program does at `drive`: which script it runs, what it asks and hears, and what its files take.
use Rattle.std.specs.Prelude.{◌≡◌, ◌≢◌, ◌≤◌, ◌⊎◌, ℕ, List, [], ◌∷◌, ◌++◌, Option, Some, None, Result, Ok, Err, string_bytes}
use Rattle.std.specs.Io.KnownBytes.{Appends, Consumes}
use Rattle.clap.specs.Words.{Text}
use Rattle.sdv_frames.specs.declared.command.Command.{Command}
use Rattle.sdv_frames.specs.declared.reply.Expect.{Expect}
use Rattle.sdv_frames.specs.declared.reply.Expect.TheVariants as expects
use Rattle.sdv_card.specs.Card.{Block}
use Rattle.sdv_card.specs.declared.answer.Answer.{Answer}
use Rattle.sdv_card.specs.declared.answer.Answer.TheVariants.{Sent, TimeOut}
use Rattle.sdv_graph.specs.Walk.{Pair, given as given_by}
use Rattle.sdv_facts.specs.Beside.{commands}
use Rattle.sdv_check.specs.Verified.{Acceptance, IsAccepted}
use Rattle.sdv_trace.specs.declared.end.End.{End}
use Rattle.sdv_trace.specs.declared.end.End.TheVariants as ends
use Rattle.sdv_run.specs.declared.fault.RunFault.{RunFault}
use Rattle.sdv_run.specs.declared.fault.RunFault.TheVariants as runs
use Rattle.sdv_trace.specs.Trace.{command_line, end_line}
use Rattle.sdv_run.specs.Run.{received, ending_of}
use Rattle.sdv_trace.specs.Trace.{lines}
use Rattle.sdv_run.specs.Ran.{IsWalk, Ran}
use Rattle.sdv_lines.specs.declared.due.Due.{Due}
use Rattle.sdv_lines.specs.declared.fault.Found.{Found}
use Rattle.sdv_lines.specs.declared.fault.PortFault.{PortFault}
use Rattle.sdv_lines.specs.declared.fault.PortFault.TheVariants.{Lines, Commands}
use Rattle.sdv_lines.specs.Streams.{AppendsFront, Streams, LineSteps, TellsEnd, limited, unheard_command}
use Rattle.sdv_program.specs.declared.fault.Fault.{Fault}
use Rattle.sdv_program.specs.declared.fault.Fault.TheVariants.{File, Script, Certificate, Refused, Run, Unanswered, Named, Memory}
use Rattle.sdv_program.specs.Fault.{fault_of_run}
use Rattle.sdv_program.specs.Requests.{DriveNames}
use Rattle.sdv_program.specs.Files.{Files}
use Rattle.sdv_program.specs.Refused.{Refuses}
use Rattle.sdv_program.specs.Uses.{AreApart, Role, reads, writes}
use Rattle.sdv_commands.specs.Taken.{TakesOther}
use Rattle.sdv_commands.specs.Run.{FileUse, GivesInput, IsUnusable, Receives, as_input, as_output, as_text, blocks_of, some_use}
use Rattle.sdv_commands.specs.declared.drive.Given.{Given}
use Rattle.sdv_commands.specs.declared.drive.Outcome.{Outcome}
use Rattle.sdv_commands.specs.declared.drive.Outcome.TheVariants.{Lost, Ended, Stopped}
use Rattle.sdv_commands.specs.RefusedAnswers.{TracesRefused, refused_in}
use Rattle.sdv_commands.specs.Talk.{AreAnnounced, AreAnswers, Talks, answer_lines, answered, asked, events_of, requests, texts_of_answers}

-- THE FILES

-- in the order in which they are used
abbrev pub uses_of : DriveNames → List FileUse
uses_of names = as_text names.script ∷ as_text names.certificate ∷ some_use as_input names.input
    ++ (some_use as_output names.output ++ some_use as_output names.trace)

-- the files of these names gave these texts and bytes
pub record AreGiven (files : Files) (names : DriveNames) (given : Given) : Type 0 where
  pub script : files.gives names.script (string_bytes given.script)
  pub certificate : files.gives names.certificate (string_bytes given.certificate)
  pub input : GivesInput files names.input given.input.items

-- THE RUN

-- How a run came out whose port gave up for this reason, or for none. Where a command was one too many, no card of the
-- tables gave the answers before it: none may give them.
abbrev pub outcome_of : Option PortFault → Result End RunFault → Outcome
outcome_of (Some (Lines why)) result = Lost why
outcome_of (Some Commands) result = Stopped runs.Reply
outcome_of None (Ok end) = Ended end
outcome_of None (Err fault) = Stopped fault

-- the other side was told of the end that a run came to
abbrev pub TellsIfEnded : Result End RunFault → (s s' : Streams) → Type 0
TellsIfEnded (Ok end) s s' = (told : Result (Unit {0}) PortFault) × TellsEnd s (end_line end) told s'
TellsIfEnded (Err fault) s s' = s' ≡ s

-- what comes of a command that waits for this, where no response comes
abbrev pub lost_answer : Expect → Answer
lost_answer expects.Nothing = Sent
lost_answer expect = TimeOut

-- The trace took the line of the command that was sent and not answered, if there was one, as of one whose response is lost;
-- or a part of it, where the writer failed.
abbrev pub TracesUnheard : Option (Command × Expect) → (trace trace' : Option (List ℕ)) → Type 0
TracesUnheard None trace trace' = trace' ≡ trace
TracesUnheard (Some (command, expect)) trace trace' = AppendsFront trace trace' (command_line command (lost_answer expect))

-- The script, which was verified with its certificate, ran over the lines with the input blocks, and its end was told. The
-- port sent as many commands at most as were certified, whatever was answered.
pub record IsDrive (given : Given) (outcome : Outcome) (out out' trace trace' : Option (List ℕ))
    (s s' : Streams) : Type 0 where
  pub acceptance : Acceptance
  pub accepted : IsAccepted (string_bytes given.script) (string_bytes given.certificate) acceptance
  pub result : Result End RunFault
  -- after the last event
  pub after : Streams
  pub left : List Block
  -- the trace with the lines of the run, and then with that of the command whose answer the run refused
  pub printed : Option (List ℕ)
  pub traced : Option (List ℕ)
  pub ran : Ran LineSteps acceptance.graph
      (record { port = limited (Some acceptance.bound) s; input = blocks_of given.input.items; out = out; trace = trace })
      (record { port = after; input = left; out = out'; trace = printed }) result
  pub refused : TracesRefused after.fault (refused_in acceptance.graph _ _ result ran) printed traced
  pub talks : Talks acceptance.graph.kind (events_of LineSteps acceptance.graph _ _ result ran)
      (limited (Some acceptance.bound) s) after
  -- the commands whose requests were written, in whole or in part
  pub few : commands (asked acceptance.graph.kind (events_of LineSteps acceptance.graph _ _ result ran) _ after talks)
      ≤ acceptance.bound
  pub unheard : TracesUnheard (unheard_command after) traced trace'
  -- the limit was for the run
  pub told : TellsIfEnded result (limited s.left after) s'
  pub came_out : outcome ≡ outcome_of s'.fault result

-- the events of such a run that were asked for, the last one perhaps in part; those that were answered; and the answers
abbrev pub events_asked : {given : Given} {outcome : Outcome} {out out' trace trace' : Option (List ℕ)} {s s' : Streams} →
    IsDrive given outcome out out' trace trace' s s' → List Pair
events_asked d = asked d.acceptance.graph.kind (events_of LineSteps d.acceptance.graph _ _ d.result d.ran) _ d.after d.talks

abbrev pub events_answered : {given : Given} {outcome : Outcome} {out out' trace trace' : Option (List ℕ)} {s s' : Streams} →
    IsDrive given outcome out out' trace trace' s s' → List Pair
events_answered d = answered d.acceptance.graph.kind (events_of LineSteps d.acceptance.graph _ _ d.result d.ran) _ d.after d.talks

abbrev pub texts_heard : {given : Given} {outcome : Outcome} {out out' trace trace' : Option (List ℕ)} {s s' : Streams} →
    IsDrive given outcome out out' trace trace' s s' → List (List (List ℕ))
texts_heard d = texts_of_answers d.acceptance.graph.kind (events_of LineSteps d.acceptance.graph _ _ d.result d.ran) _ d.after d.talks

-- why nothing was asked; want of memory says nothing
abbrev pub RefusesTexts : Given → Fault → Type 0
RefusesTexts given (Script fault) =
    Refuses (string_bytes given.script) (string_bytes given.certificate) (Script fault)
RefusesTexts given (Certificate fault) =
    Refuses (string_bytes given.script) (string_bytes given.certificate) (Certificate fault)
RefusesTexts given (Refused fault) =
    Refuses (string_bytes given.script) (string_bytes given.certificate) (Refused fault)
RefusesTexts given Memory = Unit {0}
RefusesTexts given fault = ⊥

-- WHAT THE FILES TAKE

-- the file took all that was written for it
abbrev pub Takes : Files → Option Text → (old new : Option (List ℕ)) → Type 0
Takes files file old new = (bytes : List ℕ) → Appends old new bytes → Receives files file bytes

-- the run took place, and the file of the trace took all of it
pub record IsTraced (files : Files) (names : DriveNames) (given : Given) (outcome : Outcome) (out out' : Option (List ℕ))
    (s s' : Streams) : Type 0 where
  pub trace : Option (List ℕ)
  pub trace' : Option (List ℕ)
  pub drive : IsDrive given outcome out out' trace trace' s s'
  pub traced : Takes files names.trace trace trace'

-- the run took place, and then a file did not take all that it had to
pub record IsLost (given : Given) (s s' : Streams) : Type 0 where
  pub outcome : Outcome
  pub out : Option (List ℕ)
  pub out' : Option (List ℕ)
  pub trace : Option (List ℕ)
  pub trace' : Option (List ℕ)
  pub drive : IsDrive given outcome out out' trace trace' s s'

-- the file of the trace cannot be made or emptied, or did not take all, or there was no run
abbrev pub FailsToTrace : Files → DriveNames → Given → Fault → (s s' : Streams) → Type 0
FailsToTrace files names given (File file) s s' =
    (Some file.now ≡ names.trace)
    × ((files.uncreated file.now × (s' ≡ s)) ⊎ (files.unfinished file.now × IsLost given s s'))
FailsToTrace files names given fault s s' = RefusesTexts given fault × (s' ≡ s)

-- THE END

-- The run came to this end. The port wrote the requests of its events and its last line, and read their answers. The trace
-- file took their lines, and the output file took the blocks of the phases that ended well.
pub record EndsDrive (files : Files) (names : DriveNames) (end : End) (s s' : Streams) : Type 0 where
  pub given : Given
  pub are_given : AreGiven files names given
  pub acceptance : Acceptance
  pub accepted : IsAccepted (string_bytes given.script) (string_bytes given.certificate) acceptance
  pub events : List Pair
  pub walk : IsWalk acceptance.graph (ending_of end) events
  -- whatever was answered
  pub few : commands events ≤ acceptance.bound
  pub left : List Block
  pub input : blocks_of given.input.items ≡ given_by events ++ left
  pub dues : List (Option Due)
  pub announced : AreAnnounced acceptance.graph.kind events dues
  pub written : Appends s.requests s'.requests (requests acceptance.graph.kind events dues ++ end_line end)
  pub answers : List (List (List ℕ))
  pub are_answers : AreAnswers acceptance.graph.kind events answers
  pub read : Consumes s.answers s'.answers (answer_lines answers)
  pub trace : Receives files names.trace (lines events ++ end_line end)
  pub output : Receives files names.output (received events)

-- The run came out so, and the files took all that was written for them.
pub record ComesOut (files : Files) (names : DriveNames) (outcome : Outcome) (s s' : Streams) : Type 0 where
  pub given : Given
  pub are_given : AreGiven files names given
  pub out : Option (List ℕ)
  pub out' : Option (List ℕ)
  pub traced : IsTraced files names given outcome out out' s s'
  pub taken : Takes files names.output out out'

-- The run took place. Then the trace's file did not take all of it, or it did and the output's file did not.
pub record IsNotKept (files : Files) (names : DriveNames) (file : Text) (s s' : Streams) : Type 0 where
  pub given : Given
  pub are_given : AreGiven files names given
  pub lost : IsLost given s s'
  pub is_file : (Some file ≡ names.trace)
      ⊎ ((Some file ≡ names.output) × Takes files names.trace lost.trace lost.trace')
  pub unfinished : files.unfinished file

-- There was no run.
pub record HasNoDrive (files : Files) (names : DriveNames) (fault : Fault) (s s' : Streams) : Type 0 where
  pub given : Given
  pub are_given : AreGiven files names given
  pub refused : RefusesTexts given fault
  pub quiet : s' ≡ s

-- what the program answers to a run that came out so
abbrev pub AnswersOutcome : Outcome → Result (Unit {0}) Fault → Type 0
AnswersOutcome (Lost why) r = (found : Found) × (r ≡ Err (Unanswered (record { fault = why; found = found })))
AnswersOutcome (Ended ends.Done) r = r ≡ Ok tt
AnswersOutcome (Ended (ends.Fault name)) r = r ≡ Err Named
AnswersOutcome (Stopped fault) r = r ≡ Err (fault_of_run fault)

-- a file: it cannot be used, or it did not take all. A run that has no memory is no run fault, but want of memory
abbrev pub DriveFails : Files → DriveNames → Fault → (s s' : Streams) → Type 0
DriveFails files names (File file) s s' =
    (IsUnusable files (uses_of names) file.now × (s' ≡ s)) ⊎ IsNotKept files names file.now s s'
DriveFails files names (Unanswered stop) s s' = ComesOut files names (Lost stop.fault) s s'
DriveFails files names (Run runs.Memory) s s' = ⊥
DriveFails files names (Run fault) s s' = ComesOut files names (Stopped fault) s s'
DriveFails files names Named s s' = (end : End) × (end ≢ ends.Done) × EndsDrive files names end s s'
DriveFails files names Memory s s' = s' ≡ s
DriveFails files names fault s s' = HasNoDrive files names fault s s'

-- the command where no file that it makes is one that it uses otherwise
abbrev pub DrivesApart : Files → DriveNames → (s s' : Streams) → Option Fault → Type 0
DrivesApart files names s s' None = EndsDrive files names ends.Done s s'
DrivesApart files names s s' (Some fault) = DriveFails files names fault s s'

-- no file is lost by a slip: these are the files in the order in which they are used
abbrev pub roles_of : DriveNames → List Role
roles_of names =
    reads (Some names.script) ∷ reads (Some names.certificate) ∷ reads names.input ∷ writes names.output
    ∷ writes names.trace ∷ []

-- THE COMMAND
abbrev pub DriveEnds : Files → DriveNames → (s s' : Streams) → Option Fault → Type 0
DriveEnds files names s s' outcome =
    (TakesOther files (roles_of names) outcome × (s' ≡ s))
    ⊎ (AreApart files (roles_of names) × DrivesApart files names s s' outcome)
