-- How the program ends, by the words that it was called with. It has two streams of lines beside its output: requests and
-- answers pass there, and they stay as they were where the words ask for neither.
use Rattle.std.specs.Prelude.{◌≡◌, ℕ, true, false, List, Option, Some, None}
use Rattle.std.specs.Io.KnownBytes.{Keeps}
use Rattle.clap.specs.Words.{Text}
use Rattle.sdv_program.specs.CommandLine.{request_of_words}
use Rattle.sdv_program.specs.Requests.{Request, verify, frame, certify, check, run, batch, explain, graph, emit, audit, decode, drive, serve, describe, attempt, sweep}
use Rattle.sdv_program.specs.Fault.{Says, status_of}
use Rattle.sdv_program.specs.declared.fault.Fault.{Fault}
use Rattle.sdv_program.specs.declared.fault.Fault.TheVariants.{Usage, Memory}
use Rattle.sdv_program.specs.Files.{Files}
use Rattle.sdv_program.specs.Outcomes.{Ending}
use Rattle.sdv_lines.specs.Streams.{Streams}
use Rattle.sdv_commands.specs.Sweep.{SweepEnds}
use Rattle.sdv_commands.specs.Try.{TryEnds}
use Rattle.sdv_commands.specs.Run.{RunEnds}
use Rattle.sdv_commands.specs.CardSide.{CardEnds}
use Rattle.sdv_commands.specs.Drive.{DriveEnds}
use Rattle.sdv_commands.specs.Audit.{AuditEnds}
use Rattle.sdv_commands.specs.Batch.{BatchEnds}
use Rattle.sdv_commands.specs.Certify.{CertifyEnds}
use Rattle.sdv_commands.specs.Check.{CheckEnds}
use Rattle.sdv_commands.specs.Decode.{DecodeEnds}
use Rattle.sdv_commands.specs.Emit.{EmitEnds}
use Rattle.sdv_commands.specs.Describe.{DescribeEnds}
use Rattle.sdv_commands.specs.Explain.{ExplainEnds}
use Rattle.sdv_commands.specs.Frame.{FrameEnds}
use Rattle.sdv_commands.specs.Graph.{GraphEnds}
use Rattle.sdv_commands.specs.Page.{PrintsPage, asks_page}
use Rattle.sdv_commands.specs.Verify.{VerifyEnds}

-- REQUESTS, command by command

-- nothing is printed but the lines
abbrev pub Speaks : (Ends : Option Fault → Type 0) → Ending
Speaks Ends outcome before after = Ends outcome × Keeps before after

-- no line is read or written
abbrev pub KeepsLines : (s s' : Streams) → Ending → Ending
KeepsLines s s' Ends outcome before after = (s' ≡ s) × Ends outcome before after

abbrev pub EndsRequest : Files → (s s' : Streams) → Request → Ending
EndsRequest files s s' (verify names) = KeepsLines s s' (VerifyEnds files names)
EndsRequest files s s' (frame index argument) = KeepsLines s s' (FrameEnds index argument)
EndsRequest files s s' (certify script) = KeepsLines s s' (CertifyEnds files script)
EndsRequest files s s' (check script certificate) = KeepsLines s s' (CheckEnds files script certificate)
EndsRequest files s s' (run names) = KeepsLines s s' (RunEnds files names)
EndsRequest files s s' (batch kind requests) = KeepsLines s s' (BatchEnds kind requests)
EndsRequest files s s' (explain names) = KeepsLines s s' (ExplainEnds files names)
EndsRequest files s s' (graph names) = KeepsLines s s' (GraphEnds files names)
EndsRequest files s s' (emit names) = KeepsLines s s' (EmitEnds files names)
EndsRequest files s s' (audit names) = KeepsLines s s' (AuditEnds files names)
EndsRequest files s s' (describe card schedule) = KeepsLines s s' (DescribeEnds files card schedule)
EndsRequest files s s' (drive names) = Speaks (DriveEnds files names s s')
EndsRequest files s s' (serve names) = Speaks (CardEnds files names s.answers s'.answers s.requests s'.requests)
EndsRequest files s s' (attempt names) = KeepsLines s s' (TryEnds files names)
EndsRequest files s s' (sweep names) = KeepsLines s s' (SweepEnds files names)
EndsRequest files s s' (decode names) = KeepsLines s s' (DecodeEnds files names)

-- Nothing is printed where the command is refused. A run with or without a certificate, an explanation, a drawing, the
-- report of an audit, the lines of a trace, the page of a card description and the table of all runs with one mishap
-- are printed then too.
abbrev pub IsQuiet : Request → Type 0
IsQuiet (verify names) = ⊥
IsQuiet (run names) = ⊥
IsQuiet (explain names) = ⊥
IsQuiet (graph names) = ⊥
IsQuiet (audit names) = ⊥
IsQuiet (describe card schedule) = ⊥
IsQuiet (attempt names) = ⊥
IsQuiet (sweep names) = ⊥
IsQuiet (decode names) = ⊥
IsQuiet request = Unit {0}

-- Nothing is printed before the answer is whole. An audit prints its report while it reads the trace, and behind the lines of a
-- trace beside a script.
abbrev pub IsWhole : Request → Type 0
IsWhole (audit names) = ⊥
IsWhole (decode names) = ⊥
IsWhole request = Unit {0}

-- WORDS

pub data EndsWords (files : Files) (s s' : Streams) (words : List Text) (outcome : Option Fault)
    (before after : Option (List ℕ)) : Type 0 where
  -- they ask for a page
  for_page : asks_page words ≡ true → s' ≡ s → PrintsPage outcome before after
      → EndsWords files s s' words outcome before after
  -- they mean a request
  for_request : (request : Request) → request_of_words words ≡ Some request
      → EndsRequest files s s' request outcome before after → EndsWords files s s' words outcome before after
  -- they mean nothing
  for_nothing : asks_page words ≡ false → request_of_words words ≡ None → outcome ≡ Some Usage → s' ≡ s → Keeps before after
      → EndsWords files s s' words outcome before after
  -- memory was refused before they were read
  for_memory : outcome ≡ Some Memory → s' ≡ s → Keeps before after
      → EndsWords files s s' words outcome before after

-- the words ask for no page, and mean no request but one that prints nothing where it is refused
abbrev pub AreQuiet : List Text → Type 0
AreQuiet words = (request : Request) → request_of_words words ≡ Some request → IsQuiet request

-- they mean no request but one that prints nothing before its answer is whole
abbrev pub AreWhole : List Text → Type 0
AreWhole words = (request : Request) → request_of_words words ≡ Some request → IsWhole request

-- THE PROGRAM

-- the exit status: 0 after the answer, and else that of the fault
abbrev pub exit_status : Option Fault → ℕ
exit_status None = 0
exit_status (Some fault) = status_of fault

-- what is said on standard error
abbrev pub SaysWhy : Ending
SaysWhy None before after = Keeps before after
SaysWhy (Some fault) before after = Says fault before after

-- the program ended with this status, and this is what the streams of lines, standard output and standard error hold
pub record Ends (files : Files) (s s' : Streams) (words : List Text) (status : ℕ)
    (out out' err err' : Option (List ℕ)) : Type 0 where
  pub outcome : Option Fault
  pub status_is : status ≡ exit_status outcome
  pub ended : EndsWords files s s' words outcome out out'
  pub said : SaysWhy outcome err err'
