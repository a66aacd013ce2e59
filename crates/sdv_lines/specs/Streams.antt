-- What a call of a port of lines does to its two streams: the request that it writes, and the answer that it reads. And how
-- many commands it still sends.
use Rattle.std.specs.Prelude.{◌≡◌, ◌⊎◌, Bool, ℕ, List, ◌+◌, ◌++◌, length, Option, Some, None, MatchBool, MatchOption, Result, Err, MatchResult, IfSome}
use Rattle.std.specs.Io.KnownBytes.{Appends, Consumes, IsAtEnd}
use Rattle.sdv_frames.specs.declared.command.Command.{Command}
use Rattle.sdv_frames.specs.declared.reply.Expect.{Expect}
use Rattle.sdv_frames.specs.declared.fault.FrameFault.TheVariants.{Length}
use Rattle.sdv_card.specs.declared.answer.Answer.{Answer}
use Rattle.sdv_card.specs.declared.answer.Answer.TheVariants.{Damaged}
use Rattle.sdv_card.specs.declared.answer.DataEnd.TheVariants.{Cut}
use Rattle.sdv_card.specs.declared.answer.WaitEnd.TheVariants.{Late}
use Rattle.sdv_card.specs.Port.{Call, Exchange, DataIn, DataInRegister, DataOut, WaitWhileBusy}
use Rattle.sdv_card.specs.ScriptEvent.{Return, Answered, BlocksIn, RegisterIn, BlocksOut, Waited}
use Rattle.sdv_lines.specs.declared.fault.ProtocolFault.{ProtocolFault}
use Rattle.sdv_lines.specs.declared.fault.ProtocolFault.TheVariants as faults
use Rattle.sdv_lines.specs.declared.fault.PortFault.{PortFault}
use Rattle.sdv_lines.specs.declared.fault.PortFault.TheVariants.{Lines, Commands}
use Rattle.sdv_lines.specs.declared.port.LinePort.{LinePort}
use Rattle.sdv_lines.specs.Texts.{lines_of}
use Rattle.sdv_lines.specs.declared.due.Due.{Due}
use Rattle.sdv_lines.specs.Due.{Announces}
use Rattle.sdv_lines.specs.Requests.{request_of}
use Rattle.sdv_lines.specs.Answers.{Answers}

-- what is known of the two streams of a port, how many commands it still sends, and the fault that it keeps
pub record Streams : Type 0 where
  -- the bytes that the reader has left, where they are known
  pub answers : Option (List ℕ)
  -- the bytes that the writer holds, where they are known
  pub requests : Option (List ℕ)
  -- how many commands it still sends, where there is a limit
  pub left : Option ℕ
  pub fault : Option PortFault
  -- the command that it kept when its streams failed, with the response that it waited for
  pub unheard : Option (Command × Expect)

-- a new port: it sends any number of commands
abbrev pub IsNew : (answers requests : Option (List ℕ)) → Streams → Type 0
IsNew answers requests s = (s.answers ≡ answers) × (s.requests ≡ requests) × (s.left ≡ None) × (s.fault ≡ None)

-- THE LIMIT ON COMMANDS

-- the same with another limit, or with none
abbrev pub limited : Option ℕ → Streams → Streams
limited left s = record s { left = left }

-- the commands of a call; phases and waits have none
abbrev pub commands_of : Call → ℕ
commands_of (Exchange command expect) = 1
commands_of call = 0

-- the command of a call that is one
abbrev pub command_in : Call → Option (Command × Expect)
command_in (Exchange command expect) = Some (command, expect)
command_in call = None

-- so many commands were taken of those that are left; without a limit any number may be
abbrev pub Spends : ℕ → (left left' : Option ℕ) → Type 0
Spends count None left' = left' ≡ None
Spends count (Some most) left' = (rest : ℕ) × (left' ≡ Some rest) × (most ≡ count + rest)

-- one was taken, or none is left
abbrev pub TakesCommand : Bool → (s s' : Streams) → Type 0
TakesCommand taken s s' =
    MatchBool taken (Spends 1 s.left s'.left × (s' ≡ limited s'.left s)) ((s.left ≡ Some 0) × (s' ≡ s))

-- WRITING: known bytes grow by a front of a text, perhaps by all of it
abbrev pub AppendsFront : Option (List ℕ) → Option (List ℕ) → List ℕ → Type 0
AppendsFront old new text = (front back : List ℕ) × (text ≡ front ++ back) × Appends old new front

-- a text was written and flushed, or the writer failed
abbrev pub Sends : {A : Type 0} → Option (List ℕ) → Option (List ℕ) → Result A ProtocolFault → List ℕ → Type 0
Sends old new result text =
    MatchResult result (λ _. Appends old new text) (λ fault. (fault ≡ faults.Write) × AppendsFront old new text)

-- READING: the lines that were read are an answer
pub record Heard (call : Call) (returned : Return) (old new : Option (List ℕ)) : Type 0 where
  pub texts : List (List ℕ)
  pub answers : Answers call texts returned
  pub read : Consumes old new (lines_of texts)

-- bytes do not begin with an answer
abbrev pub HasNoAnswer : Call → List ℕ → Type 0
HasNoAnswer call bytes =
    (texts : List (List ℕ)) (rest : List ℕ) (returned : Return) →
    Answers call texts returned → bytes ≡ lines_of texts ++ rest → ⊥

-- no answer was read: what came is none, or it ended before there was one, or the reader failed
abbrev pub Unheard : ProtocolFault → Call → Option (List ℕ) → Option (List ℕ) → Type 0
Unheard faults.Line call old new = IfSome old (HasNoAnswer call)
Unheard faults.Closed call old new = IfSome old (HasNoAnswer call) × IsAtEnd new
Unheard faults.Read call old new = Unit {0}
Unheard fault call old new = ⊥

-- a call's answer was read, or none
abbrev pub Hears : {A : Type 0} → Call → (A → Return) → Option (List ℕ) → Option (List ℕ) → Result A ProtocolFault → Type 0
Hears call returns old new result =
    MatchResult result (λ a. Heard call (returns a) old new) (λ fault. Unheard fault call old new)

-- A CALL

-- its streams failed: the request was written in part and nothing was read, or it was written and no answer was read
abbrev pub Failed : ProtocolFault → Option Due → Call → (a a' r r' : Option (List ℕ)) → Type 0
Failed faults.Write due call a a' r r' = AppendsFront r r' (request_of due call) × (a' ≡ a)
Failed fault due call a a' r r' = Appends r r' (request_of due call) × Unheard fault call a a'

-- its request was written, and announced this, and its answer was read; or its streams failed
abbrev pub Asks : {A : Type 0} → Option Due → Call → (A → Return) → (a a' r r' : Option (List ℕ)) →
    Result A ProtocolFault → Type 0
Asks due call returns a a' r r' result =
    MatchResult result (λ x. Appends r r' (request_of due call) × Heard call (returns x) a a')
    (λ fault. Failed fault due call a a' r r')

-- THE STEPS OF A PORT OF LINES

-- what a port answers that has given up: a damaged response, a phase that was cut, a wait that came to no end
abbrev pub IsSilent : Call → Return → Type 0
IsSilent (Exchange command expect) (Answered answer) = answer ≡ Damaged Length
IsSilent (DataIn lines count) (BlocksIn end blocks) = (end ≡ Cut) × (length blocks ≡ count)
IsSilent (DataInRegister lines count) (RegisterIn end bytes) = (end ≡ Cut) × (length bytes ≡ count)
IsSilent (DataOut lines blocks) (BlocksOut end) = end ≡ Cut
IsSilent WaitWhileBusy (Waited end) = end ≡ Late
IsSilent call returned = ⊥

-- a call was asked and answered
pub record Asked (call : Call) (returned : Return) (s s' : Streams) : Type 0 where
  pub due : Option Due
  pub announced : Announces call due
  pub written : Appends s.requests s'.requests (request_of due call)
  pub heard : Heard call returned s.answers s'.answers
  pub spent : Spends (commands_of call) s.left s'.left
  pub well : s'.fault ≡ None

-- why a call was not answered, which the port keeps: its streams failed, or it is a command, and none was left. Then
-- nothing was written or read.
abbrev pub Unanswered : PortFault → Call → (s s' : Streams) → Type 0
Unanswered (Lines why) call s s' =
    ((due : Option Due) × Announces call due × Failed why due call s.answers s'.answers s.requests s'.requests)
    × Spends (commands_of call) s.left s'.left
    × (s'.fault ≡ Some (Lines why)) × (s'.unheard ≡ command_in call)
Unanswered Commands call s s' =
    (commands_of call ≡ 1) × (s.left ≡ Some 0) × (s' ≡ record s { fault = Some Commands })

-- a call was not answered
pub record GaveUp (call : Call) (returned : Return) (s s' : Streams) : Type 0 where
  pub why : PortFault
  pub unanswered : Unanswered why call s s'
  pub silent : IsSilent call returned

-- a port that gave up neither reads nor writes
abbrev pub LineSteps : Streams → Call → Return → Streams → Type 0
LineSteps s call returned s' =
    MatchOption s.fault (Asked call returned s s' ⊎ GaveUp call returned s s')
    (λ why. (s' ≡ s) × IsSilent call returned)

-- the last line was written, or not, and the port keeps why; a port that gave up writes nothing
abbrev pub TellsEnd : Streams → List ℕ → Result (Unit {0}) PortFault → Streams → Type 0
TellsEnd s line result s' =
    MatchOption s.fault
    (MatchResult result (λ _. Appends s.requests s'.requests line × (s'.fault ≡ None))
    (λ why. (why ≡ Lines faults.Write) × AppendsFront s.requests s'.requests line × (s'.fault ≡ Some why))
    × (s'.answers ≡ s.answers) × (s'.left ≡ s.left))
    (λ why. (result ≡ Err why) × (s' ≡ s))

-- what is known of a port
abbrev pub streams_of : {R W : Type 0} → (R → Option (List ℕ)) → (W → Option (List ℕ)) → LinePort R W → Streams
streams_of remaining contents port = record {
  answers = remaining port.reader;
  requests = contents port.writer;
  left = port.commands_left;
  fault = port.fault;
  unheard = port.unheard;
}

-- THE COMMAND THAT WAS ANSWERED LAST, with its answer, which the port keeps until it is taken

-- after a call, by why the port gave up: the command of the call where it was answered, or else the one before
abbrev pub answered_after : Call → Return → Option PortFault → Option (Command × Answer) → Option (Command × Answer)
answered_after (Exchange command expect) (Answered answer) None before = Some (command, answer)
answered_after call returned fault before = before

-- THE STEPS OF A PORT: those of its streams, and it keeps the command that was answered
abbrev pub PortSteps : {R W : Type 0} → (R → Option (List ℕ)) → (W → Option (List ℕ)) → LinePort R W → Call → Return →
    LinePort R W → Type 0
PortSteps remaining contents port call returned port' =
    LineSteps (streams_of remaining contents port) call returned (streams_of remaining contents port')
    × (port'.answered ≡ answered_after call returned port'.fault port.answered)

-- the command that was not answered because the streams failed, if that was one
abbrev pub unheard_at : Option PortFault → Option (Command × Expect) → Option (Command × Expect)
unheard_at (Some (Lines why)) unheard = unheard
unheard_at fault unheard = None

abbrev pub unheard_command : Streams → Option (Command × Expect)
unheard_command s = unheard_at s.fault s.unheard
