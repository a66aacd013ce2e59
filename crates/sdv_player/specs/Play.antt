-- What the calls of a player do to the run that its state stands for.
use Rattle.std.specs.Prelude.{◌≡◌, ◌<◌, ◌≤◌, ◌⊎◌, ◌-◌, ◌/◌, ◌%◌, ◌==◌, ◌&&◌, nat_le, ℕ, List, length, slice_index, Bool, true, false, Option, Some, Ok, Err, if◌then◌else◌}
use Rattle.std.specs.Int.{from_bool}
use Rattle.sdv_card.specs.declared.answer.DataEnd.{DataEnd}
use Rattle.sdv_card.specs.declared.answer.DataEnd.TheVariants as ends
use Rattle.sdv_card.specs.declared.answer.WaitEnd.{WaitEnd}
use Rattle.sdv_card.specs.declared.answer.WaitEnd.TheVariants as waits
use Rattle.sdv_graph.specs.Walk.{Ending}
use Rattle.sdv_graph.specs.Path.{Halts}
use Rattle.sdv_graph.specs.Graph.{Graph}
use Rattle.sdv_graph.specs.GraphOf.{IsSound}
use Rattle.sdv_run.specs.declared.fault.RunFault.TheVariants.{Reply}
use Rattle.sdv_run.specs.declared.next_event.NextEvent.{NextEvent}
use Rattle.sdv_run.specs.declared.next_event.NextEvent.TheVariants as events
use Rattle.sdv_run.specs.declared.returned.Returned.{Returned}
use Rattle.sdv_run.specs.declared.returned.Returned.TheVariants as told
use Rattle.sdv_run.specs.Asks.{AsksFor}
use Rattle.sdv_run.specs.Takes.{Took}
use Rattle.sdv_run.specs.Machine.{Machine, now, at_start, Came, Went}
use Rattle.sdv_table.specs.Fits.{IsTable}
use Rattle.sdv_table.specs.Reading.{action_at}
use Rattle.sdv_table.specs.Table.{magic, version, header_size}
use Rattle.sdv_player.specs.declared.next_step.Next.{Next}
use Rattle.sdv_player.specs.declared.next_step.Next.TheVariants as nexts
use Rattle.sdv_player.specs.declared.state.State.{State}
use Rattle.sdv_player.specs.Seen.{Registers, no_registers, nowhere}
use Rattle.sdv_player.specs.Hearing.{heard, is_app_taken}
use Rattle.sdv_player.specs.Passing.{EndsAs}
use Rattle.sdv_player.specs.StandsFor.{run_of, StandsFor}

-- START

-- the magic, the version and the size of a table
abbrev pub has_header : List ℕ → Bool
has_header words =
    (slice_index words 0 == magic) && (slice_index words 1 % 256 == version)
    && (slice_index words 2 / 65536 == length words) && nat_le header_size (length words)

-- the run goes on no more
pub record IsStopped (s : State) : Type 0 where
  pub moves : s.moves ≡ 0
  pub point : s.place.point ≡ nowhere
  pub asked : s.asked ≡ 0

-- the run of a sound graph, from the words of its table, with as many commands left as they say
pub record Begins (g : Graph) (most : ℕ) (words : List ℕ) (s : State) : Type 0 where
  pub stands : StandsFor g words s no_registers
  pub start : run_of g s no_registers ≡ at_start g
  pub commands : s.commands ≡ most

abbrev pub Starts : List ℕ → State → Type 0
Starts words s = (g : Graph) (most : ℕ) → IsTable g most words → IsSound g → Begins g most words s

-- MOVES AND COMMANDS, whatever the words are

-- each event is a move
abbrev pub moves_said : Next → ℕ
moves_said (nexts.Event event) = 1
moves_said end = 0

-- each command counts; phases and waits do not
abbrev pub commands_of : NextEvent → ℕ
commands_of (events.Send ask position argument) = 1
commands_of event = 0

abbrev pub commands_said : Next → ℕ
commands_said (nexts.Event event) = commands_of event
commands_said end = 0

abbrev pub commands_told : Returned → ℕ
commands_told (told.Answered answer) = 1
commands_told returned = 0

pub record Keeps (s s' : State) (said : Next) : Type 0 where
  -- no more moves are made than are left, and one is left for an event that is said
  pub moves : s'.moves ≤ s.moves
  pub one_more : moves_said said ≤ s'.moves
  -- one is left for a command that is said, and none is taken off before its answer
  pub left : s'.commands ≡ s.commands
  pub enough : commands_said said ≤ s.commands

-- a move is taken off with what an event returned, and a command with its answer
pub record TakesOff (s s' : State) (returned : Returned) : Type 0 where
  pub move : s'.moves ≡ s.moves - 1
  pub commands : s'.commands ≡ s.commands - commands_told returned

-- APPLICATION COMMANDS, whatever the words are

-- With its answer each command sets the flag `app` where it was taken as CMD55, and else clears it. Phases and waits
-- leave the flag, and so does an answer that the run does not go on with.
abbrev pub NotesApp : List ℕ → (s s' : State) → Returned → Bool → Type 0
NotesApp words s s' (told.Answered answer) taken =
    s'.app ≡ (if taken then from_bool (is_app_taken (action_at words s.place.point) answer) else s.app)
NotesApp words s s' returned taken = s'.app ≡ s.app

-- NEXT

-- where no move is left the run stops, and stands where it stood, whatever the words are
abbrev pub Stops : (s s' : State) → Next → Type 0
Stops s s' said = s.moves ≡ 0 → (said ≡ nexts.Stopped) × (s' ≡ s)

-- the run is over, or stopped: no event is still to be made
abbrev pub HasEnded : Next → Type 0
HasEnded (nexts.Event event) = ⊥
HasEnded end = Unit {0}

-- the run ends where it stands, and so
pub record Ends (m : Machine) (end : Next) : Type 0 where
  pub last : Ending
  pub halts : now m ≡ Halts last
  pub how : EndsAs end last

-- its next event is a command, and none is left
pub record IsOneTooMany (m : Machine) (left : ℕ) : Type 0 where
  pub event : NextEvent
  pub asks : AsksFor (now m) (Ok (Some event))
  pub more : left < commands_of event

-- It is at its next event, or at its end; or it stops, at a command that cannot be sent, or at one where none is left.
abbrev pub Says : Machine → (left : ℕ) → Next → Type 0
Says m left (nexts.Event event) = AsksFor (now m) (Ok (Some event))
Says m left nexts.Stopped = AsksFor (now m) (Err Reply) ⊎ IsOneTooMany m left
Says m left end = Ends m end

-- an event that is said is asked for
abbrev pub IsAsked : Next → (asked : ℕ) → Type 0
IsAsked (nexts.Event event) asked = asked ≡ 0 → ⊥
IsAsked end asked = Unit {0}

-- it went on without an event to there
pub record GoesTo (g : Graph) (words : List ℕ) (s s' : State) (r : Registers) (result : Next) : Type 0 where
  pub stands : StandsFor g words s' r
  pub came : Came (run_of g s r) (run_of g s' r)
  pub says : Says (run_of g s' r) s'.commands result
  pub asked : IsAsked result s'.asked

abbrev pub Advances : List ℕ → (s s' : State) → Next → Type 0
Advances words s s' result = (g : Graph) (r : Registers) → StandsFor g words s r → GoesTo g words s s' r result

-- ANSWER AND ENDED

-- what an event returned, as the player hears it
abbrev pub as_heard : Returned → Returned
as_heard (told.Answered answer) = told.Answered (heard answer)
as_heard returned = returned

-- it went on by the event, as the run does that is told this
pub record GoesOn (g : Graph) (words : List ℕ) (s s' : State) (r : Registers) (returned : Returned) : Type 0 where
  pub registers : Registers
  pub stands : StandsFor g words s' registers
  pub went : Went (run_of g s r) returned (run_of g s' registers)

-- or the run does not go on with it
abbrev pub Refuses : Graph → State → Registers → Returned → Type 0
Refuses g s r returned = Took g.kind (now (run_of g s r)) returned (run_of g s r).stand (Err Reply)

abbrev pub Takes : List ℕ → (s s' : State) → Returned → Bool → Type 0
Takes words s s' returned true = (g : Graph) (r : Registers) → StandsFor g words s r → GoesOn g words s s' r returned
Takes words s s' returned false =
    (g : Graph) (r : Registers) → StandsFor g words s r → (s.asked ≡ 0 → ⊥) → Refuses g s r returned

-- a phase or a wait ended so; the bytes of an EXT_CSD are those that came
abbrev pub is_well : DataEnd → Bool
is_well ends.Ok = true
is_well end = false

abbrev pub is_over : WaitEnd → Bool
is_over waits.Ok = true
is_over end = false

abbrev pub IsEnd : Returned → (register_length : ℕ) → (well : Bool) → Option (List ℕ) → Type 0
IsEnd (told.Answered answer) n well register = ⊥
IsEnd (told.BlocksIn end) n well register = well ≡ is_well end
IsEnd (told.RegisterIn end bytes) n well register =
    (well ≡ is_well end) × (well ≡ true → n ≡ 512 → register ≡ Some bytes)
IsEnd (told.BlocksOut end) n well register = well ≡ is_well end
IsEnd (told.Waited end) n well register = well ≡ is_over end
