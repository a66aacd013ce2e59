-- A WALK of a script: what the script does at a port, given what each event returned, by cases on its syntax tree.
--
-- A walk is a list of events, each with what it returned, and an end. Before the first event the variables are 0, the
-- flags are clear, the relative card address is 0, one data line is used, and no register was read. `walk_statements`
-- says which lists still come from a host on; what comes after a list of statements, and after a `break`, is handed to
-- it.
use Rattle.std.specs.Prelude.{◌≡◌, ℕ, zero, suc, ◌⊎◌, List, [], ◌∷◌, ◌++◌, length, Bool, true, false, ◌&&◌, Option, Some, None, codes}
use Rattle.sdv_registers.specs.declared.kind.Kind.{Kind}
use Rattle.sdv_card.specs.declared.guard.Guard.{Guard}
use Rattle.sdv_card.specs.declared.guard.Guard.TheVariants.{Ok as WentWell}
use Rattle.sdv_card.specs.declared.state.Width.{Width}
use Rattle.sdv_card.specs.Card.{Block}
use Rattle.sdv_card.specs.CommandTable.{argument_of}
use Rattle.sdv_card.specs.Guards.{passes}
use Rattle.sdv_card.specs.Host.{Host, host_after}
use Rattle.sdv_card.specs.Profile.{host_at_start}
use Rattle.sdv_card.specs.ScriptEvent.{ScriptEvent, SendCommand, ReceiveBlocks, ReceiveRegister, GiveBlocks, AwaitReady, Return, MayReturn}
use Rattle.sdv_graph.specs.declared.tree.ScriptCommand.{ScriptCommand}
use Rattle.sdv_graph.specs.declared.tree.Phase.{Phase}
use Rattle.sdv_graph.specs.declared.tree.Phase.TheVariants as phases
use Rattle.sdv_graph.specs.Tree.{Statements, nothing, first, Ways, otherwise, way, Statement, send, phase, setting, choice, set, clear, bus_lines, turns, break, done, fault, Declared}
use Rattle.sdv_graph.specs.AddressSent.{position_of_command, address_of_command}
use Rattle.sdv_graph.specs.Conditions.{condition_holds, with_flag, with_lines}
use Rattle.sdv_graph.specs.ValueOfLet.{value_of_let, with_number}

-- an event and what it returned
abbrev pub Pair : Type 0
Pair = ScriptEvent × Return

-- HOW A WALK ENDS
pub data Ending : Type 0 where
  -- past the last statement
  Fell : Ending
  -- by a `break` outside a loop
  Broke : Ending
  -- by `done`
  Finished : Ending
  -- in a fault, by its name
  Failed : (name : List ℕ) → Ending
  -- not yet
  Open : Ending

-- the fault of a number out of range
abbrev pub number_fault : Ending
number_fault = Failed (codes "number")

-- what can still come, from a host on
abbrev pub Rest : Type 1
Rest = Host → List Pair → Type 0

-- nothing more comes, and this is the end
abbrev pub Stops : Ending → Ending → List Pair → Type 0
Stops e last es = (es ≡ []) × (e ≡ last)

-- the walk is open here, or goes on
abbrev pub Here : Ending → Type 0 → List Pair → Type 0
Here e on es = Stops e Open es ⊎ on

abbrev pub Either : Bool → Type 0 → Type 0 → Type 0
Either true a b = a
Either false a b = b

-- a number is in range, or the walk ends in the fault `number`
abbrev pub InRange : Ending → Option ℕ → (ℕ → Type 0) → List Pair → Type 0
InRange e None on es = Stops e number_fault es
InRange e (Some n) on es = on n

-- EVENTS

-- what a statement does at the port: one event, or a phase of so many blocks of the input, whatever is in them
pub data Deed : Type 0 where
  exactly : ScriptEvent → Deed
  giving : (lines : Width) (count : ℕ) → Deed

abbrev pub IsDeed : Deed → ScriptEvent → Type 0
IsDeed (exactly wanted) event = event ≡ wanted
IsDeed (giving lines count) event = (blocks : List Block) × (length blocks ≡ count) × (event ≡ GiveBlocks lines blocks)

-- a command with its position, and its argument by the address of the block there, in the unit that the script sends
abbrev pub command_deed : Kind → ScriptCommand → Host → (position : ℕ) → Deed
command_deed k c h position =
    exactly (SendCommand c.ask position (argument_of k c.ask h.rca (address_of_command h c.address position)))

-- a phase uses the data lines of the host, and is as long as was announced, or asked for, last
abbrev pub phase_deed : Phase → Host → Deed
phase_deed phases.ReceiveBlocks h = exactly (ReceiveBlocks h.lines h.announced)
phase_deed phases.ReceiveRegister h = exactly (ReceiveRegister h.lines h.register_length)
phase_deed phases.GiveBlocks h = giving h.lines h.announced
phase_deed phases.Wait h = exactly AwaitReady

-- an event, what it returned, and what comes after that
abbrev pub Acts : Kind → Deed → Host → (Return → Rest) → List Pair → Type 0
Acts k deed h next es =
    (event : ScriptEvent) × (returned : Return) × (rest : List Pair) × IsDeed deed event × MayReturn event returned
    × (es ≡ (event, returned) ∷ rest) × next returned (host_after k event returned h) rest

-- the guards of a case hold
abbrev pub all_pass : Kind → List Guard → Return → Bool
all_pass k [] returned = true
all_pass k (g ∷ gs) returned = passes k g returned && all_pass k gs returned

-- LOOPS: at most n turns of a body, and then the else block
abbrev pub rounds : Ending → ℕ → (Rest → Rest) → Rest → Rest
rounds e zero body other h es = Here e (other h es) es
rounds e (suc n) body other h es = Here e (body (rounds e n body other) h es) es

-- STATEMENTS: `fell` comes after the end of a list, and `broke` after a break
abbrev mutual
  pub walk_statements : Kind → Ending → Statements → (fell broke : Rest) → Rest
  walk_statements k e nothing fell broke = fell
  walk_statements k e (first s rest) fell broke = walk_statement k e s (walk_statements k e rest fell broke) broke

  -- the first case whose guards all hold
  pub walk_ways : Kind → Ending → Ways → Return → (fell broke : Rest) → Rest
  walk_ways k e (otherwise b) returned fell broke = walk_statements k e b fell broke
  walk_ways k e (way guards b rest) returned fell broke = λ h es.
      Either (all_pass k guards returned) (walk_statements k e b fell broke h es)
      (walk_ways k e rest returned fell broke h es)

  pub walk_statement : Kind → Ending → Statement → (fell broke : Rest) → Rest
  walk_statement k e (send c ways) fell broke = λ h es.
      Here e (InRange e (position_of_command h c.address)
      (λ position. Acts k (command_deed k c h position) h
      (λ returned. walk_ways k e ways returned fell broke) es) es) es
  walk_statement k e (phase p a b) fell broke = λ h es.
      Here e (Acts k (phase_deed p h) h (λ returned h' rest. Either (passes k WentWell returned)
      (walk_statements k e a fell broke h' rest) (walk_statements k e b fell broke h' rest)) es) es
  walk_statement k e (setting l) fell broke = λ h es.
      Here e (InRange e (value_of_let k h l) (λ n. fell (with_number h l.target n) es) es) es
  walk_statement k e (choice c a b) fell broke = λ h es.
      Here e (Either (condition_holds h c) (walk_statements k e a fell broke h es)
      (walk_statements k e b fell broke h es)) es
  walk_statement k e (set f) fell broke = λ h es. Here e (fell (with_flag h f true) es) es
  walk_statement k e (clear f) fell broke = λ h es. Here e (fell (with_flag h f false) es) es
  walk_statement k e (bus_lines width) fell broke = λ h es. Here e (fell (with_lines h width) es) es
  walk_statement k e (turns n a b) fell broke =
      rounds e n (λ again. walk_statements k e a again fell) (walk_statements k e b fell broke)
  walk_statement k e break fell broke = λ h es. Here e (broke h es) es
  walk_statement k e done fell broke = λ h es. Here e (Stops e Finished es) es
  walk_statement k e (fault name) fell broke = λ h es. Here e (Stops e (Failed name) es) es

-- no statement comes after
abbrev pub after_all : Ending → Ending → Rest
after_all e last h es = Here e (Stops e last es) es

-- the script of these names does this, and ends so
abbrev pub Walk : Kind → Declared → Statements → Ending → List Pair → Type 0
Walk k names script e es =
    walk_statements k e script (after_all e Fell) (after_all e Broke) (host_at_start (length names.numbers)) es

-- THE INPUT

-- the blocks that a walk gives, in order
abbrev pub given_by : ScriptEvent → List Block
given_by (GiveBlocks lines blocks) = blocks
given_by event = []

abbrev pub given : List Pair → List Block
given [] = []
given (p ∷ ps) = given_by p.0 ++ given ps

-- a walk takes the blocks that it gives from an input, in order
pub record TakesFrom (input : List Block) (es : List Pair) : Type 0 where
  pub left : List Block
  pub split : input ≡ given es ++ left
