-- Which event a run makes next: that of its move.
use Rattle.std.specs.Prelude.{◌≡◌, ◌<◌, ◌≤◌, ◌^◌, ℕ, Option, Some, None, Result, Ok, Err}
use Rattle.sdv_registers.specs.declared.kind.Kind.{Kind}
use Rattle.sdv_card.specs.Host.{Host}
use Rattle.sdv_card.specs.ScriptEvent.{SendCommand, ReceiveBlocks, ReceiveRegister, AwaitReady}
use Rattle.sdv_graph.specs.declared.tree.ScriptCommand.{ScriptCommand}
use Rattle.sdv_graph.specs.AddressSent.{position_of_command}
use Rattle.sdv_graph.specs.Walk.{Deed, exactly, giving, command_deed}
use Rattle.sdv_graph.specs.Path.{Move, Goes, Does, Halts}
use Rattle.sdv_run.specs.declared.fault.RunFault.{RunFault}
use Rattle.sdv_run.specs.declared.fault.RunFault.TheVariants.{Reply}
use Rattle.sdv_run.specs.declared.next_event.NextEvent.{NextEvent}
use Rattle.sdv_run.specs.declared.next_event.NextEvent.TheVariants as events

-- the event: of a phase to the card it says how many blocks, and not which
abbrev pub deed_of : NextEvent → Deed
deed_of (events.Send ask position argument) = exactly (SendCommand ask position argument)
deed_of (events.ReceiveBlocks lines count) = exactly (ReceiveBlocks lines count)
deed_of (events.ReceiveRegister lines count) = exactly (ReceiveRegister lines count)
deed_of (events.GiveBlocks lines count) = giving lines count
deed_of events.Wait = exactly AwaitReady

-- a command whose argument has more than 32 bits
abbrev pub IsTooWide : Deed → Type 0
IsTooWide (exactly (SendCommand ask position argument)) = 2 ^ 32 ≤ argument
IsTooWide deed = ⊥

-- The event of a move is asked for, and none where the move makes none. A command that cannot be sent is a fault.
abbrev pub AsksFor : Move → Result (Option NextEvent) RunFault → Type 0
AsksFor (Does deed before next) (Ok (Some event)) = deed ≡ deed_of event
AsksFor (Does deed before next) (Err Reply) = IsTooWide deed
AsksFor (Goes next) (Ok None) = Unit {0}
AsksFor (Halts last) (Ok None) = Unit {0}
AsksFor m result = ⊥

-- the same of a command at its position
abbrev pub AsksAt : Kind → ScriptCommand → Host → Option ℕ → Result (Option NextEvent) RunFault → Type 0
AsksAt k c h None result = result ≡ Ok None
AsksAt k c h (Some position) (Ok (Some event)) = command_deed k c h position ≡ deed_of event
AsksAt k c h (Some position) (Err Reply) = IsTooWide (command_deed k c h position)
AsksAt k c h (Some position) result = ⊥

abbrev pub AsksToSend : Kind → ScriptCommand → Host → Result (Option NextEvent) RunFault → Type 0
AsksToSend k c h result = AsksAt k c h (position_of_command h c.address) result

-- WHAT A HOST CAN MAKE
-- a command's index has 6 bits, and the host has room for what it receives
abbrev pub CanPerform : NextEvent → (room : ℕ) → Type 0
CanPerform (events.Send ask position argument) room = ask.index < 64
CanPerform (events.ReceiveBlocks lines count) room = count ≤ room
CanPerform (events.ReceiveRegister lines count) room = count ≤ 512
CanPerform event room = Unit {0}

abbrev pub FitsRoom : Result (Option NextEvent) RunFault → (room : ℕ) → Type 0
FitsRoom (Ok (Some event)) room = CanPerform event room
FitsRoom result room = Unit {0}
