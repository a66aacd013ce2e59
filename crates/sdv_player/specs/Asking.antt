-- Which event a command's ROW asks for: that of the command, where the row says what the command table says.
use Rattle.std.specs.Prelude.{◌≡◌, ℕ, Option, Some, None, Result, Ok, Err}
use Rattle.sdv_registers.specs.declared.kind.Kind.{Kind}
use Rattle.sdv_card.specs.Host.{Host}
use Rattle.sdv_card.specs.ScriptEvent.{SendCommand}
use Rattle.sdv_graph.specs.declared.tree.ScriptCommand.{ScriptCommand}
use Rattle.sdv_graph.specs.AddressSent.{position_of_command, address_of_command}
use Rattle.sdv_graph.specs.Walk.{Deed, exactly}
use Rattle.sdv_graph.specs.Path.{Action, sends}
use Rattle.sdv_run.specs.declared.fault.RunFault.{RunFault}
use Rattle.sdv_run.specs.declared.fault.RunFault.TheVariants.{Reply}
use Rattle.sdv_run.specs.declared.next_event.NextEvent.{NextEvent}
use Rattle.sdv_run.specs.Asks.{deed_of, IsTooWide}
use Rattle.sdv_table.specs.declared.sending.Sending.{Sending}
use Rattle.sdv_table.specs.Fits.{HasOrder}
use Rattle.sdv_table.specs.Sending.{sending_of, argument_by}

-- the row of a command says how it is sent, and the command table has a line for it
abbrev pub IsSent : Kind → Action → Sending → Type 0
IsSent k (sends c cases other) sending = (sending ≡ sending_of k c.ask) × HasOrder k c.ask
IsSent k action sending = Unit {0}

-- what is done at a command with its position
abbrev pub sent : Sending → ScriptCommand → Host → (position : ℕ) → Deed
sent sending c h position =
    exactly (SendCommand c.ask position (argument_by sending h.rca (address_of_command h c.address position)))

abbrev pub AsksAt : Sending → ScriptCommand → Host → Option ℕ → Result (Option NextEvent) RunFault → Type 0
AsksAt sending c h None result = result ≡ Ok None
AsksAt sending c h (Some position) (Ok (Some event)) = sent sending c h position ≡ deed_of event
AsksAt sending c h (Some position) (Err Reply) = IsTooWide (sent sending c h position)
AsksAt sending c h (Some position) result = ⊥

abbrev pub AsksToSend : Sending → ScriptCommand → Host → Result (Option NextEvent) RunFault → Type 0
AsksToSend sending c h result = AsksAt sending c h (position_of_command h c.address) result
