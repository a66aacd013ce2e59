-- What a script does next, as a runner sees it.
use Rattle.std.specs.Prelude.{ℕ, Option, Some, None, option_map}
use Rattle.sdv_registers.specs.declared.kind.Kind.{Kind}
use Rattle.sdv_card.specs.CommandTable.{argument_of}
use Rattle.sdv_card.specs.Host.{Host}
use Rattle.sdv_graph.specs.declared.tree.Phase.{Phase}
use Rattle.sdv_graph.specs.declared.tree.Phase.TheVariants as kinds
use Rattle.sdv_graph.specs.declared.tree.ScriptCommand.{ScriptCommand}
use Rattle.sdv_graph.specs.AddressSent.{position_of_command, address_of_command}
use Rattle.sdv_graph.specs.Path.{Action, sends, phases, stops}
use Rattle.sdv_graph.specs.Walk.{Finished}
use Rattle.sdv_refute.specs.declared.next.Next.{Next}
use Rattle.sdv_refute.specs.declared.next.Next.TheVariants.{Send, Receive, ReceiveRegister, Give, Wait, Done}

-- a command from a position on
abbrev pub send_at : Kind → ScriptCommand → Host → (position : ℕ) → Next
send_at k c h position = Send c.ask position (argument_of k c.ask h.rca (address_of_command h c.address position))

-- a phase is as long as was announced, or asked for, last
abbrev pub phase_next : Phase → Host → Next
phase_next kinds.ReceiveBlocks h = Receive h.announced
phase_next kinds.ReceiveRegister h = ReceiveRegister h.register_length
phase_next kinds.GiveBlocks h = Give h.announced
phase_next kinds.Wait h = Wait

-- a statement that makes an event, or ends in `done`; a command whose block is out of range makes none
abbrev pub next_of : Kind → Action → Host → Option Next
next_of k (sends c ways other) h = option_map (send_at k c h) (position_of_command h c.address)
next_of k (phases p well other) h = Some (phase_next p h)
next_of k (stops Finished) h = Some Done
next_of k action h = None
