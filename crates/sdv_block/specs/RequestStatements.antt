-- The STATEMENTS of a batch: each request as a script's text asks it.
-- SD Physical Layer Simplified Specification, sections 4.3.3 (data read) and 4.3.4 (data write);
-- JESD84-B51, section 6.6.
use Rattle.std.specs.Prelude.{ℕ, zero, suc, List, [], ◌∷◌, Some, None, codes}
use Rattle.sdv_card.specs.declared.event.Aim.TheVariants.{Plain, Rca}
use Rattle.sdv_card.specs.declared.event.Ask.{Ask}
use Rattle.sdv_card.specs.declared.guard.Guard.{Guard}
use Rattle.sdv_card.specs.declared.guard.Guard.TheVariants.{Answer, Clean, State as InState}
use Rattle.sdv_card.specs.declared.state.State.TheVariants.{Tran}
use Rattle.sdv_graph.specs.declared.tree.ScriptCommand.{ScriptCommand}
use Rattle.sdv_graph.specs.declared.tree.Address.{Address}
use Rattle.sdv_graph.specs.declared.tree.Unit.TheVariants as units
use Rattle.sdv_graph.specs.declared.tree.Position.TheVariants as positions
use Rattle.sdv_graph.specs.declared.tree.Phase.TheVariants as phases
use Rattle.sdv_script.specs.Rules.{ask_with}
use Rattle.sdv_graph.specs.Tree.{Statements, nothing, first, Ways, otherwise, way, Statement, send, phase, turns, break, done, fault}
use Rattle.sdv_block.specs.declared.request.Request.{Request}
use Rattle.sdv_block.specs.declared.request.Request.TheVariants.{Read, Write}

-- COMMANDS

-- the address of a block, in the unit that the first flag tells
abbrev pub address_of : ℕ → Address
address_of block = record { unit = units.By 0; position = positions.Number block }

-- one block has a command of its own
abbrev pub read_ask : (count : ℕ) → Ask
read_ask (suc zero) = ask_with 17 Plain 0 1
read_ask count = ask_with 18 Plain 0 count

abbrev pub write_ask : (count : ℕ) → Ask
write_ask (suc zero) = ask_with 24 Plain 0 1
write_ask count = ask_with 25 Plain 0 count

abbrev pub stop_ask : Ask
stop_ask = ask_with 12 Plain 0 0

abbrev pub status_ask : Ask
status_ask = ask_with 13 Rca 0 0

abbrev pub read_command : (block count : ℕ) → ScriptCommand
read_command block count = record { ask = read_ask count; address = Some (address_of block) }

abbrev pub write_command : (block count : ℕ) → ScriptCommand
write_command block count = record { ask = write_ask count; address = Some (address_of block) }

abbrev pub stop_command : ScriptCommand
stop_command = record { ask = stop_ask; address = None }

abbrev pub status_command : ScriptCommand
status_command = record { ask = status_ask; address = None }

-- WAYS ON

abbrev pub fails : List ℕ → Statements
fails name = first (fault name) nothing

-- the script goes on where the guards hold, and else ends in the fault
abbrev pub only_if : List Guard → (name : List ℕ) → Ways
only_if guards name = way guards nothing (otherwise (fails name))

-- READS

-- { clean & state=tran { break } answer { } else { fault read } }
abbrev pub status_ways : Ways
status_ways =
    way (Clean ∷ InState Tran ∷ []) (first break nothing) (
    way (Answer ∷ []) nothing (otherwise (fails (codes "read"))))

-- loop 1000 { send 13 { .. } } else { fault read }
abbrev pub poll_statement : Statement
poll_statement = turns 1000 (first (send status_command status_ways) nothing) (fails (codes "read"))

-- a transfer of several blocks is stopped, and then the card's status asked for until it is in transfer state
-- send 12 { answer { } else { fault read } }
-- loop 1000 { send 13 { .. } } else { fault read }
abbrev pub stop_reading : (count : ℕ) → Statements → Statements
stop_reading (suc zero) rest = rest
stop_reading count rest = first (send stop_command (only_if (Answer ∷ []) (codes "read"))) (first poll_statement rest)

-- send 17 at by hc BLOCK { clean { } else { fault read } }, or send 18 at by hc BLOCK count COUNT { .. }
-- recv { ok { } else { fault read } }
abbrev pub read_statements : (block count : ℕ) → Statements → Statements
read_statements block count rest =
    first (send (read_command block count) (only_if (Clean ∷ []) (codes "read"))) (
    first (phase phases.ReceiveBlocks nothing (fails (codes "read"))) (stop_reading count rest))

-- WRITES

-- loop 1000 { wait { ok { break } else { } } } else { fault busy }
abbrev pub wait_statement : Statement
wait_statement = turns 1000 (first (phase phases.Wait (first break nothing) nothing) nothing) (fails (codes "busy"))

-- loop 1000 { wait { .. } } else { fault busy }
-- send 13 { clean & state=tran { } else { fault write } }
abbrev pub settle_statements : Statements → Statements
settle_statements rest =
    first wait_statement (first (send status_command (only_if (Clean ∷ InState Tran ∷ []) (codes "write"))) rest)

-- send 12 { clean { } else { fault write } }, after a transfer of several blocks
abbrev pub stop_writing : (count : ℕ) → Statements → Statements
stop_writing (suc zero) rest = rest
stop_writing count rest = first (send stop_command (only_if (Clean ∷ []) (codes "write"))) rest

-- send 24 at by hc BLOCK { clean { } else { fault write } }, or send 25 at by hc BLOCK count COUNT { .. }
-- give { ok { } else { fault write } }
abbrev pub write_statements : (block count : ℕ) → Statements → Statements
write_statements block count rest =
    first (send (write_command block count) (only_if (Clean ∷ []) (codes "write"))) (
    first (phase phases.GiveBlocks nothing (fails (codes "write"))) (stop_writing count (settle_statements rest)))

-- BATCHES

abbrev pub request_statements : Request → Statements → Statements
request_statements (Read block count) rest = read_statements block count rest
request_statements (Write block count) rest = write_statements block count rest

-- each of them, and `done`
abbrev pub batch_statements : List Request → Statements
batch_statements [] = first done nothing
batch_statements (r ∷ rs) = request_statements r (batch_statements rs)
