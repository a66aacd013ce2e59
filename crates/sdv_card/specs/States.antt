-- The states of a card, their numbers, and the steps that a card makes of its own.
-- SD Physical Layer Simplified Specification, sections 4.2 and 4.3 (state diagrams) and 4.10.1 (CURRENT_STATE);
-- JESD84-B51, sections 6.4, 6.6 and 6.13.
use Rattle.std.specs.Prelude.{Bool, true, false, ℕ, Option, Some, None, if◌then◌else◌}
use Rattle.sdv_card.specs.declared.state.State.{State}
use Rattle.sdv_card.specs.declared.state.State.TheVariants.{Idle, Ready, Ident, Stby, Tran, Data, Rcv, Prg, Dis}
use Rattle.sdv_card.specs.declared.state.Transfer.{Transfer}
use Rattle.sdv_card.specs.declared.state.Transfer.TheVariants.{OpenReadDue, OpenReadOver, OpenWriteDue, OpenWriteOver}

-- a state's number, in a card status and in a shape
abbrev pub state_number : State → ℕ
state_number Idle = 0
state_number Ready = 1
state_number Ident = 2
state_number Stby = 3
state_number Tran = 4
state_number Data = 5
state_number Rcv = 6
state_number Prg = 7
state_number Dis = 8

abbrev pub is_ready : State → Bool
is_ready Ready = true
is_ready state = false

-- the transfer is open: it goes on after its phase, until a stop command
abbrev pub is_open : Transfer → Bool
is_open OpenReadDue = true
is_open OpenReadOver = true
is_open OpenWriteDue = true
is_open OpenWriteOver = true
is_open transfer = false

-- where a card's own step leads, if it has one: the data are sent, the programming is done
abbrev pub own_target : State → Transfer → Option State
own_target Data transfer = if is_open transfer then None else Some Tran
own_target Prg transfer = Some Tran
own_target Dis transfer = Some Stby
own_target state transfer = None
