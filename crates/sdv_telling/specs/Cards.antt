-- The word of a STATE of a card, as scripts write it.
use Rattle.std.specs.Prelude.{codes}
use Rattle.sdv_card.specs.declared.state.State.{State}
use Rattle.sdv_card.specs.declared.state.State.TheVariants.{Idle, Ready, Ident, Stby, Tran, Data, Rcv, Prg, Dis}
use Rattle.sdv_telling.specs.Statements.{Text}

abbrev pub state_word : State → Text
state_word Idle = codes "idle"
state_word Ready = codes "ready"
state_word Ident = codes "ident"
state_word Stby = codes "stby"
state_word Tran = codes "tran"
state_word Data = codes "data"
state_word Rcv = codes "rcv"
state_word Prg = codes "prg"
state_word Dis = codes "dis"
