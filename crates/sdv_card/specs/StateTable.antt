-- The state tables: for each row the states in which a card takes it, and the states to which it leads.
-- SD Physical Layer Simplified Specification, section 4.8 (card state transition table);
-- JESD84-B51, section 6.11 (device state transition table).
-- A row from a state that is not listed is not legal. The e.MMC rows of CMD7 not addressed from stand-by,
-- CMD12 and CMD23 as they stand are this project's profile.
use Rattle.std.specs.Prelude.{List, [], ◌∷◌, ◌==◌, if◌then◌else◌}
use Rattle.sdv_registers.specs.declared.kind.Kind.{Kind}
use Rattle.sdv_registers.specs.declared.kind.Kind.TheVariants.{Sd, Emmc}
use Rattle.sdv_card.specs.declared.state.State.{State}
use Rattle.sdv_card.specs.declared.state.State.TheVariants.{Idle, Ready, Ident, Stby, Tran, Data, Rcv, Prg, Dis}
use Rattle.sdv_card.specs.declared.state.Width.TheVariants.{Eight}
use Rattle.sdv_card.specs.declared.command.Move.{Move}
use Rattle.sdv_card.specs.declared.command.Row.{Row}
use Rattle.sdv_card.specs.declared.command.Row.TheVariants.{Cmd0, Cmd1, Cmd2, Cmd3Sd, Cmd3Emmc, Cmd6, Cmd7Addressed, Cmd7NotAddressed, Cmd8Sd, Cmd8Emmc, Cmd9, Cmd10, Cmd12, Cmd13, Cmd16, Cmd17, Cmd18, Cmd23, Cmd24, Cmd25, Cmd32, Cmd33, Cmd35, Cmd36, Cmd38, Cmd55, Acmd6, Acmd13, Acmd41, Acmd51}
use Rattle.sdv_card.specs.States.{state_number}

infixl 40 ◌to◌
abbrev pub ◌to◌ : State → State → Move
a to b = record { source = a; target = b }

-- a command that leaves the state as it is
abbrev pub unchanged : List State → List Move
unchanged [] = []
unchanged (s ∷ rest) = (s to s) ∷ unchanged rest

-- every state to one
abbrev pub every_to : State → List Move
every_to t = (Idle to t) ∷ (Ready to t) ∷ (Ident to t) ∷ (Stby to t) ∷ (Tran to t) ∷ (Data to t) ∷ (Rcv to t)
    ∷ (Prg to t) ∷ (Dis to t) ∷ []

-- the state table of SD cards
abbrev pub sd_rows : Row → List Move
sd_rows Cmd0 = every_to Idle
sd_rows Cmd2 = (Ready to Ident) ∷ []
sd_rows Cmd3Sd = (Ident to Stby) ∷ (Stby to Stby) ∷ []
sd_rows Cmd7Addressed = (Stby to Tran) ∷ (Dis to Prg) ∷ []
sd_rows Cmd7NotAddressed = (Tran to Stby) ∷ (Prg to Dis) ∷ (Stby to Stby) ∷ []
sd_rows Cmd8Sd = unchanged (Idle ∷ [])
sd_rows Cmd9 = unchanged (Stby ∷ [])
sd_rows Cmd10 = unchanged (Stby ∷ [])
sd_rows Cmd12 = (Data to Tran) ∷ (Rcv to Prg) ∷ []
sd_rows Cmd13 = unchanged (Stby ∷ Tran ∷ Data ∷ Rcv ∷ Prg ∷ Dis ∷ [])
sd_rows Cmd16 = unchanged (Tran ∷ [])
sd_rows Cmd17 = (Tran to Data) ∷ []
sd_rows (Cmd18 n) = (Tran to Data) ∷ []
sd_rows Cmd24 = (Tran to Rcv) ∷ []
sd_rows (Cmd25 n) = (Tran to Rcv) ∷ []
sd_rows Cmd32 = unchanged (Tran ∷ [])
sd_rows Cmd33 = unchanged (Tran ∷ [])
sd_rows Cmd38 = (Tran to Prg) ∷ []
sd_rows Cmd55 = unchanged (Idle ∷ Stby ∷ Tran ∷ Data ∷ Rcv ∷ Prg ∷ Dis ∷ [])
sd_rows (Acmd6 Eight) = []
sd_rows (Acmd6 width) = unchanged (Tran ∷ [])
sd_rows Acmd13 = (Tran to Data) ∷ []
sd_rows (Acmd41 high) = (Idle to Ready) ∷ (Idle to Idle) ∷ []
sd_rows Acmd51 = (Tran to Data) ∷ []
sd_rows row = []

-- the state table of e.MMC devices
abbrev pub emmc_rows : Row → List Move
emmc_rows Cmd0 = every_to Idle
emmc_rows Cmd1 = (Idle to Ready) ∷ (Idle to Idle) ∷ []
emmc_rows Cmd2 = (Ready to Ident) ∷ []
emmc_rows Cmd3Emmc = (Ident to Stby) ∷ []
emmc_rows (Cmd6 setting) = (Tran to Prg) ∷ []
emmc_rows Cmd7Addressed = (Stby to Tran) ∷ (Dis to Prg) ∷ []
emmc_rows Cmd7NotAddressed = (Tran to Stby) ∷ (Prg to Dis) ∷ (Stby to Stby) ∷ []
emmc_rows Cmd8Emmc = (Tran to Data) ∷ []
emmc_rows Cmd9 = unchanged (Stby ∷ [])
emmc_rows Cmd10 = unchanged (Stby ∷ [])
emmc_rows Cmd12 = (Data to Tran) ∷ (Rcv to Prg) ∷ []
emmc_rows Cmd13 = unchanged (Stby ∷ Tran ∷ Data ∷ Rcv ∷ Prg ∷ Dis ∷ [])
emmc_rows Cmd16 = unchanged (Tran ∷ [])
emmc_rows Cmd17 = (Tran to Data) ∷ []
emmc_rows (Cmd18 n) = (Tran to Data) ∷ []
emmc_rows (Cmd23 n) = unchanged (Tran ∷ [])
emmc_rows Cmd24 = (Tran to Rcv) ∷ []
emmc_rows (Cmd25 n) = (Tran to Rcv) ∷ []
emmc_rows Cmd35 = unchanged (Tran ∷ [])
emmc_rows Cmd36 = unchanged (Tran ∷ [])
emmc_rows Cmd38 = (Tran to Prg) ∷ []
emmc_rows row = []

-- the state table of a kind
abbrev pub rows : Kind → Row → List Move
rows Sd row = sd_rows row
rows Emmc row = emmc_rows row

-- the states to which moves lead from one
abbrev pub targets : List Move → State → List State
targets [] from = []
targets (move ∷ rest) from =
    if state_number move.source == state_number from then move.target ∷ targets rest from else targets rest from
