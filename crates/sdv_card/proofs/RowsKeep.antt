-- Each move of the state tables leads from a state with its address and transfer to a state that these fit after the row.
use Rattle.std.proofs.Common.{◌≡◌, ℕ, inl, inr, refl, subst, Bool, true, false, List, [], ◌∷◌, Option, Some, if◌then◌else◌, ◌==◌, arith}
use Rattle.sdv_registers.specs.declared.kind.Kind.{Kind}
use Rattle.sdv_registers.specs.declared.kind.Kind.TheVariants.{Sd, Emmc}
use Rattle.sdv_card.specs.declared.state.State.{State}
use Rattle.sdv_card.specs.declared.state.State.TheVariants.{Idle, Ready, Ident, Stby, Tran, Data, Rcv, Prg, Dis}
use Rattle.sdv_card.specs.declared.state.Transfer.{Transfer}
use Rattle.sdv_card.specs.declared.state.Transfer.TheVariants.{ReadDue, OpenReadDue, WriteDue, OpenWriteDue}
use Rattle.sdv_card.specs.declared.state.Width.TheVariants.{One, Four, Eight}
use Rattle.sdv_card.specs.declared.command.Move.{Move}
use Rattle.sdv_card.specs.declared.command.Row.{Row}
use Rattle.sdv_card.specs.declared.command.Row.TheVariants.{Cmd0, Cmd1, Cmd2, Cmd3Sd, Cmd3Emmc, Cmd6, Cmd7Addressed, Cmd7NotAddressed, Cmd8Sd, Cmd8Emmc, Cmd9, Cmd10, Cmd12, Cmd13, Cmd16, Cmd17, Cmd18, Cmd23, Cmd24, Cmd25, Cmd32, Cmd33, Cmd35, Cmd36, Cmd38, Cmd55, Acmd6, Acmd13, Acmd41, Acmd51}
use Rattle.sdv_card.specs.Lists.{IsOneOf}
use Rattle.sdv_card.specs.StateTable.{◌to◌, unchanged, every_to, rows}
use Rattle.sdv_card.specs.RowRules.{transfer_after}
use Rattle.sdv_card.specs.Card.{AddressFits, transfer_fits}
use Rattle.sdv_card.specs.Taken.{RcaAfter}

-- a row from one state to another
pub record Leads (row : Row) (a b : State) : Type 0 where
  pub address : (rca after : Option ℕ) → RcaAfter row rca after → AddressFits a rca → AddressFits b after
  pub transfer : (preset : ℕ) (x : Transfer) → transfer_fits a x ≡ true → transfer_fits b (transfer_after row preset x) ≡ true

-- EACH MOVE of a list

abbrev EachMove : Row → List Move → Type 0
EachMove row [] = Unit {0}
EachMove row (m ∷ ms) = Leads row m.source m.target × EachMove row ms

at_move : (row : Row) (ms : List Move) (a b : State) → EachMove row ms → IsOneOf ms (a to b) → Leads row a b
at_move row [] a b each m = absurd m
at_move row (n ∷ ms) a b each (inl e) = subst (λ v. Leads row v.source v.target) e each.0
at_move row (n ∷ ms) a b each (inr m) = at_move row ms a b each.1 m

each_unchanged : (row : Row) → ((s : State) → Leads row s s) → (ss : List State) → EachMove row (unchanged ss)
each_unchanged row stays [] = tt
each_unchanged row stays (s ∷ ss) = (stays s, each_unchanged row stays ss)

-- A ROW THAT LEAVES the address, and perhaps the transfer

same_address : (s : State) (rca after : Option ℕ) → rca ≡ after → AddressFits s rca → AddressFits s after
same_address s rca after r a = subst (λ v. AddressFits s v) r a

pub either : (P : Transfer → Type 0) (b : Bool) (x y : Transfer) → P x → P y → P (if b then x else y)
either P true x y p q = p
either P false x y p q = q

to_idle : (s : State) → Leads Cmd0 s Idle
to_idle s = record { address = λ rca after r a. r; transfer = λ p x e. refl }

reset_rows : EachMove Cmd0 (every_to Idle)
reset_rows =
    (to_idle Idle, (to_idle Ready, (to_idle Ident, (to_idle Stby, (to_idle Tran, (to_idle Data, (to_idle Rcv, (to_idle Prg, (to_idle Dis, tt)))))))))

-- CMD7 to and from stand-by
select_rows : EachMove Cmd7Addressed ((Stby to Tran) ∷ (Dis to Prg) ∷ [])
select_rows = (
  record { address = λ rca after r a. same_address Tran rca after r a; transfer = λ p x e. e },
  (record { address = λ rca after r a. same_address Prg rca after r a; transfer = λ p x e. e }, tt),
)

deselect_rows : EachMove Cmd7NotAddressed ((Tran to Stby) ∷ (Prg to Dis) ∷ (Stby to Stby) ∷ [])
deselect_rows = (
  record { address = λ rca after r a. same_address Stby rca after r a; transfer = λ p x e. e },
  (
    record { address = λ rca after r a. same_address Dis rca after r a; transfer = λ p x e. e },
    (record { address = λ rca after r a. same_address Stby rca after r a; transfer = λ p x e. e }, tt),
  ),
)

stop_rows : EachMove Cmd12 ((Data to Tran) ∷ (Rcv to Prg) ∷ [])
stop_rows = (
  record { address = λ rca after r a. same_address Tran rca after r a; transfer = λ p x e. refl },
  (record { address = λ rca after r a. same_address Prg rca after r a; transfer = λ p x e. refl }, tt),
)

all_send_rows : EachMove Cmd2 ((Ready to Ident) ∷ [])
all_send_rows = (record { address = λ rca after r a. same_address Ident rca after r a; transfer = λ p x e. e }, tt)

-- an e.MMC device is given 1
given : (after : Option ℕ) → Some 1 ≡ after → AddressFits Stby after
given after e = (1, e, omega arith, omega arith)

-- THE TABLES

sd_table : (row : Row) (a b : State) → IsOneOf (rows Sd row) (a to b) → Leads row a b
sd_table Cmd0 a b m = at_move Cmd0 (every_to Idle) a b reset_rows m
sd_table Cmd2 a b m = at_move Cmd2 ((Ready to Ident) ∷ []) a b all_send_rows m
sd_table Cmd3Sd a b m =
    at_move Cmd3Sd ((Ident to Stby) ∷ (Stby to Stby) ∷ []) a b
    (record { address = λ rca after r a. r; transfer = λ p x e. e }, (record { address = λ rca after r a. r; transfer = λ p x e. e }, tt)) m
sd_table Cmd7Addressed a b m = at_move Cmd7Addressed ((Stby to Tran) ∷ (Dis to Prg) ∷ []) a b select_rows m
sd_table Cmd7NotAddressed a b m = at_move Cmd7NotAddressed ((Tran to Stby) ∷ (Prg to Dis) ∷ (Stby to Stby) ∷ []) a b deselect_rows m
sd_table Cmd8Sd a b m =
    at_move Cmd8Sd (unchanged (Idle ∷ [])) a b
    (each_unchanged Cmd8Sd (λ s. record { address = λ rca after r a. same_address s rca after r a; transfer = λ p x e. e }) (Idle ∷ [])) m
sd_table Cmd9 a b m =
    at_move Cmd9 (unchanged (Stby ∷ [])) a b
    (each_unchanged Cmd9 (λ s. record { address = λ rca after r a. same_address s rca after r a; transfer = λ p x e. e }) (Stby ∷ [])) m
sd_table Cmd10 a b m =
    at_move Cmd10 (unchanged (Stby ∷ [])) a b
    (each_unchanged Cmd10 (λ s. record { address = λ rca after r a. same_address s rca after r a; transfer = λ p x e. e }) (Stby ∷ [])) m
sd_table Cmd12 a b m = at_move Cmd12 ((Data to Tran) ∷ (Rcv to Prg) ∷ []) a b stop_rows m
sd_table Cmd13 a b m =
    at_move Cmd13 (unchanged (Stby ∷ Tran ∷ Data ∷ Rcv ∷ Prg ∷ Dis ∷ [])) a b
    (each_unchanged Cmd13 (λ s. record { address = λ rca after r a. same_address s rca after r a; transfer = λ p x e. e })
    (Stby ∷ Tran ∷ Data ∷ Rcv ∷ Prg ∷ Dis ∷ [])) m
sd_table Cmd16 a b m =
    at_move Cmd16 (unchanged (Tran ∷ [])) a b
    (each_unchanged Cmd16 (λ s. record { address = λ rca after r a. same_address s rca after r a; transfer = λ p x e. e }) (Tran ∷ [])) m
sd_table Cmd17 a b m =
    at_move Cmd17 ((Tran to Data) ∷ []) a b (record { address = λ rca after r a. same_address Data rca after r a; transfer = λ p x e. refl }, tt) m
sd_table (Cmd18 n) a b m =
    at_move (Cmd18 n) ((Tran to Data) ∷ []) a b (
      record {
        address = λ rca after r a. same_address Data rca after r a;
        transfer = λ p x e. either (λ y. transfer_fits Data y ≡ true) (p == 0) OpenReadDue ReadDue refl refl;
      },
      tt,
    ) m
sd_table Cmd24 a b m =
    at_move Cmd24 ((Tran to Rcv) ∷ []) a b (record { address = λ rca after r a. same_address Rcv rca after r a; transfer = λ p x e. refl }, tt) m
sd_table (Cmd25 n) a b m =
    at_move (Cmd25 n) ((Tran to Rcv) ∷ []) a b (
      record {
        address = λ rca after r a. same_address Rcv rca after r a;
        transfer = λ p x e. either (λ y. transfer_fits Rcv y ≡ true) (p == 0) OpenWriteDue WriteDue refl refl;
      },
      tt,
    ) m
sd_table Cmd32 a b m =
    at_move Cmd32 (unchanged (Tran ∷ [])) a b
    (each_unchanged Cmd32 (λ s. record { address = λ rca after r a. same_address s rca after r a; transfer = λ p x e. e }) (Tran ∷ [])) m
sd_table Cmd33 a b m =
    at_move Cmd33 (unchanged (Tran ∷ [])) a b
    (each_unchanged Cmd33 (λ s. record { address = λ rca after r a. same_address s rca after r a; transfer = λ p x e. e }) (Tran ∷ [])) m
sd_table Cmd38 a b m =
    at_move Cmd38 ((Tran to Prg) ∷ []) a b (record { address = λ rca after r a. same_address Prg rca after r a; transfer = λ p x e. e }, tt) m
sd_table Cmd55 a b m =
    at_move Cmd55 (unchanged (Idle ∷ Stby ∷ Tran ∷ Data ∷ Rcv ∷ Prg ∷ Dis ∷ [])) a b
    (each_unchanged Cmd55 (λ s. record { address = λ rca after r a. same_address s rca after r a; transfer = λ p x e. e })
    (Idle ∷ Stby ∷ Tran ∷ Data ∷ Rcv ∷ Prg ∷ Dis ∷ [])) m
sd_table (Acmd6 Eight) a b m = absurd m
sd_table (Acmd6 One) a b m =
    at_move (Acmd6 One) (unchanged (Tran ∷ [])) a b
    (each_unchanged (Acmd6 One) (λ s. record { address = λ rca after r a. same_address s rca after r a; transfer = λ p x e. e }) (Tran ∷ [])) m
sd_table (Acmd6 Four) a b m =
    at_move (Acmd6 Four) (unchanged (Tran ∷ [])) a b
    (each_unchanged (Acmd6 Four) (λ s. record { address = λ rca after r a. same_address s rca after r a; transfer = λ p x e. e }) (Tran ∷ [])) m
sd_table Acmd13 a b m =
    at_move Acmd13 ((Tran to Data) ∷ []) a b (record { address = λ rca after r a. same_address Data rca after r a; transfer = λ p x e. refl }, tt) m
sd_table (Acmd41 high) a b m =
    at_move (Acmd41 high) ((Idle to Ready) ∷ (Idle to Idle) ∷ []) a b (
      record { address = λ rca after r a. same_address Ready rca after r a; transfer = λ p x e. e },
      (record { address = λ rca after r a. same_address Idle rca after r a; transfer = λ p x e. e }, tt),
    ) m
sd_table Acmd51 a b m =
    at_move Acmd51 ((Tran to Data) ∷ []) a b (record { address = λ rca after r a. same_address Data rca after r a; transfer = λ p x e. refl }, tt) m
sd_table row a b m = absurd m

emmc_table : (row : Row) (a b : State) → IsOneOf (rows Emmc row) (a to b) → Leads row a b
emmc_table Cmd0 a b m = at_move Cmd0 (every_to Idle) a b reset_rows m
emmc_table Cmd1 a b m =
    at_move Cmd1 ((Idle to Ready) ∷ (Idle to Idle) ∷ []) a b (
      record { address = λ rca after r a. same_address Ready rca after r a; transfer = λ p x e. e },
      (record { address = λ rca after r a. same_address Idle rca after r a; transfer = λ p x e. e }, tt),
    ) m
emmc_table Cmd2 a b m = at_move Cmd2 ((Ready to Ident) ∷ []) a b all_send_rows m
emmc_table Cmd3Emmc a b m =
    at_move Cmd3Emmc ((Ident to Stby) ∷ []) a b (record { address = λ rca after r a. given after r; transfer = λ p x e. e }, tt) m
emmc_table (Cmd6 setting) a b m =
    at_move (Cmd6 setting) ((Tran to Prg) ∷ []) a b (record { address = λ rca after r a. same_address Prg rca after r a; transfer = λ p x e. e }, tt) m
emmc_table Cmd7Addressed a b m = at_move Cmd7Addressed ((Stby to Tran) ∷ (Dis to Prg) ∷ []) a b select_rows m
emmc_table Cmd7NotAddressed a b m = at_move Cmd7NotAddressed ((Tran to Stby) ∷ (Prg to Dis) ∷ (Stby to Stby) ∷ []) a b deselect_rows m
emmc_table Cmd8Emmc a b m =
    at_move Cmd8Emmc ((Tran to Data) ∷ []) a b (record { address = λ rca after r a. same_address Data rca after r a; transfer = λ p x e. refl }, tt) m
emmc_table Cmd35 a b m =
    at_move Cmd35 (unchanged (Tran ∷ [])) a b
    (each_unchanged Cmd35 (λ s. record { address = λ rca after r a. same_address s rca after r a; transfer = λ p x e. e }) (Tran ∷ [])) m
emmc_table Cmd36 a b m =
    at_move Cmd36 (unchanged (Tran ∷ [])) a b
    (each_unchanged Cmd36 (λ s. record { address = λ rca after r a. same_address s rca after r a; transfer = λ p x e. e }) (Tran ∷ [])) m
emmc_table (Cmd23 n) a b m =
    at_move (Cmd23 n) (unchanged (Tran ∷ [])) a b
    (each_unchanged (Cmd23 n) (λ s. record { address = λ rca after r a. same_address s rca after r a; transfer = λ p x e. e }) (Tran ∷ [])) m
-- the rows of both kinds
emmc_table Cmd9 a b m = sd_table Cmd9 a b m
emmc_table Cmd10 a b m = sd_table Cmd10 a b m
emmc_table Cmd12 a b m = sd_table Cmd12 a b m
emmc_table Cmd13 a b m = sd_table Cmd13 a b m
emmc_table Cmd16 a b m = sd_table Cmd16 a b m
emmc_table Cmd17 a b m = sd_table Cmd17 a b m
emmc_table (Cmd18 n) a b m = sd_table (Cmd18 n) a b m
emmc_table Cmd24 a b m = sd_table Cmd24 a b m
emmc_table (Cmd25 n) a b m = sd_table (Cmd25 n) a b m
emmc_table Cmd38 a b m = sd_table Cmd38 a b m
emmc_table row a b m = absurd m

pub leads : (k : Kind) (row : Row) (a b : State) → IsOneOf (rows k row) (a to b) → Leads row a b
leads Sd row a b m = sd_table row a b m
leads Emmc row a b m = emmc_table row a b m
