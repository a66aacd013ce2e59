-- Each command of a script asks by a line of the command table of the script's kind.
use Rattle.std.proofs.Common.{◌≡◌, ℕ, ◌≤◌, Bool, true, false, refl, ap, subst, ◌∙◌, eqb, Option, Some, None}
use Rattle.std.specs.Prelude.{◌==◌, ◌||◌}
use Rattle.std.proofs.lemmas.Bool.{eqb-true, eq-eqb, le-leb}
use Rattle.sdv_registers.specs.declared.kind.Kind.{Kind}
use Rattle.sdv_registers.specs.declared.kind.Kind.TheVariants.{Sd, Emmc}
use Rattle.sdv_card.specs.declared.state.Width.{Width}
use Rattle.sdv_card.specs.declared.state.Width.TheVariants.{One, Four, Eight}
use Rattle.sdv_card.specs.declared.state.Partition.TheVariants.{User, Boot1, Boot2}
use Rattle.sdv_card.specs.declared.command.Setting.{Setting}
use Rattle.sdv_card.specs.declared.command.Setting.TheVariants.{Lines, Access}
use Rattle.sdv_card.specs.declared.event.Aim.{Aim}
use Rattle.sdv_card.specs.declared.event.Aim.TheVariants.{Rca, Plain}
use Rattle.sdv_card.specs.declared.event.Ask.{Ask}
use Rattle.sdv_card.specs.declared.command.Order.{Order}
use Rattle.sdv_card.specs.declared.command.Order.TheVariants as orders
use Rattle.sdv_card.specs.CommandTable.{order_of, sd_order, emmc_order}
use Rattle.sdv_script.specs.declared.operand.Operand.{Operand}
use Rattle.sdv_script.specs.declared.operand.Operand.TheVariants.{Bare, Select, Conditions, Addressed, Counted, Preset, Erase, Switch}
use Rattle.sdv_graph.specs.declared.tree.ScriptCommand.{ScriptCommand}
use Rattle.sdv_script.specs.Commands.{either, is_conditions, is_erase, setting_argument, is_setting, sd_operand, emmc_operand, operand_of}
use Rattle.sdv_script.specs.Rules.{ask_with, OperandFits, CommandFits}
use Rattle.sdv_graph.specs.Tree.{Declared}
use Rattle.sdv_script.specs.Asks.{IsAsked}
use Rattle.sdv_script.proofs.SettingLaws.{some_setting}

-- the command table of a kind
abbrev IsTable : Kind → (Ask → Option Order) → Type 0
IsTable k table = (ask : Ask) → order_of k ask ≡ table ask

sd_table : IsTable Sd sd_order
unfolding order_of
sd_table ask = refl

emmc_table : IsTable Emmc emmc_order
unfolding order_of
emmc_table ask = refl

or_cases : {P : Type 0} (a b : Bool) → (a ≡ true → P) → (b ≡ true → P) → (a || b) ≡ true → P
or_cases true b p q e = p refl
or_cases false b p q e = q e

by_operand : (P : Option Operand → Type 0) (is : Bool) (operand : Operand) (others : Option Operand) → (is ≡ true → P (Some operand)) → P others
    → P (either is operand others)
by_operand P true operand others p q = p refl
by_operand P false operand others p q = q

-- an argument that is known
with_argument : (ask : Ask) (n : ℕ) → ask ≡ ask_with ask.index Plain ask.argument 0 → eqb ask.argument n ≡ true → ask ≡ ask_with ask.index Plain n 0
with_argument ask n parts is = parts ∙ ap (λ (a : ℕ). ask_with ask.index Plain a 0) (eqb-true ask.argument n is)

-- the line of an index
line_of : (k : Kind) (table : Ask → Option Order) → IsTable k table → (n : ℕ) (ask : Ask) (aim : Aim) (argument count : ℕ) (order : Order)
    → table (ask_with n aim argument count) ≡ Some order → ask ≡ ask_with ask.index aim argument count → eqb ask.index n ≡ true → IsAsked k ask
line_of k table is n ask aim argument count order line parts same =
    let whole : ask ≡ ask_with n aim argument count = parts ∙ ap (λ (i : ℕ). ask_with i aim argument count) (eqb-true ask.index n same) in
    (order, record { line = is ask ∙ ap (λ (a : Ask). table a) whole ∙ line })

-- the lines of index 6
sd_row : (s : Setting) → (width : Width) × (sd_order (ask_with 6 Plain (setting_argument Sd s) 0) ≡ Some (orders.SetBusWidth width))
sd_row (Lines One) = (One, refl)
sd_row (Lines Four) = (Four, refl)
sd_row (Lines Eight) = (Four, refl)
sd_row (Access partition) = (Four, refl)

emmc_row : (s : Setting) → emmc_order (ask_with 6 Plain (setting_argument Emmc s) 0) ≡ Some (orders.Switch s)
emmc_row (Lines One) = refl
emmc_row (Lines Four) = refl
emmc_row (Lines Eight) = refl
emmc_row (Access User) = refl
emmc_row (Access Boot1) = refl
emmc_row (Access Boot2) = refl

module _ (c : ScriptCommand) where
  sd_line : (n : ℕ) (aim : Aim) (argument count : ℕ) (order : Order)
      → sd_order (ask_with n aim argument count) ≡ Some order → c.ask ≡ ask_with c.ask.index aim argument count → eqb c.ask.index n ≡ true → IsAsked Sd c.ask
  sd_line n aim argument count order = line_of Sd sd_order sd_table n c.ask aim argument count order

  emmc_line : (n : ℕ) (aim : Aim) (argument count : ℕ) (order : Order)
      → emmc_order (ask_with n aim argument count) ≡ Some order → c.ask ≡ ask_with c.ask.index aim argument count → eqb c.ask.index n ≡ true
      → IsAsked Emmc c.ask
  emmc_line n aim argument count order = line_of Emmc emmc_order emmc_table n c.ask aim argument count order

  sd_bare : c.ask ≡ ask_with c.ask.index Plain 0 0
      → ((c.ask.index == 0) || (c.ask.index == 2) || (c.ask.index == 3) || (c.ask.index == 8) || (c.ask.index == 12) || (c.ask.index == 16)
      || (c.ask.index == 38) || (c.ask.index == 51)) ≡ true
      → IsAsked Sd c.ask
  sd_bare parts =
      or_cases _ _ (or_cases _ _ (or_cases _ _ (or_cases _ _ (or_cases _ _ (or_cases _ _ (or_cases _ _
      (sd_line 0 Plain 0 0 orders.GoIdleState refl parts)
      (sd_line 2 Plain 0 0 orders.AllSendCid refl parts))
      (sd_line 3 Plain 0 0 orders.SendRelativeAddress refl parts))
      (sd_line 8 Plain 0 0 orders.SendIfCond refl parts))
      (sd_line 12 Plain 0 0 orders.StopTransmission refl parts))
      (sd_line 16 Plain 0 0 orders.SetBlockLength refl parts))
      (sd_line 38 Plain 0 0 orders.Erase refl parts))
      (sd_line 51 Plain 0 0 orders.SendScr refl parts)

  emmc_bare : c.ask ≡ ask_with c.ask.index Plain 0 0
      → ((c.ask.index == 0) || (c.ask.index == 1) || (c.ask.index == 2) || (c.ask.index == 3) || (c.ask.index == 8) || (c.ask.index == 12)
      || (c.ask.index == 16)) ≡ true
      → IsAsked Emmc c.ask
  emmc_bare parts =
      or_cases _ _ (or_cases _ _ (or_cases _ _ (or_cases _ _ (or_cases _ _ (or_cases _ _
      (emmc_line 0 Plain 0 0 orders.GoIdleState refl parts)
      (emmc_line 1 Plain 0 0 orders.SendOpCond refl parts))
      (emmc_line 2 Plain 0 0 orders.AllSendCid refl parts))
      (emmc_line 3 Plain 0 0 orders.SetRelativeAddress refl parts))
      (emmc_line 8 Plain 0 0 orders.SendExtCsd refl parts))
      (emmc_line 12 Plain 0 0 orders.StopTransmission refl parts))
      (emmc_line 16 Plain 0 0 orders.SetBlockLength refl parts)

  sd_by_address : c.ask ≡ ask_with c.ask.index Rca 0 0
      → ((c.ask.index == 9) || (c.ask.index == 10) || (c.ask.index == 13) || (c.ask.index == 55)) ≡ true → IsAsked Sd c.ask
  sd_by_address parts =
      or_cases _ _ (or_cases _ _ (or_cases _ _
      (sd_line 9 Rca 0 0 orders.SendCsd refl parts)
      (sd_line 10 Rca 0 0 orders.SendCid refl parts))
      (sd_line 13 Rca 0 0 orders.SendStatus refl parts))
      (sd_line 55 Rca 0 0 orders.AppCommand refl parts)

  emmc_by_address : c.ask ≡ ask_with c.ask.index Rca 0 0 → ((c.ask.index == 9) || (c.ask.index == 10) || (c.ask.index == 13)) ≡ true → IsAsked Emmc c.ask
  emmc_by_address parts =
      or_cases _ _ (or_cases _ _
      (emmc_line 9 Rca 0 0 orders.SendCsd refl parts)
      (emmc_line 10 Rca 0 0 orders.SendCid refl parts))
      (emmc_line 13 Rca 0 0 orders.SendStatus refl parts)

  sd_selected : (aim : Aim) → c.ask ≡ ask_with c.ask.index aim 0 0 → (c.ask.index == 7) ≡ true → IsAsked Sd c.ask
  sd_selected Rca parts = sd_line 7 Rca 0 0 orders.SelectCard refl parts
  sd_selected Plain parts = sd_line 7 Plain 0 0 orders.DeselectCards refl parts

  emmc_selected : (aim : Aim) → c.ask ≡ ask_with c.ask.index aim 0 0 → (c.ask.index == 7) ≡ true → IsAsked Emmc c.ask
  emmc_selected Rca parts = emmc_line 7 Rca 0 0 orders.SelectCard refl parts
  emmc_selected Plain parts = emmc_line 7 Plain 0 0 orders.DeselectCards refl parts

  offered : c.ask ≡ ask_with c.ask.index Plain c.ask.argument 0 → is_conditions c.ask.argument ≡ true → (c.ask.index == 41) ≡ true → IsAsked Sd c.ask
  offered parts conditions is =
      or_cases (c.ask.argument == 0x00ff8000) (c.ask.argument == 0x40ff8000)
      (λ e. sd_line 41 Plain 0x00ff8000 0 (orders.SdSendOpCond false) refl (with_argument c.ask 0x00ff8000 parts e) is)
      (λ e. sd_line 41 Plain 0x40ff8000 0 (orders.SdSendOpCond true) refl (with_argument c.ask 0x40ff8000 parts e) is)
      conditions

  erased : c.ask ≡ ask_with c.ask.index Plain c.ask.argument 0 → is_erase c.ask.argument ≡ true → (c.ask.index == 38) ≡ true → IsAsked Emmc c.ask
  erased parts erase is =
      or_cases ((c.ask.argument == 0) || (c.ask.argument == 1)) (c.ask.argument == 3)
      (or_cases (c.ask.argument == 0) (c.ask.argument == 1)
      (λ e. emmc_line 38 Plain 0 0 orders.Erase refl (with_argument c.ask 0 parts e) is)
      (λ e. emmc_line 38 Plain 1 0 orders.Erase refl (with_argument c.ask 1 parts e) is))
      (λ e. emmc_line 38 Plain 3 0 orders.Erase refl (with_argument c.ask 3 parts e) is)
      erase

  sd_switched : c.ask ≡ ask_with c.ask.index Plain c.ask.argument 0 → is_setting Sd c.ask.argument ≡ true → (c.ask.index == 6) ≡ true → IsAsked Sd c.ask
  sd_switched parts some is =
      let s = some_setting Sd c.ask.argument some in
      let row = sd_row s.0 in
      sd_line 6 Plain (setting_argument Sd s.0) 0 (orders.SetBusWidth row.0) row.1
      (parts ∙ ap (λ (a : ℕ). ask_with c.ask.index Plain a 0) s.1) is

  emmc_switched : c.ask ≡ ask_with c.ask.index Plain c.ask.argument 0 → is_setting Emmc c.ask.argument ≡ true → (c.ask.index == 6) ≡ true
      → IsAsked Emmc c.ask
  emmc_switched parts some is =
      let s = some_setting Emmc c.ask.argument some in
      emmc_line 6 Plain (setting_argument Emmc s.0) 0 (orders.Switch s.0) (emmc_row s.0)
      (parts ∙ ap (λ (a : ℕ). ask_with c.ask.index Plain a 0) s.1) is

  sd_one_block : c.ask ≡ ask_with c.ask.index Plain 0 1 → ((c.ask.index == 17) || (c.ask.index == 24)) ≡ true → IsAsked Sd c.ask
  sd_one_block parts =
      or_cases _ _ (sd_line 17 Plain 0 1 orders.ReadSingleBlock refl parts) (sd_line 24 Plain 0 1 orders.WriteBlock refl parts)

  emmc_one_block : c.ask ≡ ask_with c.ask.index Plain 0 1 → ((c.ask.index == 17) || (c.ask.index == 24)) ≡ true → IsAsked Emmc c.ask
  emmc_one_block parts =
      or_cases _ _ (emmc_line 17 Plain 0 1 orders.ReadSingleBlock refl parts) (emmc_line 24 Plain 0 1 orders.WriteBlock refl parts)

  sd_bounds : c.ask ≡ ask_with c.ask.index Plain 0 0 → ((c.ask.index == 32) || (c.ask.index == 33)) ≡ true → IsAsked Sd c.ask
  sd_bounds parts =
      or_cases _ _ (sd_line 32 Plain 0 0 orders.EraseBlockStart refl parts) (sd_line 33 Plain 0 0 orders.EraseBlockEnd refl parts)

  emmc_bounds : c.ask ≡ ask_with c.ask.index Plain 0 0 → ((c.ask.index == 35) || (c.ask.index == 36)) ≡ true → IsAsked Emmc c.ask
  emmc_bounds parts =
      or_cases _ _ (emmc_line 35 Plain 0 0 orders.EraseGroupStart refl parts) (emmc_line 36 Plain 0 0 orders.EraseGroupEnd refl parts)

  -- with a count from 1 to 65,535
  module _ (parts : c.ask ≡ ask_with c.ask.index Plain 0 c.ask.count) (some : 1 ≤ c.ask.count) (most : c.ask.count ≤ 65535) where
    sd_counted : ((c.ask.index == 18) || (c.ask.index == 25)) ≡ true → IsAsked Sd c.ask
    sd_counted =
        let n = c.ask.count in
        or_cases _ _
        (sd_line 18 Plain 0 n (orders.ReadMultipleBlock n) (rw (eq-eqb n n refl, le-leb 1 n some, le-leb n 65535 most) refl) parts)
        (sd_line 25 Plain 0 n (orders.WriteMultipleBlock n) (rw (eq-eqb n n refl, le-leb 1 n some, le-leb n 65535 most) refl) parts)

    emmc_counted : ((c.ask.index == 18) || (c.ask.index == 25)) ≡ true → IsAsked Emmc c.ask
    emmc_counted =
        let n = c.ask.count in
        or_cases _ _
        (emmc_line 18 Plain 0 n (orders.ReadMultipleBlock n) (rw (eq-eqb n n refl, le-leb 1 n some, le-leb n 65535 most) refl) parts)
        (emmc_line 25 Plain 0 n (orders.WriteMultipleBlock n) (rw (eq-eqb n n refl, le-leb 1 n some, le-leb n 65535 most) refl) parts)

    preset : (c.ask.index == 23) ≡ true → IsAsked Emmc c.ask
    preset =
        let n = c.ask.count in
        emmc_line 23 Plain 0 n (orders.SetBlockCount n) (rw (eq-eqb n n refl, le-leb 1 n some, le-leb n 65535 most) refl) parts

  sd_asks : (names : Declared) → names.kind ≡ Sd → OperandFits names (sd_operand c.ask.index) c → IsAsked Sd c.ask
  sd_asks names same =
      let Asked : Option Operand → Type 0 = λ operand. OperandFits names operand c → IsAsked Sd c.ask in
      by_operand Asked _ (Bare Plain) _ (λ is fits. sd_bare fits.0 is) (
      by_operand Asked _ (Bare Rca) _ (λ is fits. sd_by_address fits.0 is) (
      by_operand Asked _ Switch _ (λ is fits. sd_switched fits.0 (subst (λ (k : Kind). is_setting k c.ask.argument ≡ true) same fits.1) is) (
      by_operand Asked _ Select _ (λ is fits. sd_selected c.ask.aim fits.0 is) (
      by_operand Asked _ Conditions _ (λ is fits. offered fits.0 fits.1 is) (
      by_operand Asked _ (Addressed 1) _ (λ is fits. sd_one_block fits.0 is) (
      by_operand Asked _ (Addressed 0) _ (λ is fits. sd_bounds fits.0 is) (
      by_operand Asked _ Counted None (λ is fits. sd_counted fits.0 fits.1 fits.2 is) (λ fits. absurd fits))))))))

  emmc_asks : (names : Declared) → names.kind ≡ Emmc → OperandFits names (emmc_operand c.ask.index) c → IsAsked Emmc c.ask
  emmc_asks names same =
      let Asked : Option Operand → Type 0 = λ operand. OperandFits names operand c → IsAsked Emmc c.ask in
      by_operand Asked _ (Bare Plain) _ (λ is fits. emmc_bare fits.0 is) (
      by_operand Asked _ (Bare Rca) _ (λ is fits. emmc_by_address fits.0 is) (
      by_operand Asked _ Switch _ (λ is fits. emmc_switched fits.0 (subst (λ (k : Kind). is_setting k c.ask.argument ≡ true) same fits.1) is) (
      by_operand Asked _ Select _ (λ is fits. emmc_selected c.ask.aim fits.0 is) (
      by_operand Asked _ Preset _ (λ is fits. preset fits.0 fits.1 fits.2 is) (
      by_operand Asked _ Erase _ (λ is fits. erased fits.0 fits.1 is) (
      by_operand Asked _ (Addressed 1) _ (λ is fits. emmc_one_block fits.0 is) (
      by_operand Asked _ (Addressed 0) _ (λ is fits. emmc_bounds fits.0 is) (
      by_operand Asked _ Counted None (λ is fits. emmc_counted fits.0 fits.1 fits.2 is) (λ fits. absurd fits)))))))))

  asks_of : (k : Kind) (names : Declared) → names.kind ≡ k → OperandFits names (operand_of k c.ask.index) c → IsAsked k c.ask
  asks_of Sd names same fits = sd_asks names same fits
  asks_of Emmc names same fits = emmc_asks names same fits

-- what fits its form asks by a line of the command table
pub command_asks : (names : Declared) (c : ScriptCommand) → CommandFits names c → IsAsked names.kind c.ask
command_asks names c fits = asks_of c names.kind names refl fits
