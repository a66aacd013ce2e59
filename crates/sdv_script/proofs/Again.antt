-- What is written of a command, a value or a condition is read again.
use Rattle.std.proofs.Common.{◌≡◌, ℕ, zero, suc, ◌+◌, ◌<◌, ◌≤◌, Bool, true, false, List, [], ◌∷◌, ◌++◌, length, get_or, refl, ap, ◌∙◌, arith, cond, append_assoc, Option, Some, None}
use Rattle.std.specs.Prelude.{◌&&◌, IfSome, is_some}
use Rattle.std.specs.Str.{bytes_eq}
use Rattle.std.proofs.lemmas.Slice.Eq.{bytes_eq-Decides}
use Rattle.std.proofs.lemmas.Bool.{lt-ltb, le-leb}
use Rattle.sdv_text.specs.Fronts.{◌>>=◌}
use Rattle.sdv_registers.specs.declared.kind.Kind.{Kind}
use Rattle.sdv_card.specs.declared.state.Width.{Width}
use Rattle.sdv_card.specs.declared.state.Width.TheVariants.{One, Four, Eight}
use Rattle.sdv_card.specs.declared.state.Partition.{Partition}
use Rattle.sdv_card.specs.declared.state.Partition.TheVariants.{User, Boot1, Boot2}
use Rattle.sdv_card.specs.declared.command.Setting.{Setting}
use Rattle.sdv_card.specs.declared.command.Setting.TheVariants.{Lines, Access}
use Rattle.sdv_card.specs.Modes.{has_width, line_count, partition_number}
use Rattle.sdv_card.specs.declared.event.Aim.{Aim}
use Rattle.sdv_card.specs.declared.event.Aim.TheVariants.{Rca, Plain}
use Rattle.sdv_card.specs.declared.event.Ask.{Ask}
use Rattle.sdv_card.specs.declared.command.Order.{Order}
use Rattle.sdv_card.specs.declared.guard.Guard.{Guard}
use Rattle.sdv_card.specs.declared.guard.Guard.TheVariants as guards
use Rattle.sdv_card.specs.declared.state.State.{State}
use Rattle.sdv_card.specs.declared.state.State.TheVariants as states
use Rattle.sdv_script.specs.declared.token.Sign.TheVariants as sign
use Rattle.sdv_script.specs.declared.keyword.Keyword.TheVariants as word
use Rattle.sdv_script.specs.declared.operand.Operand.{Operand}
use Rattle.sdv_script.specs.declared.operand.Operand.TheVariants.{Bare, Select, Conditions, Addressed, Counted, Preset, Erase, Switch}
use Rattle.sdv_graph.specs.declared.tree.ScriptCommand.{ScriptCommand}
use Rattle.sdv_graph.specs.declared.tree.Address.{Address}
use Rattle.sdv_graph.specs.declared.tree.Unit.{Unit as AddressUnit}
use Rattle.sdv_graph.specs.declared.tree.Unit.TheVariants as units
use Rattle.sdv_graph.specs.declared.tree.Position.{Position}
use Rattle.sdv_graph.specs.declared.tree.Position.TheVariants as positions
use Rattle.sdv_graph.specs.declared.tree.Let.{Let}
use Rattle.sdv_graph.specs.declared.tree.Atom.{Atom}
use Rattle.sdv_graph.specs.declared.tree.Atom.TheVariants as atoms
use Rattle.sdv_graph.specs.declared.tree.Change.{Change}
use Rattle.sdv_graph.specs.declared.tree.Change.TheVariants as changes
use Rattle.sdv_graph.specs.declared.tree.Condition.{Condition}
use Rattle.sdv_graph.specs.declared.tree.Condition.TheVariants as conditions
use Rattle.sdv_script.specs.Tokens.{Token, Key, Name, Number, Mark}
use Rattle.sdv_script.specs.Commands.{operand_of, setting_argument, setting_of, fits_order}
use Rattle.sdv_graph.specs.Tree.{Declared}
use Rattle.sdv_script.specs.Grammar.{flag_name, number_name, unit_written, position_written, address_written, address_if_any, select_written, setting_written, setting_if_any, operand_written, operand_if_any, command_written, state_word, guard_written, guards_written, atom_written, change_written, condition_written}
use Rattle.sdv_script.specs.Rules.{max_number, max_name, place_from, place_of, AreNew, NamesFit, UnitFits, PositionFits, AddressFits, ask_with, OperandFits, CommandFits, GuardsFit, AtomFits, ChangeFits, LetFits, ConditionFits}
use Rattle.sdv_script.specs.Reading.{Read, read_figure, read_count, read_flag, read_number_name, read_unit, read_sum, read_position, read_address, read_select, read_counted, read_width, read_partition, read_setting, read_switch, read_operand, read_command, state_of, read_guard, read_guards, read_atom, read_change, read_let, read_test, read_condition, read_fault}
use Rattle.sdv_script.proofs.GuardLaws.{read_guards-is}
use Rattle.sdv_script.proofs.SettingLaws.{has_setting, IsSet, argument_of}

pub bind_is : {A B : Type 0} (o : Option A) (a : A) (f : A → Option B) (r : Option B) → o ≡ Some a → f a ≡ r → (o >>= f) ≡ r
bind_is o a f r e g = rw e g

pub test_is : {A : Type 0} (b : Bool) (x r : Option A) → b ≡ true → x ≡ r → cond b x None ≡ r
test_is b x r e g = rw e g

pub both_true : (a b : Bool) → a ≡ true → b ≡ true → (a && b) ≡ true
both_true a b e f = rw (e, f) refl

-- NAMES

test_none : (t : Bool) (k : ℕ) (later : Option ℕ) → cond t (Some k) later ≡ None → (t ≡ false) × (later ≡ None)
test_none true k later e = absurd cc
test_none false k later e = (refl, e)

none_in_front : (k : ℕ) (name : List ℕ) (xs ys : List (List ℕ)) → place_from k name (xs ++ ys) ≡ None → place_from k name xs ≡ None
unfolding place_from
none_in_front k name [] ys e = refl
none_in_front k name (x ∷ xs) ys e =
    let p = test_none (bytes_eq x name) k (place_from (suc k) name (xs ++ ys)) e in
    rw p.0 (none_in_front (suc k) name xs ys p.1)

not_last : (k : ℕ) (name x : List ℕ) (xs : List (List ℕ)) → place_from k name (xs ++ x ∷ []) ≡ None → bytes_eq x name ≡ false
unfolding place_from
not_last k name x [] e = (test_none (bytes_eq x name) k None e).0
not_last k name x (y ∷ xs) e = not_last (suc k) name x xs (test_none (bytes_eq y name) k (place_from (suc k) name (xs ++ x ∷ [])) e).1

-- a declared name is none of the earlier ones
new_at : (earlier names : List (List ℕ)) (i : ℕ) → AreNew earlier names → i < length names → place_of (get_or names i []) earlier ≡ None
new_at earlier [] i new lt = absurd (omega arith)
new_at earlier (n ∷ ns) zero new lt = new.0
new_at earlier (n ∷ ns) (suc i) new lt = none_in_front 0 (get_or ns i []) earlier (n ∷ []) (new_at (earlier ++ n ∷ []) ns i new.2 (omega arith))

same_bytes : (n : List ℕ) → bytes_eq n n ≡ true
same_bytes n = (bytes_eq-Decides n n).1 refl

place_at : (k : ℕ) (earlier names : List (List ℕ)) (i : ℕ) → AreNew earlier names → i < length names → place_from k (get_or names i []) names ≡ Some (k + i)
unfolding place_from
place_at k earlier [] i new lt = absurd (omega arith)
place_at k earlier (n ∷ ns) zero new lt = rw (same_bytes n) (ap (λ (j : ℕ). Some j) (omega arith))
place_at k earlier (n ∷ ns) (suc i) new lt =
    let other : bytes_eq n (get_or ns i []) ≡ false = not_last 0 (get_or ns i []) n earlier (new_at (earlier ++ n ∷ []) ns i new.2 (omega arith)) in
    rw other (place_at (suc k) (earlier ++ n ∷ []) ns i new.2 (omega arith) ∙ ap (λ (j : ℕ). Some j) (omega arith))

flag_at : (names : Declared) (f : ℕ) → NamesFit names → f < length names.flags → place_of (get_or names.flags f []) names.flags ≡ Some f
flag_at names f fit lt = place_at 0 [] names.flags f fit.flags_new lt ∙ ap (λ (j : ℕ). Some j) (omega arith)

number_at : (names : Declared) (x : ℕ) → NamesFit names → x < length names.numbers → place_of (get_or names.numbers x []) names.numbers ≡ Some x
number_at names x fit lt = place_at 0 names.flags names.numbers x fit.numbers_new lt ∙ ap (λ (j : ℕ). Some j) (omega arith)

pub flag-again : (names : Declared) (f : ℕ) (others : List Token) → NamesFit names → f < length names.flags
    → read_flag names (flag_name names f ∷ others) ≡ Some (f, others)
flag-again names f others fit lt = bind_is _ _ _ _ (flag_at names f fit lt) refl

pub number_name-again : (names : Declared) (x : ℕ) (others : List Token) → NamesFit names → x < length names.numbers
    → read_number_name names (number_name names x ∷ others) ≡ Some (x, others)
number_name-again names x others fit lt = bind_is _ _ _ _ (number_at names x fit lt) refl

-- NUMBERS

pub figure-again : (n : ℕ) (others : List Token) → n ≤ max_number → read_figure (Number n ∷ others) ≡ Some (n, others)
figure-again n others le = test_is _ _ _ (le-leb n max_number le) refl

pub count-again : (n : ℕ) (others : List Token) → 1 ≤ n → n ≤ 65535 → read_count (Number n ∷ others) ≡ Some (n, others)
count-again n others ge le = test_is _ _ _ (both_true _ _ (lt-ltb 0 n ge) (le-leb n 65535 le)) refl

-- COMMANDS

-- no sum goes on here
abbrev pub IsCalm : List Token → Type 0
IsCalm (Mark sign.Plus ∷ ts) = ⊥
IsCalm (Mark sign.Minus ∷ ts) = ⊥
IsCalm ts = Unit {0}

unit-again : (names : Declared) (u : AddressUnit) (others : List Token) → NamesFit names → UnitFits names u
    → read_unit names (unit_written names u others) ≡ Some (u, others)
unit-again names units.Block others fit ok = refl
unit-again names units.Byte others fit ok = refl
unit-again names (units.By f) others fit ok = bind_is _ _ _ _ (flag-again names f others fit ok) refl

no_sum : (x : ℕ) (others : List Token) → IsCalm others → read_sum x others ≡ Some (positions.Variable x None, others)
no_sum x (Mark sign.Plus ∷ ts) calm = absurd calm
no_sum x ts calm = refl

position-again : (names : Declared) (p : Position) (others : List Token) → NamesFit names → PositionFits names p → IsCalm others
    → read_position names (position_written names p others) ≡ Some (p, others)
position-again names (positions.Number n) others fit ok calm = bind_is _ _ _ _ (figure-again n others ok) refl
position-again names (positions.Variable x None) others fit ok calm = bind_is _ _ _ _ (number_name-again names x others fit ok) (no_sum x others calm)
position-again names (positions.Variable x (Some k)) others fit ok calm =
    bind_is _ _ _ _ (number_name-again names x _ fit ok.0) (bind_is _ _ _ _ (figure-again k others ok.1) refl)

address-again : (names : Declared) (a : Address) (others : List Token) → NamesFit names → AddressFits names (Some a) → IsCalm others
    → read_address names (address_written names a others) ≡ Some (a, others)
address-again names a others fit ok calm =
    bind_is _ _ _ _ (unit-again names a.unit _ fit ok.0) (bind_is _ _ _ _ (position-again names a.position others fit ok.1 calm) refl)

with_parts : Ask → Option Address → ScriptCommand
with_parts ask address = record { ask = ask; address = address }

same_command : (c : ScriptCommand) (ask : Ask) (address : Option Address) → c.ask ≡ ask → c.address ≡ address → with_parts ask address ≡ c
unfolding with_parts
same_command c ask address p q = rw (← p, ← q) refl

made : (c : ScriptCommand) (ask : Ask) (address : Option Address) (others : List Token) → c.ask ≡ ask → c.address ≡ address
    → ◌≡◌ {A = Read ScriptCommand} (Some (record { ask = ask; address = address }, others)) (Some (c, others))
unfolding with_parts
made c ask address others p q = ap (λ (d : ScriptCommand). Some (d, others)) (same_command c ask address p q)

select-again : (c : ScriptCommand) (aim : Aim) (r : List Token) → c.ask ≡ ask_with c.ask.index aim 0 0 → c.address ≡ None
    → read_select c.ask.index (select_written aim (Mark sign.OpenBrace ∷ r)) ≡ Some (c, Mark sign.OpenBrace ∷ r)
select-again c Rca r p q = made c (ask_with c.ask.index Rca 0 0) None _ p q
select-again c Plain r p q = made c (ask_with c.ask.index Plain 0 0) None _ p q

addressed-again : (names : Declared) (c : ScriptCommand) (address : Option Address) (count : ℕ) (r : List Token) → NamesFit names
    → c.ask ≡ ask_with c.ask.index Plain 0 count → c.address ≡ address → AddressFits names address
    → read_operand names c.ask.index (Addressed count) (address_if_any names address (Mark sign.OpenBrace ∷ r)) ≡ Some (c, Mark sign.OpenBrace ∷ r)
addressed-again names c None count r fit p q ok = absurd ok
addressed-again names c (Some a) count r fit p q ok = bind_is _ _ _ _ (address-again names a (Mark sign.OpenBrace ∷ r) fit ok tt)
    (made c (ask_with c.ask.index Plain 0 count) (Some a) _ p q)

counted-again : (names : Declared) (c : ScriptCommand) (address : Option Address) (r : List Token) → NamesFit names
    → c.ask ≡ ask_with c.ask.index Plain 0 c.ask.count
    → c.address ≡ address → AddressFits names address → 1 ≤ c.ask.count → c.ask.count ≤ 65535
    → read_counted names c.ask.index (address_if_any names address (Key word.Count ∷ Number c.ask.count ∷ Mark sign.OpenBrace ∷ r))
    ≡ Some (c, Mark sign.OpenBrace ∷ r)
counted-again names c None r fit p q ok ge le = absurd ok
counted-again names c (Some a) r fit p q ok ge le =
    bind_is _ _ _ _ (address-again names a (Key word.Count ∷ Number c.ask.count ∷ Mark sign.OpenBrace ∷ r) fit ok tt)
    (bind_is _ _ _ _ (count-again c.ask.count (Mark sign.OpenBrace ∷ r) ge le) (made c (ask_with c.ask.index Plain 0 c.ask.count) (Some a) _ p q))

pub width-again : (k : Kind) (w : Width) (others : List Token) → has_width k w ≡ true → read_width k (Number (line_count w) ∷ others) ≡ Some (w, others)
width-again k One others has = test_is _ _ _ has refl
width-again k Four others has = test_is _ _ _ has refl
width-again k Eight others has = test_is _ _ _ has refl

pub partition-again : (p : Partition) (others : List Token) → read_partition (Number (partition_number p) ∷ others) ≡ Some (p, others)
partition-again User others = refl
partition-again Boot1 others = refl
partition-again Boot2 others = refl

setting-again : (k : Kind) (s : Setting) (others : List Token) → has_setting k s ≡ true → read_setting k (setting_written s others) ≡ Some (s, others)
setting-again k (Lines w) others has = bind_is _ _ _ _ (width-again k w others has) refl
setting-again k (Access p) others has = test_is _ _ _ has (bind_is _ _ _ _ (partition-again p others) refl)

switch-again : (names : Declared) (c : ScriptCommand) (o : Option Setting) (r : List Token) → c.ask ≡ ask_with c.ask.index Plain c.ask.argument 0
    → c.address ≡ None → is_some o ≡ true → IfSome o (IsSet names.kind c.ask.argument)
    → read_switch names.kind c.ask.index (setting_if_any o (Mark sign.OpenBrace ∷ r)) ≡ Some (c, Mark sign.OpenBrace ∷ r)
switch-again names c None r p q some is = absurd (cc)
switch-again names c (Some s) r p q some is =
    bind_is _ _ _ _ (setting-again names.kind s (Mark sign.OpenBrace ∷ r) is.1)
    (made c (ask_with c.ask.index Plain (setting_argument names.kind s) 0) None _ (p ∙ ap (λ (n : ℕ). ask_with c.ask.index Plain n 0) is.0) q)

operand-again : (names : Declared) (operand : Operand) (c : ScriptCommand) (r : List Token) → NamesFit names → OperandFits names (Some operand) c
    → read_operand names c.ask.index operand (operand_written operand names c (Mark sign.OpenBrace ∷ r)) ≡ Some (c, Mark sign.OpenBrace ∷ r)
operand-again names (Bare aim) c r fit ok = made c (ask_with c.ask.index aim 0 0) None _ ok.0 ok.1
operand-again names Select c r fit ok = select-again c c.ask.aim r ok.0 ok.1
operand-again names Conditions c r fit ok = test_is _ _ _ ok.1 (made c (ask_with c.ask.index Plain c.ask.argument 0) None _ ok.0 ok.2)
operand-again names (Addressed count) c r fit ok = addressed-again names c c.address count r fit ok.0 refl ok.1
operand-again names Counted c r fit ok = counted-again names c c.address r fit ok.0 refl ok.3 ok.1 ok.2
operand-again names Preset c r fit ok =
    bind_is _ _ _ _ (count-again c.ask.count (Mark sign.OpenBrace ∷ r) ok.1 ok.2) (made c (ask_with c.ask.index Plain 0 c.ask.count) None _ ok.0 ok.3)
operand-again names Erase c r fit ok = test_is _ _ _ ok.1 (made c (ask_with c.ask.index Plain c.ask.argument 0) None _ ok.0 ok.2)
operand-again names Switch c r fit ok =
    switch-again names c (setting_of names.kind c.ask.argument) r ok.0 ok.2 ok.1 (argument_of names.kind c.ask.argument)

any_operand-again : (names : Declared) (o : Option Operand) (c : ScriptCommand) (r : List Token) → NamesFit names → OperandFits names o c
    → (o >>= λ operand. read_operand names c.ask.index operand (operand_if_any o names c (Mark sign.OpenBrace ∷ r))) ≡ Some (c, Mark sign.OpenBrace ∷ r)
any_operand-again names None c r fit ok = absurd ok
any_operand-again names (Some operand) c r fit ok = operand-again names operand c r fit ok

pub command-again : (names : Declared) (c : ScriptCommand) (r : List Token) → NamesFit names → CommandFits names c
    → read_command names (command_written names c (Mark sign.OpenBrace ∷ r)) ≡ Some (c, Mark sign.OpenBrace ∷ r)
command-again names c r fit ok = any_operand-again names (operand_of names.kind c.ask.index) c r fit ok

-- GUARDS

suits_alike : (s : State) (o : Option Order) → fits_order (guards.State states.Idle) o ≡ fits_order (guards.State s) o
suits_alike s None = refl
suits_alike s (Some order) = refl

idle_suits : (s : State) (order : Option Order) → fits_order (guards.State s) order ≡ true → fits_order (guards.State states.Idle) order ≡ true
idle_suits s order e = suits_alike s order ∙ e

ok_never : (o : Option Order) → fits_order guards.Ok o ≡ false
ok_never None = refl
ok_never (Some order) = refl

ok_suits_not : (order : Option Order) → fits_order guards.Ok order ≡ true → ⊥
ok_suits_not order e = let f = ok_never order in absurd cc

state-again : (s : State) → state_of (state_word s) ≡ Some s
state-again states.Idle = refl
state-again states.Ready = refl
state-again states.Ident = refl
state-again states.Stby = refl
state-again states.Tran = refl
state-again states.Data = refl
state-again states.Rcv = refl
state-again states.Prg = refl
state-again states.Dis = refl

guard-again : (order : Option Order) (g : Guard) (others : List Token) → fits_order g order ≡ true
    → read_guard order (guard_written g others) ≡ Some (g, others)
guard-again order guards.Timeout others e = test_is _ _ _ e refl
guard-again order guards.Answer others e = test_is _ _ _ e refl
guard-again order guards.Clean others e = test_is _ _ _ e refl
guard-again order guards.Ready others e = test_is _ _ _ e refl
guard-again order guards.App others e = test_is _ _ _ e refl
guard-again order guards.Echo others e = test_is _ _ _ e refl
guard-again order guards.OcrReady others e = test_is _ _ _ e refl
guard-again order guards.OcrBlock others e = test_is _ _ _ e refl
guard-again order (guards.State s) others e =
    test_is _ _ _ (idle_suits s order e) (bind_is _ _ _ _ (bind_is _ _ _ _ (state-again s) refl) refl)
guard-again order guards.Ok others e = absurd (ok_suits_not order e)

guards_from : (gs : List Guard) (order : Option Order) (before : List Guard) (r : List Token) → GuardsFit order gs
    → read_guards order before (guards_written gs (Mark sign.OpenBrace ∷ r)) ≡ Some (before ++ gs, Mark sign.OpenBrace ∷ r)
guards_from [] order before r ok = absurd ok
guards_from (g ∷ []) order before r ok = read_guards-is order before _ ∙ bind_is _ _ _ _ (guard-again order g (Mark sign.OpenBrace ∷ r) ok) refl
guards_from (g ∷ h ∷ gs) order before r ok =
    read_guards-is order before _
    ∙ bind_is _ _ _ _ (guard-again order g (Mark sign.And ∷ guards_written (h ∷ gs) (Mark sign.OpenBrace ∷ r)) ok.0)
    (guards_from (h ∷ gs) order (before ++ g ∷ []) r ok.1
    ∙ ap (λ (all : List Guard). Some (all, Mark sign.OpenBrace ∷ r)) (append_assoc before (g ∷ []) (h ∷ gs)))

pub guards-again : (order : Option Order) (gs : List Guard) (r : List Token) → GuardsFit order gs
    → read_guards order [] (guards_written gs (Mark sign.OpenBrace ∷ r)) ≡ Some (gs, Mark sign.OpenBrace ∷ r)
guards-again order gs r ok = guards_from gs order [] r ok

-- VALUES AND CONDITIONS

no_change : (others : List Token) → IsCalm others → read_change others ≡ Some (changes.Same, others)
no_change (Mark sign.Plus ∷ ts) calm = absurd calm
no_change (Mark sign.Minus ∷ ts) calm = absurd calm
no_change ts calm = refl

change-again : (c : Change) (others : List Token) → ChangeFits c → IsCalm others → read_change (change_written c others) ≡ Some (c, others)
change-again changes.Same others ok calm = no_change others calm
change-again (changes.Plus k) others ok calm = bind_is _ _ _ _ (figure-again k others ok) refl
change-again (changes.Minus k) others ok calm = bind_is _ _ _ _ (figure-again k others ok) refl

atom-again : (names : Declared) (a : Atom) (others : List Token) → NamesFit names → AtomFits names a
    → read_atom names (atom_written names a others) ≡ Some (a, others)
atom-again names (atoms.Number n) others fit ok = bind_is _ _ _ _ (figure-again n others ok) refl
atom-again names (atoms.Variable x) others fit ok = bind_is _ _ _ _ (number_name-again names x others fit ok) refl
atom-again names atoms.CsdBlocks others fit ok = refl
atom-again names atoms.ExtBlocks others fit ok = test_is _ _ _ ok refl
atom-again names atoms.ExtBoot others fit ok = test_is _ _ _ ok refl

-- after its first word
abbrev pub let_rest : Declared → Let → List Token → List Token
let_rest names l others = number_name names l.target ∷ Mark sign.Equals ∷ atom_written names l.atom (change_written l.change others)

pub let-again : (names : Declared) (l : Let) (others : List Token) → NamesFit names → LetFits names l → IsCalm others
    → read_let names (let_rest names l others) ≡ Some (l, others)
let-again names l others fit ok calm =
    bind_is _ _ _ _ (number_name-again names l.target _ fit ok.0)
    (bind_is _ _ _ _ (atom-again names l.atom _ fit ok.1) (bind_is _ _ _ _ (change-again l.change others ok.2 calm) refl))

no_flag : (names : Declared) (x : ℕ) → NamesFit names → x < length names.numbers → place_of (get_or names.numbers x []) names.flags ≡ None
no_flag names x fit lt = new_at names.flags names.numbers x fit.numbers_new lt

number_condition : (names : Declared) (x : ℕ) (ts : List Token) → NamesFit names → x < length names.numbers
    → read_condition names (number_name names x ∷ ts) ≡ read_test x ts
number_condition names x ts fit lt = rw (no_flag names x fit lt, number_at names x fit lt) refl

pub condition-again : (names : Declared) (c : Condition) (others : List Token) → NamesFit names → ConditionFits names c
    → read_condition names (condition_written names c others) ≡ Some (c, others)
condition-again names (conditions.Flag f) others fit ok = rw (flag_at names f fit ok) refl
condition-again names (conditions.AtLeast x k) others fit ok = number_condition names x _ fit ok.0 ∙ bind_is _ _ _ _ (figure-again k others ok.1) refl
condition-again names (conditions.Below x k) others fit ok = number_condition names x _ fit ok.0 ∙ bind_is _ _ _ _ (figure-again k others ok.1) refl

pub fault-again : (name : List ℕ) (others : List Token) → length name ≤ max_name → read_fault (Name name ∷ others) ≡ Some (name, others)
fault-again name others le = test_is _ _ _ (le-leb (length name) max_name le) refl
