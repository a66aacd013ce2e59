-- What is read of a command, a value or a condition is written so.
use Rattle.std.proofs.Common.{◌≡◌, ℕ, suc, ◌-◌, ◌<◌, ◌≤◌, Bool, true, false, List, [], ◌∷◌, length, get_or, refl, sym, subst, ap, ◌∙◌, arith, cond, Option, Some, None}
use Rattle.std.specs.Prelude.{IfSome, ◌&&◌, nat_lt, nat_le, is_some}
use Rattle.std.specs.Str.{bytes_eq}
use Rattle.std.proofs.lemmas.Slice.Eq.{bytes_eq-Decides}
use Rattle.std.proofs.lemmas.Bool.{ltb-true, leb-true}
use Rattle.sdv_text.specs.Fronts.{◌>>=◌}
use Rattle.sdv_registers.specs.declared.kind.Kind.{Kind}
use Rattle.sdv_card.specs.declared.command.Setting.{Setting}
use Rattle.sdv_card.specs.Modes.{has_width, line_count, partition_number}
use Rattle.sdv_script.specs.declared.depth.Depth.{Depth}
use Rattle.sdv_script.specs.declared.token.Sign.TheVariants as sign
use Rattle.sdv_script.specs.declared.keyword.Keyword.TheVariants as word
use Rattle.sdv_script.specs.declared.operand.Operand.{Operand}
use Rattle.sdv_script.specs.declared.operand.Operand.TheVariants.{Bare, Select, Conditions, Addressed, Counted, Preset, Erase, Switch}
use Rattle.sdv_graph.specs.declared.tree.ScriptCommand.{ScriptCommand}
use Rattle.sdv_graph.specs.declared.tree.Atom.{Atom}
use Rattle.sdv_graph.specs.declared.tree.Atom.TheVariants as atoms
use Rattle.sdv_script.specs.Tokens.{Token, Key, Name, Number, Mark}
use Rattle.sdv_script.specs.Commands.{operand_of, is_conditions, is_erase, has_partitions, setting_of, setting_argument, width_with, partition_with, has_ext_csd}
use Rattle.sdv_graph.specs.Tree.{Declared}
use Rattle.sdv_script.specs.Grammar.{kind_word, flag_name, number_name, unit_written, position_written, address_written, setting_written, setting_if_any, operand_written, operand_if_any, command_written, atom_written, change_written, let_written, condition_written, phase_written}
use Rattle.sdv_script.specs.Rules.{max_number, max_name, max_braces, place_from, place_of, UnitFits, PositionFits, AddressFits, OperandFits, CommandFits, AtomFits, ChangeFits, LetFits, ConditionFits, deeper, HasRoom}
use Rattle.sdv_script.specs.Reading.{after_open, after_close, after_equals, after_else, after_ok, after_at, after_count, after_card, read_kind, read_figure, read_count, read_flag, read_number_name, read_unit, read_sum, read_position, read_address, read_select, read_conditions, read_counted, read_preset, read_erase, read_width, read_partition, read_setting, read_switch, read_operand, read_command, read_atom, read_change, read_let, read_test, condition_by, read_condition, read_receive, read_fault}
use Rattle.sdv_script.proofs.WhereRead.{IfSome-bind, IfSome-test, IfSome-given, IfSome-known, IfSome-map, both}
use Rattle.sdv_script.proofs.SettingLaws.{has_setting, of_argument, lines_counted, partition_numbered}

-- SINGLE TOKENS

abbrev pub Opened : Depth → List Token → Depth × List Token → Type 0
Opened depth ts o = (ts ≡ Mark sign.OpenBrace ∷ o.1) × (o.0 ≡ deeper depth) × HasRoom depth

pub after_open-took : (depth : Depth) (ts : List Token) → IfSome (after_open depth ts) (Opened depth ts)
after_open-took depth (Mark sign.OpenBrace ∷ ts) = IfSome-given (nat_lt depth.braces max_braces) _ _ (λ e. (refl, refl, ltb-true depth.braces max_braces e))
after_open-took depth ts = tt

pub after_close-took : (ts : List Token) → IfSome (after_close ts) (λ r. ts ≡ Mark sign.CloseBrace ∷ r)
after_close-took (Mark sign.CloseBrace ∷ ts) = refl
after_close-took ts = tt

pub after_equals-took : (ts : List Token) → IfSome (after_equals ts) (λ r. ts ≡ Mark sign.Equals ∷ r)
after_equals-took (Mark sign.Equals ∷ ts) = refl
after_equals-took ts = tt

pub after_else-took : (ts : List Token) → IfSome (after_else ts) (λ r. ts ≡ Key word.Else ∷ r)
after_else-took (Key word.Else ∷ ts) = refl
after_else-took ts = tt

pub after_ok-took : (ts : List Token) → IfSome (after_ok ts) (λ r. ts ≡ Key word.Ok ∷ r)
after_ok-took (Key word.Ok ∷ ts) = refl
after_ok-took ts = tt

after_at-took : (ts : List Token) → IfSome (after_at ts) (λ r. ts ≡ Key word.At ∷ r)
after_at-took (Key word.At ∷ ts) = refl
after_at-took ts = tt

after_count-took : (ts : List Token) → IfSome (after_count ts) (λ r. ts ≡ Key word.Count ∷ r)
after_count-took (Key word.Count ∷ ts) = refl
after_count-took ts = tt

pub after_card-took : (ts : List Token) → IfSome (after_card ts) (λ r. ts ≡ Key word.Card ∷ r)
after_card-took (Key word.Card ∷ ts) = refl
after_card-took ts = tt

pub kind-took : (ts : List Token) → IfSome (read_kind ts) (λ x. ts ≡ Key (kind_word x.0) ∷ x.1)
kind-took (Key word.Sd ∷ ts) = refl
kind-took (Key word.Emmc ∷ ts) = refl
kind-took ts = tt

pub figure-took : (ts : List Token) → IfSome (read_figure ts) (λ x. (ts ≡ Number x.0 ∷ x.1) × (x.0 ≤ max_number))
figure-took (Number n ∷ ts) = IfSome-given (nat_le n max_number) _ _ (λ e. (refl, leb-true n max_number e))
figure-took ts = tt

pub count-took : (ts : List Token) → IfSome (read_count ts) (λ x. (ts ≡ Number x.0 ∷ x.1) × (1 ≤ x.0) × (x.0 ≤ 65535))
count-took (Number n ∷ ts) = IfSome-given (nat_lt 0 n && nat_le n 65535) _ _ (λ e. let p = both _ _ e in (refl, ltb-true 0 n p.0, leb-true n 65535 p.1))
count-took ts = tt

-- NAMES

abbrev Placed : ℕ → List ℕ → List (List ℕ) → ℕ → Type 0
Placed k name names i = (k ≤ i) × (i - k < length names) × (get_or names (i - k) [] ≡ name)

placed_first : (k : ℕ) (name n : List ℕ) (ns : List (List ℕ)) → n ≡ name → Placed k name (n ∷ ns) k
placed_first k name n ns e = (let z : k - k ≡ 0 = omega arith in (omega arith, omega arith, rw z e))

placed_later : (k i : ℕ) (name n : List ℕ) (ns : List (List ℕ)) → Placed (suc k) name ns i → Placed k name (n ∷ ns) i
placed_later k i name n ns p =
    let e : i - k ≡ suc (i - suc k) = omega (arith, p.0) in
    (omega (arith, p.0), omega (arith, p.0, p.1), rw e p.2)

placed_test : (t : Bool) (k : ℕ) (name n : List ℕ) (ns : List (List ℕ)) (later : Option ℕ) → (t ≡ true → n ≡ name) → IfSome later (Placed (suc k) name ns)
    → IfSome (cond t (Some k) later) (Placed k name (n ∷ ns))
placed_test true k name n ns later same rest = placed_first k name n ns (same refl)
placed_test false k name n ns later same rest = IfSome-map later _ _ rest (λ i p. placed_later k i name n ns p)

placed : (k : ℕ) (name : List ℕ) (names : List (List ℕ)) → IfSome (place_from k name names) (Placed k name names)
unfolding place_from
placed k name [] = tt
placed k name (n ∷ ns) = placed_test (bytes_eq n name) k name n ns _ (bytes_eq-Decides n name).0 (placed (suc k) name ns)

pub place-took : (name : List ℕ) (names : List (List ℕ)) → IfSome (place_of name names) (λ i. (i < length names) × (get_or names i [] ≡ name))
place-took name names = IfSome-map (place_of name names) _ _ (placed 0 name names)
    (λ i p. let z : i - 0 ≡ i = omega arith in (omega (arith, p.1), subst (λ (j : ℕ). get_or names j [] ≡ name) z p.2))

pub flag-took : (names : Declared) (ts : List Token) → IfSome (read_flag names ts) (λ x. (ts ≡ flag_name names x.0 ∷ x.1) × (x.0 < length names.flags))
flag-took names (Name n ∷ ts) = IfSome-bind (place_of n names.flags) _ _ _ (place-took n names.flags) (λ f p. (ap (λ (m : List ℕ). Name m ∷ ts) (sym p.1), p.0))
flag-took names ts = tt

pub number_name-took : (names : Declared) (ts : List Token) → IfSome (read_number_name names ts)
    (λ x. (ts ≡ number_name names x.0 ∷ x.1) × (x.0 < length names.numbers))
number_name-took names (Name n ∷ ts) = IfSome-bind (place_of n names.numbers) _ _ _ (place-took n names.numbers)
    (λ f p. (ap (λ (m : List ℕ). Name m ∷ ts) (sym p.1), p.0))
number_name-took names ts = tt

-- COMMANDS

unit-took : (names : Declared) (ts : List Token) → IfSome (read_unit names ts) (λ x. (ts ≡ unit_written names x.0 x.1) × UnitFits names x.0)
unit-took names (Key word.Block ∷ ts) = (refl, tt)
unit-took names (Key word.Byte ∷ ts) = (refl, tt)
unit-took names (Key word.By ∷ ts) = IfSome-bind (read_flag names ts) _ _ _ (flag-took names ts) (λ f p. (rw p.0 refl, p.1))
unit-took names ts = tt

sum-took : (names : Declared) (x : ℕ) (ts : List Token) → x < length names.numbers
    → IfSome (read_sum x ts) (λ p. (number_name names x ∷ ts ≡ position_written names p.0 p.1) × PositionFits names p.0)
sum-took names x (Mark sign.Plus ∷ ts) lt = IfSome-bind (read_figure ts) _ _ _ (figure-took ts) (λ k p. (rw p.0 refl, (lt, p.1)))
sum-took names x ts lt = (refl, lt)

named_position-took : (names : Declared) (ts : List Token)
    → IfSome (read_number_name names ts >>= λ x. read_sum x.0 x.1) (λ p. (ts ≡ position_written names p.0 p.1) × PositionFits names p.0)
named_position-took names ts =
    IfSome-bind (read_number_name names ts) _ _ _ (number_name-took names ts) (λ x p.
    IfSome-map (read_sum x.0 x.1) _ _ (sum-took names x.0 x.1 p.1) (λ q r. (p.0 ∙ r.0, r.1)))

position-took : (names : Declared) (ts : List Token) → IfSome (read_position names ts) (λ p. (ts ≡ position_written names p.0 p.1) × PositionFits names p.0)
position-took names (Number n ∷ ts) = IfSome-bind (read_figure (Number n ∷ ts)) _ _ _ (figure-took (Number n ∷ ts)) (λ k p. (p.0, p.1))
position-took names ts = named_position-took names ts

address-took : (names : Declared) (ts : List Token) → IfSome (read_address names ts) (λ a. (ts ≡ address_written names a.0 a.1) × AddressFits names (Some a.0))
address-took names ts =
    IfSome-bind (after_at ts) _ _ _ (after_at-took ts) (λ r e.
    IfSome-bind (read_unit names r) _ _ _ (unit-took names r) (λ u p.
    IfSome-bind (read_position names u.1) _ _ _ (position-took names u.1) (λ q s.
    (rw (e, p.0, s.0) refl, (p.1, s.1)))))

abbrev pub Commanded : Declared → Operand → ℕ → List Token → ScriptCommand × List Token → Type 0
Commanded names operand index ts c = (ts ≡ operand_written operand names c.0 c.1) × OperandFits names (Some operand) c.0 × (c.0.ask.index ≡ index)

select-took : (names : Declared) (index : ℕ) (ts : List Token) → IfSome (read_select index ts) (Commanded names Select index ts)
select-took names index (Key word.None ∷ ts) = (refl, (refl, refl), refl)
select-took names index ts = (refl, (refl, refl), refl)

conditions-took : (names : Declared) (index : ℕ) (ts : List Token) → IfSome (read_conditions index ts) (Commanded names Conditions index ts)
conditions-took names index (Number n ∷ ts) = IfSome-given (is_conditions n) _ _ (λ e. (refl, (refl, e, refl), refl))
conditions-took names index ts = tt

counted-took : (names : Declared) (index : ℕ) (ts : List Token) → IfSome (read_counted names index ts) (Commanded names Counted index ts)
counted-took names index ts =
    IfSome-bind (read_address names ts) _ _ _ (address-took names ts) (λ a p.
    IfSome-bind (after_count a.1) _ _ _ (after_count-took a.1) (λ r e.
    IfSome-bind (read_count r) _ _ _ (count-took r) (λ n q.
    (rw (p.0, e, q.0) refl, (refl, q.1, q.2, p.1), refl))))

preset-took : (names : Declared) (index : ℕ) (ts : List Token) → IfSome (read_preset index ts) (Commanded names Preset index ts)
preset-took names index ts =
    IfSome-bind (after_count ts) _ _ _ (after_count-took ts) (λ r e.
    IfSome-bind (read_count r) _ _ _ (count-took r) (λ n q.
    (rw (e, q.0) refl, (refl, q.1, q.2, refl), refl)))

erase-took : (names : Declared) (index : ℕ) (ts : List Token) → IfSome (read_erase index ts) (Commanded names Erase index ts)
erase-took names index (Number n ∷ ts) = IfSome-given (is_erase n) _ _ (λ e. (refl, (refl, e, refl), refl))
erase-took names index ts = tt

pub width-took : (k : Kind) (ts : List Token) → IfSome (read_width k ts) (λ w. (ts ≡ Number (line_count w.0) ∷ w.1) × (has_width k w.0 ≡ true))
width-took k (Number n ∷ ts) =
    IfSome-bind (width_with n) _ _ _ (lines_counted n) (λ w e. IfSome-given (has_width k w) _ _ (λ has. (ap (λ (m : ℕ). Number m ∷ ts) e, has)))
width-took k ts = tt

pub partition-took : (ts : List Token) → IfSome (read_partition ts) (λ p. ts ≡ Number (partition_number p.0) ∷ p.1)
partition-took (Number n ∷ ts) = IfSome-bind (partition_with n) _ _ _ (partition_numbered n) (λ p e. ap (λ (m : ℕ). Number m ∷ ts) e)
partition-took ts = tt

setting-took : (k : Kind) (ts : List Token) → IfSome (read_setting k ts) (λ s. (ts ≡ setting_written s.0 s.1) × (has_setting k s.0 ≡ true))
setting-took k (Key word.BusLines ∷ ts) =
    IfSome-bind (read_width k ts) _ _ _ (width-took k ts) (λ w p. (ap (λ (r : List Token). Key word.BusLines ∷ r) p.0, p.1))
setting-took k (Key word.PartAccess ∷ ts) =
    IfSome-test (has_partitions k) _ _ (λ has.
    IfSome-bind (read_partition ts) _ _ _ (partition-took ts) (λ p e. (ap (λ (r : List Token). Key word.PartAccess ∷ r) e, has)))
setting-took k ts = tt

switch-took : (names : Declared) (index : ℕ) (ts : List Token) → IfSome (read_switch names.kind index ts) (Commanded names Switch index ts)
switch-took names index ts =
    IfSome-bind (read_setting names.kind ts) _ _ _ (setting-took names.kind ts) (λ s p.
    let same : setting_of names.kind (setting_argument names.kind s.0) ≡ Some s.0 = of_argument names.kind s.0 p.1 in
    (p.0 ∙ ap (λ (o : Option Setting). setting_if_any o s.1) (sym same), (refl, ap (λ (o : Option Setting). is_some o) same, refl), refl))

operand-took : (names : Declared) (index : ℕ) (operand : Operand) (ts : List Token)
    → IfSome (read_operand names index operand ts) (Commanded names operand index ts)
operand-took names index (Bare aim) ts = (refl, (refl, refl), refl)
operand-took names index Select ts = select-took names index ts
operand-took names index Conditions ts = conditions-took names index ts
operand-took names index (Addressed count) ts = IfSome-bind (read_address names ts) _ _ _ (address-took names ts) (λ a p. (p.0, (refl, p.1), refl))
operand-took names index Counted ts = counted-took names index ts
operand-took names index Preset ts = preset-took names index ts
operand-took names index Erase ts = erase-took names index ts
operand-took names index Switch ts = switch-took names index ts

joined : (names : Declared) (n i : ℕ) (o : Option Operand) (operand : Operand) (ts rest : List Token) (c : ScriptCommand) → i ≡ n → o ≡ Some operand
    → ts ≡ operand_written operand names c rest → Number n ∷ ts ≡ Number i ∷ operand_if_any o names c rest
joined names n i o operand ts rest c p q e = rw (p, q, e) refl

fits_as : (names : Declared) (o : Option Operand) (operand : Operand) (c : ScriptCommand) → o ≡ Some operand → OperandFits names (Some operand) c
    → OperandFits names o c
fits_as names o operand c e p = rw e p

written_as : (names : Declared) (n : ℕ) (operand : Operand) (ts : List Token) (c : ScriptCommand × List Token) → operand_of names.kind n ≡ Some operand
    → Commanded names operand n ts c → (Number n ∷ ts ≡ command_written names c.0 c.1) × CommandFits names c.0
written_as names n operand ts c e p =
    let same : operand_of names.kind c.0.ask.index ≡ Some operand = ap (λ (k : ℕ). operand_of names.kind k) p.2 ∙ e in (
      joined names n c.0.ask.index (operand_of names.kind c.0.ask.index) operand ts c.1 c.0 p.2 same p.0,
      fits_as names (operand_of names.kind c.0.ask.index) operand c.0 same p.1,
    )

pub command-took : (names : Declared) (ts : List Token) → IfSome (read_command names ts) (λ c. (ts ≡ command_written names c.0 c.1) × CommandFits names c.0)
command-took names (Number n ∷ ts) =
    IfSome-known (operand_of names.kind n) _ _ (λ operand e.
    IfSome-map (read_operand names n operand ts) _ _ (operand-took names n operand ts) (λ c p. written_as names n operand ts c e p))
command-took names ts = tt

-- VALUES AND CONDITIONS

named_atom-took : (names : Declared) (ts : List Token) → IfSome {T = Atom × List Token} (read_number_name names ts >>= λ x. Some (atoms.Variable x.0, x.1))
    (λ a. (ts ≡ atom_written names a.0 a.1) × AtomFits names a.0)
named_atom-took names ts = IfSome-bind (read_number_name names ts) _ _ _ (number_name-took names ts) (λ x p. (p.0, p.1))

atom-took : (names : Declared) (ts : List Token) → IfSome (read_atom names ts) (λ a. (ts ≡ atom_written names a.0 a.1) × AtomFits names a.0)
atom-took names (Number n ∷ ts) = IfSome-bind (read_figure (Number n ∷ ts)) _ _ _ (figure-took (Number n ∷ ts)) (λ k p. (p.0, p.1))
atom-took names (Key word.CsdBlocks ∷ ts) = (refl, tt)
atom-took names (Key word.ExtBlocks ∷ ts) = IfSome-given (has_ext_csd names.kind) _ _ (λ e. (refl, e))
atom-took names (Key word.ExtBoot ∷ ts) = IfSome-given (has_ext_csd names.kind) _ _ (λ e. (refl, e))
atom-took names ts = named_atom-took names ts

change-took : (ts : List Token) → IfSome (read_change ts) (λ c. (ts ≡ change_written c.0 c.1) × ChangeFits c.0)
change-took (Mark sign.Plus ∷ ts) = IfSome-bind (read_figure ts) _ _ _ (figure-took ts) (λ k p. (rw p.0 refl, p.1))
change-took (Mark sign.Minus ∷ ts) = IfSome-bind (read_figure ts) _ _ _ (figure-took ts) (λ k p. (rw p.0 refl, p.1))
change-took ts = (refl, tt)

pub let-took : (names : Declared) (ts : List Token) → IfSome (read_let names ts) (λ l. (Key word.Let ∷ ts ≡ let_written names l.0 l.1) × LetFits names l.0)
let-took names ts =
    IfSome-bind (read_number_name names ts) _ _ _ (number_name-took names ts) (λ x p.
    IfSome-bind (after_equals x.1) _ _ _ (after_equals-took x.1) (λ r e.
    IfSome-bind (read_atom names r) _ _ _ (atom-took names r) (λ a q.
    IfSome-bind (read_change a.1) _ _ _ (change-took a.1) (λ c s.
    (rw (p.0, e, q.0, s.0) refl, (p.1, q.1, s.1))))))

test-took : (names : Declared) (x : ℕ) (ts : List Token) → x < length names.numbers
    → IfSome (read_test x ts) (λ c. (number_name names x ∷ ts ≡ condition_written names c.0 c.1) × ConditionFits names c.0)
test-took names x (Mark sign.AtLeast ∷ ts) lt = IfSome-bind (read_figure ts) _ _ _ (figure-took ts) (λ k p. (rw p.0 refl, (lt, p.1)))
test-took names x (Mark sign.Below ∷ ts) lt = IfSome-bind (read_figure ts) _ _ _ (figure-took ts) (λ k p. (rw p.0 refl, (lt, p.1)))
test-took names x ts lt = tt

condition_by-took : (names : Declared) (n : List ℕ) (f x : Option ℕ) (ts : List Token)
    → IfSome f (λ i. (i < length names.flags) × (get_or names.flags i [] ≡ n)) → IfSome x (λ i. (i < length names.numbers) × (get_or names.numbers i [] ≡ n))
    → IfSome (condition_by f x ts) (λ c. (Name n ∷ ts ≡ condition_written names c.0 c.1) × ConditionFits names c.0)
condition_by-took names n (Some f) x ts p q = (ap (λ (m : List ℕ). Name m ∷ ts) (sym p.1), p.0)
condition_by-took names n None (Some x) ts p q =
    IfSome-map (read_test x ts) _ _ (test-took names x ts q.0) (λ c r. (ap (λ (m : List ℕ). Name m ∷ ts) (sym q.1) ∙ r.0, r.1))
condition_by-took names n None None ts p q = tt

pub condition-took : (names : Declared) (ts : List Token)
    → IfSome (read_condition names ts) (λ c. (ts ≡ condition_written names c.0 c.1) × ConditionFits names c.0)
condition-took names (Name n ∷ ts) = condition_by-took names n _ _ ts (place-took n names.flags) (place-took n names.numbers)
condition-took names ts = tt

pub receive-took : (ts : List Token) → IfSome (read_receive ts) (λ p. Key word.Recv ∷ ts ≡ phase_written p.0 p.1)
receive-took (Key word.Reg ∷ ts) = refl
receive-took ts = refl

pub fault-took : (ts : List Token) → IfSome (read_fault ts) (λ x. (ts ≡ Name x.0 ∷ x.1) × (length x.0 ≤ max_name))
fault-took (Name n ∷ ts) = IfSome-given (nat_le (length n) max_name) _ _ (λ e. (refl, leb-true (length n) max_name e))
fault-took ts = tt
