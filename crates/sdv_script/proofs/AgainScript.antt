-- What is written of a script is read again, if the text is not too long.
use Rattle.std.proofs.Common.{◌≡◌, ℕ, suc, ◌+◌, ◌<◌, ◌≤◌, Bool, true, false, List, [], ◌∷◌, ◌++◌, length, refl, sym, subst, ap, ◌∙◌, arith, cond, append_assoc, Option, Some, None}
use Rattle.std.specs.Prelude.{is_none}
use Rattle.std.specs.Str.{bytes_eq}
use Rattle.std.proofs.lemmas.Bool.{lt-ltb, le-leb}
use Rattle.std.proofs.lemmas.List.{append-nil, length-append}
use Rattle.sdv_card.specs.declared.guard.Guard.{Guard}
use Rattle.sdv_card.specs.declared.guard.Guard.TheVariants as guards
use Rattle.sdv_registers.specs.declared.kind.Kind.{Kind}
use Rattle.sdv_registers.specs.declared.kind.Kind.TheVariants.{Sd, Emmc}
use Rattle.sdv_card.specs.declared.command.Setting.{Setting}
use Rattle.sdv_card.specs.declared.command.Setting.TheVariants.{Lines, Access}
use Rattle.sdv_card.specs.declared.event.Aim.{Aim}
use Rattle.sdv_card.specs.declared.event.Aim.TheVariants.{Rca, Plain}
use Rattle.sdv_script.specs.declared.operand.Operand.{Operand}
use Rattle.sdv_script.specs.declared.operand.Operand.TheVariants.{Bare, Select, Conditions, Addressed, Counted, Preset, Erase, Switch}
use Rattle.sdv_script.specs.declared.token.Sign.TheVariants as sign
use Rattle.sdv_script.specs.declared.keyword.Keyword.{Keyword}
use Rattle.sdv_script.specs.declared.keyword.Keyword.TheVariants as word
use Rattle.sdv_graph.specs.declared.tree.ScriptCommand.{ScriptCommand}
use Rattle.sdv_graph.specs.declared.tree.Address.{Address}
use Rattle.sdv_graph.specs.declared.tree.Unit.{Unit as AddressUnit}
use Rattle.sdv_graph.specs.declared.tree.Unit.TheVariants as units
use Rattle.sdv_graph.specs.declared.tree.Position.{Position}
use Rattle.sdv_graph.specs.declared.tree.Position.TheVariants as positions
use Rattle.sdv_graph.specs.declared.tree.Phase.{Phase}
use Rattle.sdv_graph.specs.declared.tree.Phase.TheVariants as phases
use Rattle.sdv_graph.specs.declared.tree.Atom.{Atom}
use Rattle.sdv_graph.specs.declared.tree.Atom.TheVariants as atoms
use Rattle.sdv_graph.specs.declared.tree.Change.{Change}
use Rattle.sdv_graph.specs.declared.tree.Change.TheVariants as changes
use Rattle.sdv_graph.specs.declared.tree.Condition.{Condition}
use Rattle.sdv_graph.specs.declared.tree.Condition.TheVariants as conditions
use Rattle.sdv_script.specs.Tokens.{Token, Key, Number, Mark}
use Rattle.sdv_script.specs.Commands.{operand_of, setting_of}
use Rattle.sdv_graph.specs.Tree.{Declared, Statements, nothing, first, Ways, otherwise, way, Statement, send, phase, setting, choice, set, clear, bus_lines, turns, break, done, fault}
use Rattle.sdv_script.specs.Grammar.{kind_word, unit_written, position_written, address_if_any, select_written, setting_if_any, operand_if_any, guard_written, guards_written, atom_written, change_written, condition_written, phase_written, names_written, list_written, statements_written, ways_written, statement_written, script_written}
use Rattle.sdv_script.specs.Rules.{max_name, max_flags, max_numbers, max_bytes, place_from, place_of, AreNew, NamesFit, ScriptFits}
use Rattle.sdv_script.specs.Reading.{may_follow, name_is_new, read_names, read_flags, read_nums, read_kind, read_declared, start, read_body, read_script}
use Rattle.sdv_script.proofs.Again.{bind_is, test_is, both_true}
use Rattle.sdv_script.proofs.TakenScript.{none_from}
use Rattle.sdv_script.proofs.AgainRows.{statements_rank, ways_rank, statement_rank, statements-again}

-- A TREE IS NO DEEPER than its tokens are many

guard_longer : (g : Guard) (ts : List Token) → length ts ≤ length (guard_written g ts)
guard_longer guards.Timeout ts = omega arith
guard_longer guards.Answer ts = omega arith
guard_longer guards.Clean ts = omega arith
guard_longer guards.Ready ts = omega arith
guard_longer guards.App ts = omega arith
guard_longer guards.Echo ts = omega arith
guard_longer guards.OcrReady ts = omega arith
guard_longer guards.OcrBlock ts = omega arith
guard_longer (guards.State s) ts = omega arith
guard_longer guards.Ok ts = omega arith

guards_longer : (gs : List Guard) (ts : List Token) → length ts ≤ length (guards_written gs ts)
guards_longer [] ts = omega arith
guards_longer (g ∷ []) ts = guard_longer g ts
guards_longer (g ∷ h ∷ gs) ts =
    let one = guard_longer g (Mark sign.And ∷ guards_written (h ∷ gs) ts) in
    let rest = guards_longer (h ∷ gs) ts in
    omega arith

unit_longer : (names : Declared) (u : AddressUnit) (ts : List Token) → length ts ≤ length (unit_written names u ts)
unit_longer names units.Block ts = omega arith
unit_longer names units.Byte ts = omega arith
unit_longer names (units.By f) ts = omega arith

position_longer : (names : Declared) (p : Position) (ts : List Token) → length ts ≤ length (position_written names p ts)
position_longer names (positions.Number n) ts = omega arith
position_longer names (positions.Variable x None) ts = omega arith
position_longer names (positions.Variable x (Some k)) ts = omega arith

address_longer : (names : Declared) (a : Option Address) (ts : List Token) → length ts ≤ length (address_if_any names a ts)
address_longer names None ts = omega arith
address_longer names (Some a) ts =
    let one = unit_longer names a.unit (position_written names a.position ts) in
    let two = position_longer names a.position ts in
    omega arith

select_longer : (aim : Aim) (ts : List Token) → length ts ≤ length (select_written aim ts)
select_longer Rca ts = omega arith
select_longer Plain ts = omega arith

setting_longer : (o : Option Setting) (ts : List Token) → length ts ≤ length (setting_if_any o ts)
setting_longer None ts = omega arith
setting_longer (Some (Lines width)) ts = omega arith
setting_longer (Some (Access partition)) ts = omega arith

operand_longer : (o : Option Operand) (names : Declared) (c : ScriptCommand) (ts : List Token) → length ts ≤ length (operand_if_any o names c ts)
operand_longer None names c ts = omega arith
operand_longer (Some (Bare aim)) names c ts = omega arith
operand_longer (Some Select) names c ts = select_longer c.ask.aim ts
operand_longer (Some Conditions) names c ts = omega arith
operand_longer (Some (Addressed count)) names c ts = address_longer names c.address ts
operand_longer (Some Counted) names c ts = let one = address_longer names c.address (Key word.Count ∷ Number c.ask.count ∷ ts) in omega arith
operand_longer (Some Preset) names c ts = omega arith
operand_longer (Some Erase) names c ts = omega arith
operand_longer (Some Switch) names c ts = setting_longer (setting_of names.kind c.ask.argument) ts

condition_longer : (names : Declared) (c : Condition) (ts : List Token) → length ts ≤ length (condition_written names c ts)
condition_longer names (conditions.Flag f) ts = omega arith
condition_longer names (conditions.AtLeast x k) ts = omega arith
condition_longer names (conditions.Below x k) ts = omega arith

atom_longer : (names : Declared) (a : Atom) (ts : List Token) → length ts ≤ length (atom_written names a ts)
atom_longer names (atoms.Number n) ts = omega arith
atom_longer names (atoms.Variable x) ts = omega arith
atom_longer names atoms.CsdBlocks ts = omega arith
atom_longer names atoms.ExtBlocks ts = omega arith
atom_longer names atoms.ExtBoot ts = omega arith

change_longer : (c : Change) (ts : List Token) → length ts ≤ length (change_written c ts)
change_longer changes.Same ts = omega arith
change_longer (changes.Plus k) ts = omega arith
change_longer (changes.Minus k) ts = omega arith

phase_longer : (p : Phase) (ts : List Token) → length ts < length (phase_written p ts)
phase_longer phases.ReceiveBlocks ts = omega arith
phase_longer phases.ReceiveRegister ts = omega arith
phase_longer phases.GiveBlocks ts = omega arith
phase_longer phases.Wait ts = omega arith

mutual
  pub statements_deep : (b : Statements) (names : Declared) (others : List Token)
      → length others + statements_rank b ≤ length (statements_written names b others) + 1
  statements_deep nothing names others = omega arith
  statements_deep (first s rest) names others =
      let one = statement_deep s names (statements_written names rest others) in
      let two = statements_deep rest names others in
      omega arith

  ways_deep : (w : Ways) (names : Declared) (others : List Token) → length others + ways_rank w ≤ length (ways_written names w others)
  ways_deep (otherwise b) names others =
      let one = statements_deep b names (Mark sign.CloseBrace ∷ others) in
      omega arith
  ways_deep (way gs b rest) names others =
      let one = guards_longer gs (Mark sign.OpenBrace ∷ statements_written names b (Mark sign.CloseBrace ∷ ways_written names rest others)) in
      let two = statements_deep b names (Mark sign.CloseBrace ∷ ways_written names rest others) in
      let three = ways_deep rest names others in
      omega arith

  statement_deep : (s : Statement) (names : Declared) (others : List Token) → length others + statement_rank s < length (statement_written names s others)
  statement_deep (send c w) names others =
      let one = operand_longer (operand_of names.kind c.ask.index) names c (Mark sign.OpenBrace ∷ ways_written names w (Mark sign.CloseBrace ∷ others)) in
      let two = ways_deep w names (Mark sign.CloseBrace ∷ others) in
      omega arith
  statement_deep (phase p a b) names others =
      let one = phase_longer p (Mark sign.OpenBrace ∷ Key word.Ok ∷ Mark sign.OpenBrace ∷ statements_written names a (Mark sign.CloseBrace
      ∷ Key word.Else ∷ Mark sign.OpenBrace ∷ statements_written names b (Mark sign.CloseBrace ∷ Mark sign.CloseBrace ∷ others))) in
      let two = statements_deep a names (Mark sign.CloseBrace ∷ Key word.Else ∷ Mark sign.OpenBrace ∷ statements_written names b
      (Mark sign.CloseBrace ∷ Mark sign.CloseBrace ∷ others)) in
      let three = statements_deep b names (Mark sign.CloseBrace ∷ Mark sign.CloseBrace ∷ others) in
      omega arith
  statement_deep (setting l) names others =
      let one = atom_longer names l.atom (change_written l.change others) in
      let two = change_longer l.change others in
      omega arith
  statement_deep (choice c a b) names others =
      let one = condition_longer names c (Mark sign.OpenBrace ∷ statements_written names a (Mark sign.CloseBrace
      ∷ Key word.Else ∷ Mark sign.OpenBrace ∷ statements_written names b (Mark sign.CloseBrace ∷ others))) in
      let two = statements_deep a names (Mark sign.CloseBrace ∷ Key word.Else ∷ Mark sign.OpenBrace ∷ statements_written names b
      (Mark sign.CloseBrace ∷ others)) in
      let three = statements_deep b names (Mark sign.CloseBrace ∷ others) in
      omega arith
  statement_deep (set f) names others = omega arith
  statement_deep (clear f) names others = omega arith
  statement_deep (bus_lines width) names others = omega arith
  statement_deep (turns n a b) names others =
      let two = statements_deep a names (Mark sign.CloseBrace ∷ Key word.Else ∷ Mark sign.OpenBrace ∷ statements_written names b
      (Mark sign.CloseBrace ∷ others)) in
      let three = statements_deep b names (Mark sign.CloseBrace ∷ others) in
      omega arith
  statement_deep break names others = omega arith
  statement_deep done names others = omega arith
  statement_deep (fault n) names others = omega arith

-- LISTS OF NAMES

test_none : (t : Bool) (k : ℕ) (later : Option ℕ) → cond t (Some k) later ≡ None → (t ≡ false) × (later ≡ None)
test_none true k later e = absurd cc
test_none false k later e = (refl, e)

none_in_front : (k : ℕ) (name : List ℕ) (xs ys : List (List ℕ)) → place_from k name (xs ++ ys) ≡ None
    → (place_from k name xs ≡ None) × (place_of name ys ≡ None)
unfolding place_from
none_in_front k name [] ys e = (refl, none_from k 0 name ys e)
none_in_front k name (x ∷ xs) ys e =
    let p = test_none (bytes_eq x name) k (place_from (suc k) name (xs ++ ys)) e in
    let q = none_in_front (suc k) name xs ys p.1 in
    (rw p.0 q.0, q.1)

is_none_true : {A : Type 0} (o : Option A) → o ≡ None → is_none o ≡ true
is_none_true o e = rw e refl

pub new_name : (earlier names : List (List ℕ)) (limit : ℕ) (n : List ℕ) → place_of n (earlier ++ names) ≡ None → length n ≤ max_name → length names < limit
    → name_is_new earlier names limit n ≡ true
new_name earlier names limit n e short lt =
    let p = none_in_front 0 n earlier names e in
    both_true _ _ (both_true _ _ (both_true _ _ (is_none_true _ p.0) (is_none_true _ p.1)) (lt-ltb (length names) limit lt)) (le-leb (length n) max_name short)

-- a list of names may end before these tokens
abbrev Follows : Bool → List Token → Type 0
Follows w [] = Unit {0}
Follows w (Key k ∷ ts) = may_follow w (Key k ∷ ts) ≡ true
Follows w ts = ⊥

end-again : (w : Bool) (earlier names : List (List ℕ)) (limit : ℕ) (others : List Token) → Follows w others → 0 < length names
    → read_names w earlier names limit others ≡ Some (names, others)
end-again w earlier names limit [] f some = test_is _ _ _ (both_true _ _ (lt-ltb 0 (length names) some) refl) refl
end-again w earlier names limit (Key k ∷ ts) f some = test_is _ _ _ (both_true _ _ (lt-ltb 0 (length names) some) f) refl
end-again w earlier names limit ts f some = absurd f

names-again : (later : List (List ℕ)) (w : Bool) (earlier names : List (List ℕ)) (limit : ℕ) (others : List Token) → AreNew (earlier ++ names) later
    → length names + length later ≤ limit → 0 < length names + length later → Follows w others
    → read_names w earlier names limit (names_written later others) ≡ Some (names ++ later, others)
names-again [] w earlier names limit others new few some f =
    end-again w earlier names limit others f (omega arith) ∙ ap (λ (ns : List (List ℕ)). Some (ns, others)) (sym (append-nil names))
names-again (n ∷ ns) w earlier names limit others new few some f =
    let grown : length (names ++ n ∷ []) ≡ length names + 1 = length-append names (n ∷ []) in
    test_is _ _ _ (new_name earlier names limit n new.0 new.1 (omega arith))
    (names-again ns w earlier (names ++ n ∷ []) limit others (subst (λ (before : List (List ℕ)). AreNew before ns) (append_assoc earlier names (n ∷ [])) new.2)
    (omega arith) (omega arith) f
    ∙ ap (λ (all : List (List ℕ)). Some (all, others)) (append_assoc names (n ∷ []) ns))

-- WHAT STATEMENTS BEGIN WITH

record Opens (ts : List Token) : Type 0 where
  follows : (w : Bool) → Follows w ts
  no_flags : read_flags ts ≡ Some ([], ts)
  no_nums : (flags : List (List ℕ)) → read_nums flags ts ≡ Some ([], ts)

phase_opens : (p : Phase) (ts : List Token) → Opens (phase_written p ts)
phase_opens phases.ReceiveBlocks ts = record { follows = λ w. refl; no_flags = refl; no_nums = λ flags. refl }
phase_opens phases.ReceiveRegister ts = record { follows = λ w. refl; no_flags = refl; no_nums = λ flags. refl }
phase_opens phases.GiveBlocks ts = record { follows = λ w. refl; no_flags = refl; no_nums = λ flags. refl }
phase_opens phases.Wait ts = record { follows = λ w. refl; no_flags = refl; no_nums = λ flags. refl }

statement_opens : (names : Declared) (s : Statement) (ts : List Token) → Opens (statement_written names s ts)
statement_opens names (send c w) ts = record { follows = λ w. refl; no_flags = refl; no_nums = λ flags. refl }
statement_opens names (phase p a b) ts = phase_opens p _
statement_opens names (setting l) ts = record { follows = λ w. refl; no_flags = refl; no_nums = λ flags. refl }
statement_opens names (choice c a b) ts = record { follows = λ w. refl; no_flags = refl; no_nums = λ flags. refl }
statement_opens names (set f) ts = record { follows = λ w. refl; no_flags = refl; no_nums = λ flags. refl }
statement_opens names (clear f) ts = record { follows = λ w. refl; no_flags = refl; no_nums = λ flags. refl }
statement_opens names (bus_lines width) ts = record { follows = λ w. refl; no_flags = refl; no_nums = λ flags. refl }
statement_opens names (turns n a b) ts = record { follows = λ w. refl; no_flags = refl; no_nums = λ flags. refl }
statement_opens names break ts = record { follows = λ w. refl; no_flags = refl; no_nums = λ flags. refl }
statement_opens names done ts = record { follows = λ w. refl; no_flags = refl; no_nums = λ flags. refl }
statement_opens names (fault n) ts = record { follows = λ w. refl; no_flags = refl; no_nums = λ flags. refl }

rows_open : (names : Declared) (b : Statements) → Opens (statements_written names b [])
rows_open names nothing = record { follows = λ w. tt; no_flags = refl; no_nums = λ flags. refl }
rows_open names (first s rest) = statement_opens names s (statements_written names rest [])

-- DECLARED NAMES

nums-again : (numbers flags : List (List ℕ)) (ts : List Token) → Opens ts → AreNew flags numbers → length numbers ≤ max_numbers
    → read_nums flags (list_written word.Nums numbers ts) ≡ Some (numbers, ts)
nums-again [] flags ts opens new few = opens.no_nums flags
nums-again (n ∷ ns) flags ts opens new few =
    names-again (n ∷ ns) false flags [] max_numbers ts (subst (λ (before : List (List ℕ)). AreNew before (n ∷ ns)) (sym (append-nil flags)) new) (omega arith)
    (omega arith) (opens.follows false)

nums_follow : (numbers : List (List ℕ)) (ts : List Token) → Opens ts
    → Follows true (list_written word.Nums numbers ts) × (read_flags (list_written word.Nums numbers ts) ≡ Some ([], list_written word.Nums numbers ts))
nums_follow [] ts opens = (opens.follows true, opens.no_flags)
nums_follow (n ∷ ns) ts opens = (refl, refl)

flags-again : (flags : List (List ℕ)) (ts : List Token) → Follows true ts × (read_flags ts ≡ Some ([], ts)) → AreNew [] flags → length flags ≤ max_flags
    → read_flags (list_written word.Flags flags ts) ≡ Some (flags, ts)
flags-again [] ts opens new few = opens.1
flags-again (n ∷ ns) ts opens new few = names-again (n ∷ ns) true [] [] max_flags ts new (omega arith) (omega arith) opens.0

pub kind-again : (k : Kind) (ts : List Token) → read_kind (Key (kind_word k) ∷ ts) ≡ Some (k, ts)
kind-again Sd ts = refl
kind-again Emmc ts = refl

abbrev declared_written : Declared → List Token → List Token
declared_written names ts = Key (kind_word names.kind) ∷ list_written word.Flags names.flags (list_written word.Nums names.numbers ts)

declared-again : (names : Declared) (ts : List Token) → Opens ts → NamesFit names → read_declared (declared_written names ts) ≡ Some (names, ts)
declared-again names ts opens fit =
    bind_is _ _ _ _ (kind-again names.kind _)
    (bind_is _ _ _ _ (flags-again names.flags _ (nums_follow names.numbers ts opens) fit.flags_new fit.few_flags)
    (bind_is _ _ _ _ (nums-again names.numbers names.flags ts opens fit.numbers_new fit.few_numbers) refl))

-- SCRIPTS

pub names_longer : (ns : List (List ℕ)) (ts : List Token) → length ts ≤ length (names_written ns ts)
names_longer [] ts = omega arith
names_longer (n ∷ ns) ts = let rest = names_longer ns ts in omega arith

pub list_longer : (k : Keyword) (ns : List (List ℕ)) (ts : List Token) → length ts ≤ length (list_written k ns ts)
list_longer k [] ts = omega arith
list_longer k (n ∷ ns) ts = let rest = names_longer (n ∷ ns) ts in omega arith

body-again : (names : Declared) (body : Statements) → ScriptFits names body → statements_rank body ≤ max_bytes
    → read_body names (statements_written names body []) ≡ Some (names, body)
body-again names body fits rank =
    bind_is _ _ _ _ (statements-again body max_bytes names start fits.names_fit fits.statements_fit rank [] 0 tt (omega (arith, fits.few))) (rw fits.ends refl)

-- what is written of a script is read again
pub script-again : (names : Declared) (body : Statements) → ScriptFits names body → length (script_written names body) ≤ max_bytes
    → read_script (script_written names body) ≡ Some (names, body)
unfolding read_script
script-again names body fits small =
    let rows = statements_written names body [] in
    let one = statements_deep body names [] in
    let two = list_longer word.Nums names.numbers rows in
    let three = list_longer word.Flags names.flags (list_written word.Nums names.numbers rows) in
    bind_is _ _ _ _ (declared-again names rows (rows_open names body) fits.names_fit) (body-again names body fits (omega arith))
