-- What is written of statements is read again.
use Rattle.std.proofs.Common.{◌≡◌, ℕ, zero, suc, ◌+◌, ◌<◌, ◌≤◌, true, false, List, [], ◌∷◌, refl, ap, ◌∙◌, arith, cond, Some, None, Option}
use Rattle.std.specs.Prelude.{nat_lt}
use Rattle.std.proofs.lemmas.Bool.{lt-ltb}
use Rattle.sdv_card.specs.declared.command.Order.{Order}
use Rattle.sdv_card.specs.CommandTable.{order_of}
use Rattle.sdv_card.specs.declared.guard.Guard.{Guard}
use Rattle.sdv_card.specs.declared.guard.Guard.TheVariants as guards
use Rattle.sdv_script.specs.declared.depth.Depth.{Depth}
use Rattle.sdv_script.specs.declared.token.Sign.TheVariants as sign
use Rattle.sdv_script.specs.declared.keyword.Keyword.TheVariants as word
use Rattle.sdv_graph.specs.declared.tree.Phase.{Phase}
use Rattle.sdv_graph.specs.declared.tree.Phase.TheVariants as phases
use Rattle.sdv_script.specs.Tokens.{Token, Key, Mark}
use Rattle.sdv_graph.specs.Tree.{Declared, Statements, nothing, first, Ways, otherwise, way, Statement, send, phase, setting, choice, set, clear, bus_lines, turns, break, done, fault}
use Rattle.sdv_script.specs.Grammar.{guard_written, guards_written, phase_written, statements_written, ways_written, statement_written}
use Rattle.sdv_script.specs.Rules.{max_statements, max_loops, max_braces, NamesFit, GuardsFit, deeper, in_loop, HasRoom, StatementsFit, WaysFit, StatementFits, statements_count, ways_count, statement_count}
use Rattle.sdv_script.specs.Reading.{progress_to, Reading, Blocks, WaysOf, after_open, read_block, read_branches, read_phase, read_statement, closes, more_ways, next_way, read_statements, read_ways}
use Rattle.sdv_script.proofs.Again.{bind_is, test_is, both_true, IsCalm, command-again, guards-again, count-again, flag-again, width-again, let-again, condition-again, fault-again}

-- HOW DEEP reading goes

abbrev mutual
  pub statements_rank : Statements → ℕ
  statements_rank nothing = 1
  statements_rank (first s rest) = 1 + (statement_rank s + statements_rank rest)

  pub ways_rank : Ways → ℕ
  ways_rank (otherwise b) = 1 + statements_rank b
  ways_rank (way gs b rest) = 1 + (statements_rank b + ways_rank rest)

  pub statement_rank : Statement → ℕ
  statement_rank (send c ways) = ways_rank ways
  statement_rank (phase p a b) = statements_rank a + statements_rank b
  statement_rank (setting l) = 0
  statement_rank (choice c a b) = statements_rank a + statements_rank b
  statement_rank (set f) = 0
  statement_rank (clear f) = 0
  statement_rank (bus_lines width) = 0
  statement_rank (turns n a b) = statements_rank a + statements_rank b
  statement_rank break = 0
  statement_rank done = 0
  statement_rank (fault name) = 0

-- WHAT MAY FOLLOW statements in a row: the end, or a brace

abbrev pub Closes : List Token → Type 0
Closes [] = Unit {0}
Closes (Mark sign.CloseBrace ∷ ts) = Unit {0}
Closes ts = ⊥

closes_true : (ts : List Token) → Closes ts → closes ts ≡ true
closes_true [] c = refl
closes_true (Mark sign.CloseBrace ∷ ts) c = refl
closes_true ts c = absurd c

closes_calm : (ts : List Token) → Closes ts → IsCalm ts
closes_calm [] c = tt
closes_calm (Mark sign.CloseBrace ∷ ts) c = tt
closes_calm ts c = absurd c

phase_calm : (names : Declared) (p : Phase) (ts : List Token) → IsCalm (phase_written p ts) × (closes (phase_written p ts) ≡ false)
phase_calm names phases.ReceiveBlocks ts = (tt, refl)
phase_calm names phases.ReceiveRegister ts = (tt, refl)
phase_calm names phases.GiveBlocks ts = (tt, refl)
phase_calm names phases.Wait ts = (tt, refl)

statement_calm : (names : Declared) (s : Statement) (ts : List Token) → IsCalm (statement_written names s ts) × (closes (statement_written names s ts) ≡ false)
statement_calm names (send c w) ts = (tt, refl)
statement_calm names (phase p a b) ts = phase_calm names p _
statement_calm names (setting l) ts = (tt, refl)
statement_calm names (choice c a b) ts = (tt, refl)
statement_calm names (set f) ts = (tt, refl)
statement_calm names (clear f) ts = (tt, refl)
statement_calm names (bus_lines width) ts = (tt, refl)
statement_calm names (turns n a b) ts = (tt, refl)
statement_calm names break ts = (tt, refl)
statement_calm names done ts = (tt, refl)
statement_calm names (fault n) ts = (tt, refl)

rows_calm : (names : Declared) (b : Statements) (ts : List Token) → Closes ts → IsCalm (statements_written names b ts)
rows_calm names nothing ts c = closes_calm ts c
rows_calm names (first s rest) ts c = (statement_calm names s (statements_written names rest ts)).0

-- BLOCKS

abbrev RowAgain : Declared → Blocks → Depth → Statements → Type 0
RowAgain names blocks depth b = (others : List Token) (begun : ℕ) → Closes others → begun + statements_count b ≤ max_statements
    → blocks depth (progress_to (statements_written names b others) begun) ≡ Some (b, progress_to others (begun + statements_count b))

open_again : (depth : Depth) (ts : List Token) → HasRoom depth → after_open depth (Mark sign.OpenBrace ∷ ts) ≡ Some (deeper depth, ts)
open_again depth ts room = test_is _ _ _ (lt-ltb depth.braces max_braces room) refl

block-again : (names : Declared) (blocks : Blocks) (depth : Depth) (b : Statements) (others : List Token) (begun : ℕ) → HasRoom depth
    → RowAgain names blocks (deeper depth) b → begun + statements_count b ≤ max_statements
    → read_block blocks depth (progress_to (Mark sign.OpenBrace ∷ statements_written names b (Mark sign.CloseBrace ∷ others)) begun)
    ≡ Some (b, progress_to others (begun + statements_count b))
block-again names blocks depth b others begun room again le =
    bind_is _ _ _ _ (open_again depth _ room) (bind_is _ _ _ _ (again (Mark sign.CloseBrace ∷ others) begun tt le) refl)

branches-again : (names : Declared) (blocks : Blocks) (inside depth : Depth) (a b : Statements) (others : List Token) (begun : ℕ) → HasRoom inside
    → HasRoom depth → RowAgain names blocks (deeper inside) a → RowAgain names blocks (deeper depth) b
    → begun + (statements_count a + statements_count b) ≤ max_statements
    → read_branches blocks inside depth (progress_to (Mark sign.OpenBrace ∷ statements_written names a
    (Mark sign.CloseBrace ∷ Key word.Else ∷ Mark sign.OpenBrace ∷ statements_written names b (Mark sign.CloseBrace ∷ others))) begun)
    ≡ Some ((a, b), progress_to others (begun + statements_count a + statements_count b))
branches-again names blocks inside depth a b others begun room other_room first_again second_again le =
    bind_is _ _ _ _ (block-again names blocks inside a _ begun room first_again (omega arith))
    (bind_is _ _ _ _ (block-again names blocks depth b others (begun + statements_count a) other_room second_again (omega arith)) refl)

-- STATEMENTS

abbrev StatementAgain : Declared → Blocks → WaysOf → Depth → Statement → Type 0
StatementAgain names blocks ways depth s = (others : List Token) (begun : ℕ) → IsCalm others → begun + statement_count s ≤ max_statements
    → read_statement blocks ways names depth (statement_written names s others) begun ≡ Some (s, progress_to others (begun + statement_count s))

at_end : (s : Statement) (others : List Token) (m n : ℕ) → m ≡ n → ◌≡◌ {A = Reading Statement} (Some (s, progress_to others m)) (Some (s, progress_to others n))
at_end s others m n e = ap (λ (k : ℕ). Some (s, progress_to others k)) e

begin_again : (blocks : Blocks) (ways : WaysOf) (names : Declared) (depth : Depth) (begun : ℕ) (x r : Reading Statement) → begun < max_statements → x ≡ r
    → cond (nat_lt begun max_statements) x None ≡ r
begin_again blocks ways names depth begun x r lt e = test_is _ _ _ (lt-ltb begun max_statements lt) e

ends-again : (names : Declared) (blocks : Blocks) (depth : Depth) (p : Phase) (a b : Statements) (others : List Token) (begun : ℕ) → HasRoom depth
    → HasRoom (deeper depth)
    → RowAgain names blocks (deeper (deeper depth)) a → RowAgain names blocks (deeper (deeper depth)) b
    → begun + 1 + (statements_count a + statements_count b) ≤ max_statements
    → read_phase blocks depth p (progress_to (Mark sign.OpenBrace ∷ Key word.Ok ∷ Mark sign.OpenBrace ∷ statements_written names a (Mark sign.CloseBrace
    ∷ Key word.Else ∷ Mark sign.OpenBrace ∷ statements_written names b (Mark sign.CloseBrace ∷ Mark sign.CloseBrace ∷ others))) (begun + 1))
    ≡ Some (phase p a b, progress_to others (begun + (1 + (statements_count a + statements_count b))))
ends-again names blocks depth p a b others begun room inner first_again second_again le =
    bind_is _ _ _ _
    (bind_is _ _ _ _ (open_again depth _ room)
    (bind_is _ _ _ _ (branches-again names blocks (deeper depth) (deeper depth) a b (Mark sign.CloseBrace ∷ others)
    (begun + 1) inner inner first_again second_again le) refl))
    (at_end (phase p a b) others _ _ (omega arith))

phase-again : (names : Declared) (blocks : Blocks) (ways : WaysOf) (depth : Depth) (p : Phase) (a b : Statements) → HasRoom depth → HasRoom (deeper depth)
    → RowAgain names blocks (deeper (deeper depth)) a → RowAgain names blocks (deeper (deeper depth)) b → StatementAgain names blocks ways depth (phase p a b)
phase-again names blocks ways depth phases.ReceiveBlocks a b room inner one two others begun calm le =
    begin_again blocks ways names depth begun _ _ (omega arith)
    (ends-again names blocks depth phases.ReceiveBlocks a b others begun room inner one two (omega arith))
phase-again names blocks ways depth phases.ReceiveRegister a b room inner one two others begun calm le =
    begin_again blocks ways names depth begun _ _ (omega arith)
    (ends-again names blocks depth phases.ReceiveRegister a b others begun room inner one two (omega arith))
phase-again names blocks ways depth phases.GiveBlocks a b room inner one two others begun calm le =
    begin_again blocks ways names depth begun _ _ (omega arith)
    (ends-again names blocks depth phases.GiveBlocks a b others begun room inner one two (omega arith))
phase-again names blocks ways depth phases.Wait a b room inner one two others begun calm le =
    begin_again blocks ways names depth begun _ _ (omega arith) (ends-again names blocks depth phases.Wait a b others begun room inner one two (omega arith))

abbrev WaysAgain : Declared → WaysOf → Depth → Option Order → Ways → Type 0
WaysAgain names ways depth order w = (others : List Token) (begun : ℕ) → begun + ways_count w ≤ max_statements
    → ways depth order (progress_to (ways_written names w others) begun) ≡ Some (w, progress_to others (begun + ways_count w))

-- a guard begins with a word that is not `else`
guard_not_else : (blocks : Blocks) (ways : WaysOf) (depth : Depth) (order : Option Order) (begun : ℕ) (g : Guard) (others : List Token)
    → more_ways blocks ways depth order (guard_written g others) begun ≡ next_way blocks ways depth order (progress_to (guard_written g others) begun)
guard_not_else blocks ways depth order begun guards.Timeout others = refl
guard_not_else blocks ways depth order begun guards.Answer others = refl
guard_not_else blocks ways depth order begun guards.Clean others = refl
guard_not_else blocks ways depth order begun guards.Ready others = refl
guard_not_else blocks ways depth order begun guards.App others = refl
guard_not_else blocks ways depth order begun guards.Echo others = refl
guard_not_else blocks ways depth order begun guards.OcrReady others = refl
guard_not_else blocks ways depth order begun guards.OcrBlock others = refl
guard_not_else blocks ways depth order begun (guards.State s) others = refl
guard_not_else blocks ways depth order begun guards.Ok others = refl

not_else : (blocks : Blocks) (ways : WaysOf) (depth : Depth) (order : Option Order) (gs : List Guard) (others : List Token) (begun : ℕ) → GuardsFit order gs
    → more_ways blocks ways depth order (guards_written gs others) begun ≡ next_way blocks ways depth order (progress_to (guards_written gs others) begun)
not_else blocks ways depth order [] others begun ok = absurd ok
not_else blocks ways depth order (g ∷ []) others begun ok = guard_not_else blocks ways depth order begun g others
not_else blocks ways depth order (g ∷ h ∷ gs) others begun ok = guard_not_else blocks ways depth order begun g (Mark sign.And ∷ guards_written (h ∷ gs) others)

mutual
  unfolding read_statements

  pub statements-again : (b : Statements) (left : ℕ) (names : Declared) (depth : Depth) → NamesFit names → StatementsFit names depth b
      → statements_rank b ≤ left → RowAgain names (read_statements left names) depth b
  statements-again nothing zero names depth fit ok rank others begun c le = absurd (omega arith)
  statements-again nothing (suc left) names depth fit ok rank others begun c le =
      rw (closes_true others c) (ap (λ (k : ℕ). Some (nothing, progress_to others k)) (omega arith))
  statements-again (first s rest) zero names depth fit ok rank others begun c le = absurd (omega arith)
  statements-again (first s rest) (suc left) names depth fit ok rank others begun c le =
      rw (statement_calm names s (statements_written names rest others)).1
      (bind_is _ _ _ _ (statement-again s left names depth fit ok.0 (omega arith) (statements_written names rest others) begun (rows_calm names rest others c)
      (omega arith))
      (bind_is _ _ _ _ (statements-again rest left names depth fit ok.1 (omega arith) others (begun + statement_count s) c (omega arith))
      (ap (λ (k : ℕ). Some (first s rest, progress_to others k)) (omega arith))))

  pub ways-again : (w : Ways) (left : ℕ) (names : Declared) (depth : Depth) (order : Option Order) → NamesFit names → WaysFit names depth order w
      → ways_rank w ≤ left → WaysAgain names (read_ways left names) depth order w
  ways-again (otherwise b) zero names depth order fit ok rank others begun le = absurd (omega arith)
  ways-again (otherwise b) (suc left) names depth order fit ok rank others begun le =
      bind_is _ _ _ _ (block-again names (read_statements left names) depth b others begun ok.0
      (statements-again b left names (deeper depth) fit ok.1 (omega arith)) le) refl
  ways-again (way gs b rest) zero names depth order fit ok rank others begun le = absurd (omega arith)
  ways-again (way gs b rest) (suc left) names depth order fit ok rank others begun le =
      not_else (read_statements left names) (read_ways left names) depth order gs _ begun ok.0
      ∙ bind_is _ _ _ _ (bind_is _ _ _ _ (guards-again order gs _ ok.0)
      (bind_is _ _ _ _ (block-again names (read_statements left names) depth b (ways_written names rest others) begun ok.1
      (statements-again b left names (deeper depth) fit ok.2 (omega arith)) (omega arith)) refl))
      (bind_is _ _ _ _ (ways-again rest left names depth order fit ok.3 (omega arith) others (begun + statements_count b) (omega arith))
      (ap (λ (k : ℕ). Some (way gs b rest, progress_to others k)) (omega arith)))

  pub statement-again : (s : Statement) (left : ℕ) (names : Declared) (depth : Depth) → NamesFit names → StatementFits names depth s → statement_rank s ≤ left
      → StatementAgain names (read_statements left names) (read_ways left names) depth s
  statement-again (send c w) left names depth fit ok rank others begun calm le =
      begin_again (read_statements left names) (read_ways left names) names depth begun _ _ (omega arith)
      (bind_is _ _ _ _ (command-again names c _ fit ok.0)
      (bind_is _ _ _ _ (open_again depth _ ok.1)
      (bind_is _ _ _ _ (ways-again w left names (deeper depth) (order_of names.kind c.ask) fit ok.2 rank (Mark sign.CloseBrace ∷ others) (begun + 1)
      (omega arith))
      (at_end (send c w) others _ _ (omega arith)))))
  statement-again (phase p a b) left names depth fit ok rank others begun calm le =
      phase-again names (read_statements left names) (read_ways left names) depth p a b ok.0 ok.1
      (statements-again a left names (deeper (deeper depth)) fit ok.2 (omega arith))
      (statements-again b left names (deeper (deeper depth)) fit ok.3 (omega arith)) others begun calm le
  statement-again (setting l) left names depth fit ok rank others begun calm le =
      begin_again (read_statements left names) (read_ways left names) names depth begun _ _ (omega arith)
      (bind_is _ _ _ _ (let-again names l others fit ok calm) refl)
  statement-again (choice c a b) left names depth fit ok rank others begun calm le =
      begin_again (read_statements left names) (read_ways left names) names depth begun _ _ (omega arith)
      (bind_is _ _ _ _ (condition-again names c _ fit ok.0)
      (bind_is _ _ _ _ (branches-again names (read_statements left names) depth depth a b others (begun + 1) ok.1 ok.1
      (statements-again a left names (deeper depth) fit ok.2 (omega arith)) (statements-again b left names (deeper depth) fit ok.3 (omega arith)) (omega arith))
      (at_end (choice c a b) others _ _ (omega arith))))
  statement-again (set f) left names depth fit ok rank others begun calm le =
      begin_again (read_statements left names) (read_ways left names) names depth begun _ _ (omega arith)
      (bind_is _ _ _ _ (flag-again names f others fit ok) refl)
  statement-again (clear f) left names depth fit ok rank others begun calm le =
      begin_again (read_statements left names) (read_ways left names) names depth begun _ _ (omega arith)
      (bind_is _ _ _ _ (flag-again names f others fit ok) refl)
  statement-again (bus_lines width) left names depth fit ok rank others begun calm le =
      begin_again (read_statements left names) (read_ways left names) names depth begun _ _ (omega arith)
      (bind_is _ _ _ _ (width-again names.kind width others ok) refl)
  statement-again (turns n a b) left names depth fit ok rank others begun calm le =
      begin_again (read_statements left names) (read_ways left names) names depth begun _ _ (omega arith)
      (test_is _ _ _ (lt-ltb depth.loops max_loops ok.2)
      (bind_is _ _ _ _ (count-again n _ ok.0 ok.1)
      (bind_is _ _ _ _ (branches-again names (read_statements left names) (in_loop depth) depth a b others (begun + 1) ok.3 ok.3
      (statements-again a left names (deeper (in_loop depth)) fit ok.4 (omega arith)) (statements-again b left names (deeper depth) fit ok.5 (omega arith))
      (omega arith))
      (at_end (turns n a b) others _ _ (omega arith)))))
  statement-again break left names depth fit ok rank others begun calm le =
      test_is _ _ _ (both_true _ _ (lt-ltb 0 depth.loops ok) (lt-ltb begun max_statements (omega arith))) refl
  statement-again done left names depth fit ok rank others begun calm le =
      begin_again (read_statements left names) (read_ways left names) names depth begun _ _ (omega arith) refl
  statement-again (fault n) left names depth fit ok rank others begun calm le =
      begin_again (read_statements left names) (read_ways left names) names depth begun _ _ (omega arith) (bind_is _ _ _ _ (fault-again n others ok) refl)
