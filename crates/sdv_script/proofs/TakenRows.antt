-- What is read of statements and blocks is written so.
use Rattle.std.proofs.Common.{◌≡◌, ℕ, zero, suc, ◌+◌, ◌<◌, ◌≤◌, Bool, true, false, List, [], ◌∷◌, length, get_or, refl, sym, subst, ap, ◌∙◌, arith, cond, Some, Option}
use Rattle.std.specs.Prelude.{IfSome, ◌&&◌, nat_lt}
use Rattle.std.proofs.lemmas.Bool.{ltb-true}
use Rattle.sdv_text.specs.Fronts.{◌>>=◌}
use Rattle.sdv_card.specs.declared.command.Order.{Order}
use Rattle.sdv_card.specs.CommandTable.{order_of}
use Rattle.sdv_script.specs.declared.depth.Depth.{Depth}
use Rattle.sdv_script.specs.declared.token.Sign.TheVariants as sign
use Rattle.sdv_script.specs.declared.keyword.Keyword.{Keyword}
use Rattle.sdv_script.specs.declared.keyword.Keyword.TheVariants as word
use Rattle.sdv_graph.specs.declared.tree.Phase.{Phase}
use Rattle.sdv_graph.specs.declared.tree.Phase.TheVariants as phases
use Rattle.sdv_script.specs.Tokens.{Token, Key, Name, Mark}
use Rattle.sdv_graph.specs.Tree.{Declared, Statements, nothing, first, Ways, Guarded, Statement, setting, set, clear, bus_lines, fault}
use Rattle.sdv_script.specs.Grammar.{guards_written, phase_written, statements_written, ways_written, statement_written}
use Rattle.sdv_script.specs.Rules.{max_statements, max_loops, GuardsFit, deeper, in_loop, HasRoom, StatementsFit, WaysFit, StatementFits, statements_count, ways_count, statement_count}
use Rattle.sdv_script.specs.Reading.{Progress, progress_to, Blocks, WaysOf, Pair, after_open, after_close, after_else, after_ok, read_count, read_command, read_condition, read_receive, read_let, read_flag, read_width, read_fault, read_guards, read_block, read_branches, read_ends, read_phase, read_send, read_if, read_loop, moved, starts, read_after, read_statement, closes, last_way, read_case, next_way, more_ways, read_statements, read_ways}
use Rattle.sdv_script.proofs.WhereRead.{IfSome-bind, IfSome-test, IfSome-map, both}
use Rattle.sdv_script.proofs.Taken.{after_open-took, after_close-took, after_else-took, after_ok-took, count-took, command-took, condition-took, receive-took, let-took, flag-took, width-took, fault-took}
use Rattle.sdv_script.proofs.GuardLaws.{read_guards-took}

-- so many statements were begun
pub record Began (before after count : ℕ) : Type 0 where
  pub counted : after ≡ before + count
  pub few : before ≤ max_statements → after ≤ max_statements

Began-then : (a b c m n : ℕ) → Began a b m → Began b c n → Began a c (m + n)
Began-then a b c m n p q = record { counted = omega (arith, p.counted, q.counted); few = λ le. q.few (p.few le) }

pub record RowTook (names : Declared) (depth : Depth) (at : Progress) (x : Statements × Progress) : Type 0 where
  pub parts : at.tokens ≡ statements_written names x.0 x.1.tokens
  pub fits : StatementsFit names depth x.0
  pub began : Began at.begun x.1.begun (statements_count x.0)

pub record WaysTook (names : Declared) (depth : Depth) (order : Option Order) (at : Progress) (x : Ways × Progress) : Type 0 where
  pub parts : at.tokens ≡ ways_written names x.0 x.1.tokens
  pub fits : WaysFit names depth order x.0
  pub began : Began at.begun x.1.begun (ways_count x.0)

record BlockTook (names : Declared) (depth : Depth) (at : Progress) (x : Statements × Progress) : Type 0 where
  parts : at.tokens ≡ Mark sign.OpenBrace ∷ statements_written names x.0 (Mark sign.CloseBrace ∷ x.1.tokens)
  room : HasRoom depth
  fits : StatementsFit names (deeper depth) x.0
  began : Began at.begun x.1.begun (statements_count x.0)

record PairTook (names : Declared) (inside depth : Depth) (at : Progress) (x : Pair × Progress) : Type 0 where
  parts : at.tokens ≡ Mark sign.OpenBrace ∷ statements_written names x.0.0
      (Mark sign.CloseBrace ∷ Key word.Else ∷ Mark sign.OpenBrace ∷ statements_written names x.0.1 (Mark sign.CloseBrace ∷ x.1.tokens))
  room : HasRoom inside
  other_room : HasRoom depth
  fits : StatementsFit names (deeper inside) x.0.0
  other_fits : StatementsFit names (deeper depth) x.0.1
  began : Began at.begun x.1.begun (statements_count x.0.0 + statements_count x.0.1)

-- a statement after its first word
record AfterTook (names : Declared) (depth : Depth) (keyword : Keyword) (at : Progress) (x : Statement × Progress) : Type 0 where
  parts : Key keyword ∷ at.tokens ≡ statement_written names x.0 x.1.tokens
  fits : StatementFits names depth x.0
  counted : at.begun + statement_count x.0 ≡ x.1.begun + 1
  few : at.begun ≤ max_statements → x.1.begun ≤ max_statements

abbrev RowsTake : Declared → Blocks → Type 0
RowsTake names blocks = (depth : Depth) (at : Progress) → IfSome (blocks depth at) (RowTook names depth at)

abbrev WaysTake : Declared → WaysOf → Type 0
WaysTake names ways = (depth : Depth) (order : Option Order) (at : Progress) → IfSome (ways depth order at) (WaysTook names depth order at)

block-took : (names : Declared) (blocks : Blocks) → RowsTake names blocks → (depth : Depth) (at : Progress)
    → IfSome (read_block blocks depth at) (BlockTook names depth at)
block-took names blocks take depth at =
    IfSome-bind (after_open depth at.tokens) _ _ _ (after_open-took depth at.tokens) (λ o p.
    IfSome-bind (blocks o.0 (progress_to o.1 at.begun)) _ _ _ (take o.0 (progress_to o.1 at.begun)) (λ b q.
    IfSome-bind (after_close b.1.tokens) _ _ _ (after_close-took b.1.tokens) (λ r e.
    record {
      parts = rw (p.0, q.parts, e) refl;
      room = p.2;
      fits = subst (λ (d : Depth). StatementsFit names d b.0) p.1 q.fits;
      began = q.began;
    })))

branches-took : (names : Declared) (blocks : Blocks) → RowsTake names blocks → (inside depth : Depth) (at : Progress)
    → IfSome (read_branches blocks inside depth at) (PairTook names inside depth at)
branches-took names blocks take inside depth at =
    IfSome-bind (read_block blocks inside at) _ _ _ (block-took names blocks take inside at) (λ a p.
    IfSome-bind (after_else a.1.tokens) _ _ _ (after_else-took a.1.tokens) (λ r e.
    IfSome-bind (read_block blocks depth (progress_to r a.1.begun)) _ _ _ (block-took names blocks take depth (progress_to r a.1.begun)) (λ b q.
    record {
      parts = rw (p.parts, e, q.parts) refl;
      room = p.room;
      other_room = q.room;
      fits = p.fits;
      other_fits = q.fits;
      began = Began-then _ _ _ _ _ p.began q.began;
    })))

-- ROWS

closed_nothing : (ts : List Token) (names : Declared) (depth : Depth) (begun : ℕ) → RowTook names depth (progress_to ts begun) (nothing, progress_to ts begun)
closed_nothing ts names depth begun = record { parts = refl; fits = tt; began = record { counted = omega arith; few = λ le. le } }

-- STATEMENTS AFTER THEIR FIRST WORD

abbrev Ended : Declared → Depth → Progress → Pair × Progress → Type 0
Ended names depth at x =
    (at.tokens ≡ Mark sign.OpenBrace ∷ Key word.Ok ∷ Mark sign.OpenBrace ∷ statements_written names x.0.0
    (Mark sign.CloseBrace ∷ Key word.Else ∷ Mark sign.OpenBrace ∷ statements_written names x.0.1
    (Mark sign.CloseBrace ∷ Mark sign.CloseBrace ∷ x.1.tokens)))
    × (HasRoom depth × HasRoom (deeper depth) × StatementsFit names (deeper (deeper depth)) x.0.0 × StatementsFit names (deeper (deeper depth)) x.0.1)
    × Began at.begun x.1.begun (statements_count x.0.0 + statements_count x.0.1)

ends-took : (names : Declared) (blocks : Blocks) → RowsTake names blocks → (depth : Depth) (at : Progress)
    → IfSome (read_ends blocks depth at) (Ended names depth at)
ends-took names blocks take depth at =
    IfSome-bind (after_open depth at.tokens) _ _ _ (after_open-took depth at.tokens) (λ o p.
    IfSome-bind (after_ok o.1) _ _ _ (after_ok-took o.1) (λ r e.
    IfSome-bind (read_branches blocks o.0 o.0 (progress_to r at.begun)) _ _ _ (branches-took names blocks take o.0 o.0 (progress_to r at.begun)) (λ ab q.
    IfSome-bind (after_close ab.1.tokens) _ _ _ (after_close-took ab.1.tokens) (λ s f. (
      rw (p.0, e, q.parts, f) refl,
      (
        p.2,
        subst (λ (d : Depth). HasRoom d) p.1 q.room,
        subst (λ (d : Depth). StatementsFit names (deeper d) ab.0.0) p.1 q.fits,
        subst (λ (d : Depth). StatementsFit names (deeper d) ab.0.1) p.1 q.other_fits,
      ),
      q.began,
    )))))

phase-took : (names : Declared) (blocks : Blocks) → RowsTake names blocks → (depth : Depth) (p : Phase) (k : Keyword) (at : Progress) (ts : List Token)
    → Key k ∷ ts ≡ phase_written p at.tokens
    → IfSome (read_phase blocks depth p at) (AfterTook names depth k (progress_to ts at.begun))
phase-took names blocks take depth p k at ts e =
    IfSome-bind (read_ends blocks depth at) _ _ _ (ends-took names blocks take depth at) (λ ab q.
    record {
      parts = e ∙ ap (λ (rest : List Token). phase_written p rest) q.0;
      fits = q.1;
      counted = omega (arith, q.2.counted);
      few = q.2.few;
    })

send-took : (names : Declared) (ways : WaysOf) → WaysTake names ways → (depth : Depth) (at : Progress)
    → IfSome (read_send ways names depth at) (AfterTook names depth word.Send at)
send-took names ways take depth at =
    IfSome-bind (read_command names at.tokens) _ _ _ (command-took names at.tokens) (λ c p.
    IfSome-bind (after_open depth c.1) _ _ _ (after_open-took depth c.1) (λ o q.
    IfSome-bind (ways o.0 (order_of names.kind c.0.ask) (progress_to o.1 at.begun)) _ _ _ (take o.0 (order_of names.kind c.0.ask) (progress_to o.1 at.begun))
    (λ w r.
    IfSome-bind (after_close w.1.tokens) _ _ _ (after_close-took w.1.tokens) (λ s e.
    record {
      parts = rw (p.0, q.0, r.parts, e) refl;
      fits = (p.1, q.2, subst (λ (d : Depth). WaysFit names d (order_of names.kind c.0.ask) w.0) q.1 r.fits);
      counted = omega (arith, r.began.counted);
      few = r.began.few;
    }))))

if-took : (names : Declared) (blocks : Blocks) → RowsTake names blocks → (depth : Depth) (at : Progress)
    → IfSome (read_if blocks names depth at) (AfterTook names depth word.If at)
if-took names blocks take depth at =
    IfSome-bind (read_condition names at.tokens) _ _ _ (condition-took names at.tokens) (λ c p.
    IfSome-bind (read_branches blocks depth depth (progress_to c.1 at.begun)) _ _ _ (branches-took names blocks take depth depth (progress_to c.1 at.begun))
    (λ ab q.
    record {
      parts = rw (p.0, q.parts) refl;
      fits = (p.1, q.room, q.fits, q.other_fits);
      counted = omega (arith, q.began.counted);
      few = q.began.few;
    }))

loop-took : (names : Declared) (blocks : Blocks) → RowsTake names blocks → (depth : Depth) (at : Progress)
    → IfSome (read_loop blocks depth at) (AfterTook names depth word.Loop at)
loop-took names blocks take depth at =
    IfSome-test (nat_lt depth.loops max_loops) _ _ (λ e.
    IfSome-bind (read_count at.tokens) _ _ _ (count-took at.tokens) (λ n p.
    IfSome-bind (read_branches blocks (in_loop depth) depth (progress_to n.1 at.begun)) _ _ _
    (branches-took names blocks take (in_loop depth) depth (progress_to n.1 at.begun)) (λ ab q.
    record {
      parts = rw (p.0, q.parts) refl;
      fits = (p.1, p.2, ltb-true depth.loops max_loops e, q.room, q.fits, q.other_fits);
      counted = omega (arith, q.began.counted);
      few = q.began.few;
    })))

one_more : (begun : ℕ) → begun + 1 ≡ begun + 1
one_more begun = refl

flag_statement-took : (names : Declared) (depth : Depth) (k : Keyword) (make : ℕ → Statement) (at : Progress)
    → ((f : ℕ) (ts : List Token) → statement_written names (make f) ts ≡ Key k ∷ Name (get_or names.flags f []) ∷ ts)
    → ((f : ℕ) → f < length names.flags → StatementFits names depth (make f)) → ((f : ℕ) → statement_count (make f) ≡ 1)
    → IfSome (moved make at.begun (read_flag names at.tokens)) (AfterTook names depth k at)
flag_statement-took names depth k make at written fits one =
    IfSome-bind (read_flag names at.tokens) _ _ _ (flag-took names at.tokens) (λ f p.
    record {
      parts = ap (λ (ts : List Token). Key k ∷ ts) p.0 ∙ sym (written f.0 f.1);
      fits = fits f.0 p.1;
      counted = omega (arith, one f.0);
      few = λ le. le;
    })

let_statement-took : (names : Declared) (depth : Depth) (at : Progress)
    → IfSome (moved setting at.begun (read_let names at.tokens)) (AfterTook names depth word.Let at)
let_statement-took names depth at =
    IfSome-bind (read_let names at.tokens) _ _ _ (let-took names at.tokens) (λ l p. record { parts = p.0; fits = p.1; counted = refl; few = λ le. le })

fault_statement-took : (names : Declared) (depth : Depth) (at : Progress)
    → IfSome (moved fault at.begun (read_fault at.tokens)) (AfterTook names depth word.Fault at)
fault_statement-took names depth at =
    IfSome-bind (read_fault at.tokens) _ _ _ (fault-took at.tokens) (λ n p. record { parts = rw p.0 refl; fits = p.1; counted = refl; few = λ le. le })

lines_statement-took : (names : Declared) (depth : Depth) (at : Progress)
    → IfSome (moved bus_lines at.begun (read_width names.kind at.tokens)) (AfterTook names depth word.BusLines at)
lines_statement-took names depth at =
    IfSome-bind (read_width names.kind at.tokens) _ _ _ (width-took names.kind at.tokens) (λ w p.
    record { parts = ap (λ (ts : List Token). Key word.BusLines ∷ ts) p.0; fits = p.1; counted = refl; few = λ le. le })

receive_statement-took : (names : Declared) (blocks : Blocks) → RowsTake names blocks → (depth : Depth) (at : Progress)
    → IfSome (read_receive at.tokens >>= λ p. read_phase blocks depth p.0 (progress_to p.1 at.begun)) (AfterTook names depth word.Recv at)
receive_statement-took names blocks take depth at =
    IfSome-bind (read_receive at.tokens) _ _ _ (receive-took at.tokens)
    (λ p e. phase-took names blocks take depth p.0 word.Recv (progress_to p.1 at.begun) at.tokens e)

after-took : (names : Declared) (blocks : Blocks) (ways : WaysOf) → RowsTake names blocks → WaysTake names ways → (depth : Depth) (k : Keyword) (at : Progress)
    → starts k depth ≡ true → IfSome (read_after blocks ways names depth k at) (AfterTook names depth k at)
after-took names blocks ways rows take depth word.Send at e = send-took names ways take depth at
after-took names blocks ways rows take depth word.Recv at e = receive_statement-took names blocks rows depth at
after-took names blocks ways rows take depth word.Give at e = phase-took names blocks rows depth phases.GiveBlocks word.Give at at.tokens refl
after-took names blocks ways rows take depth word.Wait at e = phase-took names blocks rows depth phases.Wait word.Wait at at.tokens refl
after-took names blocks ways rows take depth word.Let at e = let_statement-took names depth at
after-took names blocks ways rows take depth word.If at e = if-took names blocks rows depth at
after-took names blocks ways rows take depth word.Set at e = flag_statement-took names depth word.Set set at (λ f ts. refl) (λ f lt. lt) (λ f. refl)
after-took names blocks ways rows take depth word.Clear at e = flag_statement-took names depth word.Clear clear at (λ f ts. refl) (λ f lt. lt) (λ f. refl)
after-took names blocks ways rows take depth word.BusLines at e = lines_statement-took names depth at
after-took names blocks ways rows take depth word.Loop at e = loop-took names blocks rows depth at
after-took names blocks ways rows take depth word.Break at e = record { parts = refl; fits = ltb-true 0 depth.loops e; counted = refl; few = λ le. le }
after-took names blocks ways rows take depth word.Done at e = record { parts = refl; fits = tt; counted = refl; few = λ le. le }
after-took names blocks ways rows take depth word.Fault at e = fault_statement-took names depth at
after-took names blocks ways rows take depth k at e = tt

-- STATEMENTS IN A ROW

record StatementTook (names : Declared) (depth : Depth) (ts : List Token) (begun : ℕ) (x : Statement × Progress) : Type 0 where
  parts : ts ≡ statement_written names x.0 x.1.tokens
  fits : StatementFits names depth x.0
  began : Began begun x.1.begun (statement_count x.0)

statement-took : (names : Declared) (blocks : Blocks) (ways : WaysOf) → RowsTake names blocks → WaysTake names ways
    → (depth : Depth) (ts : List Token) (begun : ℕ) → IfSome (read_statement blocks ways names depth ts begun) (StatementTook names depth ts begun)
statement-took names blocks ways rows take depth (Key k ∷ ts) begun =
    IfSome-test (starts k depth && nat_lt begun max_statements) _ _ (λ e.
    let p = both (starts k depth) (nat_lt begun max_statements) e in
    let lt = ltb-true begun max_statements p.1 in
    IfSome-map (read_after blocks ways names depth k (progress_to ts (begun + 1))) _ _
    (after-took names blocks ways rows take depth k (progress_to ts (begun + 1)) p.0) (λ x q.
    record { parts = q.parts; fits = q.fits; began = record { counted = omega (arith, q.counted); few = λ le. q.few (omega (arith, lt)) } }))
statement-took names blocks ways rows take depth ts begun = tt

more_rows-took : (names : Declared) (blocks : Blocks) (ways : WaysOf) → RowsTake names blocks → WaysTake names ways → (depth : Depth) (at : Progress) (c : Bool)
    → IfSome (cond c (Some (nothing, at)) (read_statement blocks ways names depth at.tokens at.begun >>= λ s. blocks depth s.1
    >>= λ rest. Some (first s.0 rest.0, rest.1))) (RowTook names depth at)
more_rows-took names blocks ways rows take depth at true = closed_nothing at.tokens names depth at.begun
more_rows-took names blocks ways rows take depth at false =
    IfSome-bind (read_statement blocks ways names depth at.tokens at.begun) _ _ _ (statement-took names blocks ways rows take depth at.tokens at.begun) (λ s p.
    IfSome-bind (blocks depth s.1) _ _ _ (rows depth s.1) (λ r q.
    record {
      parts = rw (p.parts, q.parts) refl;
      fits = (p.fits, q.fits);
      began = Began-then _ _ _ _ _ p.began q.began;
    }))

-- WAYS

last_way-took : (names : Declared) (blocks : Blocks) → RowsTake names blocks → (depth : Depth) (order : Option Order) (ts : List Token) (begun : ℕ)
    → IfSome (last_way blocks depth (progress_to ts begun)) (WaysTook names depth order (progress_to (Key word.Else ∷ ts) begun))
last_way-took names blocks rows depth order ts begun =
    IfSome-bind (read_block blocks depth (progress_to ts begun)) _ _ _ (block-took names blocks rows depth (progress_to ts begun)) (λ b p.
    record { parts = rw p.parts refl; fits = (p.room, p.fits); began = p.began })

record CaseTook (names : Declared) (depth : Depth) (order : Option Order) (at : Progress) (x : Guarded × Progress) : Type 0 where
  parts : at.tokens ≡ guards_written x.0.0 (Mark sign.OpenBrace ∷ statements_written names x.0.1 (Mark sign.CloseBrace ∷ x.1.tokens))
  fits : GuardsFit order x.0.0 × HasRoom depth × StatementsFit names (deeper depth) x.0.1
  began : Began at.begun x.1.begun (statements_count x.0.1)

case-took : (names : Declared) (blocks : Blocks) → RowsTake names blocks → (depth : Depth) (order : Option Order) (at : Progress)
    → IfSome (read_case blocks depth order at) (CaseTook names depth order at)
case-took names blocks rows depth order at =
    IfSome-bind (read_guards order [] at.tokens) _ _ _ (read_guards-took order at.tokens) (λ gs p.
    IfSome-bind (read_block blocks depth (progress_to gs.1 at.begun)) _ _ _ (block-took names blocks rows depth (progress_to gs.1 at.begun)) (λ b q.
    record { parts = rw (p.0, q.parts) refl; fits = (p.1, q.room, q.fits); began = q.began }))

next_way-took : (names : Declared) (blocks : Blocks) (ways : WaysOf) → RowsTake names blocks → WaysTake names ways
    → (depth : Depth) (order : Option Order) (at : Progress) → IfSome (next_way blocks ways depth order at) (WaysTook names depth order at)
next_way-took names blocks ways rows take depth order at =
    IfSome-bind (read_case blocks depth order at) _ _ _ (case-took names blocks rows depth order at) (λ c p.
    IfSome-bind (ways depth order c.1) _ _ _ (take depth order c.1) (λ w r.
    record {
      parts = rw (p.parts, r.parts) refl;
      fits = (p.fits.0, p.fits.1, p.fits.2, r.fits);
      began = Began-then _ _ _ _ _ p.began r.began;
    }))

more_ways-took : (names : Declared) (blocks : Blocks) (ways : WaysOf) → RowsTake names blocks → WaysTake names ways
    → (depth : Depth) (order : Option Order) (ts : List Token) (begun : ℕ)
    → IfSome (more_ways blocks ways depth order ts begun) (WaysTook names depth order (progress_to ts begun))
more_ways-took names blocks ways rows take depth order (Key word.Else ∷ ts) begun = last_way-took names blocks rows depth order ts begun
more_ways-took names blocks ways rows take depth order ts begun = next_way-took names blocks ways rows take depth order (progress_to ts begun)

mutual
  unfolding read_statements

  pub statements-took : (left : ℕ) (names : Declared) → RowsTake names (read_statements left names)
  statements-took zero names depth at = tt
  statements-took (suc left) names depth at = more_rows-took names (read_statements left names) (read_ways left names) (statements-took left names)
      (ways-took left names) depth at (closes at.tokens)

  pub ways-took : (left : ℕ) (names : Declared) → WaysTake names (read_ways left names)
  ways-took zero names depth order at = tt
  ways-took (suc left) names depth order at = more_ways-took names (read_statements left names) (read_ways left names) (statements-took left names)
      (ways-took left names) depth order at.tokens at.begun
