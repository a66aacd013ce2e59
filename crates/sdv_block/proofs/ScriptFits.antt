-- A batch's statements meet the rules of scripts, where they are few enough.
use Rattle.std.proofs.Common.{◌≡◌, ℕ, zero, suc, ◌^◌, ◌≤◌, refl, Bool, true, false, arith, rules, List, [], ◌∷◌, length, Option, Some, None, eq-eqb}
use Rattle.std.specs.Prelude.{codes, IsTrue}
use Rattle.std.proofs.lemmas.Bool.{le-leb}
use Rattle.sdv_registers.specs.declared.kind.Kind.{Kind}
use Rattle.sdv_registers.specs.declared.kind.Kind.TheVariants.{Sd, Emmc}
use Rattle.sdv_card.specs.declared.event.Aim.TheVariants.{Plain, Rca}
use Rattle.sdv_card.specs.declared.command.Order.{Order}
use Rattle.sdv_card.specs.declared.command.Order.TheVariants.{ReadMultipleBlock, WriteMultipleBlock}
use Rattle.sdv_card.specs.declared.guard.Guard.TheVariants.{Answer, Clean, State as InState}
use Rattle.sdv_card.specs.declared.state.State.TheVariants.{Tran}
use Rattle.sdv_script.specs.declared.depth.Depth.{Depth}
use Rattle.sdv_graph.specs.declared.tree.Phase.TheVariants as phases
use Rattle.sdv_script.specs.Rules.{NamesFit, StatementFits, StatementsFit, statements_fall, statements_count, max_statements, ScriptFits}
use Rattle.sdv_graph.specs.Tree.{Statements, nothing, first, send, phase}
use Rattle.sdv_block.specs.declared.request.Request.{Request}
use Rattle.sdv_block.specs.declared.request.Request.TheVariants.{Read, Write}
use Rattle.sdv_block.specs.RequestStatements.{read_command, write_command, stop_command, status_command, only_if, fails, poll_statement, wait_statement, settle_statements, read_statements, write_statements, batch_statements}
use Rattle.sdv_block.specs.BringUpStatements.{batch_names, plain, sends_anyway, until_ready, app_statement, op_cond_statement, ready_statements, select_statements, capacity_statement, bring_up, capacity_test, batch_body}
use Rattle.sdv_graph.specs.GuardSuits.{fits_order}
use Rattle.sdv_card.specs.CommandTable.{is_counted, order_if, order_of}
use Rattle.sdv_script.specs.Rules.{place_from, ask_with, WaysFit, max_name}
use Rattle.sdv_block.proofs.LineTokens.{IsSmall, AreSmall, counted_command}

abbrev start : Depth
start = record { braces = 0; loops = 0 }

names_fit : (k : Kind) → NamesFit (batch_names k)
unfolding place_from
names_fit k = record { flags_new = (refl, omega arith, tt); numbers_new = (refl, omega arith, tt); few_flags = omega arith; few_numbers = omega arith }

read_fits : (k : Kind) (block : ℕ) → block ≤ 2 ^ 40 → StatementFits (batch_names k) start (send (read_command block 1) (only_if (Clean ∷ []) (codes "read")))
unfolding order_of
read_fits Sd block small = ((refl, (omega arith, small)), omega arith, (refl, omega arith, tt, (omega arith, (omega arith, tt))))
read_fits Emmc block small = ((refl, (omega arith, small)), omega arith, (refl, omega arith, tt, (omega arith, (omega arith, tt))))

-- COMMANDS of several blocks

counted_is : (index count : ℕ) → 1 ≤ count → count ≤ 65535 → is_counted (ask_with index Plain 0 count) index ≡ true
counted_is index count some most = rw (eq-eqb index index refl, eq-eqb count count refl, le-leb 1 count some, le-leb count 65535 most) refl

counted_order : (is : Bool) (order : Order) → is ≡ true → order_if is order None ≡ Some order
counted_order true order e = refl
counted_order false order e = absurd (let f : false ≡ true = e in cc)

read_many_order : (k : Kind) (count : ℕ) → 1 ≤ count → count ≤ 65535 → order_of k (ask_with 18 Plain 0 count) ≡ Some (ReadMultipleBlock count)
unfolding order_of
read_many_order Sd count some most = counted_order (is_counted (ask_with 18 Plain 0 count) 18) (ReadMultipleBlock count) (counted_is 18 count some most)
read_many_order Emmc count some most = counted_order (is_counted (ask_with 18 Plain 0 count) 18) (ReadMultipleBlock count) (counted_is 18 count some most)

write_many_order : (k : Kind) (count : ℕ) → 1 ≤ count → count ≤ 65535 → order_of k (ask_with 25 Plain 0 count) ≡ Some (WriteMultipleBlock count)
unfolding order_of
write_many_order Sd count some most = counted_order (is_counted (ask_with 25 Plain 0 count) 25) (WriteMultipleBlock count) (counted_is 25 count some most)
write_many_order Emmc count some most = counted_order (is_counted (ask_with 25 Plain 0 count) 25) (WriteMultipleBlock count) (counted_is 25 count some most)

-- a clean answer to them may be asked for
clean_ways : (k : Kind) (order : Order) (name : List ℕ) (o : Option Order) → o ≡ Some order → IsTrue (fits_order Clean (Some order)) → length name ≤ max_name →
    WaysFit (batch_names k) (record { braces = 1; loops = 0 }) o (only_if (Clean ∷ []) name)
clean_ways k order name o is fits short = rw is (fits, omega arith, tt, (omega arith, (short, tt)))

read_many_fits : (k : Kind) (block count : ℕ) → IsSmall block count →
    StatementFits (batch_names k) start (send (counted_command 18 block count) (only_if (Clean ∷ []) (codes "read")))
read_many_fits Sd block count small = (
  (refl, small.some, small.most, (omega arith, small.block_small)),
  omega arith,
  clean_ways Sd (ReadMultipleBlock count) (codes "read") _ (read_many_order Sd count small.some small.most) refl (omega arith),
)
read_many_fits Emmc block count small = (
  (refl, small.some, small.most, (omega arith, small.block_small)),
  omega arith,
  clean_ways Emmc (ReadMultipleBlock count) (codes "read") _ (read_many_order Emmc count small.some small.most) refl (omega arith),
)

write_many_fits : (k : Kind) (block count : ℕ) → IsSmall block count →
    StatementFits (batch_names k) start (send (counted_command 25 block count) (only_if (Clean ∷ []) (codes "write")))
write_many_fits Sd block count small = (
  (refl, small.some, small.most, (omega arith, small.block_small)),
  omega arith,
  clean_ways Sd (WriteMultipleBlock count) (codes "write") _ (write_many_order Sd count small.some small.most) refl (omega arith),
)
write_many_fits Emmc block count small = (
  (refl, small.some, small.most, (omega arith, small.block_small)),
  omega arith,
  clean_ways Emmc (WriteMultipleBlock count) (codes "write") _ (write_many_order Emmc count small.some small.most) refl (omega arith),
)

stop_read_fits : (k : Kind) → StatementFits (batch_names k) start (send stop_command (only_if (Answer ∷ []) (codes "read")))
unfolding order_of
stop_read_fits Sd = search rules parts 30
stop_read_fits Emmc = search rules parts 30

stop_write_fits : (k : Kind) → StatementFits (batch_names k) start (send stop_command (only_if (Clean ∷ []) (codes "write")))
unfolding order_of
stop_write_fits Sd = search rules parts 30
stop_write_fits Emmc = search rules parts 30

poll_fits : (k : Kind) → StatementFits (batch_names k) start poll_statement
unfolding order_of
poll_fits Sd = search rules parts 30
poll_fits Emmc = search rules parts 30

-- PHASES AND WAITS

recv_fits : (k : Kind) → StatementFits (batch_names k) start (phase phases.ReceiveBlocks nothing (fails (codes "read")))
recv_fits Sd = search rules parts 10
recv_fits Emmc = search rules parts 10

wait_fits : (k : Kind) → StatementFits (batch_names k) start wait_statement
wait_fits Sd = search rules parts 12
wait_fits Emmc = search rules parts 12

write_fits : (k : Kind) (block : ℕ) → block ≤ 2 ^ 40 → StatementFits (batch_names k) start (send (write_command block 1) (only_if (Clean ∷ []) (codes "write")))
unfolding order_of
write_fits Sd block small = ((refl, (omega arith, small)), omega arith, (refl, omega arith, tt, (omega arith, (omega arith, tt))))
write_fits Emmc block small = ((refl, (omega arith, small)), omega arith, (refl, omega arith, tt, (omega arith, (omega arith, tt))))

give_fits : (k : Kind) → StatementFits (batch_names k) start (phase phases.GiveBlocks nothing (fails (codes "write")))
give_fits Sd = search rules parts 10
give_fits Emmc = search rules parts 10

status_fits : (k : Kind) → StatementFits (batch_names k) start (send status_command (only_if (Clean ∷ InState Tran ∷ []) (codes "write")))
unfolding order_of
status_fits Sd = search rules parts 30
status_fits Emmc = search rules parts 30

-- REQUESTS

settle_fit : (k : Kind) (rest : Statements) → StatementsFit (batch_names k) start rest → StatementsFit (batch_names k) start (settle_statements rest)
settle_fit k rest fit = (wait_fits k, (status_fits k, fit))

reading_fits : (k : Kind) (block count : ℕ) (rest : Statements) → IsSmall block count → StatementsFit (batch_names k) start rest →
    StatementsFit (batch_names k) start (read_statements block count rest)
reading_fits k block zero rest small fit = absurd (let le = small.some in omega (arith, le))
reading_fits k block (suc zero) rest small fit = (read_fits k block small.block_small, (recv_fits k, fit))
reading_fits k block (suc (suc n)) rest small fit = (read_many_fits k block (suc (suc n)) small, (recv_fits k, (stop_read_fits k, (poll_fits k, fit))))

writing_fits : (k : Kind) (block count : ℕ) (rest : Statements) → IsSmall block count → StatementsFit (batch_names k) start rest →
    StatementsFit (batch_names k) start (write_statements block count rest)
writing_fits k block zero rest small fit = absurd (let le = small.some in omega (arith, le))
writing_fits k block (suc zero) rest small fit = (write_fits k block small.block_small, (give_fits k, settle_fit k rest fit))
writing_fits k block (suc (suc n)) rest small fit = (write_many_fits k block (suc (suc n)) small, (give_fits k, (stop_write_fits k, settle_fit k rest fit)))

requests_fit : (k : Kind) (rs : List Request) → AreSmall rs → StatementsFit (batch_names k) start (batch_statements rs)
requests_fit k [] small = (tt, tt)
requests_fit k (Read block count ∷ rs) small = reading_fits k block count (batch_statements rs) small.0 (requests_fit k rs small.1)
requests_fit k (Write block count ∷ rs) small = writing_fits k block count (batch_statements rs) small.0 (requests_fit k rs small.1)

idle_fits : (k : Kind) → StatementFits (batch_names k) start (sends_anyway 0)
unfolding order_of
idle_fits Sd = search rules parts 30
idle_fits Emmc = search rules parts 30

if_cond_fits : StatementFits (batch_names Sd) start (sends_anyway 8)
unfolding order_of
if_cond_fits = search rules parts 30

app_fits : StatementFits (batch_names Sd) start (until_ready app_statement)
unfolding order_of
app_fits = search rules parts 30

op_cond_fits : StatementFits (batch_names Emmc) start (until_ready op_cond_statement)
unfolding order_of
op_cond_fits = search rules parts 30

cid_fits : (k : Kind) → StatementFits (batch_names k) start (send (plain 2 Plain 0) (only_if (Answer ∷ []) (codes "cid")))
unfolding order_of
cid_fits Sd = search rules parts 30
cid_fits Emmc = search rules parts 30

rca_fits : (k : Kind) → StatementFits (batch_names k) start (send (plain 3 Plain 0) (only_if (Clean ∷ []) (codes "rca")))
unfolding order_of
rca_fits Sd = search rules parts 30
rca_fits Emmc = search rules parts 30

csd_fits : (k : Kind) → StatementFits (batch_names k) start (send (plain 9 Rca 0) (only_if (Answer ∷ []) (codes "csd")))
unfolding order_of
csd_fits Sd = search rules parts 30
csd_fits Emmc = search rules parts 30

select_fits : (k : Kind) → StatementFits (batch_names k) start (send (plain 7 Rca 0) (only_if (Clean ∷ []) (codes "select")))
unfolding order_of
select_fits Sd = search rules parts 30
select_fits Emmc = search rules parts 30

blen_fits : (k : Kind) → StatementFits (batch_names k) start (send (plain 16 Plain 0) (only_if (Clean ∷ []) (codes "blen")))
unfolding order_of
blen_fits Sd = search rules parts 30
blen_fits Emmc = search rules parts 30

capacity_fits : (k : Kind) → StatementFits (batch_names k) start (capacity_statement k)
unfolding order_of
capacity_fits Sd = search rules parts 30
capacity_fits Emmc = search rules parts 30

test_fits : (k : Kind) (least : ℕ) → least ≤ 2 ^ 40 → StatementFits (batch_names k) start (capacity_test least)
test_fits k least small = ((omega arith, small), omega arith, tt, (omega arith, tt))

ready_fit : (k : Kind) (rest : Statements) → StatementsFit (batch_names k) start rest → StatementsFit (batch_names k) start (ready_statements k rest)
ready_fit Sd rest fit = (if_cond_fits, (app_fits, fit))
ready_fit Emmc rest fit = (op_cond_fits, fit)

bring_up_fits : (k : Kind) (rest : Statements) → StatementsFit (batch_names k) start rest → StatementsFit (batch_names k) start (bring_up k rest)
bring_up_fits k rest fit = (
  idle_fits k,
  ready_fit k (select_statements (first (capacity_statement k) rest))
      (cid_fits k, (rca_fits k, (csd_fits k, (select_fits k, (blen_fits k, (capacity_fits k, fit)))))),
)

-- no run falls off the end

requests_end : (rs : List Request) → statements_fall (batch_statements rs) ≡ false
requests_end [] = refl
requests_end (Read block zero ∷ rs) = requests_end rs
requests_end (Read block (suc zero) ∷ rs) = requests_end rs
requests_end (Read block (suc (suc n)) ∷ rs) = requests_end rs
requests_end (Write block zero ∷ rs) = requests_end rs
requests_end (Write block (suc zero) ∷ rs) = requests_end rs
requests_end (Write block (suc (suc n)) ∷ rs) = requests_end rs

bring_up_ends : (k : Kind) (rest : Statements) → statements_fall rest ≡ false → statements_fall (bring_up k rest) ≡ false
bring_up_ends Sd rest ends = ends
bring_up_ends Emmc rest ends = ends

pub batch_fits : (k : Kind) (least : ℕ) (rs : List Request) → least ≤ 2 ^ 40 → AreSmall rs → statements_count (batch_body k least rs) ≤ max_statements →
    ScriptFits (batch_names k) (batch_body k least rs)
batch_fits k least rs small each few = record {
  names_fit = names_fit k;
  statements_fit = bring_up_fits k (first (capacity_test least) (batch_statements rs)) (test_fits k least small, requests_fit k rs each);
  few = few;
  ends = bring_up_ends k (first (capacity_test least) (batch_statements rs)) (requests_end rs);
}
