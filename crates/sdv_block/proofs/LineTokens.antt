-- The tokens of a batch's text are those of its script.
use Rattle.std.proofs.Common.{◌≡◌, ℕ, zero, suc, ◌^◌, ◌≤◌, refl, ap, ◌∙◌, arith, true, List, [], ◌∷◌, ◌++◌, Some}
use Rattle.std.specs.Prelude.{codes}
use Rattle.std.specs.Fmt.{decimal}
use Rattle.sdv_registers.specs.declared.kind.Kind.{Kind}
use Rattle.sdv_registers.specs.declared.kind.Kind.TheVariants.{Sd, Emmc}
use Rattle.sdv_card.specs.declared.event.Aim.TheVariants.{Plain, Rca}
use Rattle.sdv_card.specs.declared.guard.Guard.TheVariants.{Answer, Clean, State as InState}
use Rattle.sdv_card.specs.declared.state.State.TheVariants.{Tran}
use Rattle.sdv_script.specs.declared.keyword.Keyword.TheVariants as word
use Rattle.sdv_graph.specs.declared.tree.ScriptCommand.{ScriptCommand}
use Rattle.sdv_graph.specs.declared.tree.Phase.TheVariants as phases
use Rattle.sdv_script.specs.Rules.{ask_with}
use Rattle.sdv_script.specs.Grammar.{kind_word, list_written, statement_written, statements_written, script_written}
use Rattle.sdv_script.specs.Tokens.{Token, Key, Number, tokens, first_tokens, after_gap, word as word_token, number_after}
use Rattle.sdv_graph.specs.Tree.{Statement, Statements, nothing, first, send, phase}
use Rattle.sdv_block.specs.declared.request.Request.{Request}
use Rattle.sdv_block.specs.declared.request.Request.TheVariants.{Read, Write}
use Rattle.sdv_block.specs.BatchText.{line, line_with, counted_line, card_text, ready_text, capacity_text, select_text, bring_up_text, settle_text, request_text, requests_text, batch_text}
use Rattle.sdv_block.specs.RequestStatements.{address_of, read_command, write_command, stop_command, status_command, only_if, fails, poll_statement, wait_statement, settle_statements, read_statements, write_statements, batch_statements}
use Rattle.sdv_block.specs.BringUpStatements.{batch_names, plain, sends_anyway, until_ready, app_statement, op_cond_statement, ready_statements, select_statements, capacity_statement, bring_up, capacity_test, batch_body}
use Rattle.sdv_block.proofs.NumberTokens.{number_tokens, no_comment_decimal}
use Rattle.sdv_block.proofs.TextJoins.{no_comment, space_breaks, line_breaks, tokens_joined}

-- A LINE

line_tokens : (text others : List ℕ) → no_comment text ≡ true → tokens (line text others) ≡ tokens text ++ tokens others
line_tokens text others none = tokens_joined 10 text others line_breaks none

line_with_tokens : (before behind others : List ℕ) (n : ℕ) → n ≤ 2 ^ 40 → no_comment before ≡ true → no_comment behind ≡ true →
    tokens (line_with before n behind others) ≡ tokens before ++ (Number n ∷ (tokens behind ++ tokens others))
line_with_tokens before behind others n small none_before none_behind =
    tokens_joined 32 before (decimal n ++ 32 ∷ line behind others) space_breaks none_before
    ∙ ap (λ (ts : List Token). tokens before ++ ts)
    (tokens_joined 32 (decimal n) (line behind others) space_breaks (no_comment_decimal n small)
    ∙ ap (λ (ts : List Token). ts ++ tokens (line behind others)) (number_tokens n small)
    ∙ ap (λ (ts : List Token). Number n ∷ ts) (line_tokens behind others none_behind))

-- a line that writes a statement
record Writes (k : Kind) (text : List ℕ) (s : Statement) : Type 0 where
  tokens_are : (others : List Token) → tokens text ++ others ≡ statement_written (batch_names k) s others

-- and one with a number, or with a block and a count
record WritesWith (k : Kind) (before : List ℕ) (n : ℕ) (behind : List ℕ) (s : Statement) : Type 0 where
  tokens_are : (others : List Token) → tokens before ++ (Number n ∷ (tokens behind ++ others)) ≡ statement_written (batch_names k) s others

record WritesCounted (k : Kind) (before : List ℕ) (block count : ℕ) (behind : List ℕ) (s : Statement) : Type 0 where
  tokens_are : (others : List Token) →
      tokens before ++ (Number block ∷ (tokens (codes "count") ++ (Number count ∷ (tokens behind ++ others)))) ≡ statement_written (batch_names k) s others

-- THE TOKENS OF EACH LINE, before others

read_line : (k : Kind) (block : ℕ) →
    WritesWith k (codes "send 17 at by hc") block (codes "{ clean { } else { fault read } }")
    (send (read_command block 1) (only_if (Clean ∷ []) (codes "read")))
unfolding tokens first_tokens after_gap word_token number_after
read_line Sd block = record { tokens_are = λ others. refl }
read_line Emmc block = record { tokens_are = λ others. refl }

-- a command of several blocks
abbrev pub counted_command : (index block count : ℕ) → ScriptCommand
counted_command index block count = record { ask = ask_with index Plain 0 count; address = Some (address_of block) }

read_many_line : (k : Kind) (block count : ℕ) →
    WritesCounted k (codes "send 18 at by hc") block count (codes "{ clean { } else { fault read } }")
    (send (counted_command 18 block count) (only_if (Clean ∷ []) (codes "read")))
unfolding tokens first_tokens after_gap word_token number_after
read_many_line Sd block count = record { tokens_are = λ others. refl }
read_many_line Emmc block count = record { tokens_are = λ others. refl }

write_many_line : (k : Kind) (block count : ℕ) →
    WritesCounted k (codes "send 25 at by hc") block count (codes "{ clean { } else { fault write } }")
    (send (counted_command 25 block count) (only_if (Clean ∷ []) (codes "write")))
unfolding tokens first_tokens after_gap word_token number_after
write_many_line Sd block count = record { tokens_are = λ others. refl }
write_many_line Emmc block count = record { tokens_are = λ others. refl }

stop_read_line : (k : Kind) → Writes k (codes "send 12 { answer { } else { fault read } }") (send stop_command (only_if (Answer ∷ []) (codes "read")))
unfolding tokens first_tokens after_gap word_token number_after
stop_read_line Sd = record { tokens_are = λ others. refl }
stop_read_line Emmc = record { tokens_are = λ others. refl }

stop_write_line : (k : Kind) → Writes k (codes "send 12 { clean { } else { fault write } }") (send stop_command (only_if (Clean ∷ []) (codes "write")))
unfolding tokens first_tokens after_gap word_token number_after
stop_write_line Sd = record { tokens_are = λ others. refl }
stop_write_line Emmc = record { tokens_are = λ others. refl }

poll_line : (k : Kind) →
    Writes k (codes "loop 1000 { send 13 { clean & state=tran { break } answer { } else { fault read } } } else { fault read }") poll_statement
unfolding tokens first_tokens after_gap word_token number_after
poll_line Sd = record { tokens_are = λ others. refl }
poll_line Emmc = record { tokens_are = λ others. refl }

recv_line : (k : Kind) → Writes k (codes "recv { ok { } else { fault read } }") (phase phases.ReceiveBlocks nothing (fails (codes "read")))
unfolding tokens first_tokens after_gap word_token number_after
recv_line Sd = record { tokens_are = λ others. refl }
recv_line Emmc = record { tokens_are = λ others. refl }

write_line : (k : Kind) (block : ℕ) →
    WritesWith k (codes "send 24 at by hc") block (codes "{ clean { } else { fault write } }")
    (send (write_command block 1) (only_if (Clean ∷ []) (codes "write")))
unfolding tokens first_tokens after_gap word_token number_after
write_line Sd block = record { tokens_are = λ others. refl }
write_line Emmc block = record { tokens_are = λ others. refl }

give_line : (k : Kind) → Writes k (codes "give { ok { } else { fault write } }") (phase phases.GiveBlocks nothing (fails (codes "write")))
unfolding tokens first_tokens after_gap word_token number_after
give_line Sd = record { tokens_are = λ others. refl }
give_line Emmc = record { tokens_are = λ others. refl }

wait_line : (k : Kind) → Writes k (codes "loop 1000 { wait { ok { break } else { } } } else { fault busy }") wait_statement
unfolding tokens first_tokens after_gap word_token number_after
wait_line Sd = record { tokens_are = λ others. refl }
wait_line Emmc = record { tokens_are = λ others. refl }

status_line : (k : Kind) →
    Writes k (codes "send 13 { clean & state=tran { } else { fault write } }") (send status_command (only_if (Clean ∷ InState Tran ∷ []) (codes "write")))
unfolding tokens first_tokens after_gap word_token number_after
status_line Sd = record { tokens_are = λ others. refl }
status_line Emmc = record { tokens_are = λ others. refl }

done_line : tokens (codes "done") ≡ Key word.Done ∷ []
unfolding tokens first_tokens after_gap word_token number_after
done_line = refl

no_tokens : tokens [] ≡ []
unfolding tokens first_tokens
no_tokens = refl

-- THE REQUESTS

-- the block of a request is a number of a script, and its count one of a transfer
pub record IsSmall (block count : ℕ) : Type 0 where
  pub block_small : block ≤ 2 ^ 40
  pub some : 1 ≤ count
  pub most : count ≤ 65535

abbrev pub AreSmall : List Request → Type 0
AreSmall [] = Unit {0}
AreSmall (Read block count ∷ rs) = IsSmall block count × AreSmall rs
AreSmall (Write block count ∷ rs) = IsSmall block count × AreSmall rs

counted_tokens : (before behind others : List ℕ) (block count : ℕ) → IsSmall block count → no_comment before ≡ true → no_comment behind ≡ true →
    tokens (counted_line before block count behind others) ≡ tokens before
    ++ (Number block ∷ (tokens (codes "count") ++ (Number count ∷ (tokens behind ++ tokens others))))
counted_tokens before behind others block count small none_before none_behind =
    let rest : List ℕ = line_with (codes "count") count behind others in
    let most : count ≤ 2 ^ 40 = (let le = small.most in omega (arith, le)) in
    tokens_joined 32 before (decimal block ++ 32 ∷ rest) space_breaks none_before
    ∙ ap (λ (ts : List Token). tokens before ++ ts)
    (tokens_joined 32 (decimal block) rest space_breaks (no_comment_decimal block small.block_small)
    ∙ ap (λ (ts : List Token). ts ++ tokens rest) (number_tokens block small.block_small)
    ∙ ap (λ (ts : List Token). Number block ∷ ts) (line_with_tokens (codes "count") behind others count most refl none_behind))

then_line : {k : Kind} {text : List ℕ} {s : Statement} {ts : List Token} (others : List ℕ) → no_comment text ≡ true → Writes k text s → tokens others ≡ ts →
    tokens (line text others) ≡ statement_written (batch_names k) s ts
then_line {k} {text} {s} {ts} others none writes later =
    line_tokens text others none ∙ writes.tokens_are (tokens others) ∙ ap (λ (ts : List Token). statement_written (batch_names k) s ts) later

then_line_with : {k : Kind} {before behind : List ℕ} {n : ℕ} {s : Statement} {ts : List Token} (others : List ℕ) → n ≤ 2 ^ 40 → no_comment before ≡ true →
    no_comment behind ≡ true →
    WritesWith k before n behind s → tokens others ≡ ts → tokens (line_with before n behind others) ≡ statement_written (batch_names k) s ts
then_line_with {k} {before} {behind} {n} {s} {ts} others small none_before none_behind writes later =
    line_with_tokens before behind others n small none_before none_behind ∙ writes.tokens_are (tokens others)
    ∙ ap (λ (ts : List Token). statement_written (batch_names k) s ts) later

then_counted : {k : Kind} {before behind : List ℕ} {block count : ℕ} {s : Statement} {ts : List Token} (others : List ℕ) → IsSmall block count →
    no_comment before ≡ true →
    no_comment behind ≡ true → WritesCounted k before block count behind s → tokens others ≡ ts →
    tokens (counted_line before block count behind others) ≡ statement_written (batch_names k) s ts
then_counted {k} {before} {behind} {block} {count} {s} {ts} others small none_before none_behind writes later =
    counted_tokens before behind others block count small none_before none_behind
    ∙ writes.tokens_are (tokens others) ∙ ap (λ (ts : List Token). statement_written (batch_names k) s ts) later

-- the text is that of these statements
abbrev pub TextOf : Kind → List ℕ → Statements → Type 0
TextOf k text s = tokens text ≡ statements_written (batch_names k) s []

settled_text : (k : Kind) (others : List ℕ) (rest : Statements) → TextOf k others rest → TextOf k (settle_text others) (settle_statements rest)
settled_text k others rest later = then_line _ refl (wait_line k) (then_line _ refl (status_line k) later)

read_written : (k : Kind) (block count : ℕ) (others : List ℕ) (rest : Statements) → IsSmall block count → TextOf k others rest →
    TextOf k (request_text (Read block count) others) (read_statements block count rest)
read_written k block zero others rest small later = absurd (let le = small.some in omega (arith, le))
read_written k block (suc zero) others rest small later =
    then_line_with _ small.block_small refl refl (read_line k block) (then_line _ refl (recv_line k) later)
read_written k block (suc (suc n)) others rest small later =
    then_counted _ small refl refl (read_many_line k block (suc (suc n))) (
    then_line _ refl (recv_line k) (then_line _ refl (stop_read_line k) (then_line _ refl (poll_line k) later)))

write_written : (k : Kind) (block count : ℕ) (others : List ℕ) (rest : Statements) → IsSmall block count → TextOf k others rest →
    TextOf k (request_text (Write block count) others) (write_statements block count rest)
write_written k block zero others rest small later = absurd (let le = small.some in omega (arith, le))
write_written k block (suc zero) others rest small later =
    then_line_with _ small.block_small refl refl (write_line k block) (then_line _ refl (give_line k) (settled_text k others rest later))
write_written k block (suc (suc n)) others rest small later =
    then_counted _ small refl refl (write_many_line k block (suc (suc n))) (
    then_line _ refl (give_line k) (then_line _ refl (stop_write_line k) (settled_text k others rest later)))

pub requests_written : (k : Kind) (rs : List Request) → AreSmall rs → TextOf k (requests_text rs (line (codes "done") [])) (batch_statements rs)
requests_written k [] small =
    line_tokens (codes "done") [] refl ∙ ap (λ (ts : List Token). ts ++ tokens []) done_line ∙ ap (λ (ts : List Token). Key word.Done ∷ ts) no_tokens
requests_written k (Read block count ∷ rs) small =
    read_written k block count (requests_text rs (line (codes "done") [])) (batch_statements rs) small.0 (requests_written k rs small.1)
requests_written k (Write block count ∷ rs) small =
    write_written k block count (requests_text rs (line (codes "done") [])) (batch_statements rs) small.0 (requests_written k rs small.1)

-- THE BRING-UP

idle_line : (k : Kind) → Writes k (codes "send 0 { else { } }") (sends_anyway 0)
unfolding tokens first_tokens after_gap word_token number_after
idle_line Sd = record { tokens_are = λ others. refl }
idle_line Emmc = record { tokens_are = λ others. refl }

if_cond_line : Writes Sd (codes "send 8 { else { } }") (sends_anyway 8)
unfolding tokens first_tokens after_gap word_token number_after
if_cond_line = record { tokens_are = λ others. refl }

app_line : Writes Sd (codes
    "loop 1000 { send 55 { app { send 41 0x40ff8000 { ocr.ready & ocr.block { set hc break } ocr.ready { break } answer { } else { fault lost41 } } } else { fault lost55 } } } else { fault busy }") (until_ready app_statement)
unfolding tokens first_tokens after_gap word_token number_after
app_line = record { tokens_are = λ others. refl }

op_cond_line : Writes Emmc
    (codes "loop 1000 { send 1 { ocr.ready & ocr.block { set hc break } ocr.ready { break } answer { } else { fault lost1 } } } else { fault busy }")
    (until_ready op_cond_statement)
unfolding tokens first_tokens after_gap word_token number_after
op_cond_line = record { tokens_are = λ others. refl }

cid_line : (k : Kind) → Writes k (codes "send 2 { answer { } else { fault cid } }") (send (plain 2 Plain 0) (only_if (Answer ∷ []) (codes "cid")))
unfolding tokens first_tokens after_gap word_token number_after
cid_line Sd = record { tokens_are = λ others. refl }
cid_line Emmc = record { tokens_are = λ others. refl }

rca_line : (k : Kind) → Writes k (codes "send 3 { clean { } else { fault rca } }") (send (plain 3 Plain 0) (only_if (Clean ∷ []) (codes "rca")))
unfolding tokens first_tokens after_gap word_token number_after
rca_line Sd = record { tokens_are = λ others. refl }
rca_line Emmc = record { tokens_are = λ others. refl }

csd_line : (k : Kind) → Writes k (codes "send 9 { answer { } else { fault csd } }") (send (plain 9 Rca 0) (only_if (Answer ∷ []) (codes "csd")))
unfolding tokens first_tokens after_gap word_token number_after
csd_line Sd = record { tokens_are = λ others. refl }
csd_line Emmc = record { tokens_are = λ others. refl }

select_line : (k : Kind) → Writes k (codes "send 7 { clean { } else { fault select } }") (send (plain 7 Rca 0) (only_if (Clean ∷ []) (codes "select")))
unfolding tokens first_tokens after_gap word_token number_after
select_line Sd = record { tokens_are = λ others. refl }
select_line Emmc = record { tokens_are = λ others. refl }

blen_line : (k : Kind) → Writes k (codes "send 16 { clean { } else { fault blen } }") (send (plain 16 Plain 0) (only_if (Clean ∷ []) (codes "blen")))
unfolding tokens first_tokens after_gap word_token number_after
blen_line Sd = record { tokens_are = λ others. refl }
blen_line Emmc = record { tokens_are = λ others. refl }

capacity_line : (k : Kind) → Writes k (capacity_text k) (capacity_statement k)
unfolding tokens first_tokens after_gap word_token number_after
capacity_line Sd = record { tokens_are = λ others. refl }
capacity_line Emmc = record { tokens_are = λ others. refl }

test_line : (k : Kind) (least : ℕ) → WritesWith k (codes "if cap >=") least (codes "{ } else { fault beyond }") (capacity_test least)
unfolding tokens first_tokens after_gap word_token number_after
test_line Sd least = record { tokens_are = λ others. refl }
test_line Emmc least = record { tokens_are = λ others. refl }

head_lines : (k : Kind) (others : List Token) → tokens (card_text k) ++ (tokens (codes "flags hc") ++ (tokens (codes "nums cap") ++ others))
    ≡ Key word.Card ∷ Key (kind_word k) ∷ list_written word.Flags (batch_names k).flags (list_written word.Nums (batch_names k).numbers others)
unfolding tokens first_tokens after_gap word_token number_after
head_lines Sd others = refl
head_lines Emmc others = refl

plain_card : (k : Kind) → no_comment (card_text k) ≡ true
plain_card Sd = refl
plain_card Emmc = refl

plain_capacity : (k : Kind) → no_comment (capacity_text k) ≡ true
plain_capacity Sd = refl
plain_capacity Emmc = refl

ready_written : (k : Kind) (others : List ℕ) (rest : Statements) → TextOf k others rest → TextOf k (ready_text k others) (ready_statements k rest)
ready_written Sd others rest later = then_line _ refl if_cond_line (then_line _ refl app_line later)
ready_written Emmc others rest later = then_line _ refl op_cond_line later

select_written : (k : Kind) (others : List ℕ) (rest : Statements) → TextOf k others rest → TextOf k (select_text others) (select_statements rest)
select_written k others rest later =
    then_line _ refl (cid_line k) (
    then_line _ refl (rca_line k) (
    then_line _ refl (csd_line k) (
    then_line _ refl (select_line k) (
    then_line _ refl (blen_line k) later))))

bring_up_written : (k : Kind) (others : List ℕ) (rest : Statements) → TextOf k others rest →
    tokens (bring_up_text k others) ≡ script_written (batch_names k) (bring_up k rest)
bring_up_written k others rest later =
    line_tokens (card_text k) _ (plain_card k)
    ∙ ap (λ (x : List Token). tokens (card_text k) ++ x) (line_tokens (codes "flags hc") _ refl
    ∙ ap (λ (x : List Token). tokens (codes "flags hc") ++ x) (line_tokens (codes "nums cap") _ refl))
    ∙ head_lines k _
    ∙ ap (λ (x : List Token). Key word.Card ∷ Key (kind_word k)
    ∷ list_written word.Flags (batch_names k).flags (list_written word.Nums (batch_names k).numbers x)) (
    then_line _ refl (idle_line k) (
    ready_written k _ (select_statements (first (capacity_statement k) rest)) (
    select_written k _ (first (capacity_statement k) rest) (
    then_line _ (plain_capacity k) (capacity_line k) later))))

-- THE WHOLE TEXT
pub batch_written : (k : Kind) (least : ℕ) (rs : List Request) → least ≤ 2 ^ 40 → AreSmall rs →
    tokens (batch_text k least rs) ≡ script_written (batch_names k) (batch_body k least rs)
batch_written k least rs small each =
    bring_up_written k _ (first (capacity_test least) (batch_statements rs)) (then_line_with _ small refl refl (test_line k least) (requests_written k rs each))
