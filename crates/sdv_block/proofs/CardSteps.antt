-- What the steps of a card say that reads and writes make.
use Rattle.std.proofs.Common.{◌≡◌, ℕ, zero, suc, ◌/◌, inl, inr, refl, sym, ap, ◌∙◌, subst, Bool, true, false, not, Some, None, ◌==◌, eqb-true, eq-eqb}
use Rattle.std.specs.Prelude.{IsTrue, bit_and, ◌&&◌}
use Rattle.std.proofs.lemmas.Nat.{and_assoc}
use Rattle.std.specs.Int.Bits.{and_zero_l}
use Rattle.sdv_registers.specs.declared.kind.Kind.{Kind}
use Rattle.sdv_registers.specs.declared.kind.Kind.TheVariants.{Sd, Emmc}
use Rattle.sdv_registers.specs.Status.{clean_mask, doubt_mask, state as state_field, is_clean as status_is_clean, has_doubt}
use Rattle.sdv_frames.specs.declared.reply.Expect.TheVariants.{R1 as ExpectR1}
use Rattle.sdv_frames.specs.declared.reply.Reply.TheVariants.{R1}
use Rattle.sdv_card.specs.declared.state.State.TheVariants.{Tran}
use Rattle.sdv_card.specs.declared.answer.Answer.{Answer}
use Rattle.sdv_card.specs.declared.answer.Answer.TheVariants.{TimeOut, Reply as Replied}
use Rattle.sdv_card.specs.declared.command.Order.{Order}
use Rattle.sdv_card.specs.declared.command.Order.TheVariants.{GoIdleState, SendOpCond, AllSendCid, SendRelativeAddress, DeselectCards, SendIfCond, SendCsd, SendCid, SdSendOpCond, StopTransmission, ReadSingleBlock, ReadMultipleBlock, WriteBlock, WriteMultipleBlock, SendStatus}
use Rattle.sdv_card.specs.declared.command.Row.{Row}
use Rattle.sdv_card.specs.declared.command.Row.TheVariants.{Cmd17, Cmd18, Cmd24, Cmd25, Cmd38}
use Rattle.sdv_card.specs.declared.command.Response.TheVariants.{CardStatus}
use Rattle.sdv_card.specs.declared.command.TakenAs.{TakenAs}
use Rattle.sdv_card.specs.declared.command.TakenAs.TheVariants.{By}
use Rattle.sdv_card.specs.declared.guard.Guard.TheVariants.{Clean, State as InState}
use Rattle.sdv_card.specs.Agrees.{TakenOrStayed}
use Rattle.sdv_card.specs.Card.{Card}
use Rattle.sdv_card.specs.CommandTable.{is_counted, order_if, order_of, order_expect}
use Rattle.sdv_card.specs.ScriptEvent.{SendCommand, Answered}
use Rattle.sdv_card.specs.declared.event.Aim.TheVariants.{Plain}
use Rattle.sdv_card.specs.declared.event.Ask.{Ask}
use Rattle.sdv_card.specs.Exchange.{RowAnswer, SettledAnswer, card_takes}
use Rattle.sdv_card.specs.Guards.{answer_passes}
use Rattle.sdv_card.specs.Legal.{SettledLegal, SendLegal, InBounds, Within}
use Rattle.sdv_card.specs.Settled.{Settled}
use Rattle.sdv_card.specs.States.{state_number}
use Rattle.sdv_card.specs.Step.{Sends}
use Rattle.sdv_card.specs.Taken.{Taken, SameCard, Begins, block_of, ContentsAfter}
use Rattle.sdv_card.specs.Takes.{taken_as_of, matches}
use Rattle.sdv_card.proofs.Members.{same_state}
use Rattle.sdv_card.proofs.Same.{same_both, settled_same, steps_keep_same}
use Rattle.sdv_card.proofs.Became.{Became, became}
use Rattle.sdv_card.proofs.OrdersOfAsks.{of_ask}
use Rattle.sdv_card.proofs.RowsOfOrders.{order_index, says}
use Rattle.sdv_script.specs.Rules.{ask_with}
use Rattle.sdv_block.specs.RequestStatements.{read_ask, write_ask, stop_ask, status_ask}

-- ITS OWN STEP changes neither the blocks nor an error that is still to be shown

pub settled_contents : (c t : Card) → Settled c t → c.contents ≡ t.contents
settled_contents c t (inl e) = ap (λ (v : Card). v.contents) e
settled_contents c t (inr x) = ap (λ (v : Card). v.contents) x.2

pub settled_error : (c t : Card) → Settled c t → c.unshown_error ≡ t.unshown_error
settled_error c t (inl e) = ap (λ (v : Card). v.unshown_error) e
settled_error c t (inr x) = ap (λ (v : Card). v.unshown_error) x.2

-- THE ORDERS of the asks

some_order : (o order : Order) → Some o ≡ Some order → order ≡ o
some_order o order e = cc

counted_order : (is : Bool) (o order : Order) → order_if is o None ≡ Some order → order ≡ o
counted_order true o order e = some_order o order e
counted_order false o order e = absurd (let f : None ≡ Some order = e in cc)

single_read : (k : Kind) (order : Order) → order_of k (read_ask 1) ≡ Some order → order ≡ ReadSingleBlock
unfolding order_of
single_read Sd order line = some_order ReadSingleBlock order line
single_read Emmc order line = some_order ReadSingleBlock order line

multiple_read : (k : Kind) (n : ℕ) (order : Order) → order_of k (ask_with 18 Plain 0 n) ≡ Some order → order ≡ ReadMultipleBlock n
unfolding order_of
multiple_read Sd n order line = counted_order (is_counted (ask_with 18 Plain 0 n) 18) (ReadMultipleBlock n) order line
multiple_read Emmc n order line = counted_order (is_counted (ask_with 18 Plain 0 n) 18) (ReadMultipleBlock n) order line

single_write : (k : Kind) (order : Order) → order_of k (write_ask 1) ≡ Some order → order ≡ WriteBlock
unfolding order_of
single_write Sd order line = some_order WriteBlock order line
single_write Emmc order line = some_order WriteBlock order line

multiple_write : (k : Kind) (n : ℕ) (order : Order) → order_of k (ask_with 25 Plain 0 n) ≡ Some order → order ≡ WriteMultipleBlock n
unfolding order_of
multiple_write Sd n order line = counted_order (is_counted (ask_with 25 Plain 0 n) 25) (WriteMultipleBlock n) order line
multiple_write Emmc n order line = counted_order (is_counted (ask_with 25 Plain 0 n) 25) (WriteMultipleBlock n) order line

stop_order : (k : Kind) (order : Order) → order_of k stop_ask ≡ Some order → order ≡ StopTransmission
unfolding order_of
stop_order Sd order line = some_order StopTransmission order line
stop_order Emmc order line = some_order StopTransmission order line

status_order : (k : Kind) (order : Order) → order_of k status_ask ≡ Some order → order ≡ SendStatus
unfolding order_of
status_order Sd order line = some_order SendStatus order line
status_order Emmc order line = some_order SendStatus order line

-- CLEAN ANSWERS leave no doubt

met_zero : (word wide narrow : ℕ) → bit_and wide narrow ≡ narrow → bit_and word wide ≡ 0 → bit_and word narrow ≡ 0
met_zero word wide narrow part none =
    ap (λ m. bit_and word m) (sym part) ∙ (sym (and_assoc narrow word wide) ∙ (ap (λ m. bit_and m narrow) none ∙ and_zero_l narrow))

part_of_clean : (k : Kind) → bit_and (clean_mask k) doubt_mask ≡ doubt_mask
part_of_clean Sd = refl
part_of_clean Emmc = refl

pub clean_word : (k : Kind) (word : ℕ) → status_is_clean k word ≡ true → has_doubt word ≡ false
clean_word k word clean = ap not (eq-eqb _ _ (met_zero word (clean_mask k) doubt_mask (part_of_clean k) (eqb-true _ _ clean)))

surely_taken : (row : Row) (argument : ℕ) (t u : Card) (doubt : Bool) → TakenOrStayed row argument t doubt u → doubt ≡ false → Taken row true argument t u
surely_taken row argument t u doubt (inl m) e = m
surely_taken row argument t u doubt (inr m) e = absurd (let f : true ≡ false = sym m.0 ∙ e in cc)

-- A CLEAN ANSWER to a command that begins a transfer: the card took it

-- a transfer of so many blocks began at the block that the argument names
pub record Begun (count argument : ℕ) (c u : Card) : Type 0 where
  pub same : SameCard c u
  pub contents : c.contents ≡ u.contents
  pub block : block_of u.block_unit argument ≡ u.next_block
  pub count_is : count ≡ u.announced

clean_taken : (k : Kind) (order : Order) (row : Row) (argument : ℕ) (t u : Card) (answer : Answer) → RowAnswer CardStatus order row argument t answer u →
    answer_passes k Clean answer ≡ true → Taken row true argument t u
clean_taken k order row argument t u (Replied (R1 index word)) a clean = surely_taken row argument t u (has_doubt word) a.card (clean_word k word clean)
clean_taken k order row argument t u (Replied reply) a clean = absurd a
clean_taken k order row argument t u answer a clean = absurd (let f : false ≡ true = clean in cc)

-- how a settled card takes an order that begins a transfer
abbrev Takes : Kind → Order → Row → ℕ → Answer → Type 0
Takes k order row argument answer = (app matched : Bool) (t u : Card) → SettledLegal (taken_as_of order app matched) t →
    SettledAnswer (taken_as_of order app matched) order argument t answer u → answer_passes k Clean answer ≡ true → Taken row true argument t u

takes_single_read : (k : Kind) (argument : ℕ) (answer : Answer) → Takes k ReadSingleBlock Cmd17 argument answer
takes_single_read k argument answer true matched t u legal a clean = absurd legal
takes_single_read k argument answer false matched t u legal a clean = clean_taken k ReadSingleBlock Cmd17 argument t u answer a clean

takes_multiple_read : (k : Kind) (n argument : ℕ) (answer : Answer) → Takes k (ReadMultipleBlock n) (Cmd18 n) argument answer
takes_multiple_read k n argument answer true matched t u legal a clean = absurd legal
takes_multiple_read k n argument answer false matched t u legal a clean = clean_taken k (ReadMultipleBlock n) (Cmd18 n) argument t u answer a clean

takes_single_write : (k : Kind) (argument : ℕ) (answer : Answer) → Takes k WriteBlock Cmd24 argument answer
takes_single_write k argument answer true matched t u legal a clean = absurd legal
takes_single_write k argument answer false matched t u legal a clean = clean_taken k WriteBlock Cmd24 argument t u answer a clean

takes_multiple_write : (k : Kind) (n argument : ℕ) (answer : Answer) → Takes k (WriteMultipleBlock n) (Cmd25 n) argument answer
takes_multiple_write k n argument answer true matched t u legal a clean = absurd legal
takes_multiple_write k n argument answer false matched t u legal a clean = clean_taken k (WriteMultipleBlock n) (Cmd25 n) argument t u answer a clean

module _ (k : Kind) (ask : Ask) (order : Order) (row : Row) (count argument : ℕ) (c u : Card) (answer : Answer) (clean : answer_passes k Clean answer ≡ true)
    (ordered : (o : Order) → order_of c.kind ask ≡ Some o → o ≡ order) (takes : Takes k order row argument answer)
    (begins : (t : Card) → Taken row true argument t u → Begins argument count u × (t.contents ≡ u.contents)) where
  begun_by : SendLegal ask argument c → Sends ask argument c answer u → Begun count argument c u
  begun_by legal s =
      let t : Card = s.exchange.settled_card in
      let m : Taken row true argument t u =
      takes t.app (matches t.rca (argument / 65536)) t u
      (subst (λ o. SettledLegal (card_takes t o argument) t) (ordered legal.order legal.asks.line) (legal.settled t s.exchange.settled))
      (subst (λ o. SettledAnswer (card_takes t o argument) o argument t answer u) (ordered s.order s.asks.line) s.exchange.answered) clean in
      let b = begins t m in
      record {
        same = same_both c t u (settled_same c t s.exchange.settled) m.same;
        contents = settled_contents c t s.exchange.settled ∙ b.1;
        block = b.0.block;
        count_is = b.0.count_is;
      }

multiple_read_begun : (k : Kind) (n argument : ℕ) (c u : Card) (answer : Answer) → answer_passes k Clean answer ≡ true →
    SendLegal (ask_with 18 Plain 0 n) argument c → Sends (ask_with 18 Plain 0 n) argument c answer u → Begun n argument c u
multiple_read_begun k n argument c u answer clean legal s =
    begun_by k (ask_with 18 Plain 0 n) (ReadMultipleBlock n) (Cmd18 n) n argument c u answer clean (multiple_read c.kind n)
    (takes_multiple_read k n argument answer) (λ t m. (m.blocks, m.contents)) legal s

pub read_begun : (k : Kind) (count argument : ℕ) (c u : Card) (answer : Answer) → answer_passes k Clean answer ≡ true →
    SendLegal (read_ask count) argument c → Sends (read_ask count) argument c answer u → Begun count argument c u
read_begun k zero argument c u answer clean legal s = multiple_read_begun k zero argument c u answer clean legal s
read_begun k (suc zero) argument c u answer clean legal s =
    begun_by k (read_ask 1) ReadSingleBlock Cmd17 1 argument c u answer clean (single_read c.kind) (takes_single_read k argument answer)
    (λ t m. (m.blocks, m.contents)) legal s
read_begun k (suc (suc n)) argument c u answer clean legal s = multiple_read_begun k (suc (suc n)) argument c u answer clean legal s

multiple_write_begun : (k : Kind) (n argument : ℕ) (c u : Card) (answer : Answer) → answer_passes k Clean answer ≡ true →
    SendLegal (ask_with 25 Plain 0 n) argument c → Sends (ask_with 25 Plain 0 n) argument c answer u → Begun n argument c u
multiple_write_begun k n argument c u answer clean legal s =
    begun_by k (ask_with 25 Plain 0 n) (WriteMultipleBlock n) (Cmd25 n) n argument c u answer clean (multiple_write c.kind n)
    (takes_multiple_write k n argument answer) (λ t m. (m.blocks, m.contents)) legal s

pub write_begun : (k : Kind) (count argument : ℕ) (c u : Card) (answer : Answer) → answer_passes k Clean answer ≡ true →
    SendLegal (write_ask count) argument c → Sends (write_ask count) argument c answer u → Begun count argument c u
write_begun k zero argument c u answer clean legal s = multiple_write_begun k zero argument c u answer clean legal s
write_begun k (suc zero) argument c u answer clean legal s =
    begun_by k (write_ask 1) WriteBlock Cmd24 1 argument c u answer clean (single_write c.kind) (takes_single_write k argument answer)
    (λ t m. (m.blocks, m.contents)) legal s
write_begun k (suc (suc n)) argument c u answer clean legal s = multiple_write_begun k (suc (suc n)) argument c u answer clean legal s

-- no command of a request is an erase or a switch

other_than : (n m : ℕ) → (n == m) ≡ false → n ≡ m → ⊥
other_than n m e is = let f : true ≡ false = sym (eq-eqb n m is) ∙ e in cc

-- the index of a command that neither erases nor switches
pub record Spares (index : ℕ) : Type 0 where
  pub no_erase : index ≡ 38 → ⊥
  pub no_switch : index ≡ 6 → ⊥

pub spares : (n : ℕ) → (n == 38) ≡ false → (n == 6) ≡ false → Spares n
spares n e f = record { no_erase = other_than n 38 e; no_switch = other_than n 6 f }

pub read_keeps : (count : ℕ) → Spares (read_ask count).index
read_keeps zero = spares 18 refl refl
read_keeps (suc zero) = spares 17 refl refl
read_keeps (suc (suc n)) = spares 18 refl refl

pub write_keeps : (count : ℕ) → Spares (write_ask count).index
write_keeps zero = spares 25 refl refl
write_keeps (suc zero) = spares 24 refl refl
write_keeps (suc (suc n)) = spares 25 refl refl

pub stop_keeps : Spares stop_ask.index
stop_keeps = spares 12 refl refl

pub status_keeps : Spares status_ask.index
status_keeps = spares 13 refl refl

-- THE BLOCKS that reads and writes address
pub read_within : (count position argument : ℕ) (c : Card) → InBounds (SendCommand (read_ask count) position argument) c → Within c position argument count
read_within zero position argument c w = w
read_within (suc zero) position argument c w = w
read_within (suc (suc n)) position argument c w = w

pub write_within : (count position argument : ℕ) (c : Card) → InBounds (SendCommand (write_ask count) position argument) c → Within c position argument count
write_within zero position argument c w = w
write_within (suc zero) position argument c w = w
write_within (suc (suc n)) position argument c w = w

-- A CLEAN ANSWER TO A STOP: an error that is still to be shown stays so

unshown : (error shown after : Bool) → after ≡ (error && not shown) → shown ≡ false → error ≡ after
unshown true false after e f = sym e
unshown false shown after e f = sym e
unshown true true after e f = absurd (let g : true ≡ false = f in cc)

stop_heard : (k : Kind) (app matched : Bool) (argument : ℕ) (t u : Card) (answer : Answer) →
    SettledAnswer (taken_as_of StopTransmission app matched) StopTransmission argument t answer u →
    answer_passes k Clean answer ≡ true → t.unshown_error ≡ u.unshown_error
stop_heard k true matched argument t u answer a clean = absurd a
stop_heard k false matched argument t u (Replied (R1 index word)) a clean = unshown t.unshown_error (has_doubt word) u.unshown_error a.error.ends
    (clean_word k word clean)
stop_heard k false matched argument t u (Replied reply) a clean = absurd a
stop_heard k false matched argument t u answer a clean = absurd (let f : false ≡ true = clean in cc)

pub stop_keeps_error : (k : Kind) (argument : ℕ) (c u : Card) (answer : Answer) → Sends stop_ask argument c answer u → answer_passes k Clean answer ≡ true →
    c.unshown_error ≡ u.unshown_error
stop_keeps_error k argument c u answer s clean =
    let t : Card = s.exchange.settled_card in
    settled_error c t s.exchange.settled
    ∙ stop_heard k t.app (matches t.rca (argument / 65536)) argument t u answer
    (subst (λ o. SettledAnswer (card_takes t o argument) o argument t answer u) (stop_order c.kind s.order s.asks.line) s.exchange.answered) clean

-- A CLEAN ANSWER TO A STATUS REQUEST that shows transfer state: no error is still to be shown

shown_in_tran : (k : Kind) (word : ℕ) (t : Card) → status_is_clean k word ≡ true → (state_field word == state_number Tran) ≡ true →
    state_field word ≡ state_number t.state →
    (t.state ≡ Tran → IsTrue t.unshown_error → IsTrue (has_doubt word)) → t.unshown_error ≡ false
shown_in_tran k word t clean tran state must =
    none t.unshown_error (λ d. must (same_state t.state Tran (sym state ∙ eqb-true _ _ tran)) d)
  where
    none : (doubt : Bool) → (IsTrue doubt → IsTrue (has_doubt word)) → doubt ≡ false
    none false f = refl
    none true f = let g : true ≡ false = sym (f refl) ∙ clean_word k word clean in cc

status_heard : (k : Kind) (app matched : Bool) (argument : ℕ) (t u : Card) (answer : Answer) →
    SettledAnswer (taken_as_of SendStatus app matched) SendStatus argument t answer u →
    answer_passes k Clean answer ≡ true → answer_passes k (InState Tran) answer ≡ true → t.unshown_error ≡ false
status_heard k true matched argument t u (Replied (R1 index word)) a clean tran = shown_in_tran k word t clean tran a.state a.error.must
status_heard k false true argument t u (Replied (R1 index word)) a clean tran = shown_in_tran k word t clean tran a.state a.error.must
status_heard k false false argument t u (Replied (R1 index word)) a clean tran = absurd (let f : TimeOut ≡ Replied (R1 index word) = a.0 in cc)
status_heard k true matched argument t u (Replied reply) a clean tran = absurd a
status_heard k false true argument t u (Replied reply) a clean tran = absurd a
status_heard k false false argument t u (Replied reply) a clean tran = absurd (let f : TimeOut ≡ Replied reply = a.0 in cc)
status_heard k app matched argument t u answer a clean tran = absurd (let f : false ≡ true = clean in cc)

pub no_error_left : (k : Kind) (argument : ℕ) (c u : Card) (answer : Answer) → Sends status_ask argument c answer u →
    answer_passes k Clean answer ≡ true → answer_passes k (InState Tran) answer ≡ true → c.unshown_error ≡ false
no_error_left k argument c u answer s clean tran =
    let t : Card = s.exchange.settled_card in
    settled_error c t s.exchange.settled
    ∙ status_heard k t.app (matches t.rca (argument / 65536)) argument t u answer
    (subst (λ o. SettledAnswer (card_takes t o argument) o argument t answer u) (status_order c.kind s.order s.asks.line) s.exchange.answered) clean tran

-- NO COMMAND BUT AN ERASE changes the blocks of a card

expects_38 : (order : Order) (i : ℕ) → order_expect order i ≡ ExpectR1 38 → i ≡ 38
expects_38 GoIdleState i e = cc
expects_38 DeselectCards i e = cc
expects_38 AllSendCid i e = cc
expects_38 SendCsd i e = cc
expects_38 SendCid i e = cc
expects_38 SendOpCond i e = cc
expects_38 (SdSendOpCond high) i e = cc
expects_38 SendRelativeAddress i e = cc
expects_38 SendIfCond i e = cc
expects_38 order i e = cc

row_keeps : (row : Row) (t u : Card) → (row ≡ Cmd38 → ⊥) → ContentsAfter row t u → t.contents ≡ u.contents
row_keeps Cmd38 t u other e = absurd (other refl)
row_keeps row t u other e = e

became_keeps : (way : TakenAs) (argument : ℕ) (t u : Card) → (way ≡ By Cmd38 → ⊥) → Became way argument t u → t.contents ≡ u.contents
became_keeps way argument t u other (inl e) = ap (λ (v : Card). v.contents) e
became_keeps way argument t u other (inr (inl m)) = row_keeps m.row t u (λ e. other (m.by ∙ ap By e)) m.taken.contents
became_keeps way argument t u other (inr (inr m)) = m.stayed.contents

pub send_keeps : (ask : Ask) (argument : ℕ) (c u : Card) (answer : Answer) → (ask.index ≡ 38 → ⊥) → Sends ask argument c answer u →
    c.contents ≡ u.contents
send_keeps ask argument c u answer other s =
    let t : Card = s.exchange.settled_card in
    let way : TakenAs = card_takes t s.order argument in
    let index : ask.index ≡ order_index s.order = (of_ask c.kind ask s.order s.asks.line).index in
    settled_contents c t s.exchange.settled
    ∙ became_keeps way argument t u
    (λ e. other (index ∙ expects_38 s.order (order_index s.order) (says s.order t.app (matches t.rca (argument / 65536)) Cmd38 e).waits))
    (became way s.order argument t u answer s.exchange.answered)

pub send_same : (ask : Ask) (argument : ℕ) (c u : Card) (answer : Answer) → Sends ask argument c answer u → SameCard c u
send_same ask argument c u answer s = steps_keep_same c.kind (SendCommand ask 0 argument) c (Answered answer) u refl s
