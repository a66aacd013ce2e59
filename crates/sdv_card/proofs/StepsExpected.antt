-- What each step returns is what the host waits for.
use Rattle.std.proofs.Common.{◌≡◌, ℕ, ◌/◌, refl, subst, sym, Bool, Some}
use Rattle.sdv_registers.specs.declared.kind.Kind.{Kind}
use Rattle.sdv_frames.specs.declared.reply.Reply.TheVariants.{R1, R2, R3, R6, R7}
use Rattle.sdv_card.specs.declared.answer.Answer.{Answer}
use Rattle.sdv_card.specs.declared.answer.Answer.TheVariants.{Sent, TimeOut, Reply as Replied}
use Rattle.sdv_card.specs.declared.command.Order.{Order}
use Rattle.sdv_card.specs.declared.command.Row.{Row}
use Rattle.sdv_card.specs.declared.command.Row.TheVariants.{Cmd0, Cmd1, Cmd2, Cmd3Sd, Cmd7NotAddressed, Cmd8Sd, Cmd9, Cmd10, Acmd41}
use Rattle.sdv_card.specs.declared.command.TakenAs.{TakenAs}
use Rattle.sdv_card.specs.declared.command.TakenAs.TheVariants.{Forbidden, Ignored, By}
use Rattle.sdv_card.specs.Takes.{matches}
use Rattle.sdv_card.specs.CommandTable.{order_of, order_expect, expect_or_nothing}
use Rattle.sdv_card.specs.Responses.{response_of}
use Rattle.sdv_card.specs.ScriptEvent.{SendCommand, ReceiveBlocks, ReceiveRegister, GiveBlocks, AwaitReady, Answered, BlocksIn, RegisterIn, BlocksOut, Waited}
use Rattle.sdv_card.specs.Expected.{AnswerExpected}
use Rattle.sdv_card.specs.Card.{Card}
use Rattle.sdv_card.specs.Exchange.{RowAnswer, SettledAnswer, card_takes}
use Rattle.sdv_card.specs.Laws.{StepsAreExpected}
use Rattle.sdv_card.proofs.RowsOfOrders.{Says, WaitsFor, says, order_index, row_expect, ignored_waits}
use Rattle.sdv_card.proofs.OrdersOfAsks.{of_ask}

-- an answer to a row, where a card is addressed
row_answer : (order : Order) (row : Row) (argument : ℕ) (t u : Card) (answer : Answer) → (Cmd7NotAddressed ≡ row → ⊥) →
    RowAnswer (response_of row) order row argument t answer u → AnswerExpected (row_expect row) answer
row_answer order Cmd7NotAddressed argument t u answer other a = absurd (other refl)
row_answer order Cmd0 argument t u Sent other a = tt
row_answer order Cmd0 argument t u answer other a = absurd a
row_answer order Cmd2 argument t u (Replied (R2 bytes)) other a = tt
row_answer order Cmd2 argument t u (Replied reply) other a = absurd a.shown
row_answer order Cmd8Sd argument t u (Replied (R7 word)) other a = tt
row_answer order Cmd8Sd argument t u (Replied reply) other a = absurd a.shown
row_answer order Cmd9 argument t u (Replied (R2 bytes)) other a = tt
row_answer order Cmd9 argument t u (Replied reply) other a = absurd a.shown
row_answer order Cmd10 argument t u (Replied (R2 bytes)) other a = tt
row_answer order Cmd10 argument t u (Replied reply) other a = absurd a.shown
row_answer order Cmd1 argument t u (Replied (R3 word)) other a = tt
row_answer order Cmd1 argument t u (Replied reply) other a = absurd a
row_answer order (Acmd41 high) argument t u (Replied (R3 word)) other a = tt
row_answer order (Acmd41 high) argument t u (Replied reply) other a = absurd a
row_answer order Cmd3Sd argument t u (Replied (R6 word)) other a = tt
row_answer order Cmd3Sd argument t u (Replied reply) other a = absurd a
row_answer order row argument t u (Replied (R1 index word)) other a = a.same_index
row_answer order row argument t u (Replied reply) other a = absurd a
row_answer order row argument t u TimeOut other a = tt
row_answer order row argument t u answer other a = absurd a

row_waits : (order : Order) (row : Row) (argument : ℕ) (t u : Card) (answer : Answer) → WaitsFor order row →
    RowAnswer (response_of row) order row argument t answer u → AnswerExpected (order_expect order (order_index order)) answer
row_waits order Cmd7NotAddressed argument t u answer waits a = subst (λ v. AnswerExpected (order_expect order (order_index order)) v) a.0 waits
row_waits order row argument t u answer waits a =
    subst (λ v. AnswerExpected v answer) (sym waits) (row_answer order row argument t u answer (λ e. cc) a)

settled_waits : (way : TakenAs) (order : Order) (argument : ℕ) (t u : Card) (answer : Answer) →
    (way ≡ Ignored → AnswerExpected (order_expect order (order_index order)) TimeOut) → ((row : Row) → way ≡ By row → Says order row) →
    SettledAnswer way order argument t answer u → AnswerExpected (order_expect order (order_index order)) answer
settled_waits Forbidden order argument t u answer ignored by a = absurd a
settled_waits Ignored order argument t u answer ignored by a = subst (λ v. AnswerExpected (order_expect order (order_index order)) v) a.0 (ignored refl)
settled_waits (By row) order argument t u answer ignored by a = row_waits order row argument t u answer (by row refl).waits a

pub steps_are_expected : (k : Kind) → StepsAreExpected k
steps_are_expected k (SendCommand ask position argument) c (Answered answer) u kind s =
    let t : Card = s.exchange.settled_card in
    let m : Bool = matches t.rca (argument / 65536) in
    let e : order_of k ask ≡ Some s.order = subst (λ v. order_of v ask ≡ Some s.order) (sym kind) s.asks.line in
    let expected : AnswerExpected (order_expect s.order (order_index s.order)) answer =
    settled_waits (card_takes t s.order argument) s.order argument t u answer (ignored_waits s.order t.app m (order_index s.order))
    (says s.order t.app m) s.exchange.answered in
    subst (λ o. AnswerExpected (expect_or_nothing o ask.index) answer) (sym e)
    (subst (λ n. AnswerExpected (order_expect s.order n) answer) (sym (of_ask k ask s.order e).index) expected)
steps_are_expected k (ReceiveBlocks lines count) c (BlocksIn end blocks) u kind s = s.size
steps_are_expected k (ReceiveRegister lines count) c (RegisterIn end bytes) u kind s = s.size
steps_are_expected k (GiveBlocks lines blocks) c (BlocksOut end) u kind s = tt
steps_are_expected k AwaitReady c (Waited end) u kind s = tt
steps_are_expected k event c returned u kind s = absurd s
