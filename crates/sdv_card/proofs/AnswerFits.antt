-- What a card's answer to an order is like, as far as a guard's verdict rests on it.
use Rattle.std.proofs.Common.{◌≡◌, ℕ, ◌%◌, ◌^◌, refl, subst, sym, Bool, true, false}
use Rattle.sdv_frames.specs.declared.reply.Reply.{Reply}
use Rattle.sdv_frames.specs.declared.reply.Reply.TheVariants.{R1, R7}
use Rattle.sdv_card.specs.declared.answer.Answer.{Answer}
use Rattle.sdv_card.specs.declared.answer.Answer.TheVariants.{Sent, TimeOut, Reply as Replied, Damaged}
use Rattle.sdv_card.specs.declared.command.Order.{Order}
use Rattle.sdv_card.specs.declared.command.Order.TheVariants.{DeselectCards}
use Rattle.sdv_card.specs.declared.command.Row.{Row}
use Rattle.sdv_card.specs.declared.command.Row.TheVariants.{Cmd8Sd, Cmd55}
use Rattle.sdv_card.specs.declared.command.Response.{Response}
use Rattle.sdv_card.specs.declared.command.Response.TheVariants.{NotAddressed}
use Rattle.sdv_card.specs.declared.command.TakenAs.{TakenAs}
use Rattle.sdv_card.specs.declared.command.TakenAs.TheVariants.{Forbidden, Ignored, By}
use Rattle.sdv_card.specs.Responses.{response_of}
use Rattle.sdv_card.specs.Card.{Card}
use Rattle.sdv_card.specs.Exchange.{RowAnswer, SettledAnswer, unaddressed_answer}
use Rattle.sdv_card.proofs.RowsOfOrders.{Says, same_app, same_if_cond, is_app_command, is_row_55, is_if_cond, is_row_8}

-- a status that answers CMD55 repeats its index
abbrev pub AppFits : Bool → Reply → Type 0
AppFits true (R1 index word) = index ≡ 55
AppFits app reply = Unit {0}

-- an answer to CMD8 of SD repeats what was sent
abbrev pub EchoFits : Bool → Reply → Type 0
EchoFits true (R7 word) = word % 2 ^ 12 ≡ 0x1aa
EchoFits true reply = ⊥
EchoFits false reply = Unit {0}

abbrev pub AnswerFits : Order → Answer → Type 0
AnswerFits order Sent = Unit {0}
AnswerFits order TimeOut = Unit {0}
AnswerFits order (Replied reply) = AppFits (is_app_command order) reply × EchoFits (is_if_cond order) reply
AnswerFits order (Damaged fault) = ⊥

app_fits : (order : Order) (row : Row) (argument : ℕ) (t u : Card) (reply : Reply) → RowAnswer (response_of row) order row argument t (Replied reply) u →
    AppFits (is_row_55 row) reply
app_fits order Cmd55 argument t u (R1 index word) a = a.same_index
app_fits order row argument t u reply a = tt

echo_fits : (order : Order) (row : Row) (argument : ℕ) (t u : Card) (reply : Reply) → RowAnswer (response_of row) order row argument t (Replied reply) u →
    EchoFits (is_row_8 row) reply
echo_fits order Cmd8Sd argument t u (R7 word) a = a.shown.echo
echo_fits order Cmd8Sd argument t u reply a = absurd a.shown
echo_fits order row argument t u reply a = tt

reply_fits : (order : Order) (row : Row) (argument : ℕ) (t u : Card) (reply : Reply) → Says order row →
    RowAnswer (response_of row) order row argument t (Replied reply) u → AnswerFits order (Replied reply)
reply_fits order row argument t u reply says a = (
  subst (λ b. AppFits b reply) (sym (same_app says)) (app_fits order row argument t u reply a),
  subst (λ b. EchoFits b reply) (sym (same_if_cond says)) (echo_fits order row argument t u reply a),
)

unaddressed_fits : (order : Order) → AnswerFits order (unaddressed_answer order)
unaddressed_fits DeselectCards = tt
unaddressed_fits order = tt

row_fits : (response : Response) (order : Order) (row : Row) (argument : ℕ) (t u : Card) (answer : Answer) → response ≡ response_of row → Says order row →
    RowAnswer response order row argument t answer u → AnswerFits order answer
row_fits NotAddressed order row argument t u answer is says a = subst (λ v. AnswerFits order v) a.0 (unaddressed_fits order)
row_fits response order row argument t u Sent is says a = tt
row_fits response order row argument t u TimeOut is says a = tt
row_fits response order row argument t u (Replied reply) is says a =
    reply_fits order row argument t u reply says (subst (λ r. RowAnswer r order row argument t (Replied reply) u) is a)
row_fits response order row argument t u (Damaged fault) is says a = a

pub answer_fits : (way : TakenAs) (order : Order) (argument : ℕ) (t u : Card) (answer : Answer) → ((row : Row) → way ≡ By row → Says order row) →
    SettledAnswer way order argument t answer u → AnswerFits order answer
answer_fits Forbidden order argument t u answer says a = absurd a
answer_fits Ignored order argument t u answer says a = subst (λ v. AnswerFits order v) a.0 tt
answer_fits (By row) order argument t u answer says a = row_fits (response_of row) order row argument t u answer refl (says row refl) a
