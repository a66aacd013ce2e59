-- What answers say of an error of a write that is still to be shown.
use Rattle.std.proofs.Common.{◌≡◌, ℕ, inl, inr, refl, sym, ap, ◌∙◌, subst, Bool, true, false, not, take, drop, ◌==◌, eqb-true}
use Rattle.std.specs.Prelude.{◌&&◌, IsTrue}
use Rattle.sdv_registers.specs.declared.kind.Kind.{Kind}
use Rattle.sdv_registers.specs.declared.kind.Kind.TheVariants.{Sd, Emmc}
use Rattle.sdv_registers.specs.Status.{state as state_field, has_doubt, has_doubt_r6}
use Rattle.sdv_frames.specs.declared.reply.Reply.{Reply}
use Rattle.sdv_frames.specs.declared.reply.Reply.TheVariants.{R1, R2, R3, R6, R7}
use Rattle.sdv_card.specs.declared.state.State.{State}
use Rattle.sdv_card.specs.declared.state.State.TheVariants.{Tran}
use Rattle.sdv_card.specs.declared.answer.Answer.{Answer}
use Rattle.sdv_card.specs.declared.answer.Answer.TheVariants.{Sent, TimeOut, Reply as Replied, Damaged}
use Rattle.sdv_card.specs.declared.command.Order.{Order}
use Rattle.sdv_card.specs.declared.command.Order.TheVariants.{DeselectCards}
use Rattle.sdv_card.specs.declared.command.Response.{Response}
use Rattle.sdv_card.specs.declared.command.Response.TheVariants.{Absent, NotAddressed, CardStatus, NewAddress, Contents, Conditions}
use Rattle.sdv_card.specs.declared.command.Row.{Row}
use Rattle.sdv_card.specs.declared.command.Row.TheVariants.{Cmd2, Cmd3Sd, Cmd8Sd, Cmd9, Cmd10}
use Rattle.sdv_card.specs.declared.command.TakenAs.{TakenAs}
use Rattle.sdv_card.specs.declared.command.TakenAs.TheVariants.{Forbidden, Ignored, By}
use Rattle.sdv_card.specs.declared.command.Move.{Move}
use Rattle.sdv_card.specs.declared.event.Ask.{Ask}
use Rattle.sdv_card.specs.declared.event.Seen.TheVariants.{Status}
use Rattle.sdv_card.specs.Agrees.{StatusAgrees, AddressAgrees, ContentsShown}
use Rattle.sdv_card.specs.Card.{Card, blocks_of}
use Rattle.sdv_card.specs.Exchange.{RowAnswer, SettledAnswer, card_takes, unaddressed_answer}
use Rattle.sdv_card.specs.Lists.{May, IsOneOf}
use Rattle.sdv_card.specs.Responses.{response_of}
use Rattle.sdv_card.specs.Seen.{answer_seen}
use Rattle.sdv_card.specs.Settled.{Settled}
use Rattle.sdv_card.specs.States.{state_number}
use Rattle.sdv_card.specs.StateTable.{◌to◌, rows}
use Rattle.sdv_card.proofs.Members.{same_state}
use Rattle.sdv_review.specs.Confirmed.{StoredUnlessError, ConfirmedByAnswer, KeptByAnswer, StoredOnceConfirmed}
use Rattle.sdv_review.specs.Statuses.{confirms, keeps}

pub settled_error : (c t : Card) → Settled c t → c.unshown_error ≡ t.unshown_error
settled_error c t (inl e) = ap (λ (v : Card). v.unshown_error) e
settled_error c t (inr x) = ap (λ (v : Card). v.unshown_error) x.2

-- NO OTHER RESPONSES have a status

unaddressed : (order : Order) (reply : Reply) → unaddressed_answer order ≡ Replied reply → ⊥
unaddressed DeselectCards reply e = cc
unaddressed order reply e = cc

contents_r1 : (row : Row) (t : Card) (index word : ℕ) → ContentsShown row t (R1 index word) → ⊥
contents_r1 Cmd2 t index word s = s
contents_r1 Cmd8Sd t index word s = s
contents_r1 Cmd9 t index word s = s
contents_r1 Cmd10 t index word s = s
contents_r1 row t index word s = s

contents_r6 : (row : Row) (t : Card) (word : ℕ) → ContentsShown row t (R6 word) → ⊥
contents_r6 Cmd2 t word s = s
contents_r6 Cmd8Sd t word s = s
contents_r6 Cmd9 t word s = s
contents_r6 Cmd10 t word s = s
contents_r6 row t word s = s

new_address : (row : Row) → response_of row ≡ NewAddress → row ≡ Cmd3Sd
new_address Cmd3Sd e = refl
new_address row e = cc

-- CMD3 of an SD card is not taken in transfer state
not_from_tran : (k : Kind) (source target : State) → May (rows k Cmd3Sd) (source to target) → source ≡ Tran → ⊥
not_from_tran Sd source target m e = go m.one
  where
    go : IsOneOf (rows Sd Cmd3Sd) (source to target) → ⊥
    go (inl f) = let g = ap (λ (m : Move). state_number m.source) f in let h : state_number source ≡ 4 = ap state_number e in (let i = g ∙ h in cc)
    go (inr (inl f)) = let g = ap (λ (m : Move). state_number m.source) f in let h : state_number source ≡ 4 = ap state_number e in (let i = g ∙ h in cc)
    go (inr (inr n)) = n
not_from_tran Emmc source target m e = m.one

-- A STATUS THAT CONFIRMS

both : (a b : Bool) → a && b ≡ true → a ≡ true
both true b e = refl
both false b e = cc

in_tran : (ask : Ask) (state : ℕ) (doubt : Bool) (app switch : _) → confirms ask (Status state doubt app switch) ≡ true → (doubt ≡ false) × (state ≡ 4)
in_tran ask state true app switch e = absurd (cc)
in_tran ask state false app switch e = (refl, eqb-true state 4 (both (state == 4) (not (ask.index == 3)) e))

none_left : (doubt error : Bool) → doubt ≡ false → (IsTrue error → IsTrue doubt) → error ≡ false
none_left doubt false e f = refl
none_left doubt true e f = let g : true ≡ false = sym (f refl) ∙ e in cc

by_status : (k : Kind) (pending : Bool) (ask : Ask) (row : Row) (argument : ℕ) (t u : Card) (index word : ℕ) → StatusAgrees row argument t index word u
    → confirms ask (answer_seen k pending (Replied (R1 index word))) ≡ true → t.unshown_error ≡ false
by_status k pending ask row argument t u index word a e =
    let s = in_tran ask (state_field word) (has_doubt word) _ _ e in
    none_left (has_doubt word) t.unshown_error s.0 (a.error.must (same_state t.state Tran (sym a.state ∙ s.1)))

by_address : (k : Kind) (pending : Bool) (ask : Ask) (row : Row) (argument : ℕ) (t u : Card) (word : ℕ) → row ≡ Cmd3Sd → AddressAgrees row argument t word u
    → confirms ask (answer_seen k pending (Replied (R6 word))) ≡ true → t.unshown_error ≡ false
by_address k pending ask row argument t u word is a e =
    let s = in_tran ask (state_field word) (has_doubt_r6 word) _ _ e in
    let tran : t.state ≡ Tran = same_state t.state Tran (sym a.state ∙ s.1) in
    elim a.card [
      | inl p ↦ absurd (not_from_tran t.kind t.state u.state (subst (λ r. May (rows t.kind r) (t.state to u.state)) is p.card.state) tran)
      | inr m ↦ absurd (let g : true ≡ false = sym m.0 ∙ s.0 in cc)
    ]

by_row : (k : Kind) (pending : Bool) (response : Response) (ask : Ask) (order : Order) (row : Row) (argument : ℕ) (t u : Card) (answer : Answer)
    → (response ≡ NewAddress → row ≡ Cmd3Sd) → RowAnswer response order row argument t answer u → confirms ask (answer_seen k pending answer) ≡ true
    → t.unshown_error ≡ false
by_row k pending response ask order row argument t u Sent is a e = absurd (cc)
by_row k pending response ask order row argument t u TimeOut is a e = absurd (cc)
by_row k pending response ask order row argument t u (Damaged fault) is a e = absurd (cc)
by_row k pending response ask order row argument t u (Replied (R2 bytes)) is a e = absurd (cc)
by_row k pending response ask order row argument t u (Replied (R3 word)) is a e = absurd (cc)
by_row k pending response ask order row argument t u (Replied (R7 word)) is a e = absurd (cc)
by_row k pending CardStatus ask order row argument t u (Replied (R1 index word)) is a e = by_status k pending ask row argument t u index word a e
by_row k pending Absent ask order row argument t u (Replied (R1 index word)) is a e = absurd a
by_row k pending NotAddressed ask order row argument t u (Replied (R1 index word)) is a e = absurd (unaddressed order (R1 index word) a.0)
by_row k pending NewAddress ask order row argument t u (Replied (R1 index word)) is a e = absurd a
by_row k pending Contents ask order row argument t u (Replied (R1 index word)) is a e = absurd (contents_r1 row t index word a.shown)
by_row k pending Conditions ask order row argument t u (Replied (R1 index word)) is a e = absurd a
by_row k pending NewAddress ask order row argument t u (Replied (R6 word)) is a e = by_address k pending ask row argument t u word (is refl) a e
by_row k pending Absent ask order row argument t u (Replied (R6 word)) is a e = absurd a
by_row k pending NotAddressed ask order row argument t u (Replied (R6 word)) is a e = absurd (unaddressed order (R6 word) a.0)
by_row k pending CardStatus ask order row argument t u (Replied (R6 word)) is a e = absurd a
by_row k pending Contents ask order row argument t u (Replied (R6 word)) is a e = absurd (contents_r6 row t word a.shown)
by_row k pending Conditions ask order row argument t u (Replied (R6 word)) is a e = absurd a

by_way : (k : Kind) (pending : Bool) (way : TakenAs) (ask : Ask) (order : Order) (argument : ℕ) (t u : Card) (answer : Answer)
    → SettledAnswer way order argument t answer u → confirms ask (answer_seen k pending answer) ≡ true → t.unshown_error ≡ false
by_way k pending Forbidden ask order argument t u answer a e = absurd a
by_way k pending Ignored ask order argument t u answer a e =
    absurd (let f : confirms ask (answer_seen k pending TimeOut) ≡ true = subst (λ x. confirms ask (answer_seen k pending x) ≡ true) (sym a.0) e in cc)
by_way k pending (By row) ask order argument t u answer a e =
    by_row k pending (response_of row) ask order row argument t u answer (new_address row) a e

pub confirmed_by_answer : ConfirmedByAnswer
confirmed_by_answer ask argument c u answer pending s e =
    let t = s.exchange.settled_card in
    settled_error c t s.exchange.settled
    ∙ by_way c.kind pending (card_takes t s.order argument) ask s.order argument t u answer s.exchange.answered e

-- A RESPONSE WITHOUT A DOUBT

unshown : (error shown after : Bool) → after ≡ (error && not shown) → shown ≡ false → error ≡ after
unshown true false after e f = sym e
unshown false shown after e f = sym e
unshown true true after e f = absurd (let g : true ≡ false = f in cc)

no_doubt : (ask : Ask) (state : ℕ) (doubt : Bool) (app switch : _) → keeps ask (Status state doubt app switch) ≡ true → doubt ≡ false
no_doubt ask state true app switch e = cc
no_doubt ask state false app switch e = refl

kept_row : (k : Kind) (pending : Bool) (response : Response) (ask : Ask) (order : Order) (row : Row) (argument : ℕ) (t u : Card) (reply : Reply)
    → RowAnswer response order row argument t (Replied reply) u → keeps ask (answer_seen k pending (Replied reply)) ≡ true
    → t.unshown_error ≡ u.unshown_error
kept_row k pending Absent ask order row argument t u reply a e = absurd a
kept_row k pending NotAddressed ask order row argument t u reply a e = absurd (unaddressed order reply a.0)
kept_row k pending CardStatus ask order row argument t u (R1 index word) a e =
    unshown t.unshown_error (has_doubt word) u.unshown_error a.error.ends (no_doubt ask (state_field word) (has_doubt word) _ _ e)
kept_row k pending CardStatus ask order row argument t u reply a e = absurd a
kept_row k pending NewAddress ask order row argument t u (R6 word) a e = a.error
kept_row k pending NewAddress ask order row argument t u reply a e = absurd a
kept_row k pending Conditions ask order row argument t u (R3 word) a e = a.error
kept_row k pending Conditions ask order row argument t u reply a e = absurd a
kept_row k pending Contents ask order row argument t u reply a e = a.error

kept_way : (k : Kind) (pending : Bool) (way : TakenAs) (ask : Ask) (order : Order) (argument : ℕ) (t u : Card) (reply : Reply)
    → SettledAnswer way order argument t (Replied reply) u → keeps ask (answer_seen k pending (Replied reply)) ≡ true → t.unshown_error ≡ u.unshown_error
kept_way k pending Forbidden ask order argument t u reply a e = absurd a
kept_way k pending Ignored ask order argument t u reply a e = ap (λ (v : Card). v.unshown_error) a.1
kept_way k pending (By row) ask order argument t u reply a e = kept_row k pending (response_of row) ask order row argument t u reply a e

pub kept_by_answer : KeptByAnswer
kept_by_answer ask argument c u reply pending s e =
    let t = s.exchange.settled_card in
    settled_error c t s.exchange.settled
    ∙ kept_way c.kind pending (card_takes t s.order argument) ask s.order argument t u reply s.exchange.answered e

-- A WRITE PHASE that ended well

pub stored_unless_error : StoredUnlessError
stored_unless_error c u blocks size p none =
    elim p.stored [
      | inl s ↦ ap (λ n. take n (drop c.next_block (blocks_of c.mode.partition u.contents))) size ∙ s.stored
      | inr e ↦ absurd (let f : true ≡ false = e ∙ none in cc)
    ]

-- and the answer to the next command confirms it
pub stored_once_confirmed : StoredOnceConfirmed
stored_once_confirmed c u v blocks ask argument answer pending size p s e =
    stored_unless_error c u blocks size p (confirmed_by_answer ask argument u v answer pending s e)
