-- What comes of a row at a settled card is among what may follow it at the card's fields.
use Rattle.std.proofs.Common.{◌≡◌, ℕ, ◌⊎◌, inl, inr, refl, ap, subst, sym, ◌∙◌, Bool, true, false, not, List, [], ◌∷◌, ◌==◌, Option, Some, None, if◌then◌else◌, IsTrue}
use Rattle.sdv_registers.specs.declared.kind.Kind.{Kind}
use Rattle.sdv_registers.specs.declared.kind.Kind.TheVariants.{Sd, Emmc}
use Rattle.sdv_frames.specs.declared.reply.Reply.{Reply}
use Rattle.sdv_frames.specs.declared.reply.Reply.TheVariants.{R2, R7}
use Rattle.sdv_registers.specs.Status.{is_switch_error, rca as published_rca}
use Rattle.sdv_registers.specs.Ocr.{access_mode, is_block_addressed}
use Rattle.sdv_card.specs.declared.state.State.{State}
use Rattle.sdv_card.specs.declared.fields.Fields.{Fields}
use Rattle.sdv_card.specs.declared.event.Seen.TheVariants.{TimeOut as SeenTimeOut, Bare, Ocr, Status}
use Rattle.sdv_card.specs.declared.answer.Answer.{Answer}
use Rattle.sdv_card.specs.declared.answer.Answer.TheVariants.{TimeOut, Reply as Replied}
use Rattle.sdv_card.specs.declared.command.Order.{Order}
use Rattle.sdv_card.specs.declared.command.Order.TheVariants.{DeselectCards}
use Rattle.sdv_card.specs.declared.command.Row.{Row}
use Rattle.sdv_card.specs.declared.command.Row.TheVariants.{Cmd1, Cmd2, Cmd3Sd, Cmd8Sd, Cmd9, Cmd10, Cmd13, Cmd55, Acmd13, Acmd41}
use Rattle.sdv_card.specs.declared.command.Response.{Response}
use Rattle.sdv_card.specs.declared.command.Response.TheVariants.{Absent, NotAddressed, CardStatus, NewAddress, Conditions}
use Rattle.sdv_card.specs.Lists.{May}
use Rattle.sdv_card.specs.StateTable.{◌to◌, rows}
use Rattle.sdv_card.specs.RowRules.{matched_stayed}
use Rattle.sdv_card.specs.Responses.{response_of, row_index}
use Rattle.sdv_card.specs.Seen.{app_of, switch_of, answer_seen}
use Rattle.sdv_card.specs.Takes.{matches}
use Rattle.sdv_card.specs.Card.{Card, IsCard}
use Rattle.sdv_card.specs.Host.{Host, host_after_order}
use Rattle.sdv_card.specs.Taken.{Taken, Stayed}
use Rattle.sdv_card.specs.Agrees.{TakenOrStayed, AppShown, SwitchShown, Published, UnitShown, ContentsShown}
use Rattle.sdv_card.specs.Exchange.{TakenUnseen, Lost, unaddressed_answer}
use Rattle.sdv_card.specs.Shapes.{view}
use Rattle.sdv_card.specs.Outcomes.{branch, with_seen, taken, stayed, lost, statuses, status_seen, with_status, app_shown, switch_shown, unaddressed_seen}
use Rattle.sdv_card.proofs.Members.{here, there, May-append_left, May-append_right, May-map}
use Rattle.sdv_card.proofs.RowsOfOrders.{Says, row_rca}
use Rattle.sdv_card.proofs.TakenFields.{SameHost, Allowed, taken_law, stayed_law, stayed_cases, stayed_match, same_view, lost_law}
use Rattle.sdv_card.proofs.Matches.{GivenAddress, taken_unheard, taken_heard, same_unheard, same_status, same_unaddressed, published_matches, stayed_matches}

-- a settled card t, and an order by which it takes a row
pub record AtRow (k : Kind) (order : Order) (row : Row) (t : Card) : Type 0 where
  pub kind : k ≡ t.kind
  pub card : IsCard t
  pub says : Says order row
  pub given : GivenAddress row t.rca
  pub allowed : Allowed row t

-- the host after an answer
abbrev pub heard : Order → Answer → Host → Host
heard order answer h = host_after_order (Some order) answer h

-- an answer tells of a card alone
pub heard_host : (order : Order) (answer : Answer) (h : Host) → SameHost h (heard order answer h)
heard_host order answer h = record { lines = refl; flags = refl }

-- MATCHES, with the host after an answer

heard_rca : (order : Order) (row : Row) (answer : Answer) (h : Host) (b : Option ℕ) (ms : List Bool) → Says order row →
    May ms (matches b (row_rca row answer h.rca)) → May ms (matches b (heard order answer h).rca)
heard_rca order row answer h b ms says m = subst (λ n. May ms (matches b n)) (sym (says.rca answer h.rca)) m

heard_same : (order : Order) (row : Row) (answer : Answer) (h : Host) (a : Option ℕ) → Says order row →
    matches a h.rca ≡ matches a (row_rca row answer h.rca) → matches a h.rca ≡ matches a (heard order answer h).rca
heard_same order row answer h a says e = e ∙ sym (ap (λ n. matches a n) (says.rca answer h.rca))

-- NO RESPONSE

pub timed_out : (response : Response) (k : Kind) (order : Order) (row : Row) (argument : ℕ) (h : Host) (t u : Card) → response ≡ response_of row →
    (Absent ≡ response → ⊥) → AtRow k order row t → Lost response row argument t u →
    May (with_seen SeenTimeOut (lost k response row (view t h))) (branch (view u (heard order TimeOut h)) SeenTimeOut)
timed_out response k order row argument h t u is other at a =
    May-map (λ v. branch v SeenTimeOut)
    (lost_law response k row argument h (heard order TimeOut h) t u at.kind at.allowed (heard_host order TimeOut h)
    (heard_same order row TimeOut h t.rca at.says (same_unheard row t.rca h.rca (λ e. other (e ∙ sym is)) at.given))
    (λ m. heard_rca order row TimeOut h u.rca _ at.says (taken_unheard row TimeOut t.rca u.rca h.rca m.rca)) a)

-- the card took the row, and the host heard it
pub heard_taken : (k : Kind) (order : Order) (row : Row) (argument : ℕ) (h : Host) (t u : Card) (answer : Answer) →
    (NewAddress ≡ response_of row → ⊥) → AtRow k order row t → Taken row true argument t u →
    May (taken k row true (view t h)) (view u (heard order answer h))
heard_taken k order row argument h t u answer other at m =
    taken_law k row true argument h (heard order answer h) t u at.kind m (heard_host order answer h)
    (heard_rca order row answer h u.rca _ at.says (taken_heard row answer t.rca u.rca h.rca other m.rca))

-- STATUS

pub statuses_law : (row : Row) (t u : Fields) (took stay : List Fields) (d : Bool) → May took u ⊎ ((d ≡ true) × May stay u) →
    May (statuses row t took stay) (branch u (status_seen row d t u))
statuses_law row t u took stay false (inl m) = May-append_left _ (May-map (λ v. branch v (status_seen row false t v)) m)
statuses_law row t u took stay false (inr m) = absurd (let e : false ≡ true = m.0 in cc)
statuses_law row t u took stay true (inl m) =
    May-append_right (with_status row false t took) (May-map (λ v. branch v (status_seen row true t v)) (May-append_left _ m))
statuses_law row t u took stay true (inr m) =
    May-append_right (with_status row false t took) (May-map (λ v. branch v (status_seen row true t v)) (May-append_right took m.1))

pub app_law : (row : Row) (word : ℕ) (u : Card) → AppShown row word u → app_of (row_index row) word ≡ app_shown row u.app
app_law Cmd55 word u e = ap Some e
app_law row word u e = refl

-- the switch error that is seen in an answer is the one that is shown
told : (before after bit : Bool) → (before ≡ true → bit ≡ not after) → (if before then Some bit else None) ≡ switch_shown Cmd13 before after
told true after bit e = ap Some (e refl)
told false after bit e = refl

untold : (before bit : Bool) → before ≡ false → (if before then Some bit else None) ≡ None
untold true bit e = absurd (let f : true ≡ false = e in cc)
untold false bit e = refl

pub switch_law : (row : Row) (word : ℕ) (t u : Card) → Allowed row t → SwitchShown row t word u →
    switch_of (row_index row) t.mode.error word ≡ switch_shown row t.mode.error u.mode.error
switch_law Cmd13 word t u allowed shown = told t.mode.error u.mode.error (is_switch_error word) shown
switch_law Acmd13 word t u allowed shown = untold t.mode.error (is_switch_error word) allowed
switch_law row word t u allowed shown = refl

pub same_status_seen : {a a' : ℕ} {d : Bool} {o o' w w' : Option Bool} → a ≡ a' → o ≡ o' → w ≡ w' → Status a d o w ≡ Status a' d o' w'
same_status_seen e f g = cc

pub status_cases : (k : Kind) (order : Order) (row : Row) (argument : ℕ) (h : Host) (t u : Card) (answer : Answer) (d : Bool) → CardStatus ≡ response_of row →
    AtRow k order row t → TakenOrStayed row argument t d u →
    May (taken k row true (view t h)) (view u (heard order answer h))
    ⊎ ((d ≡ true) × May (stayed k row true (matches t.rca h.rca ∷ []) (view t h)) (view u (heard order answer h)))
status_cases k order row argument h t u answer d is at (inl m) =
    inl (heard_taken k order row argument h t u answer (λ e. let f : NewAddress ≡ CardStatus = e ∙ sym is in cc) at m)
status_cases k order row argument h t u answer d is at (inr m) =
    elim (stayed_cases k row true argument h (heard order answer h) t u at.kind at.allowed m.1 (heard_host order answer h)
    (stayed_match row true h (heard order answer h) t u m.1
    (heard_same order row answer h t.rca at.says (same_status row answer t.rca h.rca is at.given)))) [
      | inl n ↦ inl n
      | inr n ↦ inr (m.0, n)
    ]

-- NEW ADDRESS

pub address_cases : (k : Kind) (argument : ℕ) (h h' : Host) (t u : Card) (word : ℕ) (d : Bool) → k ≡ t.kind → IsCard t → SameHost h h' →
    published_rca word ≡ h'.rca → Published Cmd3Sd argument t word u ⊎ ((d ≡ true) × Stayed Cmd3Sd true t u) →
    May (taken k Cmd3Sd true (view t h)) (view u h')
    ⊎ ((d ≡ true) × May (stayed k Cmd3Sd true (matched_stayed t.state) (view t h)) (view u h'))
address_cases k argument h h' t u word d kind card host e (inl m) =
    inl (taken_law k Cmd3Sd true argument h h' t u kind m.card host (here (published_matches u.rca h'.rca (ap Some (sym e) ∙ m.rca))))
address_cases k argument h h' t u word d kind card host e (inr m) =
    inr (
      m.0,
      stayed_law k Cmd3Sd true (matched_stayed t.state) h h' t u (λ e. cc) kind m.1 host
          (subst (λ v. May (matched_stayed t.state) (matches v h'.rca)) m.1.rca (stayed_matches t.state t.rca h'.rca card.address)),
    )

-- CONTENTS

pub bare_seen : (k : Kind) (pending : Bool) (row : Row) (t : Card) (reply : Reply) → ContentsShown row t reply → Bare ≡ answer_seen k pending (Replied reply)
bare_seen k pending Cmd2 t (R2 bytes) s = refl
bare_seen k pending Cmd8Sd t (R7 word) s = refl
bare_seen k pending Cmd9 t (R2 bytes) s = refl
bare_seen k pending Cmd10 t (R2 bytes) s = refl
bare_seen k pending row t reply s = absurd s

-- CONDITIONS

emmc_unit : (b : Bool) (n : ℕ) → n ≡ (if b then 2 else 0) → (n == 2) ≡ b
emmc_unit true n e = rw e refl
emmc_unit false n e = rw e refl

pub unit_law : (k : Kind) (row : Row) (word : ℕ) (unit : Bool) (a b : State) → Conditions ≡ response_of row → May (rows k row) (a to b) →
    UnitShown row word unit → is_block_addressed k word ≡ unit
unit_law Sd (Acmd41 high) word unit a b is m e = e
unit_law Emmc Cmd1 word unit a b is m e = emmc_unit unit (access_mode word) e
unit_law Sd Cmd1 word unit a b is m e = absurd m.one
unit_law Emmc (Acmd41 high) word unit a b is m e = absurd m.one
unit_law k row word unit a b is m e = absurd (cc)

pub conditions_law : (b w v unit : Bool) → w ≡ b → (IsTrue b → v ≡ unit) →
    Ocr w (if w then Some v else None) ≡ (if b then Ocr true (Some unit) else Ocr false None)
conditions_law true w v unit e f = rw e (let g : v ≡ unit = f refl in cc)
conditions_law false w v unit e f = rw e refl

-- NOT ADDRESSED

pub unaddressed_law : (k : Kind) (pending : Bool) (order : Order) (answer : Answer) → unaddressed_answer order ≡ answer →
    unaddressed_seen order ≡ answer_seen k pending answer
unaddressed_law k pending order answer e = rw (sym e) (same k pending order)
  where
    same : (k : Kind) (pending : Bool) (order : Order) → unaddressed_seen order ≡ answer_seen k pending (unaddressed_answer order)
    same k pending DeselectCards = refl
    same k pending order = refl

pub unseen_cases : (k : Kind) (order : Order) (row : Row) (argument : ℕ) (h : Host) (t u : Card) (answer : Answer) → NotAddressed ≡ response_of row →
    AtRow k order row t → (t ≡ u) ⊎ TakenUnseen row argument t u → May (view t h ∷ taken k row true (view t h)) (view u (heard order answer h))
unseen_cases k order row argument h t u answer is at (inl e) =
    here (subst (λ v. view t h ≡ view v (heard order answer h)) e
    (same_view h (heard order answer h) t (heard_host order answer h)
    (heard_same order row answer h t.rca at.says (same_unaddressed row answer t.rca h.rca is))))
unseen_cases k order row argument h t u answer is at (inr m) =
    there (heard_taken k order row argument h t u answer (λ e. let f : NewAddress ≡ NotAddressed = e ∙ sym is in cc) at m.card)
