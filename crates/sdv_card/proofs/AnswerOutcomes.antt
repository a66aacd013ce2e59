-- Each exchange of a card is among what may follow the order at the card's fields.
use Rattle.std.proofs.Common.{◌≡◌, ℕ, refl, ap, subst, sym, ◌∙◌, true, [], ◌∷◌}
use Rattle.sdv_registers.specs.declared.kind.Kind.{Kind}
use Rattle.sdv_frames.specs.declared.reply.Reply.TheVariants.{R1, R3, R6}
use Rattle.sdv_card.specs.declared.event.Seen.TheVariants.{Sent as SeenSent, TimeOut as SeenTimeOut, Bare}
use Rattle.sdv_card.specs.declared.answer.Answer.{Answer}
use Rattle.sdv_card.specs.declared.answer.Answer.TheVariants.{Sent, TimeOut, Reply as Replied}
use Rattle.sdv_card.specs.declared.command.Order.{Order}
use Rattle.sdv_card.specs.declared.command.Row.{Row}
use Rattle.sdv_card.specs.declared.command.Row.TheVariants.{Cmd3Sd}
use Rattle.sdv_card.specs.declared.command.Response.{Response}
use Rattle.sdv_card.specs.declared.command.Response.TheVariants.{Absent, NotAddressed, CardStatus, NewAddress, Contents, Conditions}
use Rattle.sdv_card.specs.declared.command.TakenAs.{TakenAs}
use Rattle.sdv_card.specs.declared.command.TakenAs.TheVariants.{Forbidden, Ignored, By}
use Rattle.sdv_card.specs.Lists.{May}
use Rattle.sdv_card.specs.StateTable.{◌to◌, rows}
use Rattle.sdv_card.specs.RowRules.{matched_stayed}
use Rattle.sdv_card.specs.Responses.{response_of}
use Rattle.sdv_card.specs.ResponseStatus.{in_doubt}
use Rattle.sdv_card.specs.Seen.{answer_seen, app_of, switch_of}
use Rattle.sdv_card.specs.Takes.{matches}
use Rattle.sdv_card.specs.Card.{Card}
use Rattle.sdv_card.specs.Host.{Host, rca_known}
use Rattle.sdv_card.specs.Exchange.{RowAnswer, SettledAnswer}
use Rattle.sdv_card.specs.Shapes.{view}
use Rattle.sdv_card.specs.Outcomes.{branch, with_seen, taken, stayed, lost, statuses, with_conditions, conditions_seen, unaddressed_seen, row_branches, settled_branches}
use Rattle.sdv_card.proofs.Members.{here, May-append_left, May-append_right, May-map}
use Rattle.sdv_card.proofs.TakenFields.{same_view}
use Rattle.sdv_card.proofs.RowOutcomes.{AtRow, heard, heard_host, timed_out, heard_taken, statuses_law, app_law, switch_law, same_status_seen, status_cases, address_cases, bare_seen, unit_law, conditions_law, unaddressed_law, unseen_cases}

status_law : (k : Kind) (order : Order) (row : Row) (argument : ℕ) (h : Host) (t u : Card) (answer : Answer) → CardStatus ≡ response_of row
    → AtRow k order row t →
    RowAnswer CardStatus order row argument t answer u →
    May (row_branches k order row CardStatus (view t h)) (branch (view u (heard order answer h)) (answer_seen k t.mode.error answer))
status_law k order row argument h t u TimeOut is at a =
    May-append_left _ (timed_out CardStatus k order row argument h t u is (λ e. let f : Absent ≡ CardStatus = e in cc) at a)
status_law k order row argument h t u (Replied (R1 index word)) is at a =
    let h' : Host = heard order (Replied (R1 index word)) h in
    May-append_right (with_seen SeenTimeOut (lost k CardStatus row (view t h)))
    (subst (λ v. May (statuses row (view t h) (taken k row true (view t h)) (stayed k row true (matches t.rca h.rca ∷ []) (view t h))) (branch (view u h') v))
    (sym (same_status_seen a.state (ap (λ n. app_of n word) a.same_index ∙ app_law row word u a.app)
    (ap (λ n. switch_of n t.mode.error word) a.same_index ∙ switch_law row word t u at.allowed a.switch)))
    (statuses_law row (view t h) (view u h') _ _ (in_doubt (R1 index word))
    (status_cases k order row argument h t u (Replied (R1 index word)) (in_doubt (R1 index word)) is at a.card)))
status_law k order row argument h t u answer is at a = absurd a

new_address : (row : Row) → NewAddress ≡ response_of row → Cmd3Sd ≡ row
new_address Cmd3Sd e = refl
new_address row e = absurd (cc)

address_answer : (k : Kind) (order : Order) (argument : ℕ) (h : Host) (t u : Card) (answer : Answer) → AtRow k order Cmd3Sd t →
    RowAnswer NewAddress order Cmd3Sd argument t answer u →
    May (row_branches k order Cmd3Sd NewAddress (view t h)) (branch (view u (heard order answer h)) (answer_seen k t.mode.error answer))
address_answer k order argument h t u TimeOut at a =
    May-append_left _ (timed_out NewAddress k order Cmd3Sd argument h t u refl (λ e. let f : Absent ≡ NewAddress = e in cc) at a)
address_answer k order argument h t u (Replied (R6 word)) at a =
    let h' : Host = heard order (Replied (R6 word)) h in
    May-append_right (with_seen SeenTimeOut (lost k NewAddress Cmd3Sd (view t h)))
    (subst
    (λ v. May (statuses Cmd3Sd (view t h) (taken k Cmd3Sd true (view t h)) (stayed k Cmd3Sd true (matched_stayed t.state) (view t h))) (branch (view u h') v))
    (sym (same_status_seen a.state refl refl))
    (statuses_law Cmd3Sd (view t h) (view u h') _ _ (in_doubt (R6 word))
    (address_cases k argument h h' t u word (in_doubt (R6 word)) at.kind at.card (heard_host order (Replied (R6 word)) h)
    (sym (at.says.rca (Replied (R6 word)) h.rca)) a.card)))
address_answer k order argument h t u answer at a = absurd a

address_law : (k : Kind) (order : Order) (row : Row) (argument : ℕ) (h : Host) (t u : Card) (answer : Answer) → Cmd3Sd ≡ row → AtRow k order row t →
    RowAnswer NewAddress order row argument t answer u →
    May (row_branches k order row NewAddress (view t h)) (branch (view u (heard order answer h)) (answer_seen k t.mode.error answer))
address_law k order row argument h t u answer e at a =
    subst (λ r. May (row_branches k order r NewAddress (view t h)) (branch (view u (heard order answer h)) (answer_seen k t.mode.error answer))) e
    (address_answer k order argument h t u answer (subst (λ r. AtRow k order r t) (sym e) at)
    (subst (λ r. RowAnswer NewAddress order r argument t answer u) (sym e) a))

contents_law : (k : Kind) (order : Order) (row : Row) (argument : ℕ) (h : Host) (t u : Card) (answer : Answer) → Contents ≡ response_of row
    → AtRow k order row t →
    RowAnswer Contents order row argument t answer u →
    May (row_branches k order row Contents (view t h)) (branch (view u (heard order answer h)) (answer_seen k t.mode.error answer))
contents_law k order row argument h t u TimeOut is at a =
    May-append_left _ (timed_out Contents k order row argument h t u is (λ e. let f : Absent ≡ Contents = e in cc) at a)
contents_law k order row argument h t u (Replied reply) is at a =
    let h' : Host = heard order (Replied reply) h in
    May-append_right (with_seen SeenTimeOut (lost k Contents row (view t h)))
    (subst (λ v. May (with_seen Bare (taken k row true (view t h))) (branch (view u h') v))
    (bare_seen k t.mode.error row t reply a.shown)
    (May-map (λ v. branch v Bare)
    (heard_taken k order row argument h t u (Replied reply) (λ e. let f : NewAddress ≡ Contents = e ∙ sym is in cc) at a.card)))
contents_law k order row argument h t u answer is at a = absurd a

conditions_answer : (k : Kind) (order : Order) (row : Row) (argument : ℕ) (h : Host) (t u : Card) (answer : Answer) → Conditions ≡ response_of row
    → AtRow k order row t →
    RowAnswer Conditions order row argument t answer u →
    May (row_branches k order row Conditions (view t h)) (branch (view u (heard order answer h)) (answer_seen k t.mode.error answer))
conditions_answer k order row argument h t u TimeOut is at a =
    May-append_left _ (timed_out Conditions k order row argument h t u is (λ e. let f : Absent ≡ Conditions = e in cc) at a)
conditions_answer k order row argument h t u (Replied (R3 word)) is at a =
    let h' : Host = heard order (Replied (R3 word)) h in
    May-append_right (with_seen SeenTimeOut (lost k Conditions row (view t h)))
    (subst (λ v. May (with_conditions (taken k row true (view t h))) (branch (view u h') v))
    (sym (conditions_law _ _ _ _ a.ready
    (λ e. unit_law k row word u.block_unit t.state u.state is (subst (λ v. May (rows v row) (t.state to u.state)) (sym at.kind) a.card.state) (a.unit e))))
    (May-map (λ v. branch v (conditions_seen v))
    (heard_taken k order row argument h t u (Replied (R3 word)) (λ e. let f : NewAddress ≡ Conditions = e ∙ sym is in cc) at a.card)))
conditions_answer k order row argument h t u answer is at a = absurd a

absent_law : (k : Kind) (order : Order) (row : Row) (argument : ℕ) (h : Host) (t u : Card) (answer : Answer) → Absent ≡ response_of row → AtRow k order row t →
    RowAnswer Absent order row argument t answer u →
    May (row_branches k order row Absent (view t h)) (branch (view u (heard order answer h)) (answer_seen k t.mode.error answer))
absent_law k order row argument h t u Sent is at a =
    May-map (λ v. branch v SeenSent)
    (heard_taken k order row argument h t u Sent (λ e. let f : NewAddress ≡ Absent = e ∙ sym is in cc) at a.card)
absent_law k order row argument h t u answer is at a = absurd a

not_addressed_law : (k : Kind) (order : Order) (row : Row) (argument : ℕ) (h : Host) (t u : Card) (answer : Answer) → NotAddressed ≡ response_of row
    → AtRow k order row t →
    RowAnswer NotAddressed order row argument t answer u →
    May (row_branches k order row NotAddressed (view t h)) (branch (view u (heard order answer h)) (answer_seen k t.mode.error answer))
not_addressed_law k order row argument h t u answer is at a =
    subst (λ v. May (with_seen (unaddressed_seen order) (view t h ∷ taken k row true (view t h))) (branch (view u (heard order answer h)) v))
    (unaddressed_law k t.mode.error order answer a.0)
    (May-map (λ v. branch v (unaddressed_seen order)) (unseen_cases k order row argument h t u answer is at a.1))

row_law : (response : Response) (k : Kind) (order : Order) (row : Row) (argument : ℕ) (h : Host) (t u : Card) (answer : Answer) → response ≡ response_of row
    → AtRow k order row t →
    RowAnswer response order row argument t answer u →
    May (row_branches k order row response (view t h)) (branch (view u (heard order answer h)) (answer_seen k t.mode.error answer))
row_law Absent k order row argument h t u answer is at a = absent_law k order row argument h t u answer is at a
row_law NotAddressed k order row argument h t u answer is at a = not_addressed_law k order row argument h t u answer is at a
row_law CardStatus k order row argument h t u answer is at a = status_law k order row argument h t u answer is at a
row_law NewAddress k order row argument h t u answer is at a = address_law k order row argument h t u answer (new_address row is) at a
row_law Contents k order row argument h t u answer is at a = contents_law k order row argument h t u answer is at a
row_law Conditions k order row argument h t u answer is at a = conditions_answer k order row argument h t u answer is at a

ignored_law : (k : Kind) (order : Order) (h : Host) (t u : Card) (answer : Answer) → rca_known order TimeOut h.rca ≡ h.rca →
    (TimeOut ≡ answer) × (t ≡ u) → May (branch (view t h) SeenTimeOut ∷ []) (branch (view u (heard order answer h)) (answer_seen k t.mode.error answer))
ignored_law k order h t u answer rca a =
    subst (λ v. May (branch (view t h) SeenTimeOut ∷ []) (branch (view u (heard order v h)) (answer_seen k t.mode.error v))) a.0
    (subst (λ v. May (branch (view t h) SeenTimeOut ∷ []) (branch (view v (heard order TimeOut h)) SeenTimeOut)) a.1
    (here (ap (λ v. branch v SeenTimeOut) (same_view h (heard order TimeOut h) t (heard_host order TimeOut h) (ap (λ n. matches t.rca n) (sym rca))))))

-- whatever comes of an order at a settled card, by the way in which the card takes it
pub settled_answer_law : (way : TakenAs) (k : Kind) (order : Order) (argument : ℕ) (h : Host) (t u : Card) (answer : Answer) →
    (way ≡ Ignored → rca_known order TimeOut h.rca ≡ h.rca) → ((row : Row) → way ≡ By row → AtRow k order row t) →
    SettledAnswer way order argument t answer u →
    May (settled_branches k order (view t h) way) (branch (view u (heard order answer h)) (answer_seen k t.mode.error answer))
settled_answer_law Forbidden k order argument h t u answer ignored at a = absurd a
settled_answer_law Ignored k order argument h t u answer ignored at a = ignored_law k order h t u answer (ignored refl) a
settled_answer_law (By row) k order argument h t u answer ignored at a =
    row_law (response_of row) k order row argument h t u answer refl (at row refl) a
