-- Each step of a card beside its host is among the outcomes at their code.
use Rattle.std.proofs.Common.{◌≡◌, ℕ, inl, inr, refl, ap, subst, sym, ◌∙◌, Bool, true, false, not, ◌&&◌, ◌==◌, List, [], ◌∷◌, ◌++◌, map, Option, Some}
use Rattle.sdv_registers.specs.declared.kind.Kind.{Kind}
use Rattle.sdv_registers.specs.declared.kind.Kind.TheVariants.{Sd, Emmc}
use Rattle.sdv_card.specs.declared.state.State.{State}
use Rattle.sdv_card.specs.declared.state.State.TheVariants.{Ident, Stby, Tran, Data, Rcv, Prg, Dis}
use Rattle.sdv_card.specs.declared.answer.Answer.{Answer}
use Rattle.sdv_card.specs.declared.answer.DataEnd.{DataEnd}
use Rattle.sdv_card.specs.declared.answer.DataEnd.TheVariants.{Ok, Cut}
use Rattle.sdv_card.specs.declared.answer.WaitEnd.{WaitEnd}
use Rattle.sdv_card.specs.declared.answer.WaitEnd.TheVariants.{Ok as Over, Late}
use Rattle.sdv_card.specs.declared.command.Order.{Order}
use Rattle.sdv_card.specs.declared.command.Row.{Row}
use Rattle.sdv_card.specs.declared.command.Row.TheVariants.{Cmd3Emmc, Cmd13, Acmd13}
use Rattle.sdv_card.specs.declared.command.TakenAs.{TakenAs}
use Rattle.sdv_card.specs.declared.command.TakenAs.TheVariants.{By}
use Rattle.sdv_card.specs.Lists.{May, IsOneOf}
use Rattle.sdv_card.specs.StateTable.{◌to◌, unchanged, rows}
use Rattle.sdv_card.specs.Takes.{taken_as_of, matches}
use Rattle.sdv_card.specs.CommandTable.{order_of}
use Rattle.sdv_card.specs.ScriptEvent.{ScriptEvent, SendCommand, ReceiveBlocks, ReceiveRegister, GiveBlocks, AwaitReady, Return, Answered, BlocksIn, RegisterIn, BlocksOut, Waited, event_of}
use Rattle.sdv_card.specs.Card.{Card, IsCard, AddressFits}
use Rattle.sdv_card.specs.Host.{Host, host_after, host_after_order}
use Rattle.sdv_card.specs.HostEvents.{Makes}
use Rattle.sdv_card.specs.Settled.{Settled}
use Rattle.sdv_card.specs.Exchange.{Exchanges, SettledAnswer, card_takes}
use Rattle.sdv_card.specs.Phases.{Moved, MovedWriting, WaitEnds}
use Rattle.sdv_card.specs.Legal.{RowLegal, SettledLegal, EventLegal}
use Rattle.sdv_card.specs.Step.{Step}
use Rattle.sdv_card.specs.Shapes.{view, pair_code, IsPair}
use Rattle.sdv_card.specs.Outcomes.{branch, placed, phase_seen, wait_seen, phase_ends, wait_ends, settled_branches, order_branches, ask_branches, event_branches, branches_at, outcome_of, outcomes_code}
use Rattle.sdv_card.specs.Seen.{seen_of, answer_seen}
use Rattle.sdv_card.specs.Laws.{StepsAreOutcomes}
use Rattle.sdv_card.proofs.Digits.{fields_law}
use Rattle.sdv_card.proofs.Members.{and_right, May-append_left, May-append_right, May-map, May-each}
use Rattle.sdv_card.proofs.Same.{settled_same}
use Rattle.sdv_card.proofs.SettledCard.{settled_is_card}
use Rattle.sdv_card.proofs.AddressSent.{AddressSent, address_sent}
use Rattle.sdv_card.proofs.RowsOfOrders.{says, ignored_rca}
use Rattle.sdv_card.specs.declared.state.Mode.{Mode}
use Rattle.sdv_card.specs.Modes.{has_width, partition_number, mode_fits}
use Rattle.sdv_card.proofs.Matches.{GivenAddress}
use Rattle.sdv_card.proofs.TakenFields.{Allowed}
use Rattle.sdv_card.proofs.LegalExact.{settled_law}
use Rattle.sdv_card.proofs.AnswerOutcomes.{settled_answer_law}

-- AN EXCHANGE

-- what a legal row says of a card: one to which the row gives an address had none
record Allows (row : Row) (t : Card) : Type 0 where
  given : GivenAddress row t.rca
  allowed : Allowed row t

-- a card's own step leaves a pending switch error
settled_pending : (c t : Card) → Settled c t → t.mode.error ≡ c.mode.error
settled_pending c t (inl e) = sym (ap (λ v. v.mode.error) e)
settled_pending c t (inr x) = sym (ap (λ v. v.mode.error) x.2)

-- so it is at each settled card
abbrev OrderAllows : Order → Card → Host → Type 0
OrderAllows order c h = (t : Card) → Settled c t → (row : Row) → taken_as_of order t.app (matches t.rca h.rca) ≡ By row → Allows row t

exchange_law : (order : Order) (argument : ℕ) (c u : Card) (h : Host) (answer : Answer) → IsCard c → AddressSent order argument h → OrderAllows order c h →
    Exchanges order argument c answer u →
    May (order_branches c.kind order (view c h)) (branch (view u (host_after_order (Some order) answer h)) (answer_seen c.kind c.mode.error answer))
exchange_law order argument c u h answer card sent given x =
    let t : Card = x.settled_card in
    let way : TakenAs = taken_as_of order t.app (matches t.rca h.rca) in
    subst (λ b. May (order_branches c.kind order (view c h)) (branch (view u (host_after_order (Some order) answer h)) (answer_seen c.kind b answer)))
    (settled_pending c t x.settled)
    (May-each (λ f. settled_branches c.kind order f (taken_as_of order f.app f.matched)) (view t h) (settled_law c t h x.settled)
    (settled_answer_law way c.kind order argument h t u answer
    (ignored_rca order t.app (matches t.rca h.rca) h.rca)
    (λ row e. record {
      kind = (settled_same c t x.settled).kind;
      card = settled_is_card c t card x.settled;
      says = says order t.app (matches t.rca h.rca) row e;
      given = (given t x.settled row e).given;
      allowed = (given t x.settled row e).allowed;
    })
    (subst (λ w. SettledAnswer w order argument t answer u) (sent.way t.app t.rca) x.answered)))

-- PHASES AND WAITS

moved_law : (end : DataEnd) (c u : Card) (h : Host) → Moved end c u → May (phase_ends end (view c h)) (branch (view u h) (phase_seen end))
moved_law end c u h m =
    subst (λ v. May (phase_ends end (view c h)) v) (ap (λ v. branch (view v h) (phase_seen end)) m.card)
    (May-map (λ place. branch (placed (view c h) place) (phase_seen end)) m.may)

moved_writing_law : (end : DataEnd) (c u : Card) (h : Host) → MovedWriting end c u → May (phase_ends end (view c h)) (branch (view u h) (phase_seen end))
moved_writing_law end c u h m =
    subst (λ v. May (phase_ends end (view c h)) v) (ap (λ v. branch (view v h) (phase_seen end)) m.card)
    (May-map (λ place. branch (placed (view c h) place) (phase_seen end)) m.may)

wait_law : (end : WaitEnd) (c u : Card) (h : Host) → WaitEnds end c u → May (wait_ends end (view c h)) (branch (view u h) (wait_seen end))
wait_law end c u h w =
    subst (λ v. May (wait_ends end (view c h)) v) (ap (λ v. branch (view v h) (wait_seen end)) w.card)
    (May-map (λ state. branch (record (view c h) { state = state }) (wait_seen end)) w.may)

-- however it ends
either_end : (end : DataEnd) (c u : Card) (h : Host) → May (phase_ends end (view c h)) (branch (view u h) (phase_seen end)) →
    May (phase_ends Ok (view c h) ++ phase_ends Cut (view c h)) (branch (view u h) (phase_seen end))
either_end Ok c u h m = May-append_left _ m
either_end Cut c u h m = May-append_right (phase_ends Ok (view c h)) m

either_wait : (end : WaitEnd) (c u : Card) (h : Host) → May (wait_ends end (view c h)) (branch (view u h) (wait_seen end)) →
    May (wait_ends Over (view c h) ++ wait_ends Late (view c h)) (branch (view u h) (wait_seen end))
either_wait Over c u h m = May-append_left _ m
either_wait Late c u h m = May-append_right (wait_ends Over (view c h)) m

-- EVENTS

-- and so at an event
abbrev EventAllows : ScriptEvent → Card → Host → Type 0
EventAllows (SendCommand ask position argument) c h = (order : Order) → order_of c.kind ask ≡ Some order → OrderAllows order c h
EventAllows event c h = Unit {0}

event_law : (event : ScriptEvent) (c : Card) (h : Host) (returned : Return) (u : Card) → IsCard c → Makes c.kind event h → EventAllows event c h →
    Step event c returned u →
    May (event_branches c.kind (event_of event) (view c h)) (branch (view u (host_after c.kind event returned h)) (seen_of c.kind c.mode.error returned))
event_law (SendCommand ask position argument) c h (Answered answer) u card made given s =
    subst (λ o. May (ask_branches c.kind o (view c h)) (branch (view u (host_after_order o answer h)) (answer_seen c.kind c.mode.error answer)))
    (sym s.asks.line)
    (exchange_law s.order argument c u h answer card (address_sent c.kind ask argument h s.order made s.asks.line) (given s.order s.asks.line) s.exchange)
event_law (ReceiveBlocks lines count) c h (BlocksIn end blocks) u card made given s = either_end end c u h (moved_law end c u h s.moved)
event_law (ReceiveRegister lines count) c h (RegisterIn end bytes) u card made given s = either_end end c u h (moved_law end c u h s.moved)
event_law (GiveBlocks lines blocks) c h (BlocksOut end) u card made given s = either_end end c u h (moved_writing_law end c u h s.moved)
event_law AwaitReady c h (Waited end) u card made given s = either_wait end c u h (wait_law end c u h s)
event_law event c h returned u card made given s = absurd s

outcomes_law : (k : Kind) (event : ScriptEvent) (c : Card) (h : Host) (returned : Return) (u : Card) →
    IsPair k c h → Makes k event h → EventAllows event c h → Step event c returned u →
    May (outcomes_code k (pair_code c h) (event_of event))
    (outcome_of (branch (view u (host_after k event returned h)) (seen_of k c.mode.error returned)))
outcomes_law k event c h returned u pair made given s =
    subst (λ v. May (map outcome_of (branches_at k (event_of event) v))
    (outcome_of (branch (view u (host_after k event returned h)) (seen_of k c.mode.error returned))))
    (sym (fields_law (view c h) pair.flags pair.card.preset))
    (May-map outcome_of
    (subst (λ v. May (event_branches v (event_of event) (view c h)) (branch (view u (host_after v event returned h)) (seen_of v c.mode.error returned)))
    (sym pair.kind)
    (event_law event c h returned u pair.card (subst (λ v. Makes v event h) pair.kind made) given s)))

-- A LEGAL COMMAND gives an address only in identification state, where a card has none

given_by_row : (k : Kind) (row : Row) (a b : State) (rca : Option ℕ) → IsOneOf (rows k row) (a to b) → AddressFits a rca → GivenAddress row rca
given_by_row Emmc Cmd3Emmc a b rca (inl e) fits = let f : Ident ≡ a = ap (λ m. m.source) e in subst (λ v. AddressFits v rca) (sym f) fits
given_by_row Emmc Cmd3Emmc a b rca (inr e) fits = absurd e
given_by_row Sd Cmd3Emmc a b rca m fits = absurd m
given_by_row k row a b rca m fits = tt

unchanged_same : (ss : List State) (a b : State) → IsOneOf (unchanged ss) (a to b) → a ≡ b
unchanged_same [] a b m = absurd m
unchanged_same (s ∷ ss) a b (inl e) = let f : s ≡ a = ap (λ m. m.source) e in let g : s ≡ b = ap (λ m. m.target) e in sym f ∙ g
unchanged_same (s ∷ ss) a b (inr m) = unchanged_same ss a b m

status_stays : (k : Kind) (a b : State) → IsOneOf (rows k Cmd13) (a to b) → a ≡ b
status_stays Sd a b m = unchanged_same (Stby ∷ Tran ∷ Data ∷ Rcv ∷ Prg ∷ Dis ∷ []) a b m
status_stays Emmc a b m = unchanged_same (Stby ∷ Tran ∷ Data ∷ Rcv ∷ Prg ∷ Dis ∷ []) a b m

not_true : (b : Bool) → not b ≡ true → b ≡ false
not_true true e = absurd (let f : false ≡ true = e in cc)
not_true false e = refl

-- SD alone has ACMD13, and no switch error
no_switch_error : (k : Kind) (a b : State) (mode : Mode) → IsOneOf (rows k Acmd13) (a to b) → mode_fits k mode ≡ true → mode.error ≡ false
no_switch_error Sd a b mode m e = not_true mode.error (and_right (has_width Sd mode.width && (partition_number mode.partition == 0)) _ e)
no_switch_error Emmc a b mode m e = absurd m

-- CMD13 keeps the state
allowed_by_row : (row : Row) (t : Card) → IsCard t → RowLegal row t → Allowed row t
allowed_by_row Cmd13 t card l = subst (λ s. May (rows t.kind Cmd13) (t.state to s)) (sym (status_stays t.kind t.state l.target l.has_row.one)) l.has_row
allowed_by_row Acmd13 t card l = no_switch_error t.kind t.state l.target t.mode l.has_row.one card.mode
allowed_by_row row t card l = tt

some_same : {A : Type 0} → (x y : A) (o : Option A) → o ≡ Some x → o ≡ Some y → x ≡ y
some_same x y o e f = cc

legal_allows : (event : ScriptEvent) (c : Card) (h : Host) → IsCard c → Makes c.kind event h → EventLegal event c → EventAllows event c h
legal_allows (SendCommand ask position argument) c h card made legal = λ order e t settles row by.
    let same : legal.order ≡ order = some_same legal.order order (order_of c.kind ask) legal.asks.line e in
    let at_t : SettledLegal (card_takes t order argument) t = subst (λ o. SettledLegal (card_takes t o argument) t) same (legal.settled t settles) in
    let sent : AddressSent order argument h = address_sent c.kind ask argument h order made e in
    let at_row : RowLegal row t = subst (λ way. SettledLegal way t) (sent.way t.app t.rca ∙ by) at_t in
    let here : IsCard t = settled_is_card c t card settles in
    record {
      given = given_by_row t.kind row t.state at_row.target t.rca at_row.has_row.one here.address;
      allowed = allowed_by_row row t here at_row;
    }
legal_allows (ReceiveBlocks lines count) c h card made legal = tt
legal_allows (ReceiveRegister lines count) c h card made legal = tt
legal_allows (GiveBlocks lines blocks) c h card made legal = tt
legal_allows AwaitReady c h card made legal = tt

pub steps_are_outcomes : (k : Kind) → StepsAreOutcomes k
steps_are_outcomes k event c h returned u pair made legal s =
    outcomes_law k event c h returned u pair made
    (legal_allows event c h pair.card (subst (λ v. Makes v event h) pair.kind made) legal) s
