-- An event is legal at a card beside its host exactly where it is legal at their code.
use Rattle.std.proofs.Common.{◌≡◌, ℕ, inl, inr, refl, ap, subst, sym, true, false, ◌==◌, ◌&&◌, Option, Some, None}
use Rattle.sdv_registers.specs.declared.kind.Kind.{Kind}
use Rattle.sdv_card.specs.declared.state.State.{State}
use Rattle.sdv_card.specs.declared.state.Transfer.TheVariants.{Nothing}
use Rattle.sdv_card.specs.declared.event.Ask.{Ask}
use Rattle.sdv_card.specs.declared.command.Order.{Order}
use Rattle.sdv_card.specs.declared.command.Row.{Row}
use Rattle.sdv_card.specs.declared.command.TakenAs.{TakenAs}
use Rattle.sdv_card.specs.declared.command.TakenAs.TheVariants.{Forbidden, Ignored, By}
use Rattle.sdv_card.specs.Lists.{May, all, has_some}
use Rattle.sdv_card.specs.States.{own_target}
use Rattle.sdv_card.specs.StateTable.{rows, targets}
use Rattle.sdv_card.specs.RowRules.{length_allows, erase_allows}
use Rattle.sdv_card.specs.Takes.{taken_as_of, matches}
use Rattle.sdv_card.specs.CommandTable.{order_of}
use Rattle.sdv_card.specs.ScriptEvent.{ScriptEvent, SendCommand, ReceiveBlocks, ReceiveRegister, GiveBlocks, AwaitReady, event_of}
use Rattle.sdv_card.specs.Card.{Card}
use Rattle.sdv_card.specs.Host.{Host}
use Rattle.sdv_card.specs.HostEvents.{Makes, ArgumentFits}
use Rattle.sdv_card.specs.Modes.{same_width}
use Rattle.sdv_card.specs.Settled.{Settled}
use Rattle.sdv_card.specs.Exchange.{card_takes}
use Rattle.sdv_card.specs.Legal.{RowLegal, SettledLegal, SendLegal, EventLegal, recv_legal, recv_reg_legal, give_legal}
use Rattle.sdv_card.specs.Shapes.{view, is_shape, pair_code}
use Rattle.sdv_card.specs.Code.{fields_of}
use Rattle.sdv_card.specs.Outcomes.{settled, own_steps}
use Rattle.sdv_card.specs.LegalShapes.{row_legal, settled_legal, order_legal, ask_legal, event_legal, legal_at}
use Rattle.sdv_card.specs.Laws.{LegalIsExact}
use Rattle.sdv_card.proofs.Digits.{fields_law}
use Rattle.sdv_card.proofs.Members.{here, there, both_true, and_left, and_right, has_some-May, some_of, all-May, May-targets, May-from_targets}
use Rattle.sdv_card.proofs.Same.{settled_same}
use Rattle.sdv_card.proofs.AddressSent.{AddressSent, address_sent}
use Rattle.sdv_card.proofs.PairShapes.{pairs_have_shapes}

-- the settled card is among the settled fields
pub settled_law : (c t : Card) (h : Host) → Settled c t → May (settled (view c h)) (view t h)
settled_law c t h (inl e) = here (ap (λ v. view v h) e)
settled_law c t h (inr x) =
    there (subst (λ v. May (own_steps (view c h) v) (view t h)) (sym x.1) (here (ap (λ v. view v h) x.2)))

-- A ROW

row_legal_law : (row : Row) (t : Card) (h : Host) → RowLegal row t → row_legal t.kind row (view t h) ≡ true
row_legal_law row t h l =
    both_true _ _ (both_true _ _ (both_true _ _ (has_some-May (May-targets l.has_row)) l.length) l.erase) l.preset

row_legal_back : (row : Row) (t : Card) (h : Host) → row_legal t.kind row (view t h) ≡ true → RowLegal row t
row_legal_back row t h e =
    let e1 : (has_some (targets (rows t.kind row) t.state) && length_allows row (t.block_length == 512) && erase_allows row t.erase) ≡ true =
    and_left _ _ e in
    let e2 : (has_some (targets (rows t.kind row) t.state) && length_allows row (t.block_length == 512)) ≡ true = and_left _ _ e1 in
    let s : (x : State) × May (targets (rows t.kind row) t.state) x = some_of _ (and_left _ _ e2) in
    record {
      target = s.0;
      has_row = May-from_targets s.1;
      length = and_right (has_some (targets (rows t.kind row) t.state)) _ e2;
      erase = and_right (has_some (targets (rows t.kind row) t.state) && length_allows row (t.block_length == 512)) _ e1;
      preset = and_right (has_some (targets (rows t.kind row) t.state) && length_allows row (t.block_length == 512) && erase_allows row t.erase) _ e;
    }

way_legal : (way : TakenAs) (t : Card) (h : Host) → SettledLegal way t → settled_legal t.kind (view t h) way ≡ true
way_legal Forbidden t h l = absurd l
way_legal Ignored t h l = refl
way_legal (By row) t h l = row_legal_law row t h l

way_legal_back : (way : TakenAs) (t : Card) (h : Host) → settled_legal t.kind (view t h) way ≡ true → SettledLegal way t
way_legal_back Forbidden t h e = absurd (let f : false ≡ true = e in cc)
way_legal_back Ignored t h e = tt
way_legal_back (By row) t h e = row_legal_back row t h e

-- AN ORDER

-- an order is legal at each settled card
abbrev pub OrderLegal : Order → ℕ → Card → Type 0
OrderLegal order argument c = (t : Card) → Settled c t → SettledLegal (card_takes t order argument) t

settled_order : (order : Order) (argument : ℕ) (t : Card) (h : Host) → AddressSent order argument h → SettledLegal (card_takes t order argument) t →
    settled_legal t.kind (view t h) (taken_as_of order t.app (matches t.rca h.rca)) ≡ true
settled_order order argument t h sent l =
    way_legal (taken_as_of order t.app (matches t.rca h.rca)) t h (subst (λ way. SettledLegal way t) (sent.way t.app t.rca) l)

own_legal : (order : Order) (argument : ℕ) (c : Card) (h : Host) (o : Option State) → AddressSent order argument h →
    own_target c.state c.transfer ≡ o → OrderLegal order argument c →
    all (λ t. settled_legal c.kind t (taken_as_of order t.app t.matched)) (own_steps (view c h) o) ≡ true
own_legal order argument c h None sent e legal = refl
own_legal order argument c h (Some s) sent e legal =
    let t : Card = record c { state = s; transfer = Nothing } in
    both_true _ _ (settled_order order argument t h sent (legal t (inr (s, e, refl)))) refl

pub order_legal_law : (order : Order) (argument : ℕ) (c : Card) (h : Host) → AddressSent order argument h → OrderLegal order argument c →
    order_legal c.kind order (view c h) ≡ true
order_legal_law order argument c h sent legal =
    both_true _ _ (settled_order order argument c h sent (legal c (inl refl)))
    (own_legal order argument c h (own_target c.state c.transfer) sent refl legal)

pub order_legal_back : (order : Order) (argument : ℕ) (c : Card) (h : Host) → AddressSent order argument h →
    order_legal c.kind order (view c h) ≡ true → OrderLegal order argument c
order_legal_back order argument c h sent e t settles =
    let at_t : settled_legal t.kind (view t h) (taken_as_of order t.app (matches t.rca h.rca)) ≡ true =
    subst (λ k. settled_legal k (view t h) (taken_as_of order t.app (matches t.rca h.rca)) ≡ true) (settled_same c t settles).kind
    (all-May (λ t. settled_legal c.kind t (taken_as_of order t.app t.matched)) e (settled_law c t h settles)) in
    subst (λ way. SettledLegal way t) (sym (sent.way t.app t.rca))
    (way_legal_back (taken_as_of order t.app (matches t.rca h.rca)) t h at_t)

-- AN ASK

ask_legal_law : (ask : Ask) (argument : ℕ) (c : Card) (h : Host) → ArgumentFits c.kind ask argument h → SendLegal ask argument c →
    ask_legal c.kind (order_of c.kind ask) (view c h) ≡ true
ask_legal_law ask argument c h made l =
    subst (λ o. ask_legal c.kind o (view c h) ≡ true) (sym l.asks.line)
    (order_legal_law l.order argument c h (address_sent c.kind ask argument h l.order made l.asks.line) l.settled)

ask_legal_back : (ask : Ask) (argument : ℕ) (c : Card) (h : Host) (o : Option Order) → ArgumentFits c.kind ask argument h →
    order_of c.kind ask ≡ o → ask_legal c.kind o (view c h) ≡ true → SendLegal ask argument c
ask_legal_back ask argument c h None made e l = absurd (let f : false ≡ true = l in cc)
ask_legal_back ask argument c h (Some order) made e l = record {
  order = order;
  asks = record { line = e };
  settled = order_legal_back order argument c h (address_sent c.kind ask argument h order made e) l;
}

-- AN EVENT

event_legal_law : (event : ScriptEvent) (c : Card) (h : Host) → Makes c.kind event h → EventLegal event c →
    event_legal c.kind (event_of event) (view c h) ≡ true
event_legal_law (SendCommand ask position argument) c h made l = ask_legal_law ask argument c h made l
event_legal_law (ReceiveBlocks lines count) c h made l =
    subst (λ w. (recv_legal c.state c.transfer && same_width w c.mode.width) ≡ true) made.lines_are l
event_legal_law (ReceiveRegister lines count) c h made l =
    subst (λ w. (recv_reg_legal c.state c.transfer && same_width w c.mode.width) ≡ true) made.lines_are l
event_legal_law (GiveBlocks lines blocks) c h made l =
    subst (λ w. (give_legal c.state c.transfer && same_width w c.mode.width) ≡ true) made.lines_are l
event_legal_law AwaitReady c h made l = l

event_legal_back : (event : ScriptEvent) (c : Card) (h : Host) → Makes c.kind event h →
    event_legal c.kind (event_of event) (view c h) ≡ true → EventLegal event c
event_legal_back (SendCommand ask position argument) c h made l = ask_legal_back ask argument c h (order_of c.kind ask) made refl l
event_legal_back (ReceiveBlocks lines count) c h made l =
    subst (λ w. (recv_legal c.state c.transfer && same_width w c.mode.width) ≡ true) (sym made.lines_are) l
event_legal_back (ReceiveRegister lines count) c h made l =
    subst (λ w. (recv_reg_legal c.state c.transfer && same_width w c.mode.width) ≡ true) (sym made.lines_are) l
event_legal_back (GiveBlocks lines blocks) c h made l =
    subst (λ w. (give_legal c.state c.transfer && same_width w c.mode.width) ≡ true) (sym made.lines_are) l
event_legal_back AwaitReady c h made l = l

pub legal_is_exact : (k : Kind) → LegalIsExact k
legal_is_exact k event c h pair made =
    let e : fields_of (pair_code c h) ≡ Some (view c h) = fields_law (view c h) pair.flags pair.card.preset in
    let made_here : Makes c.kind event h = subst (λ v. Makes v event h) pair.kind made in (
      (λ l. subst (λ v. legal_at k (event_of event) v ≡ true) (sym e)
          (both_true _ _ (pairs_have_shapes k c h pair)
          (subst (λ v. event_legal v (event_of event) (view c h) ≡ true) (sym pair.kind) (event_legal_law event c h made_here l)))),
      (λ l. event_legal_back event c h made_here
          (subst (λ v. event_legal v (event_of event) (view c h) ≡ true) pair.kind
          (and_right (is_shape k (view c h)) _ (subst (λ v. legal_at k (event_of event) v ≡ true) e l)))),
    )
