-- A command that a host sends legally and in bounds is accepted, as the card reads it.
use Rattle.std.proofs.Common.{◌≡◌, ℕ, ◌<◌, ◌≤◌, ◌+◌, ◌*◌, ◌/◌, ◌%◌, ◌==◌, ◌&&◌, ◌||◌, nat_le, inl, inr, refl, sym, ap, subst, ◌∙◌, Bool, true, false, List, Option, Some, None, if◌then◌else◌, eq-eqb, eqb-true, le-leb, leb-true, arith}
use Rattle.sdv_registers.specs.declared.kind.Kind.{Kind}
use Rattle.sdv_registers.specs.declared.kind.Kind.TheVariants.{Sd, Emmc}
use Rattle.sdv_card.specs.declared.state.State.{State}
use Rattle.sdv_card.specs.declared.state.Partition.{Partition}
use Rattle.sdv_card.specs.declared.state.State.TheVariants.{Idle, Ready, Ident}
use Rattle.sdv_card.specs.declared.command.Order.{Order}
use Rattle.sdv_card.specs.declared.command.Order.TheVariants.{SelectCard, DeselectCards, ReadSingleBlock, ReadMultipleBlock, WriteBlock, WriteMultipleBlock, EraseBlockStart, EraseBlockEnd, EraseGroupStart, EraseGroupEnd}
use Rattle.sdv_card.specs.declared.command.Row.TheVariants.{Cmd7NotAddressed, Cmd18, Cmd25}
use Rattle.sdv_card.specs.declared.command.Response.TheVariants.{CardStatus}
use Rattle.sdv_card.specs.Card.{Card, Block, Partitions, IsCard, AddressFits, accessed_capacity}
use Rattle.sdv_card.specs.Exchange.{card_takes}
use Rattle.sdv_card.specs.Host.{Host}
use Rattle.sdv_card.specs.Laws.{order_blocks}
use Rattle.sdv_card.specs.LegalShapes.{order_legal}
use Rattle.sdv_card.specs.Legal.{RowLegal, SettledLegal, Within, BlocksWithin}
use Rattle.sdv_card.specs.Lists.{May}
use Rattle.sdv_card.specs.Profile.{host_at_start}
use Rattle.sdv_card.specs.Settled.{Settled}
use Rattle.sdv_card.specs.StateTable.{rows, targets}
use Rattle.sdv_card.specs.Taken.{block_of}
use Rattle.sdv_card.specs.Takes.{taken_as_of, matches}
use Rattle.sdv_card.proofs.LegalExact.{OrderLegal, order_legal_law, order_legal_back}
use Rattle.sdv_card.proofs.Members.{May-targets, both_true, and_left, and_right}
use Rattle.sdv_card.proofs.SettledCard.{settled_is_card}
use Rattle.sdv_behavior.specs.declared.behavior.Behavior.{Behavior}
use Rattle.sdv_behavior.specs.declared.card_desc.CardDesc.{CardDesc}
use Rattle.sdv_behavior.specs.declared.card_state.CardState.{CardState}
use Rattle.sdv_behavior.specs.declared.choice.Choice.{Choice}
use Rattle.sdv_behavior.specs.Layout.{partition_size}
use Rattle.sdv_behavior.specs.Accepts.{fields_at, has_blocks, accepts}
use Rattle.sdv_behavior.specs.Accepted.{AcceptsExactly}
use Rattle.sdv_behavior.specs.CardOf.{card_with, card_of}
use Rattle.sdv_behavior.specs.declared.behavior.Deed.{Deed}
use Rattle.sdv_behavior.specs.declared.behavior.Deed.TheVariants.{Loses, TakesUnheard, Takes, StaysUnheard, Stays}
use Rattle.sdv_behavior.specs.Heard.{deed_at, answered, choice_of, does, done_as, hear_at}
use Rattle.sdv_behavior.specs.Replies.{reply_of}
use Rattle.sdv_behavior.specs.RowTaken.{count_of, state_next, taken_by}
use Rattle.sdv_behavior.specs.LinesRead.{read_as}

-- A CARD THAT IS DESELECTED has an address other than 0

not_zero : (n : ℕ) → 0 < n → (n == 0) ≡ false
not_zero n h = go (n == 0) refl
  where
    go : (is : Bool) → (n == 0) ≡ is → is ≡ false
    go false e = refl
    go true e = let z : n ≡ 0 = eqb-true n 0 e in absurd (omega (arith, h, z))

other_address : (rca : Option ℕ) → (n : ℕ) × (Some n ≡ rca) × (0 < n) × (n < 65536) → matches rca 0 ≡ false
other_address rca a = subst (λ v. matches v 0 ≡ false) a.1 (not_zero a.0 a.2)

not_addressed : (k : Kind) (state : State) (rca : Option ℕ) {target : State} → May (targets (rows k Cmd7NotAddressed) state) target → AddressFits state rca →
    matches rca 0 ≡ false
not_addressed Sd Idle rca m a = absurd m.one
not_addressed Sd Ready rca m a = absurd m.one
not_addressed Sd Ident rca m a = absurd m.one
not_addressed Sd state rca m a = other_address rca a
not_addressed Emmc Idle rca m a = absurd m.one
not_addressed Emmc Ready rca m a = absurd m.one
not_addressed Emmc Ident rca m a = absurd m.one
not_addressed Emmc state rca m a = other_address rca a

same_way : (app : Bool) (t : Card) → AddressFits t.state t.rca → SettledLegal (taken_as_of DeselectCards app true) t →
    taken_as_of SelectCard app (matches t.rca 0) ≡ taken_as_of DeselectCards app true
same_way true t a l = refl
same_way false t a l = ap (λ m. taken_as_of SelectCard false m) (not_addressed t.kind t.state t.rca (May-targets l.has_row) a)

-- THE COUNT that a card reads is one that its preset count allows

count_allowed : (preset : ℕ) (none : Bool) → (preset == 0) ≡ none → (none || (preset == (if none then 1 else preset))) ≡ true
count_allowed preset true e = refl
count_allowed preset false e = eq-eqb preset preset refl

read_18 : (n : ℕ) (t : Card) → RowLegal (Cmd18 n) t → RowLegal (Cmd18 (count_of t.preset)) t
read_18 n t l = record {
  target = l.target;
  has_row = go t.kind l.has_row;
  length = l.length;
  erase = l.erase;
  preset =
      count_allowed t.preset (t.preset == 0) refl;
}
  where
    go : (k : Kind) {target : State} → May (rows k (Cmd18 n)) (record { source = t.state; target = target }) →
        May (rows k (Cmd18 (count_of t.preset))) (record { source = t.state; target = target })
    go Sd m = m
    go Emmc m = m

read_25 : (n : ℕ) (t : Card) → RowLegal (Cmd25 n) t → RowLegal (Cmd25 (count_of t.preset)) t
read_25 n t l = record {
  target = l.target;
  has_row = go t.kind l.has_row;
  length = l.length;
  erase = l.erase;
  preset =
      count_allowed t.preset (t.preset == 0) refl;
}
  where
    go : (k : Kind) {target : State} → May (rows k (Cmd25 n)) (record { source = t.state; target = target }) →
        May (rows k (Cmd25 (count_of t.preset))) (record { source = t.state; target = target })
    go Sd m = m
    go Emmc m = m

-- AN ORDER that is legal at a settled card is legal there as the card reads it

-- CMD7 of a host that deselects has address 0
abbrev pub SentTo : Order → ℕ → Type 0
SentTo DeselectCards argument = argument ≡ 0
SentTo order argument = Unit {0}

read_legal : (order : Order) (argument : ℕ) (t : Card) → SentTo order argument → AddressFits t.state t.rca → SettledLegal (card_takes t order argument) t →
    SettledLegal (card_takes t (read_as t.preset order) argument) t
read_legal order argument t sent a l = by_flag order t.app argument sent l
  where
    by_flag : (order : Order) (app : Bool) (argument : ℕ) → SentTo order argument → SettledLegal (taken_as_of order app (matches t.rca (argument / 65536))) t →
        SettledLegal (taken_as_of (read_as t.preset order) app (matches t.rca (argument / 65536))) t
    by_flag DeselectCards true argument sent l = l
    by_flag DeselectCards false argument sent l =
        subst (λ n. SettledLegal (taken_as_of SelectCard false (matches t.rca (n / 65536))) t) (sym sent)
        (subst (λ way. SettledLegal way t) (sym (same_way false t a l)) l)
    by_flag (ReadMultipleBlock n) true argument sent l = l
    by_flag (ReadMultipleBlock n) false argument sent l = read_18 n t l
    by_flag (WriteMultipleBlock n) true argument sent l = l
    by_flag (WriteMultipleBlock n) false argument sent l = read_25 n t l
    by_flag order app argument sent l = l

-- the card's own step keeps the preset count
settled_preset : (c t : Card) → Settled c t → c.preset ≡ t.preset
settled_preset c t (inl e) = ap (λ v. v.preset) e
settled_preset c t (inr x) = ap (λ v. v.preset) x.2

pub reads_legal : (order : Order) (argument : ℕ) (c : Card) → SentTo order argument → IsCard c → OrderLegal order argument c →
    OrderLegal (read_as c.preset order) argument c
reads_legal order argument c sent card legal t settles =
    subst (λ p. SettledLegal (card_takes t (read_as p order) argument) t) (sym (settled_preset c t settles))
    (read_legal order argument t sent (settled_is_card c t card settles).address (legal t settles))

-- WHAT COMES OF IT is the same

state_18 : (k : Kind) (n m : ℕ) (ready : Bool) (state : State) → state_next k (Cmd18 n) ready state ≡ state_next k (Cmd18 m) ready state
state_18 Sd n m ready state = refl
state_18 Emmc n m ready state = refl

taken_18 : (d : CardDesc) (n m argument : ℕ) (choice : Choice) (t : CardState) →
    taken_by d (Cmd18 n) argument choice t ≡ taken_by d (Cmd18 m) argument choice t
taken_18 d n m argument choice t = ap (λ s. record (taken_by d (Cmd18 n) argument choice t) { state = s }) (state_18 d.kind n m choice.ready t.state)

does_18 : (d : CardDesc) (deed : Deed) (n m argument : ℕ) (choice : Choice) (t : CardState) →
    does d deed (Cmd18 n) argument choice t ≡ does d deed (Cmd18 m) argument choice t
does_18 d Loses n m argument choice t = refl
does_18 d TakesUnheard n m argument choice t = ap (λ (a : CardState). record { after = answered d (Cmd18 n) false a; reply = None; erases = false }) (taken_18 d n m argument choice t)
does_18 d Takes n m argument choice t =
    ap (λ (a : CardState). record { after = answered d (Cmd18 n) true a; reply = reply_of d (Cmd18 n) t choice.app choice.error choice; erases = false }) (taken_18 d n m argument choice t)
does_18 d StaysUnheard n m argument choice t = refl
does_18 d Stays n m argument choice t = refl

done_18 : (d : CardDesc) (behavior : Behavior) (n m : ℕ) (app matched : Bool) (argument : ℕ) (t : CardState) →
    done_as d behavior (taken_as_of (ReadMultipleBlock n) app matched) argument t
    ≡ done_as d behavior (taken_as_of (ReadMultipleBlock m) app matched) argument t
done_18 d behavior n m true matched argument t = refl
done_18 d behavior n m false matched argument t =
    does_18 d (deed_at behavior.deed CardStatus) n m argument (choice_of d behavior (Cmd18 n) t) t

state_25 : (k : Kind) (n m : ℕ) (ready : Bool) (state : State) → state_next k (Cmd25 n) ready state ≡ state_next k (Cmd25 m) ready state
state_25 Sd n m ready state = refl
state_25 Emmc n m ready state = refl

taken_25 : (d : CardDesc) (n m argument : ℕ) (choice : Choice) (t : CardState) →
    taken_by d (Cmd25 n) argument choice t ≡ taken_by d (Cmd25 m) argument choice t
taken_25 d n m argument choice t = ap (λ s. record (taken_by d (Cmd25 n) argument choice t) { state = s }) (state_25 d.kind n m choice.ready t.state)

does_25 : (d : CardDesc) (deed : Deed) (n m argument : ℕ) (choice : Choice) (t : CardState) →
    does d deed (Cmd25 n) argument choice t ≡ does d deed (Cmd25 m) argument choice t
does_25 d Loses n m argument choice t = refl
does_25 d TakesUnheard n m argument choice t = ap (λ (a : CardState). record { after = answered d (Cmd25 n) false a; reply = None; erases = false }) (taken_25 d n m argument choice t)
does_25 d Takes n m argument choice t =
    ap (λ (a : CardState). record { after = answered d (Cmd25 n) true a; reply = reply_of d (Cmd25 n) t choice.app choice.error choice; erases = false }) (taken_25 d n m argument choice t)
does_25 d StaysUnheard n m argument choice t = refl
does_25 d Stays n m argument choice t = refl

done_25 : (d : CardDesc) (behavior : Behavior) (n m : ℕ) (app matched : Bool) (argument : ℕ) (t : CardState) →
    done_as d behavior (taken_as_of (WriteMultipleBlock n) app matched) argument t
    ≡ done_as d behavior (taken_as_of (WriteMultipleBlock m) app matched) argument t
done_25 d behavior n m true matched argument t = refl
done_25 d behavior n m false matched argument t =
    does_25 d (deed_at behavior.deed CardStatus) n m argument (choice_of d behavior (Cmd25 n) t) t

pub hears_same : (d : CardDesc) (behavior : Behavior) (order : Order) (preset argument announced : ℕ) (t : CardState) (contents : Partitions) →
    SentTo order argument → AddressFits t.state t.rca →
    SettledLegal (card_takes (card_with d t announced contents) order argument) (card_with d t announced contents) →
    hear_at d behavior (read_as preset order) argument t ≡ hear_at d behavior order argument t
hears_same d behavior (ReadMultipleBlock n) preset argument announced t contents sent a l =
    done_18 d behavior (count_of preset) n t.app (matches t.rca (argument / 65536)) argument t
hears_same d behavior (WriteMultipleBlock n) preset argument announced t contents sent a l =
    done_25 d behavior (count_of preset) n t.app (matches t.rca (argument / 65536)) argument t
hears_same d behavior DeselectCards preset argument announced t contents sent a l =
    ap (λ way. done_as d behavior way argument t)
    (ap (λ n. taken_as_of SelectCard t.app (matches t.rca (n / 65536))) sent
    ∙ (same_way t.app (card_with d t announced contents) a (flag t.app (matches t.rca (argument / 65536)) (card_with d t announced contents) l)
    ∙ unaddressed t.app (matches t.rca (argument / 65536))))
  where
    unaddressed : (app matched : Bool) → taken_as_of DeselectCards app true ≡ taken_as_of DeselectCards app matched
    unaddressed true matched = refl
    unaddressed false matched = refl

    flag : (app matched : Bool) (t : Card) → SettledLegal (taken_as_of DeselectCards app matched) t → SettledLegal (taken_as_of DeselectCards app true) t
    flag true matched t l = l
    flag false matched t l = l
hears_same d behavior order preset argument announced t contents sent a l = refl

-- IN BOUNDS

-- the count that the card reads is no greater than the one that the host announced
abbrev pub CountFits : ℕ → Order → Type 0
CountFits preset (ReadMultipleBlock n) = count_of preset ≤ n
CountFits preset (WriteMultipleBlock n) = count_of preset ≤ n
CountFits preset order = Unit {0}

in_unit : (d : CardDesc) (p : Partition) (position argument n m : ℕ) (c : Card) → d.block_unit ≡ c.block_unit → partition_size d p ≡ accessed_capacity c →
    m ≤ n → Within c position argument n → has_blocks d p argument (Some m) ≡ true
in_unit d p position argument n m c unit capacity few w = go d.block_unit (w.unit ∙ ap (λ b. if b then position else 512 * position) (sym unit))
  where
    room : position + m ≤ partition_size d p
    room = let r = w.room in omega (arith, few, r, capacity)

    go : (b : Bool) → argument ≡ (if b then position else 512 * position) →
        ((b || (argument % 512 == 0)) && nat_le (block_of b argument + m) (partition_size d p)) ≡ true
    go true e = le-leb (argument + m) (partition_size d p) (let r = room in omega (arith, r, e))
    go false e =
        both_true _ _ (eq-eqb (argument % 512) 0 (omega (arith, e))) (le-leb (argument / 512 + m) (partition_size d p) (let r = room in omega (arith, r, e)))

reads_blocks : (d : CardDesc) (p : Partition) (order : Order) (preset position argument : ℕ) (c : Card) → d.block_unit ≡ c.block_unit →
    partition_size d p ≡ accessed_capacity c → CountFits preset order →
    BlocksWithin (order_blocks order) c position argument → has_blocks d p argument (order_blocks (read_as preset order)) ≡ true
reads_blocks d p (ReadMultipleBlock n) preset position argument c unit capacity few w = in_unit d p position argument n (count_of preset) c unit capacity few w
reads_blocks d p (WriteMultipleBlock n) preset position argument c unit capacity few w = in_unit d p position argument n (count_of preset) c unit capacity few w
reads_blocks d p ReadSingleBlock preset position argument c unit capacity few w = in_unit d p position argument 1 1 c unit capacity (omega arith) w
reads_blocks d p WriteBlock preset position argument c unit capacity few w = in_unit d p position argument 1 1 c unit capacity (omega arith) w
reads_blocks d p EraseBlockStart preset position argument c unit capacity few w = in_unit d p position argument 1 1 c unit capacity (omega arith) w
reads_blocks d p EraseBlockEnd preset position argument c unit capacity few w = in_unit d p position argument 1 1 c unit capacity (omega arith) w
reads_blocks d p EraseGroupStart preset position argument c unit capacity few w = in_unit d p position argument 1 1 c unit capacity (omega arith) w
reads_blocks d p EraseGroupEnd preset position argument c unit capacity few w = in_unit d p position argument 1 1 c unit capacity (omega arith) w
reads_blocks d p order preset position argument c unit capacity few w = refl

-- ACCEPTED

-- a host whose relative address is in the argument
abbrev host_of : ℕ → Host
host_of argument = record (host_at_start 0) { rca = argument / 65536 }

pub accepts_law : (d : CardDesc) (order : Order) (position argument announced : ℕ) (s : CardState) (contents : Partitions) → SentTo order argument →
    CountFits s.preset order →
    IsCard (card_with d s announced contents) → OrderLegal order argument (card_with d s announced contents) →
    BlocksWithin (order_blocks order) (card_with d s announced contents) position argument →
    accepts d (read_as s.preset order) argument s ≡ true
accepts_law d order position argument announced s contents sent few card legal within =
    let c : Card = card_with d s announced contents in
    both_true _ _
    (order_legal_law (read_as s.preset order) argument c (host_of argument) (record { way = λ app rca. refl }) (reads_legal order argument c sent card legal))
    (reads_blocks d s.mode.partition order s.preset position argument c refl refl few within)

-- WHAT IS ACCEPTED is legal and in bounds, and what is so is accepted

legal_fields : (d : CardDesc) (order : Order) (argument : ℕ) (s : CardState) (contents : List Block) →
    order_legal d.kind order (fields_at d argument s) ≡ true → OrderLegal order argument (card_of d s contents)
legal_fields d order argument s contents e = order_legal_back order argument (card_of d s contents) (host_of argument) (record { way = λ app rca. refl }) e

-- some position of a command in bounds
record Positioned (blocks : Option ℕ) (c : Card) (argument : ℕ) : Type 0 where
  position : ℕ
  bounds : BlocksWithin blocks c position argument

positioned : (d : CardDesc) (s : CardState) (contents : List Block) (argument : ℕ) (blocks : Option ℕ) → has_blocks d s.mode.partition argument blocks ≡ true →
    Positioned blocks (card_of d s contents) argument
positioned d s contents argument None e = record { position = 0; bounds = tt }
positioned d s contents argument (Some count) e = go d.block_unit refl e
  where
    go : (unit : Bool) → d.block_unit ≡ unit →
        ((unit || (argument % 512 == 0)) && nat_le (block_of unit argument + count) (partition_size d s.mode.partition)) ≡ true →
        Positioned (Some count) (card_of d s contents) argument
    go true u e =
        let room : argument + count ≤ partition_size d s.mode.partition = leb-true _ _ (and_right true _ e) in
        record { position = argument; bounds = record { unit = rw u refl; room = room } }
    go false u e =
        let whole : argument % 512 ≡ 0 = eqb-true _ _ (and_left (argument % 512 == 0) _ e) in
        let room : argument / 512 + count ≤ partition_size d s.mode.partition = leb-true _ _ (and_right (argument % 512 == 0) _ e) in
        let unit : argument ≡ 512 * (argument / 512) = omega (arith, whole) in
        record { position = argument / 512; bounds = record { unit = rw u unit; room = room } }

has_them : (d : CardDesc) (s : CardState) (contents : List Block) (position argument : ℕ) (blocks : Option ℕ) →
    BlocksWithin blocks (card_of d s contents) position argument → has_blocks d s.mode.partition argument blocks ≡ true
has_them d s contents position argument None w = refl
has_them d s contents position argument (Some count) w =
    in_unit d s.mode.partition position argument count count (card_of d s contents) refl refl (omega arith) w

pub accepts_exactly : AcceptsExactly
accepts_exactly d order argument s contents = (
  (λ e.
      let at = positioned d s contents argument (order_blocks order) (and_right (order_legal d.kind order (fields_at d argument s)) _ e) in
      record {
        legal = legal_fields d order argument s contents (and_left (order_legal d.kind order (fields_at d argument s)) _ e);
        position = at.position;
        bounds = at.bounds;
      }),
  (λ a.
      both_true _ _
      (order_legal_law order argument (card_of d s contents) (host_of argument) (record { way = λ app rca. refl }) a.legal)
      (has_them d s contents a.position argument (order_blocks order) a.bounds)),
)
