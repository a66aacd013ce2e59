-- A step leads from a card beside its host to a card beside its host.
use Rattle.std.proofs.Common.{◌≡◌, ℕ, ◌<◌, ◌/◌, inl, inr, refl, subst, sym, ◌∙◌, Bool, true, false, Option, Some, ◌==◌}
use Rattle.sdv_registers.specs.declared.kind.Kind.{Kind}
use Rattle.sdv_card.specs.declared.state.State.{State}
use Rattle.sdv_card.specs.declared.state.State.TheVariants.{Tran, Data, Rcv, Prg}
use Rattle.sdv_card.specs.declared.state.Place.{Place}
use Rattle.sdv_card.specs.declared.state.Transfer.{Transfer}
use Rattle.sdv_card.specs.declared.state.Transfer.TheVariants.{Nothing}
use Rattle.sdv_card.specs.declared.answer.Answer.{Answer}
use Rattle.sdv_card.specs.declared.answer.Answer.TheVariants.{TimeOut}
use Rattle.sdv_card.specs.declared.answer.DataEnd.{DataEnd}
use Rattle.sdv_card.specs.declared.answer.WaitEnd.{WaitEnd}
use Rattle.sdv_card.specs.declared.answer.WaitEnd.TheVariants.{Ok as Over, Late}
use Rattle.sdv_card.specs.declared.event.Ask.{Ask}
use Rattle.sdv_card.specs.declared.command.Order.{Order}
use Rattle.sdv_card.specs.declared.command.Row.{Row}
use Rattle.sdv_card.specs.declared.command.TakenAs.{TakenAs}
use Rattle.sdv_card.specs.declared.command.TakenAs.TheVariants.{Forbidden, Ignored, By}
use Rattle.sdv_card.specs.Lists.{May, IsOneOf}
use Rattle.sdv_card.specs.Takes.{matches}
use Rattle.sdv_card.specs.CommandTable.{order_of}
use Rattle.sdv_card.specs.RowRules.{transfer_after}
use Rattle.sdv_card.specs.ScriptEvent.{SendCommand, ReceiveBlocks, ReceiveRegister, GiveBlocks, AwaitReady, Answered, BlocksIn, RegisterIn, BlocksOut, Waited}
use Rattle.sdv_card.specs.Card.{Card, IsCard, AddressFits, ContentsFit, transfer_fits, kind_fits, length_fits}
use Rattle.sdv_card.specs.Host.{Host, host_after, host_after_order, rca_known}
use Rattle.sdv_card.specs.Taken.{Taken, Stayed}
use Rattle.sdv_card.specs.Exchange.{SettledAnswer, Exchanges, card_takes}
use Rattle.sdv_card.specs.Phases.{after_phase, after_wait, Moved, MovedWriting, OnlyAddressed, WaitEnds}
use Rattle.sdv_card.specs.Shapes.{IsPair}
use Rattle.sdv_card.specs.Laws.{StepsKeepPairs}
use Rattle.sdv_card.specs.Modes.{mode_fits, has_width}
use Rattle.sdv_card.proofs.Became.{Became, became}
use Rattle.sdv_card.proofs.Same.{same_but_contents, settled_same, became_same, steps_keep_same}
use Rattle.sdv_card.proofs.SettledCard.{Fits, card_after, kind_of_none, kind_of_blocks, settled_is_card}
use Rattle.sdv_card.proofs.RowsOfOrders.{same_count, says, ignored_rca, row_count, row_rca}
use Rattle.sdv_card.proofs.OrdersOfAsks.{of_ask}
use Rattle.sdv_card.proofs.RowsKeep.{Leads, leads}
use Rattle.sdv_card.proofs.TakenFields.{SameHost}
use Rattle.sdv_card.proofs.PhasePlaces.{Calm, calm_place}
use Rattle.sdv_card.proofs.PartsKept.{kept_small, preset_small, kind_none_taken, kind_none_stayed, kind_again, kind_taken, length_kept, announced_small, mode_kept, mode_kept_stayed, contents_same, contents_put, contents_kept, rca_small}

-- A COMMAND

fits_taken : (row : Row) (heard : Bool) (argument : ℕ) (t u : Card) → row_count row < 65536 → IsCard t → Taken row heard argument t u → Fits u
fits_taken row heard argument t u count card m =
    let lead : Leads row t.state u.state = leads t.kind row t.state u.state m.state.one in
    let none : kind_fits t.kind Nothing u.app u.preset ≡ true =
    kind_none_taken t.kind row t.transfer t.app u.app t.preset u.preset t.state u.state m.state.one card.kind_rules m.app m.preset in
    let kind : kind_fits t.kind (transfer_after row t.preset t.transfer) u.app u.preset ≡ true =
    kind_taken t.kind row t.transfer t.app u.app t.preset u.preset t.state u.state m.state.one card.kind_rules none in
    record {
      address = lead.address t.rca u.rca m.rca card.address;
      transfer = subst (λ x. transfer_fits u.state x ≡ true) m.transfer (lead.transfer t.preset t.transfer card.transfer);
      kind_rules =
          subst (λ k. kind_fits k u.transfer u.app u.preset ≡ true) m.same.kind
          (subst (λ x. kind_fits t.kind x u.app u.preset ≡ true) m.transfer kind);
      block_length =
          subst (λ v. length_fits v (u.block_length == 512) ≡ true) m.same.block_unit
          (length_kept row t.block_unit t.block_length u.block_length m.block_length card.block_length);
      preset = preset_small t.kind row t.preset u.preset count card.preset m.preset;
      announced = announced_small row argument t u count card.announced m.blocks;
      mode =
          subst (λ k. mode_fits k u.mode ≡ true) m.same.kind
          (mode_kept t.kind row heard t.state t.state u.state t.mode u.mode m.state.one card.mode m.mode);
      contents = contents_kept row t u m.same m.contents card.contents;
    }

fits_stayed : (row : Row) (heard : Bool) (t u : Card) → IsCard t → Stayed row heard t u → Fits u
fits_stayed row heard t u card m =
    let none : kind_fits t.kind Nothing u.app u.preset ≡ true =
    kind_none_stayed t.kind t.transfer t.app u.app t.preset u.preset card.kind_rules m.app m.preset in
    let kind : kind_fits t.kind t.transfer u.app u.preset ≡ true =
    kind_again t.kind t.transfer t.app u.app t.preset u.preset card.kind_rules none in
    record {
      address = subst (λ s. AddressFits s u.rca) m.state (subst (λ r. AddressFits t.state r) m.rca card.address);
      transfer = subst (λ s. transfer_fits s u.transfer ≡ true) m.state (subst (λ x. transfer_fits t.state x ≡ true) m.transfer card.transfer);
      kind_rules =
          subst (λ k. kind_fits k u.transfer u.app u.preset ≡ true) m.same.kind
          (subst (λ x. kind_fits t.kind x u.app u.preset ≡ true) m.transfer kind);
      block_length =
          subst (λ v. length_fits v (u.block_length == 512) ≡ true) m.same.block_unit
          (subst (λ n. length_fits t.block_unit (n == 512) ≡ true) m.block_length card.block_length);
      preset = kept_small t.kind t.preset u.preset card.preset m.preset;
      announced = subst (λ n. n < 65536) m.blocks.count_is card.announced;
      mode =
          subst (λ k. mode_fits k u.mode ≡ true) m.same.kind
          (mode_kept_stayed t.kind row heard t.state t.mode u.mode card.mode m.mode);
      contents = contents_same t u m.same m.contents card.contents;
    }

-- the card after a command whose rows have counts in their range
card_became : (way : TakenAs) (argument : ℕ) (t u : Card) → ((row : Row) → way ≡ By row → row_count row < 65536) → IsCard t →
    Became way argument t u → IsCard u
card_became way argument t u count card (inl e) = subst (λ v. IsCard v) e card
card_became way argument t u count card (inr (inl m)) =
    card_after t u card m.taken.same (fits_taken m.row m.heard argument t u (count m.row m.by) card m.taken)
card_became way argument t u count card (inr (inr m)) = card_after t u card m.stayed.same (fits_stayed m.row m.heard t u card m.stayed)

-- the host's address after a command
rca_after : (way : TakenAs) (order : Order) (argument : ℕ) (t u : Card) (answer : Answer) (rca : ℕ) →
    (way ≡ Ignored → rca_known order TimeOut rca ≡ rca) →
    ((row : Row) → way ≡ By row → rca_known order answer rca ≡ row_rca row answer rca) →
    SettledAnswer way order argument t answer u → rca < 65536 → rca_known order answer rca < 65536
rca_after Forbidden order argument t u answer rca ignored by a small = absurd a
rca_after Ignored order argument t u answer rca ignored by a small =
    subst (λ v. rca_known order v rca < 65536) a.0 (subst (λ n. n < 65536) (sym (ignored refl)) small)
rca_after (By row) order argument t u answer rca ignored by a small =
    subst (λ n. n < 65536) (sym (by row refl)) (rca_small order row argument t u answer rca a small)

-- PHASES

-- a card with a transfer is in data or receive state, where it has an address
in_transfer : (s : State) (x : Transfer) (rca : Option ℕ) → (Nothing ≡ x → ⊥) → transfer_fits s x ≡ true → AddressFits s rca → AddressFits Tran rca
in_transfer Data x rca some e a = a
in_transfer Rcv x rca some e a = a
in_transfer s Nothing rca some e a = absurd (some refl)
in_transfer s x rca some e a = absurd (let f : false ≡ true = e in cc)

some_transfer : (x : Transfer) (end : DataEnd) (p : Place) → IsOneOf (after_phase x end) p → Nothing ≡ x → ⊥
some_transfer x end p m e = subst (λ y. IsOneOf (after_phase y end) p) (sym e) m

-- a card after a phase, with blocks of its own
fits_placed : (c : Card) (end : DataEnd) (p : Place) (d : Card) → IsCard c → May (after_phase c.transfer end) p →
    ContentsFit (record c { contents = d.contents }) →
    Fits (record c { state = p.state; transfer = p.transfer; contents = d.contents; unshown_error = d.unshown_error })
fits_placed c end p d card may blocks =
    let calm : Calm p = calm_place c.transfer end p may in
    record {
      address = calm.address c.rca (in_transfer c.state c.transfer c.rca (some_transfer c.transfer end p may.one) card.transfer card.address);
      transfer = calm.transfer;
      kind_rules = kind_of_blocks c.kind p.transfer c.app c.preset calm.no_register (kind_of_none c.kind c.transfer c.app c.preset card.kind_rules);
      block_length = card.block_length;
      preset = card.preset;
      announced = card.announced;
      mode = card.mode;
      contents = blocks;
    }

fits_moved : (c u : Card) (end : DataEnd) → IsCard c → Moved end c u → Fits u
fits_moved c u end card m = subst (λ v. Fits v) m.card (fits_placed c end m.place c card m.may card.contents)

fits_moved_writing : (c u : Card) (end : DataEnd) → IsCard c → OnlyAddressed c u → MovedWriting end c u → Fits u
fits_moved_writing c u end card others m =
    subst (λ v. Fits v) m.card
    (fits_placed c end m.place u card m.may
    (contents_put c (record c { contents = u.contents }) (same_but_contents c u) others.others others.blocks card.contents))

-- A WAIT

record Waits (a b : State) : Type 0 where
  transfer : (x : Transfer) → transfer_fits a x ≡ true → transfer_fits b x ≡ true
  address : (rca : Option ℕ) → AddressFits a rca → AddressFits b rca

waits_in : (a b c : State) → Waits a b → b ≡ c → Waits a c
waits_in a b c w e = subst (λ v. Waits a v) e w

waits : (a : State) (end : WaitEnd) (b : State) → IsOneOf (after_wait a end) b → Waits a b
waits Tran end b (inl e) = waits_in Tran Tran b (record { transfer = λ x f. f; address = λ rca f. f }) e
waits Tran end b (inr e) = absurd e
waits Prg Over b (inl e) = waits_in Prg Tran b (record { transfer = λ x f. f; address = λ rca f. f }) e
waits Prg Over b (inr e) = absurd e
waits Prg Late b (inl e) = waits_in Prg Prg b (record { transfer = λ x f. f; address = λ rca f. f }) e
waits Prg Late b (inr (inl e)) = waits_in Prg Tran b (record { transfer = λ x f. f; address = λ rca f. f }) e
waits Prg Late b (inr (inr e)) = absurd e
waits a end b m = absurd m

fits_waited : (c u : Card) (end : WaitEnd) → IsCard c → WaitEnds end c u → Fits u
fits_waited c u end card w =
    let wait : Waits c.state w.state = waits c.state end w.state w.may.one in
    subst (λ v. Fits v) w.card
    (record {
      address = wait.address c.rca card.address;
      transfer = wait.transfer c.transfer card.transfer;
      kind_rules = card.kind_rules;
      block_length = card.block_length;
      preset = card.preset;
      announced = card.announced;
      mode = card.mode;
      contents = card.contents;
    })

-- EVENTS

same_host : {h : Host} → SameHost h h
same_host = record { lines = refl; flags = refl }

pair_after : (k : Kind) (c u : Card) (h h' : Host) → IsPair k c h → IsCard u → c.kind ≡ u.kind → SameHost h h' → h'.rca < 65536 → IsPair k u h'
pair_after k c u h h' pair card kind host rca = record {
  kind = pair.kind ∙ kind;
  card = card;
  lines = subst (λ w. has_width k w ≡ true) host.lines pair.lines;
  flags = subst (λ n. n < 16) host.flags pair.flags;
  rca = rca;
}

exchange_pair : (k : Kind) (ask : Ask) (order : Order) (argument : ℕ) (c u : Card) (h : Host) (answer : Answer) → IsPair k c h →
    order_of k ask ≡ Some order → Exchanges order argument c answer u → IsPair k u (host_after_order (Some order) answer h)
exchange_pair k ask order argument c u h answer pair e x =
    let t : Card = x.settled_card in
    let way : TakenAs = card_takes t order argument in
    let m : Bool = matches t.rca (argument / 65536) in
    let came : Became way argument t u = became way order argument t u answer x.answered in
    pair_after k c u h (host_after_order (Some order) answer h) pair
    (card_became way argument t u
    (λ row by. subst (λ n. n < 65536) (same_count (says order t.app m row by)) (of_ask k ask order e).count)
    (settled_is_card c t pair.card x.settled) came)
    ((settled_same c t x.settled).kind ∙ (became_same way argument t u came).kind) (record { lines = refl; flags = refl })
    (rca_after way order argument t u answer h.rca (ignored_rca order t.app m h.rca)
    (λ row by. (says order t.app m row by).rca answer h.rca) x.answered pair.rca)

pub steps_keep_pairs : (k : Kind) → StepsKeepPairs k
steps_keep_pairs k (SendCommand ask position argument) c h (Answered answer) u pair made s =
    let e : order_of k ask ≡ Some s.order = subst (λ v. order_of v ask ≡ Some s.order) (sym pair.kind) s.asks.line in
    subst (λ o. IsPair k u (host_after_order o answer h)) (sym e) (exchange_pair k ask s.order argument c u h answer pair e s.exchange)
steps_keep_pairs k (ReceiveBlocks lines count) c h (BlocksIn end blocks) u pair made s =
    let same = steps_keep_same k (ReceiveBlocks lines count) c (BlocksIn end blocks) u pair.kind s in
    pair_after k c u h h pair (card_after c u pair.card same (fits_moved c u end pair.card s.moved)) same.kind same_host pair.rca
steps_keep_pairs k (ReceiveRegister lines count) c h (RegisterIn end bytes) u pair made s =
    let same = steps_keep_same k (ReceiveRegister lines count) c (RegisterIn end bytes) u pair.kind s in
    pair_after k c u h (host_after k (ReceiveRegister lines count) (RegisterIn end bytes) h) pair
    (card_after c u pair.card same (fits_moved c u end pair.card s.moved)) same.kind (record { lines = refl; flags = refl }) pair.rca
steps_keep_pairs k (GiveBlocks lines blocks) c h (BlocksOut end) u pair made s =
    let same = steps_keep_same k (GiveBlocks lines blocks) c (BlocksOut end) u pair.kind s in
    pair_after k c u h h pair
    (card_after c u pair.card same (fits_moved_writing c u end pair.card s.others s.moved)) same.kind same_host pair.rca
steps_keep_pairs k AwaitReady c h (Waited end) u pair made s =
    let same = steps_keep_same k AwaitReady c (Waited end) u pair.kind s in
    pair_after k c u h h pair (card_after c u pair.card same (fits_waited c u end pair.card s)) same.kind same_host pair.rca
steps_keep_pairs k event c h returned u pair made s = absurd s
