-- Each outcome of a legal event in bounds, at a representative card beside its host, is of a step of that card.
use Rattle.std.proofs.Common.{◌≡◌, ℕ, ◌+◌, ◌<◌, ◌≤◌, ◌⊎◌, inl, inr, refl, ap, subst, sym, ◌∙◌, Bool, true, false, not, ◌&&◌, ◌==◌, List, [], ◌∷◌, ◌++◌, map, length, take, drop, replicate, Option, Some, None, All}
use Rattle.std.proofs.lemmas.List.{length-replicate}
use Rattle.sdv_registers.specs.declared.kind.Kind.{Kind}
use Rattle.sdv_registers.specs.declared.kind.Kind.TheVariants.{Sd, Emmc}
use Rattle.sdv_card.specs.declared.state.State.{State}
use Rattle.sdv_card.specs.declared.state.State.TheVariants.{Ident, Stby, Tran, Data, Rcv, Prg, Dis}
use Rattle.sdv_card.specs.declared.state.Place.{Place}
use Rattle.sdv_card.specs.declared.state.Mode.{Mode}
use Rattle.sdv_card.specs.declared.state.Partition.{Partition}
use Rattle.sdv_card.specs.declared.state.Partition.TheVariants.{User, Boot1, Boot2}
use Rattle.sdv_card.specs.declared.state.Transfer.{Transfer}
use Rattle.sdv_card.specs.declared.state.Transfer.TheVariants.{Nothing, ReadDue, OpenReadDue, WriteDue, OpenWriteDue}
use Rattle.sdv_card.specs.declared.fields.Fields.{Fields}
use Rattle.sdv_card.specs.declared.event.Branch.{Branch}
use Rattle.sdv_card.specs.declared.event.Outcome.{Outcome}
use Rattle.sdv_card.specs.declared.event.Seen.TheVariants.{TimeOut as SeenTimeOut}
use Rattle.sdv_card.specs.declared.answer.Answer.{Answer}
use Rattle.sdv_card.specs.declared.answer.Answer.TheVariants.{Reply as Replied}
use Rattle.sdv_frames.specs.declared.reply.Reply.TheVariants.{R6}
use Rattle.sdv_registers.specs.Status.{rca as published_rca}
use Rattle.sdv_card.specs.declared.answer.DataEnd.{DataEnd}
use Rattle.sdv_card.specs.declared.answer.DataEnd.TheVariants.{Ok, Cut}
use Rattle.sdv_card.specs.declared.answer.WaitEnd.{WaitEnd}
use Rattle.sdv_card.specs.declared.answer.WaitEnd.TheVariants.{Ok as Over, Late}
use Rattle.sdv_card.specs.declared.command.Order.{Order}
use Rattle.sdv_card.specs.declared.command.Order.TheVariants.{SendRelativeAddress}
use Rattle.sdv_card.specs.declared.command.Row.{Row}
use Rattle.sdv_card.specs.declared.command.Row.TheVariants.{Cmd3Sd, Cmd3Emmc, Cmd13, Acmd13}
use Rattle.sdv_card.specs.declared.command.TakenAs.{TakenAs}
use Rattle.sdv_card.specs.declared.command.TakenAs.TheVariants.{By}
use Rattle.sdv_card.specs.Lists.{May, IsOneOf}
use Rattle.sdv_card.specs.States.{own_target}
use Rattle.sdv_card.specs.StateTable.{◌to◌, unchanged, rows}
use Rattle.sdv_card.specs.Modes.{has_width, partition_number, mode_fits}
use Rattle.sdv_card.specs.Takes.{taken_as_of, matches}
use Rattle.sdv_card.specs.ScriptEvent.{ScriptEvent, SendCommand, ReceiveBlocks, ReceiveRegister, GiveBlocks, AwaitReady, Return, Answered, BlocksIn, RegisterIn, BlocksOut, Waited, event_of}
use Rattle.sdv_card.specs.Card.{Card, IsCard, IsRegister, AreBlocks, Block, Partitions, AddressFits, accessed_capacity, accessed_blocks, put_accessed, blocks_of, put}
use Rattle.sdv_card.specs.Host.{Host, host_after, host_after_order}
use Rattle.sdv_card.specs.HostEvents.{Makes}
use Rattle.sdv_card.specs.Settled.{Settled}
use Rattle.sdv_card.specs.Exchange.{Exchanges, SettledAnswer}
use Rattle.sdv_card.specs.Phases.{read_due, register_due, write_due, blocks_due, after_phase, after_wait, addressed, BlocksTrue, RegisterTrue, due_register, fixed, OnlyAddressed, StoredOrNot}
use Rattle.sdv_card.specs.Legal.{RowLegal, SettledLegal, EventLegal, InBounds, HasBlocks, TransferOnCard, recv_legal, recv_reg_legal, give_legal}
use Rattle.sdv_card.specs.Step.{Step}
use Rattle.sdv_card.specs.Taken.{SameCard}
use Rattle.sdv_card.specs.Shapes.{view, pair_code, IsPair}
use Rattle.sdv_card.specs.Code.{fields_of}
use Rattle.sdv_card.specs.Outcomes.{branch, placed, phase_seen, wait_seen, phase_ends, wait_ends, own_steps, settled, settled_branches, order_branches, ask_branches, event_branches, branches_at, outcome_of, outcomes_code}
use Rattle.sdv_card.specs.Seen.{seen_of, answer_seen}
use Rattle.sdv_card.proofs.Digits.{fields_law}
use Rattle.sdv_card.proofs.Members.{only, and_left, and_right}
use Rattle.sdv_card.proofs.Same.{settled_same, steps_keep_same}
use Rattle.sdv_card.proofs.SettledCard.{settled_is_card}
use Rattle.sdv_card.proofs.AddressSent.{AddressSent, address_sent}
use Rattle.sdv_card.proofs.RowsOfOrders.{says, ignored_rca}
use Rattle.sdv_card.proofs.Matches.{GivenAddress}
use Rattle.sdv_card.proofs.TakenFields.{Allowed}
use Rattle.sdv_card.proofs.LegalExact.{OrderLegal}
use Rattle.sdv_card.proofs.RowOutcomes.{heard}
use Rattle.sdv_card.proofs.HasStep.{read_is_due, register_is_due, write_is_due}
use Rattle.sdv_outcomes.specs.OpenGuards.{OpenGuards, OpenGuardsAre}
use Rattle.sdv_outcomes.specs.Representative.{IsRepresentative}
use Rattle.sdv_outcomes.specs.OutcomeSteps.{GivesBlocks, StepWithOutcome, AsksRelativeAddress, IsImpossibleMatch, OutcomesAreSteps}
use Rattle.sdv_outcomes.proofs.MembersBack.{May-map_back, May-append_back, May-each_back, May-cons_back, none_back}
use Rattle.sdv_outcomes.proofs.TakenCards.{put_back}
use Rattle.sdv_outcomes.proofs.RowSteps.{closed_guards}
use Rattle.sdv_outcomes.proofs.SettledSteps.{settled_step}
use Rattle.sdv_outcomes.proofs.Splices.{splice, splice_length, splice_all, splice_below, splice_in, splice_above, part_length, Read, read}

-- A SETTLED CARD with the settled fields

own_step : (c : Card) (h : Host) (o : Option State) (f : Fields) → own_target c.state c.transfer ≡ o → May (own_steps (view c h) o) f →
    (t : Card) × Settled c t × (view t h ≡ f)
own_step c h None f e m = absurd (none_back m)
own_step c h (Some s) f e m = (record c { state = s; transfer = Nothing }, inr (s, e, refl), only m)

settled_card : (c : Card) (h : Host) (f : Fields) → May (settled (view c h)) f → (t : Card) × Settled c t × (view t h ≡ f)
settled_card c h f m = elim (May-cons_back m) [
  | inl e ↦ (c, inl refl, e)
  | inr n ↦ own_step c h (own_target c.state c.transfer) f refl n
]

settled_pending : (c t : Card) → Settled c t → t.mode.error ≡ c.mode.error
settled_pending c t (inl e) = sym (ap (λ v. v.mode.error) e)
settled_pending c t (inr x) = sym (ap (λ v. v.mode.error) x.2)

settled_unshown : (c t : Card) → Settled c t → t.unshown_error ≡ c.unshown_error
settled_unshown c t (inl e) = sym (ap (λ v. v.unshown_error) e)
settled_unshown c t (inr x) = sym (ap (λ v. v.unshown_error) x.2)

-- WHAT A LEGAL ROW SAYS of a settled card

given_by_row : (k : Kind) (row : Row) (a b : State) (rca : Option ℕ) → IsOneOf (rows k row) (a to b) → AddressFits a rca → GivenAddress row rca
given_by_row Emmc Cmd3Emmc a b rca (inl e) fits = let f : Ident ≡ a = ap (λ m. m.source) e in subst (λ v. AddressFits v rca) (sym f) fits
given_by_row Emmc Cmd3Emmc a b rca (inr e) fits = absurd e
given_by_row Sd Cmd3Emmc a b rca m fits = absurd m
given_by_row k row a b rca m fits = tt

unchanged_same : (ss : List State) (a b : State) → IsOneOf (unchanged ss) (a to b) → a ≡ b
unchanged_same [] a b m = absurd m
unchanged_same (s ∷ ss) a b (inl e) = let f : s ≡ a = ap (λ m. m.source) e in let g : s ≡ b = ap (λ m. m.target) e in sym f ∙ g
unchanged_same (s ∷ ss) a b (inr m) = unchanged_same ss a b m

status_stays : (k : Kind) (a b : State) → IsOneOf (rows k Cmd13) (a to b) → a ≡ b
status_stays Sd a b m = unchanged_same (Stby ∷ Tran ∷ Data ∷ Rcv ∷ Prg ∷ Dis ∷ []) a b m
status_stays Emmc a b m = unchanged_same (Stby ∷ Tran ∷ Data ∷ Rcv ∷ Prg ∷ Dis ∷ []) a b m

not_true : (b : Bool) → not b ≡ true → b ≡ false
not_true true e = absurd (let f : false ≡ true = e in cc)
not_true false e = refl

no_switch_error : (k : Kind) (a b : State) (mode : Mode) → IsOneOf (rows k Acmd13) (a to b) → mode_fits k mode ≡ true → mode.error ≡ false
no_switch_error Sd a b mode m e = not_true mode.error (and_right (has_width Sd mode.width && (partition_number mode.partition == 0)) _ e)
no_switch_error Emmc a b mode m e = absurd m

allowed_by_row : (row : Row) (t : Card) → IsCard t → RowLegal row t → Allowed row t
allowed_by_row Cmd13 t card l = subst (λ s. May (rows t.kind Cmd13) (t.state to s)) (sym (status_stays t.kind t.state l.target l.has_row.one)) l.has_row
allowed_by_row Acmd13 t card l = no_switch_error t.kind t.state l.target t.mode l.has_row.one card.mode
allowed_by_row row t card l = tt

-- only the order of SD's CMD3 leads to its row
address_order : (order : Order) (app matched : Bool) → taken_as_of order app matched ≡ By Cmd3Sd → order ≡ SendRelativeAddress
address_order SendRelativeAddress app matched e = refl
address_order order true true e = absurd (cc)
address_order order true false e = absurd (cc)
address_order order false true e = absurd (cc)
address_order order false false e = absurd (cc)

-- AN ORDER

pub reads_blocks : (x : Transfer) → read_due x ≡ true → blocks_due x ≡ true
reads_blocks ReadDue e = refl
reads_blocks OpenReadDue e = refl
reads_blocks x e = absurd (let f : false ≡ true = e in cc)

pub writes_blocks : (x : Transfer) → write_due x ≡ true → blocks_due x ≡ true
writes_blocks WriteDue e = refl
writes_blocks OpenWriteDue e = refl
writes_blocks x e = absurd (let f : false ≡ true = e in cc)

module _ (guards : OpenGuards) where
  record OrderStep (order : Order) (argument : ℕ) (c : Card) (h : Host) (b : Branch) : Type 0 where
    answer : Answer
    after : Card
    exchange : Exchanges order argument c answer after
    all_shown : after.unshown_error ≡ false
    published : (word : ℕ) → answer ≡ Replied (R6 word) → 0 < published_rca word
    guards_are : OpenGuardsAre c.kind guards (answer_seen c.kind c.mode.error answer) (Answered answer)
    same : b ≡ branch (view after (heard order answer h)) (answer_seen c.kind c.mode.error answer)

  record ImpossibleOrder (order : Order) (h : Host) (b : Branch) : Type 0 where
    order_is : order ≡ SendRelativeAddress
    none : h.rca ≡ 0
    seen : b.seen ≡ SeenTimeOut
    state : b.fields.state ≡ Stby
    matched : b.fields.matched ≡ true
    flags : b.fields.flags ≡ h.flags
    preset : b.fields.preset < 65536

  order_step : (order : Order) (argument : ℕ) (c : Card) (h : Host) (b : Branch) → IsRepresentative c → IsCard c → h.rca < 65536 →
      AddressSent order argument h →
      OrderLegal order argument c → May (order_branches c.kind order (view c h)) b → OrderStep order argument c h b ⊎ ImpossibleOrder order h b
  order_step order argument c h b representative card small sent legal m =
      let x = May-each_back (settled (view c h)) (λ (f : Fields). settled_branches c.kind order f (taken_as_of order f.app f.matched)) m in
      let s : (t : Card) × Settled c t × (view t h ≡ x.0) = settled_card c h x.0 x.1 in
      let t : Card = s.0 in
      let way : TakenAs = taken_as_of order t.app (matches t.rca h.rca) in
      let may : May (settled_branches c.kind order (view t h) way) b =
      subst (λ (f : Fields). May (settled_branches c.kind order f (taken_as_of order f.app f.matched)) b) (sym s.2) x.2 in
      let same : SameCard c t = settled_same c t s.1 in
      let here : IsCard t = settled_is_card c t card s.1 in
      let all_shown : t.unshown_error ≡ false = settled_unshown c t s.1 ∙ representative.all_shown in
      let legal_here : SettledLegal way t = subst (λ way. SettledLegal way t) (sent.way t.app t.rca) (legal t s.1) in
      elim (settled_step guards way c.kind order argument h t b (ignored_rca order t.app (matches t.rca h.rca) h.rca) all_shown
      (λ (row : Row) (by : way ≡ By row).
      let at_row : RowLegal row t = subst (λ w. SettledLegal w t) by legal_here in
      record {
        at = record {
          kind = same.kind;
          card = here;
          says = says order t.app (matches t.rca h.rca) row by;
          given = given_by_row t.kind row t.state at_row.target t.rca at_row.has_row.one here.address;
          allowed = allowed_by_row row t here at_row;
        };
        legal = at_row;
        all_shown = all_shown;
        version = λ e. sym same.version ∙ representative.version e;
        boot_blocks = λ e. subst (λ n. 0 < n) same.boot_capacity (representative.boot_blocks e);
        small = small;
      }) may) [
        | inl y ↦ inl (record {
          answer = y.answer;
          after = y.after;
          exchange = record {
            settled_card = t;
            settled = s.1;
            answered = subst (λ w. SettledAnswer w order argument t y.answer y.after) (sym (sent.way t.app t.rca)) y.answered;
          };
          all_shown = y.all_shown;
          published = y.published;
          guards_are = subst (λ d. OpenGuardsAre c.kind guards (answer_seen c.kind d y.answer) (Answered y.answer)) (settled_pending c t s.1) y.guards_are;
          same = y.same ∙ ap (λ d. branch (view y.after (heard order y.answer h)) (answer_seen c.kind d y.answer)) (settled_pending c t s.1);
        })
        | inr y ↦ inr (record {
          order_is = address_order order t.app (matches t.rca h.rca) (y.by ∙ ap By y.impossible.row_is);
          none = y.impossible.none;
          seen = y.impossible.seen;
          state = y.impossible.state;
          matched = y.impossible.matched;
          flags = y.impossible.flags;
          preset = y.impossible.preset;
        })
      ]

  -- AN EVENT

  record EventStep (event : ScriptEvent) (c : Card) (h : Host) (b : Branch) : Type 0 where
    returned : Return
    after : Card
    step : Step event c returned after
    all_shown : after.unshown_error ≡ false
    published : (word : ℕ) → returned ≡ Answered (Replied (R6 word)) → 0 < published_rca word
    guards_are : OpenGuardsAre c.kind guards (seen_of c.kind c.mode.error returned) returned
    same : b ≡ branch (view after (host_after c.kind event returned h)) (seen_of c.kind c.mode.error returned)

  record ImpossibleEvent (event : ScriptEvent) (c : Card) (h : Host) (b : Branch) : Type 0 where
    asks : AsksRelativeAddress c.kind event
    none : h.rca ≡ 0
    seen : b.seen ≡ SeenTimeOut
    state : b.fields.state ≡ Stby
    matched : b.fields.matched ≡ true
    flags : b.fields.flags ≡ h.flags
    preset : b.fields.preset < 65536

  -- PHASES AND WAITS

  phase_back : (f : Fields) (b : Branch) → May (phase_ends Ok f ++ phase_ends Cut f) b →
      (end : DataEnd) × (place : Place) × May (after_phase f.transfer end) place × (branch (placed f place) (phase_seen end) ≡ b)
  phase_back f b m = elim (May-append_back (phase_ends Ok f) (phase_ends Cut f) m) [
    | inl a ↦ let x = May-map_back (λ (place : Place). branch (placed f place) (phase_seen Ok)) (after_phase f.transfer Ok) a in (Ok, x.0, x.1, x.2)
    | inr a ↦ let x = May-map_back (λ (place : Place). branch (placed f place) (phase_seen Cut)) (after_phase f.transfer Cut) a in (Cut, x.0, x.1, x.2)
  ]

  wait_back : (f : Fields) (b : Branch) → May (wait_ends Over f ++ wait_ends Late f) b →
      (end : WaitEnd) × (state : State) × May (after_wait f.state end) state × (branch (record f { state = state }) (wait_seen end) ≡ b)
  wait_back f b m = elim (May-append_back (wait_ends Over f) (wait_ends Late f) m) [
    | inl a ↦ let x = May-map_back (λ (s : State). branch (record f { state = s }) (wait_seen Over)) (after_wait f.state Over) a in (Over, x.0, x.1, x.2)
    | inr a ↦ let x = May-map_back (λ (s : State). branch (record f { state = s }) (wait_seen Late)) (after_wait f.state Late) a in (Late, x.0, x.1, x.2)
  ]

  room : (c : Card) → IsCard c → HasBlocks c → c.next_block + c.announced ≤ length (accessed_blocks c c.contents)
  room c card has = subst (λ n. c.next_block + c.announced ≤ n) (sym (card.contents c.mode.partition).size) has.room

  -- the blocks that a phase gives
  record ReadBlocks (end : DataEnd) (count : ℕ) (c : Card) : Type 0 where
    blocks : List Block
    size : length blocks ≡ count
    truth : BlocksTrue end c blocks

  read_blocks : (end : DataEnd) (count : ℕ) (c : Card) → IsCard c → HasBlocks c → count ≡ c.announced → ReadBlocks end count c
  read_blocks Ok count c card has e = record {
    blocks = addressed c c.contents;
    size = part_length c.next_block c.announced (accessed_blocks c c.contents) (room c card has) ∙ sym e;
    truth = refl;
  }
  read_blocks Cut count c card has e = record { blocks = replicate count []; size = length-replicate count []; truth = tt }

  record ReadBytes (end : DataEnd) (count : ℕ) (x : Transfer) (register : List ℕ) : Type 0 where
    bytes : List ℕ
    size : length bytes ≡ count
    truth : RegisterTrue end x register bytes

  read_bytes : (end : DataEnd) (count : ℕ) (x : Transfer) (register : List ℕ) → ReadBytes end count x register
  read_bytes Ok count x register =
      let r : Read count register = read count register in
      record { bytes = r.bytes; size = r.size; truth = ap (λ l. fixed x l) r.truth }
  read_bytes Cut count x register = record { bytes = replicate count 0; size = length-replicate count 0; truth = tt }

  -- the contents that a phase leaves
  record Writes (end : DataEnd) (blocks : List Block) (c : Card) : Type 0 where
    contents : Partitions
    others : OnlyAddressed c (record c { contents = contents })
    stored : StoredOrNot end c blocks (record c { contents = contents })

  blocks_put : (p : Partition) (blocks : List Block) (contents : Partitions) → blocks_of p (put p blocks contents) ≡ blocks
  blocks_put User blocks contents = refl
  blocks_put Boot1 blocks contents = refl
  blocks_put Boot2 blocks contents = refl

  only_spliced : (c : Card) (blocks : List Block) → IsCard c → HasBlocks c → length blocks ≡ c.announced → All (IsRegister 512) blocks →
      OnlyAddressed c (record c { contents = put_accessed c (splice c.next_block c.announced (accessed_blocks c c.contents) blocks) c.contents })
  only_spliced c blocks card has size fit =
      let all : List Block = accessed_blocks c c.contents in
      let new : List Block = splice c.next_block c.announced all blocks in
      let same : accessed_blocks c (put_accessed c new c.contents) ≡ new = blocks_put c.mode.partition new c.contents in
      let enough : c.next_block + c.announced ≤ length all = room c card has in
      let old : AreBlocks (accessed_capacity c) all = card.contents c.mode.partition in
      record {
        blocks = subst (λ l. AreBlocks (accessed_capacity c) l) (sym same) (record {
          size = splice_length c.next_block c.announced all blocks enough size ∙ old.size;
          blocks_fit = splice_all (IsRegister 512) c.next_block c.announced all blocks old.blocks_fit fit;
        });
        others = ap (λ l. put_accessed c l c.contents) same;
        below = splice_below c.next_block c.announced all blocks enough ∙ ap (λ l. take c.next_block l) (sym same);
        above = splice_above c.next_block c.announced all blocks enough size ∙ ap (λ l. drop (c.next_block + c.announced) l) (sym same);
      }

  writes : (end : DataEnd) (blocks : List Block) (c : Card) → IsCard c → HasBlocks c → length blocks ≡ c.announced → All (IsRegister 512) blocks →
      Writes end blocks c
  writes Ok blocks c card has size fit =
      let all : List Block = accessed_blocks c c.contents in
      let new : List Block = splice c.next_block c.announced all blocks in
      let same : accessed_blocks c (put_accessed c new c.contents) ≡ new = blocks_put c.mode.partition new c.contents in
      record {
        contents = put_accessed c new c.contents;
        others = only_spliced c blocks card has size fit;
        stored = inl (record {
          stored = ap (λ l. take c.announced (drop c.next_block l)) same ∙ splice_in c.next_block c.announced all blocks (room c card has) size;
          error = refl;
        });
      }
  writes Cut blocks c card has size fit = record {
    contents = c.contents;
    others = record { blocks = card.contents c.mode.partition; others = put_back c.mode.partition c.contents; below = refl; above = refl };
    stored = refl;
  }

  stored_at : (end : DataEnd) (blocks : List Block) (c u : Card) (place : Place) → StoredOrNot end c blocks u →
      StoredOrNot end c blocks (record u { state = place.state; transfer = place.transfer })
  stored_at Ok blocks c u place (inl s) = inl (record { stored = s.stored; error = s.error })
  stored_at Ok blocks c u place (inr e) = inr e
  stored_at Cut blocks c u place e = e

  same_answer : {a b : Answer} → Answered a ≡ Answered b → a ≡ b
  same_answer e = cc

  -- an event that is no command returns no answer
  abbrev is_answer : Return → Bool
  is_answer (Answered answer) = true
  is_answer returned = false

  no_answer : (returned : Return) (word : ℕ) → is_answer returned ≡ false → returned ≡ Answered (Replied (R6 word)) → 0 < published_rca word
  no_answer returned word none e = absurd (let f : true ≡ false = sym (ap is_answer e) ∙ none in cc)

  phase_guards : (k : Kind) (guards : OpenGuards) (end : DataEnd) (returned : Return) → OpenGuardsAre k guards (phase_seen end) returned
  phase_guards k guards Ok returned = closed_guards k guards (phase_seen Ok) returned refl
  phase_guards k guards Cut returned = closed_guards k guards (phase_seen Cut) returned refl

  wait_guards : (k : Kind) (guards : OpenGuards) (end : WaitEnd) (returned : Return) → OpenGuardsAre k guards (wait_seen end) returned
  wait_guards k guards Over returned = closed_guards k guards (wait_seen Over) returned refl
  wait_guards k guards Late returned = closed_guards k guards (wait_seen Late) returned refl

  event_step : (event : ScriptEvent) (c : Card) (h : Host) (b : Branch) → IsRepresentative c → IsCard c → h.rca < 65536 →
      Makes c.kind event h → EventLegal event c →
      InBounds event c → TransferOnCard c → GivesBlocks event →
      May (event_branches c.kind (event_of event) (view c h)) b → EventStep event c h b ⊎ ImpossibleEvent event c h b
  event_step (SendCommand ask position argument) c h b representative card small made legal bounds on gives m =
      let m' : May (order_branches c.kind legal.order (view c h)) b = subst (λ o. May (ask_branches c.kind o (view c h)) b) legal.asks.line m in
      elim (order_step legal.order argument c h b representative card small
      (address_sent c.kind ask argument h legal.order made legal.asks.line) legal.settled m') [
        | inl x ↦ inl (record {
          returned = Answered x.answer;
          after = x.after;
          step = record { order = legal.order; asks = legal.asks; exchange = x.exchange };
          all_shown = x.all_shown;
          published = λ word e. x.published word (same_answer e);
          guards_are = x.guards_are;
          same = x.same ∙ ap (λ o. branch (view x.after (host_after_order o x.answer h)) (answer_seen c.kind c.mode.error x.answer)) (sym legal.asks.line);
        })
        | inr x ↦ inr (record {
          asks = legal.asks.line ∙ ap Some x.order_is;
          none = x.none;
          seen = x.seen;
          state = x.state;
          matched = x.matched;
          flags = x.flags;
          preset = x.preset;
        })
      ]
  event_step (ReceiveBlocks lines count) c h b representative card small made legal bounds on gives m =
      let x = phase_back (view c h) b m in
      let due : read_due c.transfer ≡ true = read_is_due c.state c.transfer (and_left (recv_legal c.state c.transfer) _ legal) in
      let r : ReadBlocks x.0 count c = read_blocks x.0 count c card (on (reads_blocks c.transfer due)) bounds in
      inl (record {
        returned = BlocksIn x.0 r.blocks;
        after = record c { state = x.1.state; transfer = x.1.transfer };
        step = record { due = due; size = r.size; truth = r.truth; moved = record { place = x.1; may = x.2; card = refl } };
        all_shown = representative.all_shown;
        published = λ word e. no_answer _ word refl e;
        guards_are = phase_guards c.kind guards x.0 _;
        same = sym x.3;
      })
  event_step (ReceiveRegister lines count) c h b representative card small made legal bounds on gives m =
      let x = phase_back (view c h) b m in
      let due : register_due c.transfer ≡ true = register_is_due c.state c.transfer (and_left (recv_reg_legal c.state c.transfer) _ legal) in
      let r : ReadBytes x.0 count c.transfer (due_register c.transfer c) = read_bytes x.0 count c.transfer (due_register c.transfer c) in
      inl (record {
        returned = RegisterIn x.0 r.bytes;
        after = record c { state = x.1.state; transfer = x.1.transfer };
        step = record { due = due; size = r.size; truth = r.truth; moved = record { place = x.1; may = x.2; card = refl } };
        all_shown = representative.all_shown;
        published = λ word e. no_answer _ word refl e;
        guards_are = phase_guards c.kind guards x.0 _;
        same = sym x.3;
      })
  event_step (GiveBlocks lines blocks) c h b representative card small made legal bounds on gives m =
      let x = phase_back (view c h) b m in
      let due : write_due c.transfer ≡ true = write_is_due c.state c.transfer (and_left (give_legal c.state c.transfer) _ legal) in
      let w : Writes x.0 blocks c = writes x.0 blocks c card (on (writes_blocks c.transfer due)) bounds gives in
      inl (record {
        returned = BlocksOut x.0;
        after = record c { contents = w.contents; state = x.1.state; transfer = x.1.transfer };
        step = record {
          due = due;
          others = record { blocks = w.others.blocks; others = w.others.others; below = w.others.below; above = w.others.above };
          stored = stored_at x.0 blocks c (record c { contents = w.contents }) x.1 w.stored;
          moved = record { place = x.1; may = x.2; card = refl };
        };
        all_shown = representative.all_shown;
        published = λ word e. no_answer _ word refl e;
        guards_are = phase_guards c.kind guards x.0 _;
        same = sym x.3;
      })
  event_step AwaitReady c h b representative card small made legal bounds on gives m =
      let x = wait_back (view c h) b m in
      inl (record {
        returned = Waited x.0;
        after = record c { state = x.1 };
        step = record { state = x.1; may = x.2; card = refl };
        all_shown = representative.all_shown;
        published = λ word e. no_answer _ word refl e;
        guards_are = wait_guards c.kind guards x.0 _;
        same = sym x.3;
      })

  -- AN OUTCOME

  still_representative : (event : ScriptEvent) (c : Card) (returned : Return) (u : Card) → Step event c returned u → IsRepresentative c →
      u.unshown_error ≡ false → IsRepresentative u
  still_representative event c returned u s representative all_shown =
      let same : SameCard c u = steps_keep_same c.kind event c returned u refl s in
      record {
        all_shown = all_shown;
        version = λ e. sym same.version ∙ representative.version (e ∙ sym same.kind);
        boot_blocks = λ e. subst (λ n. 0 < n) same.boot_capacity (representative.boot_blocks (e ∙ sym same.kind));
      }

  abbrev At : Kind → ScriptEvent → Card → Host → Outcome → Type 0
  At k event c h o =
      IsPair k c h → Makes k event h → May (outcomes_code k (pair_code c h) (event_of event)) o →
      StepWithOutcome k guards event c h o ⊎ IsImpossibleMatch k event h o

  outcome_step : (event : ScriptEvent) (c : Card) (h : Host) (o : Outcome) → EventLegal event c → InBounds event c → TransferOnCard c → GivesBlocks event →
      IsRepresentative c → At c.kind event c h o
  outcome_step event c h o legal bounds on gives representative pair made m =
      let m' : May (map outcome_of (branches_at c.kind (event_of event) (Some (view c h)))) o =
      subst (λ v. May (map outcome_of (branches_at c.kind (event_of event) v)) o) (fields_law (view c h) pair.flags pair.card.preset) m in
      let x = May-map_back outcome_of (event_branches c.kind (event_of event) (view c h)) m' in
      elim (event_step event c h x.0 representative pair.card pair.rca made legal bounds on gives x.1) [
        | inl y ↦ inl (record {
          returned = y.returned;
          after = y.after;
          step = y.step;
          representative = still_representative event c y.returned y.after y.step representative y.all_shown;
          published = y.published;
          guards_are = y.guards_are;
          same = sym x.2 ∙ ap outcome_of y.same;
        })
        | inr y ↦ inr (record {
          asks = y.asks;
          none = y.none;
          seen = ap (λ z. z.seen) (sym x.2) ∙ y.seen;
          fields = x.0.fields;
          shown = ap (λ z. fields_of z.shape.0) (sym x.2)
              ∙ fields_law x.0.fields (subst (λ n. n < 16) (sym y.flags) pair.flags) y.preset;
          state = y.state;
          matched = y.matched;
        })
      ]

pub outcomes_are_steps : (k : Kind) → OutcomesAreSteps k
outcomes_are_steps k guards event c h o pair representative on made gives legal bounds m =
    subst (λ v. At guards v event c h o) (sym pair.kind) (outcome_step guards event c h o legal bounds on gives representative) pair made m
