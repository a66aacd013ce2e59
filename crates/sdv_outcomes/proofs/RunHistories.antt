-- Each run of a card has a history; and from the start of a representative card its runs are exactly its histories.
use Rattle.std.proofs.Common.{◌≡◌, ℕ, ◌+◌, ◌≤◌, ◌<◌, ◌==◌, refl, ap, subst, sym, ◌∙◌, Bool, true, false, List, [], ◌∷◌, Option, Some, None, eqb-true}
use Rattle.sdv_frames.specs.declared.reply.Reply.TheVariants.{R1, R2, R3, R6, R7}
use Rattle.sdv_registers.specs.declared.kind.Kind.{Kind}
use Rattle.sdv_card.specs.declared.state.Width.{Width}
use Rattle.sdv_card.specs.declared.state.State.TheVariants.{Stby}
use Rattle.sdv_card.specs.declared.fields.Fields.{Fields}
use Rattle.sdv_card.specs.declared.event.Ask.{Ask}
use Rattle.sdv_card.specs.declared.event.Event.{Event}
use Rattle.sdv_card.specs.declared.event.Event.TheVariants.{Send, RecvBlocks, RecvReg, Give, Wait}
use Rattle.sdv_card.specs.declared.event.Outcome.{Outcome}
use Rattle.sdv_card.specs.declared.event.Seen.{Seen}
use Rattle.sdv_card.specs.declared.event.Seen.TheVariants.{TimeOut as SeenTimeOut}
use Rattle.sdv_card.specs.declared.answer.Answer.{Answer}
use Rattle.sdv_card.specs.declared.answer.Answer.TheVariants.{Sent, TimeOut, Reply as Replied, Damaged}
use Rattle.sdv_card.specs.declared.command.Order.{Order}
use Rattle.sdv_card.specs.declared.command.Order.TheVariants.{GoIdleState, SendRelativeAddress, SetRelativeAddress}
use Rattle.sdv_card.specs.Lists.{May}
use Rattle.sdv_card.specs.States.{state_number}
use Rattle.sdv_card.specs.Modes.{has_width}
use Rattle.sdv_card.specs.CommandTable.{order_of, addressed_blocks}
use Rattle.sdv_card.specs.ScriptEvent.{ScriptEvent, SendCommand, ReceiveBlocks, ReceiveRegister, GiveBlocks, AwaitReady, Return, Answered, BlocksIn, RegisterIn, BlocksOut, Waited, event_of}
use Rattle.sdv_card.specs.Card.{Card, accessed_capacity}
use Rattle.sdv_card.specs.Host.{Host, host_after, host_after_order}
use Rattle.sdv_card.specs.Legal.{BlocksWithin, InBounds}
use Rattle.sdv_card.specs.LegalShapes.{legal_code}
use Rattle.sdv_card.specs.Step.{Step}
use Rattle.sdv_card.specs.Code.{fields_of}
use Rattle.sdv_card.specs.Shapes.{pair_code, IsPair}
use Rattle.sdv_card.specs.Outcomes.{outcomes_code}
use Rattle.sdv_card.specs.Seen.{seen_of, answer_seen}
use Rattle.sdv_card.specs.Profile.{host_at_start}
use Rattle.sdv_card.specs.Laws.{StartHolds}
use Rattle.sdv_card.proofs.Members.{and_left, and_right, same_state}
use Rattle.sdv_card.proofs.TableLaws.{legal_is_exact, steps_are_outcomes, steps_keep_pairs, steps_keep_same, starts_hold}
use Rattle.sdv_outcomes.specs.OpenGuards.{OpenGuards}
use Rattle.sdv_outcomes.specs.OutcomeSteps.{IsImpossibleMatch}
use Rattle.sdv_outcomes.specs.Histories.{Entry, HostSets, Happens, with_settings, code_after, has_address_by, has_address_after, is_matched_standby, is_impossible_by, is_impossible_match, IsHistory, CommandWithin, EntryWithin, IsWithin}
use Rattle.sdv_outcomes.specs.Runs.{Pair, IsEvent, GoesTo, RunsAs, HistoryOf, RunsHaveHistories, StartRunsAreHistories}
use Rattle.sdv_outcomes.proofs.ImpossibleMatches.{impossible_matches_are_no_steps}
use Rattle.sdv_outcomes.proofs.MadeEvents.{HasSizes, same_sizes, accessed_at}
use Rattle.sdv_outcomes.proofs.HistoryRuns.{set_code, histories_have_runs}

-- AN IMPOSSIBLE MATCH, as an entry shows it

record ShownMatch (o : Option Order) (seen : Seen) (has_address : Bool) (code : ℕ) : Type 0 where
  asks : o ≡ Some SendRelativeAddress
  is_seen : seen ≡ SeenTimeOut
  none : has_address ≡ false
  fields : Fields
  shown : fields_of code ≡ Some fields
  state : fields.state ≡ Stby
  matched : fields.matched ≡ true

matched_fields : (o : Option Fields) → is_matched_standby o ≡ true → (f : Fields) × (o ≡ Some f) × (f.state ≡ Stby) × (f.matched ≡ true)
matched_fields None e = absurd (let f : false ≡ true = e in cc)
matched_fields (Some f) e =
    (f, refl, same_state f.state Stby (eqb-true _ _ (and_left _ _ e)), and_right (state_number f.state == 3) _ e)

shown_match : (o : Option Order) (seen : Seen) (has_address : Bool) (code : ℕ) → is_impossible_by o seen has_address code ≡ true →
    ShownMatch o seen has_address code
shown_match (Some SendRelativeAddress) SeenTimeOut false code e =
    let f = matched_fields (fields_of code) e in
    record { asks = refl; is_seen = refl; none = refl; fields = f.0; shown = f.1; state = f.2; matched = f.3 }
shown_match o seen has_address code e = absurd (let f : false ≡ true = e in cc)

pub match_is : (k : Kind) (event : ScriptEvent) (h : Host) (o : Outcome) (has_address : Bool) → (has_address ≡ false → h.rca ≡ 0) →
    is_impossible_match k (event_of event) o has_address ≡ true → IsImpossibleMatch k event h o
match_is k (SendCommand ask position argument) h o has_address g e =
    let y : ShownMatch (order_of k ask) o.seen has_address o.shape.0 = shown_match (order_of k ask) o.seen has_address o.shape.0 e in
    record { asks = y.asks; none = g y.none; seen = y.is_seen; fields = y.fields; shown = y.shown; state = y.state; matched = y.matched }
match_is k (ReceiveBlocks lines count) h o has_address g e = absurd (let f : false ≡ true = e in cc)
match_is k (ReceiveRegister lines count) h o has_address g e = absurd (let f : false ≡ true = e in cc)
match_is k (GiveBlocks lines blocks) h o has_address g e = absurd (let f : false ≡ true = e in cc)
match_is k AwaitReady h o has_address g e = absurd (let f : false ≡ true = e in cc)

pub not_true : (b : Bool) → (b ≡ true → ⊥) → b ≡ false
not_true true f = absurd (f refl)
not_true false f = refl

-- THE HOST'S ADDRESS

order_none : (o : Option Order) (k : Kind) (pending : Bool) (answer : Answer) (h : Host) (has_address : Bool) → (has_address ≡ false → h.rca ≡ 0) →
    has_address_by o (answer_seen k pending answer) has_address ≡ false → (host_after_order o answer h).rca ≡ 0
order_none None k pending answer h has_address g e = g e
order_none (Some GoIdleState) k pending answer h has_address g e = refl
order_none (Some SetRelativeAddress) k pending answer h has_address g e = absurd (let f : true ≡ false = e in cc)
order_none (Some SendRelativeAddress) k pending Sent h has_address g e = g e
order_none (Some SendRelativeAddress) k pending TimeOut h has_address g e = g e
order_none (Some SendRelativeAddress) k pending (Damaged fault) h has_address g e = g e
order_none (Some SendRelativeAddress) k pending (Replied (R1 i word)) h has_address g e = absurd (let f : true ≡ false = e in cc)
order_none (Some SendRelativeAddress) k pending (Replied (R2 bytes)) h has_address g e = g e
order_none (Some SendRelativeAddress) k pending (Replied (R3 word)) h has_address g e = g e
order_none (Some SendRelativeAddress) k pending (Replied (R6 word)) h has_address g e = absurd (let f : true ≡ false = e in cc)
order_none (Some SendRelativeAddress) k pending (Replied (R7 word)) h has_address g e = g e
order_none (Some order) k pending answer h has_address g e = g e

pub still_none : (k : Kind) (event : ScriptEvent) (c u : Card) (h : Host) (returned : Return) (has_address : Bool) → Step event c returned u →
    (has_address ≡ false → h.rca ≡ 0) → has_address_after k (event_of event) (seen_of k c.mode.error returned) has_address ≡ false →
    (host_after k event returned h).rca ≡ 0
still_none k (SendCommand ask position argument) c u h (Answered answer) has_address s g e =
    order_none (order_of k ask) k c.mode.error answer h has_address g e
still_none k (ReceiveBlocks lines count) c u h (BlocksIn end blocks) has_address s g e = g e
still_none k (ReceiveRegister lines count) c u h (RegisterIn end bytes) has_address s g e = g e
still_none k (GiveBlocks lines blocks) c u h (BlocksOut end) has_address s g e = g e
still_none k AwaitReady c u h (Waited end) has_address s g e = g e
still_none k event c u h returned has_address s g e = absurd s

-- IN BOUNDS

room_of : (blocks : Option ℕ) (c : Card) (position argument count : ℕ) → BlocksWithin blocks c position argument → blocks ≡ Some count →
    position + count ≤ accessed_capacity c
room_of None c position argument count within e = absurd (let f : None ≡ Some count = e in cc)
room_of (Some n) c position argument count within e = let f : n ≡ count = cc in subst (λ m. position + m ≤ accessed_capacity c) f within.room

-- the blocks that a command addresses lie in the partition in access
pub command_within : (k : Kind) (n b : ℕ) (c : Card) (h : Host) (ask : Ask) (position : ℕ) (x : ScriptEvent) → IsPair k c h → HasSizes n b c →
    IsEvent (Send ask) position x → InBounds x c → CommandWithin n b (pair_code c h) ask position
command_within k n b c h ask position (SendCommand sent place argument) pair sizes is bounds = λ count e.
    let f : sent ≡ ask = cc (is.same) in
    let room : place + count ≤ accessed_capacity c = room_of (addressed_blocks sent) c place argument count bounds (ap addressed_blocks f ∙ e) in
    subst (λ m. position + count ≤ m) (sym (accessed_at k n b c h pair sizes)) (subst (λ p. p + count ≤ accessed_capacity c) is.placed room)
command_within k n b c h ask position x pair sizes is bounds = absurd (let f = is.same in cc)

entry_within : (k : Kind) (n b : ℕ) (c : Card) (h : Host) (event : Event) (position : ℕ) (o : Outcome) (guards : OpenGuards) (x : ScriptEvent) →
    IsPair k c h → HasSizes n b c → IsEvent event position x → InBounds x c → EntryWithin n b (pair_code c h) (Happens event position o guards)
entry_within k n b c h (Send ask) position o guards x pair sizes is bounds = command_within k n b c h ask position x pair sizes is bounds
entry_within k n b c h RecvBlocks position o guards x pair sizes is bounds = tt
entry_within k n b c h RecvReg position o guards x pair sizes is bounds = tt
entry_within k n b c h Give position o guards x pair sizes is bounds = tt
entry_within k n b c h Wait position o guards x pair sizes is bounds = tt

-- THE HISTORY, entry by entry

pub set_pair : (k : Kind) (c : Card) (h : Host) (numbers : List ℕ) (flags : ℕ) (lines : Width) → IsPair k c h → flags < 16 → has_width k lines ≡ true →
    IsPair k c (record h { numbers = numbers; flags = flags; lines = lines })
set_pair k c h numbers flags lines pair small wide =
    record { kind = pair.kind; card = pair.card; lines = wide; flags = small; rca = pair.rca }

-- a history in bounds for n blocks and b blocks, from a code to the last one
record HistoryIn (k : Kind) (entries : List Entry) (n b : ℕ) (has_address : Bool) (code last : ℕ) : Type 0 where
  history : IsHistory k has_address code entries
  within : IsWithin n b code entries
  end : last ≡ code_after code entries

run_history : (k : Kind) (entries : List Entry) (n b : ℕ) (has_address : Bool) (c : Card) (h : Host) (pairs : List Pair) (last : Card) (host : Host) →
    IsPair k c h → HasSizes n b c → (has_address ≡ false → h.rca ≡ 0) → RunsAs k entries c h pairs last host →
    HistoryIn k entries n b has_address (pair_code c h) (pair_code last host)
run_history k [] n b has_address c h [] last host pair sizes none run = record {
  history = tt;
  within = tt;
  end = subst (λ u. pair_code u host ≡ pair_code c h) run.0 (subst (λ g. pair_code c g ≡ pair_code c h) run.1 refl);
}
run_history k [] n b has_address c h (x ∷ pairs) last host pair sizes none run = absurd run
run_history k (HostSets numbers flags lines ∷ rest) n b has_address c h pairs last host pair sizes none run =
    let g : Host = record h { numbers = numbers; flags = flags; lines = lines } in
    let same : with_settings (pair_code c h) flags lines ≡ pair_code c g = set_code k c h numbers flags lines pair in
    let r : HistoryIn k rest n b has_address (pair_code c g) (pair_code last host) =
    run_history k rest n b has_address c g pairs last host (set_pair k c h numbers flags lines pair run.0 run.1) sizes none run.2 in
    record {
      history = ((run.0, run.1), subst (λ v. IsHistory k has_address v rest) (sym same) r.history);
      within = (tt, subst (λ v. IsWithin n b v rest) (sym same) r.within);
      end = r.end ∙ ap (λ v. code_after v rest) (sym same);
    }
run_history k (Happens event position o guards ∷ rest) n b has_address c h [] last host pair sizes none run = absurd run
run_history k (Happens event position o guards ∷ rest) n b has_address c h (x ∷ pairs) last host pair sizes none run =
    let u : Card = run.0 in
    let s : GoesTo k event position o guards x c h u = run.1 in
    let g : Host = host_after k x.0 x.1 h in
    let code : o.shape.0 ≡ pair_code u g = ap (λ z. z.shape.0) s.same in
    let legal : legal_code k (pair_code c h) event ≡ true =
    subst (λ v. legal_code k (pair_code c h) v ≡ true) s.is.same ((legal_is_exact k x.0 c h pair s.made).0 s.legal) in
    let may : May (outcomes_code k (pair_code c h) event) o =
    subst (λ v. May (outcomes_code k (pair_code c h) v) o) s.is.same
    (subst (λ v. May (outcomes_code k (pair_code c h) (event_of x.0)) v) (sym s.same) (steps_are_outcomes k x.0 c h x.1 u pair s.made s.legal s.step)) in
    let possible : is_impossible_match k (event_of x.0) o has_address ≡ false =
    not_true (is_impossible_match k (event_of x.0) o has_address)
    (λ y. impossible_matches_are_no_steps k x.0 c h o x.1 u pair s.made (match_is k x.0 h o has_address none y) s.step s.same) in
    let address : Bool = has_address_after k event o.seen has_address in
    let same_address : has_address_after k (event_of x.0) (seen_of k c.mode.error x.1) has_address ≡ address =
    ap (λ v. has_address_after k v (seen_of k c.mode.error x.1) has_address) s.is.same
    ∙ ap (λ v. has_address_after k event v has_address) (sym (ap (λ z. z.seen) s.same)) in
    let later_none : address ≡ false → g.rca ≡ 0 =
    λ e. still_none k x.0 c u h x.1 has_address s.step none (same_address ∙ e) in
    let r : HistoryIn k rest n b address (pair_code u g) (pair_code last host) =
    run_history k rest n b address u g pairs last host (steps_keep_pairs k x.0 c h x.1 u pair s.made s.step)
    (same_sizes n b c u (steps_keep_same k x.0 c x.1 u pair.kind s.step) sizes) later_none run.2 in
    record {
      history = (
        (legal, may, subst (λ v. is_impossible_match k v o has_address ≡ false) s.is.same possible),
        subst (λ v. IsHistory k address v rest) (sym code) r.history,
      );
      within = (entry_within k n b c h event position o guards x.0 pair sizes s.is s.bounds, subst (λ v. IsWithin n b v rest) (sym code) r.within);
      end = r.end ∙ ap (λ v. code_after v rest) (sym code);
    }

pub runs_have_histories : (k : Kind) → RunsHaveHistories k
runs_have_histories k entries has_address c h pairs last host pair none run =
    let r : HistoryIn k entries c.capacity c.boot_capacity has_address (pair_code c h) (pair_code last host) =
    run_history k entries c.capacity c.boot_capacity has_address c h pairs last host pair (record { user = refl; boot = refl }) none run in
    record { history = r.history; within = r.within; code = r.end }

-- FROM THE START

pub start_runs_are_histories : (k : Kind) → StartRunsAreHistories k
start_runs_are_histories k entries variables c kind start representative =
    let h : Host = host_at_start variables in
    let s : StartHolds k c h = starts_hold k c variables kind start in (
      (λ run.
          let r : HistoryOf k entries false c h run.last run.host =
          runs_have_histories k entries false c h run.pairs run.last run.host s.pair (λ e. refl) run.goes in
          (r.history, r.within)),
      (λ x. histories_have_runs k entries false c h (record { pair = s.pair; sound = s.sound; on_card = s.on_card; representative = representative })
          (λ e. absurd (let f : false ≡ true = e in cc)) x.0 x.1),
    )
