-- Each history is that of a run of each representative pair.
use Rattle.std.proofs.Common.{◌≡◌, ℕ, ◌<◌, ◌==◌, ◌&&◌, inl, inr, refl, ap, subst, sym, ◌∙◌, Bool, true, false, List, [], ◌∷◌, Option, Some, None, lit<, arith}
use Rattle.sdv_frames.specs.declared.reply.Reply.TheVariants.{R1, R2, R3, R6, R7}
use Rattle.sdv_registers.specs.Status.{rca as published_rca}
use Rattle.sdv_registers.specs.declared.kind.Kind.{Kind}
use Rattle.sdv_card.specs.declared.state.Width.{Width}
use Rattle.sdv_card.specs.declared.fields.Fields.{Fields}
use Rattle.sdv_card.specs.declared.event.Outcome.{Outcome}
use Rattle.sdv_card.specs.declared.event.Seen.TheVariants.{TimeOut as SeenTimeOut}
use Rattle.sdv_card.specs.declared.answer.Answer.{Answer}
use Rattle.sdv_card.specs.declared.answer.Answer.TheVariants.{Sent, TimeOut, Reply as Replied, Damaged}
use Rattle.sdv_card.specs.declared.command.Order.{Order}
use Rattle.sdv_card.specs.declared.command.Order.TheVariants.{GoIdleState, SendRelativeAddress, SetRelativeAddress}
use Rattle.sdv_card.specs.Lists.{May}
use Rattle.sdv_card.specs.States.{state_number}
use Rattle.sdv_card.specs.Modes.{has_width}
use Rattle.sdv_card.specs.CommandTable.{order_of, expect_or_nothing}
use Rattle.sdv_card.specs.ScriptEvent.{ScriptEvent, SendCommand, ReceiveBlocks, ReceiveRegister, GiveBlocks, AwaitReady, Return, Answered, BlocksIn, RegisterIn, BlocksOut, Waited, event_of}
use Rattle.sdv_card.specs.Card.{Card}
use Rattle.sdv_card.specs.Host.{Host, host_after, host_after_order}
use Rattle.sdv_card.specs.HostEvents.{Makes}
use Rattle.sdv_card.specs.Legal.{EventLegal, InBounds}
use Rattle.sdv_card.specs.LegalShapes.{legal_code}
use Rattle.sdv_card.specs.Step.{Step}
use Rattle.sdv_card.specs.Code.{code_of}
use Rattle.sdv_card.specs.Shapes.{view, pair_code, IsPair}
use Rattle.sdv_card.specs.Outcomes.{outcomes_code}
use Rattle.sdv_card.specs.Seen.{seen_of, answer_seen}
use Rattle.sdv_card.specs.Expected.{Expected, AnswerExpected}
use Rattle.sdv_card.proofs.Digits.{digits_law}
use Rattle.sdv_card.proofs.TableLaws.{legal_is_exact, steps_keep_pairs, steps_keep_same, steps_keep_sound, steps_keep_on_card, steps_are_expected}
use Rattle.sdv_outcomes.specs.OpenGuards.{OpenGuards}
use Rattle.sdv_outcomes.specs.Representative.{IsRepresentativePair}
use Rattle.sdv_outcomes.specs.OutcomeSteps.{StepWithOutcome, IsImpossibleMatch}
use Rattle.sdv_outcomes.specs.Histories.{Entry, HostSets, Happens, with_settings, has_address_by, has_address_after, is_matched_standby, is_impossible_by, is_impossible_match, IsHistory, IsWithin}
use Rattle.sdv_outcomes.specs.Runs.{IsEvent, RunOf, HistoriesHaveRuns}
use Rattle.sdv_outcomes.proofs.EventSteps.{outcomes_are_steps}
use Rattle.sdv_outcomes.proofs.MadeEvents.{HasSizes, same_sizes, event_for, event_is, event_made, event_gives, event_within}

-- WHAT STAYS TRUE

set_good : (k : Kind) (c : Card) (h : Host) (numbers : List ℕ) (flags : ℕ) (lines : Width) → IsRepresentativePair k c h →
    flags < 16 → has_width k lines ≡ true → IsRepresentativePair k c (record h { numbers = numbers; flags = flags; lines = lines })
set_good k c h numbers flags lines good small wide = record {
  pair = record { kind = good.pair.kind; card = good.pair.card; lines = wide; flags = small; rca = good.pair.rca };
  sound = record { csd = good.sound.csd; ext_csd = good.sound.ext_csd; blocks = good.sound.blocks; register = good.sound.register };
  on_card = good.on_card;
  representative = good.representative;
}

pub set_code : (k : Kind) (c : Card) (h : Host) (numbers : List ℕ) (flags : ℕ) (lines : Width) → IsPair k c h →
    with_settings (pair_code c h) flags lines ≡ pair_code c (record h { numbers = numbers; flags = flags; lines = lines })
set_code k c h numbers flags lines pair =
    ap (λ (f : Fields). code_of (record f { flags = flags; lines = lines })) (digits_law (view c h) pair.flags pair.card.preset)

still_good : (k : Kind) (guards : OpenGuards) (event : ScriptEvent) (c : Card) (h : Host) (o : Outcome) → IsRepresentativePair k c h → Makes k event h →
    EventLegal event c → InBounds event c → (s : StepWithOutcome k guards event c h o) → IsRepresentativePair k s.after (host_after k event s.returned h)
still_good k guards event c h o good made legal bounds s = record {
  pair = steps_keep_pairs k event c h s.returned s.after good.pair made s.step;
  sound = steps_keep_sound k event c h s.returned s.after good.pair made legal s.step good.sound;
  on_card = steps_keep_on_card k event c h s.returned s.after good.pair legal bounds s.step good.on_card;
  representative = s.representative;
}

-- THE HOST'S ADDRESS

abbrev HasAddress : Bool → Host → Type 0
HasAddress has_address h = has_address ≡ true → 0 < h.rca

has_none : (has_address : Bool) (h : Host) → HasAddress has_address h → h.rca ≡ 0 → has_address ≡ false
has_none true h g e = let f : 0 < h.rca = g refl in absurd (omega arith)
has_none false h g e = refl

-- an impossible match shows in its outcome
match_shows : (k : Kind) (event : ScriptEvent) (h : Host) (o : Outcome) (has_address : Bool) → IsImpossibleMatch k event h o → has_address ≡ false →
    is_impossible_match k (event_of event) o has_address ≡ true
match_shows k (SendCommand ask position argument) h o has_address y e =
    ap (λ x. is_impossible_by x o.seen has_address o.shape.0) y.asks
    ∙ (ap (λ x. is_impossible_by (Some SendRelativeAddress) x has_address o.shape.0) y.seen
    ∙ (ap (λ x. is_impossible_by (Some SendRelativeAddress) SeenTimeOut x o.shape.0) e
    ∙ (ap is_matched_standby y.shown
    ∙ (ap (λ s. (state_number s == 3) && y.fields.matched) y.state ∙ y.matched))))
match_shows k (ReceiveBlocks lines count) h o has_address y e = absurd y.asks
match_shows k (ReceiveRegister lines count) h o has_address y e = absurd y.asks
match_shows k (GiveBlocks lines blocks) h o has_address y e = absurd y.asks
match_shows k AwaitReady h o has_address y e = absurd y.asks

-- after an answer the host has an address where its entry says so
order_address : (o : Option Order) (k : Kind) (pending : Bool) (index : ℕ) (answer : Answer) (h : Host) (has_address : Bool) →
    AnswerExpected (expect_or_nothing o index) answer → ((word : ℕ) → answer ≡ Replied (R6 word) → 0 < published_rca word) →
    HasAddress has_address h → HasAddress (has_address_by o (answer_seen k pending answer) has_address) (host_after_order o answer h)
order_address None k pending index answer h has_address x p g e = g e
order_address (Some GoIdleState) k pending index answer h has_address x p g e = absurd (let f : false ≡ true = e in cc)
order_address (Some SetRelativeAddress) k pending index answer h has_address x p g e = lit< tt
order_address (Some SendRelativeAddress) k pending index Sent h has_address x p g e = absurd x
order_address (Some SendRelativeAddress) k pending index TimeOut h has_address x p g e = g e
order_address (Some SendRelativeAddress) k pending index (Damaged fault) h has_address x p g e = absurd x
order_address (Some SendRelativeAddress) k pending index (Replied (R1 i word)) h has_address x p g e = absurd x
order_address (Some SendRelativeAddress) k pending index (Replied (R2 bytes)) h has_address x p g e = absurd x
order_address (Some SendRelativeAddress) k pending index (Replied (R3 word)) h has_address x p g e = absurd x
order_address (Some SendRelativeAddress) k pending index (Replied (R6 word)) h has_address x p g e = p word refl
order_address (Some SendRelativeAddress) k pending index (Replied (R7 word)) h has_address x p g e = absurd x
order_address (Some order) k pending index answer h has_address x p g e = g e

still_has_address : (k : Kind) (event : ScriptEvent) (c u : Card) (h : Host) (returned : Return) (has_address : Bool) → Expected k event returned →
    Step event c returned u → ((word : ℕ) → returned ≡ Answered (Replied (R6 word)) → 0 < published_rca word) → HasAddress has_address h →
    HasAddress (has_address_after k (event_of event) (seen_of k c.mode.error returned) has_address) (host_after k event returned h)
still_has_address k (SendCommand ask position argument) c u h (Answered answer) has_address x s p g =
    order_address (order_of k ask) k c.mode.error ask.index answer h has_address x (λ word e. p word (ap Answered e)) g
still_has_address k (ReceiveBlocks lines count) c u h (BlocksIn end blocks) has_address x s p g = g
still_has_address k (ReceiveRegister lines count) c u h (RegisterIn end bytes) has_address x s p g = g
still_has_address k (GiveBlocks lines blocks) c u h (BlocksOut end) has_address x s p g = g
still_has_address k AwaitReady c u h (Waited end) has_address x s p g = g
still_has_address k event c u h returned has_address x s p g = absurd s

-- THE RUN, entry by entry

runs : (k : Kind) (entries : List Entry) (n b : ℕ) (has_address : Bool) (c : Card) (h : Host) → IsRepresentativePair k c h → HasSizes n b c →
    HasAddress has_address h → IsHistory k has_address (pair_code c h) entries → IsWithin n b (pair_code c h) entries → RunOf k entries c h
runs k [] n b has_address c h good sizes address is within = record { pairs = []; last = c; host = h; goes = (refl, refl) }
runs k (HostSets numbers flags lines ∷ rest) n b has_address c h good sizes address is within =
    let g : Host = record h { numbers = numbers; flags = flags; lines = lines } in
    let same : with_settings (pair_code c h) flags lines ≡ pair_code c g = set_code k c h numbers flags lines good.pair in
    let r : RunOf k rest c g =
    runs k rest n b has_address c g (set_good k c h numbers flags lines good is.0.0 is.0.1) sizes address
    (subst (λ v. IsHistory k has_address v rest) same is.1) (subst (λ v. IsWithin n b v rest) same within.1) in
    record { pairs = r.pairs; last = r.last; host = r.host; goes = (is.0.0, is.0.1, r.goes) }
runs k (Happens event position o guards ∷ rest) n b has_address c h good sizes address is within =
    let e : ScriptEvent = event_for k event position c h in
    let is_event : IsEvent event position e = event_is k event position c h in
    let made : Makes k e h = event_made k event position c h in
    let legal : EventLegal e c =
    (legal_is_exact k e c h good.pair made).1 (subst (λ v. legal_code k (pair_code c h) v ≡ true) (sym is_event.same) is.0.0) in
    let bounds : InBounds e c = event_within k event position o guards n b c h good sizes within.0 legal in
    let may : May (outcomes_code k (pair_code c h) (event_of e)) o = subst (λ v. May (outcomes_code k (pair_code c h) v) o) (sym is_event.same) is.0.1 in
    let possible : is_impossible_match k (event_of e) o has_address ≡ false =
    subst (λ v. is_impossible_match k v o has_address ≡ false) (sym is_event.same) is.0.2 in
    elim (outcomes_are_steps k guards e c h o good.pair good.representative good.on_card made (event_gives k event position c h) legal bounds may) [
      | inl s ↦
          let g : Host = host_after k e s.returned h in
          let code : o.shape.0 ≡ pair_code s.after g = ap (λ z. z.shape.0) s.same in
          let expected : Expected k e s.returned = steps_are_expected k e c s.returned s.after good.pair.kind s.step in
          let later_address : HasAddress (has_address_after k (event_of e) (seen_of k c.mode.error s.returned) has_address) g =
          still_has_address k e c s.after h s.returned has_address expected s.step s.published address in
          let later : HasAddress (has_address_after k event o.seen has_address) g =
          subst (λ v. HasAddress (has_address_after k v o.seen has_address) g) is_event.same
          (subst (λ v. HasAddress (has_address_after k (event_of e) v has_address) g) (sym (ap (λ z. z.seen) s.same)) later_address) in
          let r : RunOf k rest s.after g =
          runs k rest n b (has_address_after k event o.seen has_address) s.after g (still_good k guards e c h o good made legal bounds s)
          (same_sizes n b c s.after (steps_keep_same k e c s.returned s.after good.pair.kind s.step) sizes) later
          (subst (λ v. IsHistory k (has_address_after k event o.seen has_address) v rest) code is.1) (subst (λ v. IsWithin n b v rest) code within.1) in
          record {
            pairs = (e, s.returned) ∷ r.pairs;
            last = r.last;
            host = r.host;
            goes = (
              s.after,
              record { is = is_event; made = made; legal = legal; bounds = bounds; step = s.step; same = s.same; guards_are = s.guards_are },
              r.goes,
            );
          }
      | inr y ↦ absurd (
          let shown : is_impossible_match k (event_of e) o has_address ≡ true = match_shows k e h o has_address y (has_none has_address h address y.none) in
          let bad : true ≡ false = sym shown ∙ possible in cc
          )
    ]

pub histories_have_runs : (k : Kind) → HistoriesHaveRuns k
histories_have_runs k entries has_address c h good address is within =
    runs k entries c.capacity c.boot_capacity has_address c h good (record { user = refl; boot = refl }) address is within
