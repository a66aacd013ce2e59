-- Each card that may stand after a line has one of the shapes that may follow.
use Rattle.std.proofs.Common.{◌≡◌, ℕ, ◌==◌, ◌&&◌, refl, ap, subst, sym, ◌∙◌, Bool, true, false, not, List, [], ◌∷◌, Option, Some, None, eqb-true}
use Rattle.sdv_frames.specs.Bits.{bits_of}
use Rattle.sdv_frames.specs.declared.command.Command.{Command}
use Rattle.sdv_registers.specs.declared.kind.Kind.{Kind}
use Rattle.sdv_registers.specs.Csd.{fault}
use Rattle.sdv_card.specs.declared.state.Width.{Width}
use Rattle.sdv_card.specs.declared.shape.Shape.{Shape}
use Rattle.sdv_card.specs.declared.fields.Fields.{Fields}
use Rattle.sdv_card.specs.declared.event.Event.{Event}
use Rattle.sdv_card.specs.declared.event.Event.TheVariants.{Send}
use Rattle.sdv_card.specs.declared.event.Outcome.{Outcome}
use Rattle.sdv_card.specs.declared.answer.Answer.{Answer}
use Rattle.sdv_card.specs.declared.command.Order.{Order}
use Rattle.sdv_card.specs.declared.command.Order.TheVariants.{ReadSingleBlock, ReadMultipleBlock, WriteBlock, WriteMultipleBlock}
use Rattle.sdv_card.specs.Lists.{May}
use Rattle.sdv_card.specs.Modes.{has_width}
use Rattle.sdv_card.specs.CommandTable.{order_if, order_of, expect_of}
use Rattle.sdv_card.specs.HostEvents.{Makes}
use Rattle.sdv_card.specs.ScriptEvent.{ScriptEvent, SendCommand, ReceiveBlocks, ReceiveRegister, GiveBlocks, AwaitReady, Return, Answered, BlocksIn as InBlocks, RegisterIn as InRegister, BlocksOut as OutBlocks, Waited, event_of}
use Rattle.sdv_card.specs.Card.{Card}
use Rattle.sdv_card.specs.Host.{Host, host_after, host_after_order, rca_known, csd_known, announced_by, register_length_by}
use Rattle.sdv_card.specs.Shapes.{view, pair_code, IsPair}
use Rattle.sdv_card.specs.Outcomes.{outcomes_code, phase_seen, wait_seen}
use Rattle.sdv_card.specs.LegalShapes.{legal_code}
use Rattle.sdv_card.specs.Seen.{seen_of, answer_seen}
use Rattle.sdv_card.specs.Expected.{Expected, AnswerExpected}
use Rattle.sdv_card.specs.Profile.{told_blocks, host_at_start}
use Rattle.sdv_card.specs.Laws.{Sound, StartHolds}
use Rattle.sdv_card.specs.Taken.{SameCard}
use Rattle.sdv_card.specs.Step.{Step}
use Rattle.sdv_card.specs.Exchange.{Exchanges}
use Rattle.sdv_card.specs.declared.event.Event.TheVariants.{RecvBlocks, RecvReg, Give, Wait as Waits}
use Rattle.sdv_card.specs.declared.answer.Answer.TheVariants.{Sent, TimeOut, Reply as Replied, Damaged}
use Rattle.sdv_card.proofs.AnswerKinds.{of_kind}
use Rattle.sdv_card.proofs.Digits.{digits_law}
use Rattle.sdv_card.proofs.Members.{May-map}
use Rattle.sdv_card.proofs.ShapeLines.{pair_with_lines}
use Rattle.sdv_card.proofs.TableLaws.{legal_is_exact, steps_are_outcomes, steps_are_expected, steps_keep_pairs, steps_keep_same, steps_keep_sound, starts_hold}
use Rattle.sdv_outcomes.specs.OutcomeSteps.{step_outcome}
use Rattle.sdv_outcomes.specs.Histories.{is_impossible_match}
use Rattle.sdv_outcomes.proofs.RunHistories.{match_is}
use Rattle.sdv_outcomes.proofs.ImpossibleMatches.{impossible_matches_are_no_steps}
use Rattle.sdv_audit.specs.declared.line.TraceLine.{TraceLine}
use Rattle.sdv_audit.specs.declared.line.TraceLine.TheVariants.{Exchange, BlocksIn, RegisterIn, BlocksOut, Wait, Lines, Running, End}
use Rattle.sdv_audit.specs.declared.known.HostKnown.{HostKnown}
use Rattle.sdv_audit.specs.declared.turn.Told.{Told}
use Rattle.sdv_audit.specs.declared.turn.Deed.{Deed}
use Rattle.sdv_audit.specs.declared.turn.Deed.TheVariants.{Known, Begins}
use Rattle.sdv_audit.specs.declared.turn.Turn.{Turn}
use Rattle.sdv_audit.specs.declared.turn.Turn.TheVariants.{Ends, Outside, Uses, Resumes, OtherLength, Does}
use Rattle.sdv_audit.specs.Known.{IsIfKnown, IsKnown, nothing_known, announced_told, known_after_order}
use Rattle.sdv_audit.specs.Turns.{is_count, transfer_ask, event_at, known_after_send, known_after, line_seen, is_expected_answer, is_expected}
use Rattle.sdv_audit.specs.Possible.{is_possible}
use Rattle.sdv_audit.proofs.Possibles.{ReadableCsd, reply_possible}
use Rattle.sdv_audit.specs.Carried.{has_address, pending_at, CarriedFrom, CarriedBy, Follows}
use Rattle.sdv_audit.proofs.Meant.{DeedMeant, GoesMeant, goes_meant}
use Rattle.sdv_audit.specs.Standing.{IsRunning, IsToldBy, StepTold, known_of, turn_behind, StartPair, Stood, shape_of, shape_with, start_set, Covers}
use Rattle.sdv_audit.proofs.ShapeSets.{not_true}
use Rattle.sdv_audit.proofs.AnyShapes.{any_covers}
use Rattle.sdv_audit.proofs.Counts.{transfer_order, order_is, counted_legal, waits_same, carried_at_count}

-- WHAT IS KNOWN OF THE HOST stays true

announced_step : (order : Order) (known : Option ℕ) (n : ℕ) → IsIfKnown known n → IsIfKnown (announced_told order known) (announced_by order n)
announced_step ReadSingleBlock known n i = refl
announced_step (ReadMultipleBlock m) known n i = refl
announced_step WriteBlock known n i = refl
announced_step (WriteMultipleBlock m) known n i = refl
announced_step order known n i = i

order_step : (o : Option Order) (answer : Answer) (known : HostKnown) (h : Host) → IsKnown known h →
    IsKnown (known_after_order o answer known) (host_after_order o answer h)
order_step None answer known h i = i
order_step (Some order) answer known h i = record {
  rca = ap (λ n. rca_known order answer n) i.rca;
  lines = i.lines;
  csd = ap (λ n. csd_known order answer n) i.csd;
  announced = announced_step order known.announced h.announced i.announced;
  register_length = ap (λ n. register_length_by order n) i.register_length;
  flags = i.flags;
}

-- a data phase of as many blocks
phase_step : (known : HostKnown) (h : Host) (count : ℕ) → count ≡ h.announced → IsKnown known h → IsKnown (record known { announced = Some count }) h
phase_step known h count e i =
    record { rca = i.rca; lines = i.lines; csd = i.csd; announced = sym e; register_length = i.register_length; flags = i.flags }

known_step : (k : Kind) (line : TraceLine) (x : ScriptEvent) (returned : Return) (known : HostKnown) (h : Host) → IsToldBy line x returned → Makes k x h →
    IsKnown known h → IsKnown (known_after k (Does (Known (event_of x))) line known) (host_after k x returned h)
known_step k (Exchange command answer) (SendCommand ask position argument) (Answered heard) known h told made i =
    subst (λ a. IsKnown (known_after_order (order_of k ask) answer known) (host_after_order (order_of k ask) a h)) told.1
    (order_step (order_of k ask) answer known h i)
known_step k (BlocksIn count end) (ReceiveBlocks lines due) (InBlocks ended blocks) known h told made i = phase_step known h count (told.0 ∙ made.size) i
known_step k (RegisterIn count end) (ReceiveRegister lines due) (InRegister ended bytes) known h told made i =
    record { rca = i.rca; lines = i.lines; csd = i.csd; announced = i.announced; register_length = i.register_length; flags = i.flags }
known_step k (BlocksOut count end) (GiveBlocks lines blocks) (OutBlocks ended) known h told made i = phase_step known h count (told.0 ∙ made.size) i
known_step k (Wait end) AwaitReady (Waited ended) known h told made i = i
known_step k line x returned known h told made i = absurd told

-- where no line tells the count, it is not known
forgotten : (known : HostKnown) (h : Host) (n : Option ℕ) → IsKnown (record known { announced = n }) h → IsKnown (record known { announced = None }) h
forgotten known h n i = record { rca = i.rca; lines = i.lines; csd = i.csd; announced = tt; register_length = i.register_length; flags = i.flags }

forget_by : (b w : Bool) (n : ℕ) (line : TraceLine) (known : HostKnown) (h : Host) →
    IsKnown (known_after_send (order_if b (transfer_order w n) None) line known) h →
    IsKnown (record known { announced = None }) h
forget_by true true n (Exchange command answer) known h i = forgotten known h (Some n) i
forget_by true false n (Exchange command answer) known h i = forgotten known h (Some n) i
forget_by false w n (Exchange command answer) known h i = forgotten known h known.announced i
forget_by b w n (BlocksIn count end) known h i = forgotten known h known.announced i
forget_by b w n (RegisterIn count end) known h i = forgotten known h known.announced i
forget_by b w n (BlocksOut count end) known h i = forgotten known h known.announced i
forget_by b w n (Wait end) known h i = forgotten known h known.announced i
forget_by b w n (Lines width) known h i = forgotten known h known.announced i
forget_by b w n (Running rca lines) known h i = forgotten known h known.announced i
forget_by b w n End known h i = forgotten known h known.announced i

forget : (k : Kind) (w : Bool) (n : ℕ) (line : TraceLine) (known : HostKnown) (h : Host) →
    IsKnown (known_after k (Does (Known (Send (transfer_ask w n)))) line known) h → IsKnown (known_after k (Does (Begins w)) line known) h
forget k w n line known h i =
    forget_by (is_count n) w n line known h (subst (λ o. IsKnown (known_after_send o line known) h) (order_is k w n) i)

-- a card beside its host, of whom this is known
pub record StillKnown (k : Kind) (known : HostKnown) (c : Card) (h : Host) : Type 0 where
  pub pair : IsPair k c h
  pub is_known : IsKnown known h

uses : (k : Kind) (known : HostKnown) (c : Card) (h : Host) (width : Width) → StillKnown k known c h → has_width k width ≡ true →
    StillKnown k (record known { lines = width }) c (record h { lines = width })
uses k known c h width i wide = record {
  pair = record { kind = i.pair.kind; card = i.pair.card; lines = wide; flags = i.pair.flags; rca = i.pair.rca };
  is_known = record {
    rca = i.is_known.rca;
    lines = refl;
    csd = i.is_known.csd;
    announced = i.is_known.announced;
    register_length = i.is_known.register_length;
    flags = i.is_known.flags;
  };
}

same_pair : (k : Kind) (known : HostKnown) (c u : Card) (h g : Host) → c ≡ u → h ≡ g → StillKnown k known c h → StillKnown k known u g
same_pair k known c u h g e f i = subst (λ v. StillKnown k known v g) e (subst (λ v. StillKnown k known c v) f i)

step_keeps : (k : Kind) (event : Event) (line : TraceLine) (known : HostKnown) (c : Card) (h : Host) (u : Card) (g : Host) → StillKnown k known c h →
    StepTold k event line c h u g → StillKnown k (known_after k (Does (Known event)) line known) u g
step_keeps k event line known c h u g i s =
    let known_there : IsKnown (known_after k (Does (Known (event_of s.made_event))) line known) (host_after k s.made_event s.returned h) =
    known_step k line s.made_event s.returned known h s.told s.made i.is_known in
    record {
      pair = subst (λ v. IsPair k u v) s.host (steps_keep_pairs k s.made_event c h s.returned u i.pair s.made s.step);
      is_known = subst (λ v. IsKnown (known_after k (Does (Known event)) line known) v) s.host
          (subst (λ v. IsKnown (known_after k (Does (Known v)) line known) (host_after k s.made_event s.returned h)) s.is known_there);
    }

deed_keeps : (k : Kind) (deed : Deed) (line : TraceLine) (known : HostKnown) (c : Card) (h : Host) (u : Card) (g : Host) → StillKnown k known c h →
    DeedMeant k deed line c h u g → StillKnown k (known_after k (Does deed) line known) u g
deed_keeps k (Known event) line known c h u g i s = step_keeps k event line known c h u g i s
deed_keeps k (Begins w) line known c h u g i (n, s) =
    let kept : StillKnown k (known_after k (Does (Known (Send (transfer_ask w n)))) line known) u g =
    step_keeps k (Send (transfer_ask w n)) line known c h u g i s in
    record { pair = kept.pair; is_known = forget k w n line known g kept.is_known }

goes_keeps : (k : Kind) (turn : Turn) (line : TraceLine) (known : HostKnown) (c : Card) (h : Host) (u : Card) (g : Host) → StillKnown k known c h →
    GoesMeant k turn line c h u g → StillKnown k (known_after k turn line known) u g
goes_keeps k (Does deed) line known c h u g i goes = deed_keeps k deed line known c h u g i goes
goes_keeps k (Uses width) line known c h u g i goes =
    same_pair k (record known { lines = width }) c u (record h { lines = width }) g goes.0 goes.1 (uses k known c h width i goes.2)
goes_keeps k (Resumes rca lines) line known c h u g i goes =
    let there : IsRunning k rca lines u g = goes in
    record {
      pair = there.pair;
      is_known = record {
        rca = there.rca_is;
        lines = there.lines_are;
        csd = there.csd;
        announced = tt;
        register_length = there.register_length;
        flags = there.flags;
      };
    }
goes_keeps k (OtherLength due) line known c h u g i goes = absurd goes
goes_keeps k Ends line known c h u g i goes = same_pair k known c u h g goes.0 goes.1 i
goes_keeps k Outside line known c h u g i goes = same_pair k known c u h g goes.0 goes.1 i

start_known : (k : Kind) (c : Card) → StartHolds k c (host_at_start 0) → StillKnown k nothing_known c (host_at_start 0)
start_known k c s = record {
  pair = s.pair;
  is_known = record { rca = refl; lines = refl; csd = refl; announced = refl; register_length = refl; flags = refl };
}

pub stood_known : (k : Kind) (past : List Told) (c : Card) (h : Host) → Stood k past c h → StillKnown k (known_of k past) c h
stood_known k [] c h s =
    let start : StartPair k c h = s in
    subst (λ v. StillKnown k nothing_known c v) (sym start.host) (start_known k c (starts_hold k c 0 start.kind start.start))
stood_known k (told ∷ past) u g (c, h, stood, goes) =
    let known : StillKnown k (known_of k past) c h = stood_known k past c h stood in
    goes_keeps k (turn_behind k past told) told.line (known_of k past) c h u g known
    (goes_meant k past told c h u g known.pair.kind known.is_known.rca goes)

-- WHAT A CARD TELLS of its capacity, and its host of it

pub record Tells (c : Card) (h : Host) : Type 0 where
  pub sound : Sound c h
  pub told : told_blocks c.kind c.block_unit c.csd c.ext_csd ≡ c.capacity
  pub readable : fault c.kind (bits_of c.csd) ≡ None

still_told : (c u : Card) → SameCard c u → told_blocks c.kind c.block_unit c.csd c.ext_csd ≡ c.capacity →
    told_blocks u.kind u.block_unit u.csd u.ext_csd ≡ u.capacity
still_told c u same told =
    sym (ap (λ k. told_blocks k c.block_unit c.csd c.ext_csd) same.kind
    ∙ (ap (λ b. told_blocks u.kind b c.csd c.ext_csd) same.block_unit
    ∙ (ap (λ r. told_blocks u.kind u.block_unit r c.ext_csd) same.csd ∙ ap (λ r. told_blocks u.kind u.block_unit u.csd r) same.ext_csd)))
    ∙ (told ∙ same.capacity)

still_readable : (c u : Card) → SameCard c u → fault c.kind (bits_of c.csd) ≡ None → fault u.kind (bits_of u.csd) ≡ None
still_readable c u same readable =
    subst (λ v. fault u.kind (bits_of v) ≡ None) same.csd (subst (λ v. fault v (bits_of c.csd) ≡ None) same.kind readable)

same_tells : (c u : Card) (h g : Host) → c ≡ u → h ≡ g → Tells c h → Tells u g
same_tells c u h g e f t = subst (λ v. Tells v g) e (subst (λ v. Tells c v) f t)

other_lines : (c : Card) (h : Host) (width : Width) → Tells c h → Tells c (record h { lines = width })
other_lines c h width t = record {
  sound = record { csd = t.sound.csd; ext_csd = t.sound.ext_csd; blocks = t.sound.blocks; register = t.sound.register };
  told = t.told;
  readable = t.readable;
}

step_tells : (k : Kind) (event : Event) (line : TraceLine) (c : Card) (h : Host) (u : Card) (g : Host) → IsPair k c h → StepTold k event line c h u g →
    Tells c h →
    Tells u g
step_tells k event line c h u g pair s t = record {
  sound = subst (λ v. Sound u v) s.host (steps_keep_sound k s.made_event c h s.returned u pair s.made s.legal s.step t.sound);
  told = still_told c u (steps_keep_same k s.made_event c s.returned u pair.kind s.step) t.told;
  readable = still_readable c u (steps_keep_same k s.made_event c s.returned u pair.kind s.step) t.readable;
}

deed_tells : (k : Kind) (deed : Deed) (line : TraceLine) (c : Card) (h : Host) (u : Card) (g : Host) → IsPair k c h → DeedMeant k deed line c h u g → Tells c h →
    Tells u g
deed_tells k (Known event) line c h u g pair s t = step_tells k event line c h u g pair s t
deed_tells k (Begins w) line c h u g pair (n, s) t = step_tells k (Send (transfer_ask w n)) line c h u g pair s t

goes_tells : (k : Kind) (turn : Turn) (line : TraceLine) (c : Card) (h : Host) (u : Card) (g : Host) → IsPair k c h → GoesMeant k turn line c h u g → Tells c h →
    Tells u g
goes_tells k (Does deed) line c h u g pair goes t = deed_tells k deed line c h u g pair goes t
goes_tells k (Uses width) line c h u g pair goes t = same_tells c u (record h { lines = width }) g goes.0 goes.1 (other_lines c h width t)
goes_tells k (Resumes rca lines) line c h u g pair goes t =
    let there : IsRunning k rca lines u g = goes in
    record { sound = there.sound; told = there.profile.told; readable = there.profile.readable }
goes_tells k (OtherLength due) line c h u g pair goes t = absurd goes
goes_tells k Ends line c h u g pair goes t = same_tells c u h g goes.0 goes.1 t
goes_tells k Outside line c h u g pair goes t = same_tells c u h g goes.0 goes.1 t

pub stood_tells : (k : Kind) (past : List Told) (c : Card) (h : Host) → Stood k past c h → Tells c h
stood_tells k [] c h s =
    let start : StartPair k c h = s in
    let holds : StartHolds k c (host_at_start 0) = starts_hold k c 0 start.kind start.start in
    subst (λ v. Tells c v) (sym start.host) (record { sound = holds.sound; told = start.start.profile.told; readable = start.start.profile.readable })
stood_tells k (told ∷ past) u g (c, h, stood, goes) =
    let known : StillKnown k (known_of k past) c h = stood_known k past c h stood in
    goes_tells k (turn_behind k past told) told.line c h u g known.pair
    (goes_meant k past told c h u g known.pair.kind known.is_known.rca goes) (stood_tells k past c h stood)

-- WHAT IS SEEN of what a line tells

told_seen : (k : Kind) (pending : Bool) (line : TraceLine) (x : ScriptEvent) (returned : Return) → IsToldBy line x returned →
    seen_of k pending returned ≡ line_seen k pending line
told_seen k pending (Exchange command answer) (SendCommand ask position argument) (Answered heard) told = ap (λ a. answer_seen k pending a) (sym told.1)
told_seen k pending (BlocksIn count end) (ReceiveBlocks lines due) (InBlocks ended blocks) told = ap phase_seen (sym told.1)
told_seen k pending (RegisterIn count end) (ReceiveRegister lines due) (InRegister ended bytes) told = ap phase_seen (sym told.1)
told_seen k pending (BlocksOut count end) (GiveBlocks lines blocks) (OutBlocks ended) told = ap phase_seen (sym told.1)
told_seen k pending (Wait end) AwaitReady (Waited ended) told = ap wait_seen (sym told)
told_seen k pending line x returned told = absurd told

-- THE FORMAT, and what no card answers

abbrev possible_at : Kind → (csd : Option (List ℕ)) → Event → TraceLine → Bool
possible_at k csd (Send ask) line = is_possible k csd (order_of k ask) line
possible_at k csd event line = true

both : (a b : Bool) → a ≡ true → b ≡ true → (a && b) ≡ true
both true b e f = f
both false b e f = e

abbrev has_format : Kind → Event → TraceLine → Bool
has_format k (Send ask) line = is_expected_answer (expect_of k ask) line
has_format k event line = true

told_expected : (k : Kind) (line : TraceLine) (x : ScriptEvent) (returned : Return) → IsToldBy line x returned → Expected k x returned →
    has_format k (event_of x) line ≡ true
told_expected k (Exchange command answer) (SendCommand ask position argument) (Answered heard) told e =
    of_kind (expect_of k ask) answer (subst (λ a. AnswerExpected (expect_of k ask) a) (sym told.1) e)
told_expected k (BlocksIn count end) (ReceiveBlocks lines due) (InBlocks ended blocks) told e = refl
told_expected k (RegisterIn count end) (ReceiveRegister lines due) (InRegister ended bytes) told e = refl
told_expected k (BlocksOut count end) (GiveBlocks lines blocks) (OutBlocks ended) told e = refl
told_expected k (Wait end) AwaitReady (Waited ended) told e = refl
told_expected k line x returned told e = absurd told

-- THE ADDRESS

not_false : (b : Bool) → not b ≡ false → b ≡ true
not_false true e = refl
not_false false e = absurd (let f : true ≡ false = e in cc)

pub no_address : (known : HostKnown) → has_address known ≡ false → known.rca ≡ 0
no_address known e = eqb-true known.rca 0 (not_false (known.rca == 0) e)

-- ONE LINE

pub pending_of : (k : Kind) (c : Card) (h : Host) → IsPair k c h → c.mode.error ≡ pending_at (pair_code c h)
pending_of k c h pair = ap (λ (f : Fields). f.mode.error) (sym (digits_law (view c h) pair.flags pair.card.preset))

step_from : (k : Kind) (event : Event) (line : TraceLine) (known : HostKnown) (c : Card) (h : Host) (u : Card) (g : Host) → StillKnown k known c h →
    (s : StepTold k event line c h u g) → CarriedFrom k event line (has_address known) (shape_of c h) (shape_of u g)
step_from k event line known c h u g i s =
    let x : ScriptEvent = s.made_event in
    let o : Outcome = step_outcome k x c h s.returned u in
    let legal : legal_code k (pair_code c h) event ≡ true =
    subst (λ v. legal_code k (pair_code c h) v ≡ true) s.is ((legal_is_exact k x c h i.pair s.made).0 s.legal) in
    let may : May (outcomes_code k (pair_code c h) event) o =
    subst (λ v. May (outcomes_code k (pair_code c h) v) o) s.is (steps_are_outcomes k x c h s.returned u i.pair s.made s.legal s.step) in
    let seen : seen_of k c.mode.error s.returned ≡ line_seen k (pending_at (pair_code c h)) line =
    told_seen k c.mode.error line x s.returned s.told ∙ ap (λ p. line_seen k p line) (pending_of k c h i.pair) in
    let none : has_address known ≡ false → h.rca ≡ 0 = λ e. i.is_known.rca ∙ no_address known e in
    let possible : is_impossible_match k (event_of x) o (has_address known) ≡ false =
    not_true (is_impossible_match k (event_of x) o (has_address known))
    (λ y. impossible_matches_are_no_steps k x c h o s.returned u i.pair s.made (match_is k x h o (has_address known) none y) s.step refl) in
    record {
      legal = legal;
      one = record {
        outcome = o;
        may = may;
        fits = record { seen = seen; possible = subst (λ v. is_impossible_match k v o (has_address known) ≡ false) s.is possible };
        leads = ap (λ v. shape_of u v) s.host;
      };
    }

deed_from : (k : Kind) (deed : Deed) (line : TraceLine) (known : HostKnown) (c : Card) (h : Host) (u : Card) (g : Host) → StillKnown k known c h →
    DeedMeant k deed line c h u g → CarriedFrom k (event_at deed (shape_of c h).0) line (has_address known) (shape_of c h) (shape_of u g)
deed_from k (Known event) line known c h u g i s = step_from k event line known c h u g i s
deed_from k (Begins w) line known c h u g i (n, s) =
    carried_at_count k w n line (has_address known) (shape_of c h) (shape_of u g) (step_from k (Send (transfer_ask w n)) line known c h u g i s)

step_format : (k : Kind) (event : Event) (line : TraceLine) (c : Card) (h : Host) (u : Card) (g : Host) → k ≡ c.kind →
    StepTold k event line c h u g → has_format k event line ≡ true
step_format k event line c h u g kind s =
    subst (λ v. has_format k v line ≡ true) s.is
    (told_expected k line s.made_event s.returned s.told (steps_are_expected k s.made_event c s.returned u kind s.step))

-- what is known of the CSD is true of the card
readable_of : (k : Kind) (known : HostKnown) (c : Card) (h : Host) → StillKnown k known c h → Tells c h → ReadableCsd k known.csd c.csd
readable_of k known c h i t = record {
  readable = subst (λ v. fault v (bits_of c.csd) ≡ None) (sym i.pair.kind) t.readable;
  same = λ bytes e. t.sound.csd bytes (i.is_known.csd ∙ e);
}

by_order : (k : Kind) (csd : Option (List ℕ)) (o : Option Order) (order : Order) (argument : ℕ) (c u : Card) (command : Command) (answer : Answer) →
    ReadableCsd k csd c.csd → o ≡ Some order → Exchanges order argument c answer u → is_possible k csd o (Exchange command answer) ≡ true
by_order k csd None order argument c u command answer r e x = refl
by_order k csd (Some other) order argument c u command (Replied reply) r e x =
    let same : order ≡ other = cc in
    reply_possible k csd other argument c u reply r (subst (λ v. Exchanges v argument c (Replied reply) u) same x)
by_order k csd (Some other) order argument c u command Sent r e x = refl
by_order k csd (Some other) order argument c u command TimeOut r e x = refl
by_order k csd (Some other) order argument c u command (Damaged fault) r e x = refl

told_possible : (k : Kind) (csd : Option (List ℕ)) (line : TraceLine) (x : ScriptEvent) (c : Card) (returned : Return) (u : Card) → k ≡ c.kind →
    ReadableCsd k csd c.csd → IsToldBy line x returned → Step x c returned u → possible_at k csd (event_of x) line ≡ true
told_possible k csd (Exchange command answer) (SendCommand ask position argument) c (Answered heard) u kind r told s =
    subst (λ a. is_possible k csd (order_of k ask) (Exchange command a) ≡ true) (sym told.1)
    (by_order k csd (order_of k ask) s.order argument c u command heard r (subst (λ v. order_of v ask ≡ Some s.order) (sym kind) s.asks.line) s.exchange)
told_possible k csd (BlocksIn count end) (ReceiveBlocks lines due) c (InBlocks ended blocks) u kind r told s = refl
told_possible k csd (RegisterIn count end) (ReceiveRegister lines due) c (InRegister ended bytes) u kind r told s = refl
told_possible k csd (BlocksOut count end) (GiveBlocks lines blocks) c (OutBlocks ended) u kind r told s = refl
told_possible k csd (Wait end) AwaitReady c (Waited ended) u kind r told s = refl
told_possible k csd line x c returned u kind r told s = absurd told

known_expected : (k : Kind) (csd : Option (List ℕ)) (event : Event) (line : TraceLine) → has_format k event line ≡ true → possible_at k csd event line ≡ true →
    is_expected k csd (Known event) line ≡ true
known_expected k csd (Send ask) line e f = both (is_expected_answer (expect_of k ask) line) (is_possible k csd (order_of k ask) line) e f
known_expected k csd RecvBlocks line e f = refl
known_expected k csd RecvReg line e f = refl
known_expected k csd Give line e f = refl
known_expected k csd Waits line e f = refl

deed_expected : (k : Kind) (deed : Deed) (line : TraceLine) (known : HostKnown) (c : Card) (h : Host) (u : Card) (g : Host) → StillKnown k known c h →
    Tells c h →
    DeedMeant k deed line c h u g → is_expected k known.csd deed line ≡ true
deed_expected k (Known event) line known c h u g i t s =
    known_expected k known.csd event line (step_format k event line c h u g i.pair.kind s)
    (subst (λ v. possible_at k known.csd v line ≡ true) s.is
    (told_possible k known.csd line s.made_event c s.returned u i.pair.kind (readable_of k known c h i t) s.told s.step))
deed_expected k (Begins w) line known c h u g i t (n, s) =
    let from : CarriedFrom k (Send (transfer_ask w n)) line (has_address known) (shape_of c h) (shape_of u g) =
    step_from k (Send (transfer_ask w n)) line known c h u g i s in
    subst (λ v. is_expected_answer v line ≡ true) (waits_same k w n 1 (counted_legal k w n (pair_code c h) from.legal) refl)
    (step_format k (Send (transfer_ask w n)) line c h u g i.pair.kind s)

pub follows : (k : Kind) (turn : Turn) (line : TraceLine) (known : HostKnown) (shapes : List Shape) (c : Card) (h : Host) (u : Card) (g : Host) →
    StillKnown k known c h → Tells c h → May shapes (shape_of c h) → GoesMeant k turn line c h u g → Follows k turn line known shapes (shape_of u g)
follows k (Does deed) line known shapes c h u g i tells among goes =
    subst (λ b. CarriedBy b k deed line (has_address known) shapes (shape_of u g)) (sym (deed_expected k deed line known c h u g i tells goes))
    (record { source = shape_of c h; among = among; from = deed_from k deed line known c h u g i goes })
follows k (Uses width) line known shapes c h u g i tells among goes = record {
  source = shape_of c h;
  among = among;
  leads = pair_with_lines k c h width i.pair ∙ (ap (λ v. shape_of c v) goes.1 ∙ ap (λ v. shape_of v g) goes.0);
}
follows k (Resumes rca lines) line known shapes c h u g i tells among goes =
    record { source = shape_of c h; among = among; is_any = any_covers k rca lines u g goes }
follows k (OtherLength due) line known shapes c h u g i tells among goes = absurd goes
follows k Ends line known shapes c h u g i tells among goes =
    subst (λ v. May shapes (shape_of v g)) goes.0 (subst (λ v. May shapes (shape_of c v)) goes.1 among)
follows k Outside line known shapes c h u g i tells among goes =
    subst (λ v. May shapes (shape_of v g)) goes.0 (subst (λ v. May shapes (shape_of c v)) goes.1 among)

-- a set that has all shapes that may follow covers all cards after the line
pub covers_more : (k : Kind) (past : List Told) (told : Told) (shapes after : List Shape) → Covers k past shapes →
    ((s : Shape) → Follows k (turn_behind k past told) told.line (known_of k past) shapes s → May after s) →
    Covers k (told ∷ past) after
covers_more k past told shapes after covers has u g (c, h, stood, goes) =
    let known : StillKnown k (known_of k past) c h = stood_known k past c h stood in
    has (shape_of u g) (follows k (turn_behind k past told) told.line (known_of k past) shapes c h u g known (stood_tells k past c h stood)
    (covers c h stood) (goes_meant k past told c h u g known.pair.kind known.is_known.rca goes))

-- before the first line
pub start_covers : (k : Kind) → Covers k [] start_set
start_covers k c h s =
    let start : StartPair k c h = s in
    subst (λ v. May start_set (shape_of c v)) (sym start.host)
    (May-map shape_with (starts_hold k c 0 start.kind start.start).shape)
