-- Each shape that may follow a shape of a real card is that of a real card.
use Rattle.std.proofs.Common.{◌≡◌, ℕ, ◌+◌, ◌<◌, ◌≤◌, ◌==◌, refl, ap, subst, sym, ◌∙◌, Bool, true, false, not, List, [], ◌∷◌, ◌++◌, Option, Some, None, arith, eqb-true, if◌then◌else◌}
use Rattle.std.specs.Prelude.{nat_le}
use Rattle.std.proofs.lemmas.Bool.{leb-true, le-leb}
use Rattle.sdv_frames.specs.declared.command.Command.{Command}
use Rattle.sdv_frames.specs.declared.reply.Reply.TheVariants.{R1, R2, R3, R6, R7}
use Rattle.sdv_registers.specs.declared.kind.Kind.{Kind}
use Rattle.sdv_card.specs.declared.shape.Shape.{Shape}
use Rattle.sdv_card.specs.declared.state.Width.{Width}
use Rattle.sdv_card.specs.declared.state.Partition.{Partition}
use Rattle.sdv_card.specs.declared.fields.Fields.{Fields}
use Rattle.sdv_card.specs.declared.command.Order.{Order}
use Rattle.sdv_card.specs.declared.command.Order.TheVariants.{GoIdleState, SendRelativeAddress, SetRelativeAddress, ReadSingleBlock, ReadMultipleBlock, WriteBlock, WriteMultipleBlock}
use Rattle.sdv_card.specs.declared.answer.Answer.{Answer}
use Rattle.sdv_card.specs.declared.answer.Answer.TheVariants.{Sent, TimeOut, Reply as Replied, Damaged}
use Rattle.sdv_card.specs.declared.event.Ask.{Ask}
use Rattle.sdv_card.specs.declared.event.Event.{Event}
use Rattle.sdv_card.specs.declared.event.Event.TheVariants.{Send, RecvBlocks, RecvReg, Give, Wait as Waits}
use Rattle.sdv_card.specs.declared.event.Outcome.{Outcome}
use Rattle.sdv_card.specs.declared.event.Seen.{Seen}
use Rattle.sdv_card.specs.declared.event.Seen.TheVariants.{TimeOut as SeenTimeOut}
use Rattle.sdv_card.specs.Lists.{May}
use Rattle.sdv_card.specs.Modes.{has_width}
use Rattle.sdv_card.specs.CommandTable.{order_if, order_of, addressed_blocks}
use Rattle.sdv_card.specs.Card.{Card, capacity_of}
use Rattle.sdv_card.specs.Host.{Host, host_after}
use Rattle.sdv_card.specs.Taken.{SameCard}
use Rattle.sdv_card.specs.Code.{digits}
use Rattle.sdv_card.specs.LegalShapes.{legal_code}
use Rattle.sdv_card.specs.Seen.{answer_seen}
use Rattle.sdv_card.specs.Shapes.{view, pair_code, IsPair}
use Rattle.sdv_card.specs.ShapeBits.{with_lines_shown}
use Rattle.sdv_card.specs.Profile.{most_blocks, host_at_start}
use Rattle.sdv_card.specs.Laws.{StartHolds}
use Rattle.sdv_card.proofs.Digits.{digits_law}
use Rattle.sdv_card.proofs.Members.{May-map, and_left, and_right}
use Rattle.sdv_card.proofs.ShapeLines.{pair_with_lines}
use Rattle.sdv_card.proofs.TableLaws.{steps_keep_pairs, steps_keep_same, starts_hold}
use Rattle.sdv_outcomes.specs.Histories.{Entry, HostSets, Happens, with_settings, entry_code, code_after, has_address_by, has_address_after, entry_has_address, is_impossible_by, is_impossible_match, MayFollow, IsHistory, EntryWithin, IsWithin}
use Rattle.sdv_outcomes.specs.Runs.{Pair, GoesTo, RunsAs}
use Rattle.sdv_outcomes.specs.StartCards.{most_boot_blocks, StartRun}
use Rattle.sdv_outcomes.proofs.HistoryRuns.{set_code}
use Rattle.sdv_outcomes.proofs.RunHistories.{set_pair}
use Rattle.sdv_outcomes.proofs.StartRuns.{some_card_runs, illegal_shapes_are_real}
use Rattle.sdv_audit.specs.declared.line.TraceLine.{TraceLine}
use Rattle.sdv_audit.specs.declared.line.TraceLine.TheVariants.{Exchange, BlocksIn, RegisterIn, BlocksOut, Wait, Lines, Running, End}
use Rattle.sdv_audit.specs.declared.known.HostKnown.{HostKnown}
use Rattle.sdv_audit.specs.declared.turn.Told.{Told}
use Rattle.sdv_audit.specs.declared.turn.Deed.{Deed}
use Rattle.sdv_audit.specs.declared.turn.Deed.TheVariants.{Known, Begins}
use Rattle.sdv_audit.specs.declared.turn.Turn.{Turn}
use Rattle.sdv_audit.specs.declared.turn.Turn.TheVariants.{Ends, Outside, Uses, Resumes, OtherLength, Does}
use Rattle.sdv_audit.specs.Known.{announced_told, known_after_order}
use Rattle.sdv_audit.specs.Turns.{begins, is_count, ask_told, transfer_ask, event_at, turn_of_ask, turn_of_phase, turn_of_line, known_after, line_seen, is_expected}
use Rattle.sdv_audit.proofs.Counts.{transfer_order, order_is, order_counted, never_legal, carried_with}
use Rattle.sdv_audit.specs.Carried.{AnyBehind, has_address, pending_at, CarriedFrom, Carried, CarriedBy, WithLines, Follows}
use Rattle.sdv_audit.specs.Standing.{known_of, turn_behind, shape_with, start_set}
use Rattle.sdv_audit.specs.Lived.{guards_told, block_named, names_block, line_block, blocks_within, line_within, deed_within, turn_within, announced_of, announced_at, announced_after, announced_in, IsAsLong, AddsEvent, Adds, Tells, Lived, RecklessIsReal, DoesRecklessly, MayAnnounce, LivedWith, LivedFor}

-- ONE ENTRY MORE at the end of a history

abbrev addresses_after : Kind → List Entry → Bool → Bool
addresses_after k [] address = address
addresses_after k (entry ∷ rest) address = addresses_after k rest (entry_has_address k entry address)

code_snoc : (code : ℕ) (entries : List Entry) (entry : Entry) → code_after code (entries ++ entry ∷ []) ≡ entry_code (code_after code entries) entry
code_snoc code [] entry = refl
code_snoc code (x ∷ rest) entry = code_snoc (entry_code code x) rest entry

addresses_snoc : (k : Kind) (entries : List Entry) (address : Bool) (entry : Entry) →
    addresses_after k (entries ++ entry ∷ []) address ≡ entry_has_address k entry (addresses_after k entries address)
addresses_snoc k [] address entry = refl
addresses_snoc k (x ∷ rest) address entry = addresses_snoc k rest (entry_has_address k x address) entry

history_snoc : (k : Kind) (address : Bool) (code : ℕ) (entries : List Entry) (entry : Entry) → IsHistory k address code entries →
    MayFollow k (addresses_after k entries address) (code_after code entries) entry → IsHistory k address code (entries ++ entry ∷ [])
history_snoc k address code [] entry is follows = (follows, tt)
history_snoc k address code (x ∷ rest) entry is follows =
    (is.0, history_snoc k (entry_has_address k x address) (entry_code code x) rest entry is.1 follows)

within_snoc : (n b code : ℕ) (entries : List Entry) (entry : Entry) → IsWithin n b code entries → EntryWithin n b (code_after code entries) entry →
    IsWithin n b code (entries ++ entry ∷ [])
within_snoc n b code [] entry is within = (within, tt)
within_snoc n b code (x ∷ rest) entry is within = (is.0, within_snoc n b (entry_code code x) rest entry is.1 within)

-- THE LAST CARD of a run is of the unit of the first

record StillUnit (k : Kind) (unit : Bool) (last : Card) (host : Host) : Type 0 where
  pair : IsPair k last host
  same_unit : last.block_unit ≡ unit

run_unit : (k : Kind) (unit : Bool) (entries : List Entry) (c : Card) (h : Host) (pairs : List Pair) (last : Card) (host : Host) → IsPair k c h →
    c.block_unit ≡ unit → RunsAs k entries c h pairs last host → StillUnit k unit last host
run_unit k unit [] c h [] last host pair same run =
    subst (λ u. StillUnit k unit u host) run.0 (subst (λ g. StillUnit k unit c g) run.1 (record { pair = pair; same_unit = same }))
run_unit k unit [] c h (x ∷ pairs) last host pair same run = absurd run
run_unit k unit (HostSets numbers flags lines ∷ rest) c h pairs last host pair same run =
    run_unit k unit rest c (record h { numbers = numbers; flags = flags; lines = lines }) pairs last host
    (set_pair k c h numbers flags lines pair run.0 run.1) same run.2
run_unit k unit (Happens event position o guards ∷ rest) c h [] last host pair same run = absurd run
run_unit k unit (Happens event position o guards ∷ rest) c h (x ∷ pairs) last host pair same run =
    let s : GoesTo k event position o guards x c h run.0 = run.1 in
    let kept : SameCard c run.0 = steps_keep_same k x.0 c x.1 run.0 pair.kind s.step in
    run_unit k unit rest run.0 (host_after k x.0 x.1 h) pairs last host (steps_keep_pairs k x.0 c h x.1 run.0 pair s.made s.step)
    (sym kept.block_unit ∙ same) run.2

unit_at : (k : Kind) (c : Card) (h : Host) (code : ℕ) → IsPair k c h → pair_code c h ≡ code → c.block_unit ≡ (digits code).block_unit
unit_at k c h code pair same =
    sym (ap (λ (f : Fields). f.block_unit) (digits_law (view c h) pair.flags pair.card.preset)) ∙ ap (λ n. (digits n).block_unit) same

-- a card beside its host of the shape, of the unit of the history's start
record CardOf (k : Kind) (start_code : ℕ) (s : Shape) : Type 0 where
  card : Card
  host : Host
  pair : IsPair k card host
  code : pair_code card host ≡ s.0
  same_unit : (digits start_code).block_unit ≡ (digits s.0).block_unit

card_of : (k : Kind) (past : List Told) (s : Shape) (l : Lived k past s) → CardOf k l.start_code s
card_of k past s l =
    let r : StartRun k l.start_code l.entries 0 = (some_card_runs k l.start_code l.entries 0 l.start).1 (l.history, l.within) in
    let h : Host = host_at_start 0 in
    let first : StartHolds k r.card h = starts_hold k r.card 0 r.kind r.start in
    let last : StillUnit k r.card.block_unit r.run.last r.run.host =
    run_unit k r.card.block_unit l.entries r.card h r.run.pairs r.run.last r.run.host first.pair refl r.run.goes in
    let code : pair_code r.run.last r.run.host ≡ s.0 = r.end ∙ l.end in
    record {
      card = r.run.last;
      host = r.run.host;
      pair = last.pair;
      code = code;
      same_unit = sym (unit_at k r.card h l.start_code first.pair r.shape) ∙ (sym last.same_unit ∙ unit_at k r.run.last r.run.host s.0 last.pair code);
    }

-- THE HOST'S ADDRESS: where the history has none, the trace has none

-- how a line is understood fits the line, and what is known before it
abbrev FitsLine : Kind → HostKnown → Turn → TraceLine → Type 0
FitsLine k known (Does (Known (Send ask))) (Exchange command answer) = Unit {0}
FitsLine k known (Does (Known RecvBlocks)) (BlocksIn count end) = MayAnnounce known.announced count
FitsLine k known (Does (Known RecvReg)) (RegisterIn count end) = Unit {0}
FitsLine k known (Does (Known Give)) (BlocksOut count end) = MayAnnounce known.announced count
FitsLine k known (Does (Known Waits)) (Wait end) = Unit {0}
FitsLine k known (Does (Begins w)) (Exchange command answer) = Unit {0}
FitsLine k known (Does deed) line = ⊥
FitsLine k known (Uses width) line = has_width k width ≡ true
FitsLine k known turn line = Unit {0}

ask_fits : (k : Kind) (known : HostKnown) (untold w : Bool) (ask : Option Ask) (command : Command) (answer : Answer) →
    FitsLine k known (turn_of_ask untold w ask) (Exchange command answer)
ask_fits k known untold w None command answer = tt
ask_fits k known true w (Some ask) command answer = tt
ask_fits k known false w (Some ask) command answer = tt

abbrev does_if : Bool → Event → Turn → Turn
does_if b event other = if b then Does (Known event) else other

abbrev uses_if : Bool → Width → Turn
uses_if b width = if b then Uses width else Outside

either_fits : (k : Kind) (known : HostKnown) (b : Bool) (event : Event) (other : Turn) (line : TraceLine) → (b ≡ true →
    FitsLine k known (Does (Known event)) line) →
    FitsLine k known other line → FitsLine k known (does_if b event other) line
either_fits k known true event other line f g = f refl
either_fits k known false event other line f g = g

phase_fits : (k : Kind) (known : HostKnown) (event : Event) (line : TraceLine) (count : ℕ) (due : Option ℕ) →
    (MayAnnounce due count → FitsLine k known (Does (Known event)) line) → FitsLine k known (turn_of_phase event count due) line
phase_fits k known event line count None f = either_fits k known (is_count count) event Outside line f tt
phase_fits k known event line count (Some due) f = either_fits k known (count == due) event (OtherLength due) line (λ e. f (sym (eqb-true count due e))) tt

lines_fit : (k : Kind) (known : HostKnown) (width : Width) (b : Bool) → has_width k width ≡ b → FitsLine k known (uses_if b width) (Lines width)
lines_fit k known width true e = e
lines_fit k known width false e = tt

fits_line : (k : Kind) (known : HostKnown) (line : TraceLine) (next : Option TraceLine) → FitsLine k known (turn_of_line k known line next) line
fits_line k known (Exchange command answer) next =
    ask_fits k known (begins command.index next) (command.index == 25) (ask_told k known.rca command answer next) command answer
fits_line k known (BlocksIn count end) next = phase_fits k known RecvBlocks (BlocksIn count end) count known.announced (λ m. m)
fits_line k known (RegisterIn count end) next = phase_fits k known RecvReg (RegisterIn count end) count (Some known.register_length) (λ m. tt)
fits_line k known (BlocksOut count end) next = phase_fits k known Give (BlocksOut count end) count known.announced (λ m. m)
fits_line k known (Wait end) next = tt
fits_line k known (Lines width) next = lines_fit k known width (has_width k width) refl
fits_line k known (Running rca lines) next = tt
fits_line k known End next = tt

-- where the address is none so far, it is 0
abbrev NoneYet : Bool → HostKnown → Type 0
NoneYet address known = address ≡ false → known.rca ≡ 0

order_none : (o : Option Order) (k : Kind) (pending : Bool) (answer : Answer) (known : HostKnown) (address : Bool) → NoneYet address known →
    NoneYet (has_address_by o (answer_seen k pending answer) address) (known_after_order o answer known)
order_none None k pending answer known address g e = g e
order_none (Some GoIdleState) k pending answer known address g e = refl
order_none (Some SetRelativeAddress) k pending answer known address g e = absurd (let f : true ≡ false = e in cc)
order_none (Some SendRelativeAddress) k pending Sent known address g e = g e
order_none (Some SendRelativeAddress) k pending TimeOut known address g e = g e
order_none (Some SendRelativeAddress) k pending (Damaged fault) known address g e = g e
order_none (Some SendRelativeAddress) k pending (Replied (R1 i word)) known address g e = absurd (let f : true ≡ false = e in cc)
order_none (Some SendRelativeAddress) k pending (Replied (R2 bytes)) known address g e = g e
order_none (Some SendRelativeAddress) k pending (Replied (R3 word)) known address g e = g e
order_none (Some SendRelativeAddress) k pending (Replied (R6 word)) known address g e = absurd (let f : true ≡ false = e in cc)
order_none (Some SendRelativeAddress) k pending (Replied (R7 word)) known address g e = g e
order_none (Some order) k pending answer known address g e = g e

event_none : (k : Kind) (event : Event) (line : TraceLine) (pending : Bool) (known : HostKnown) (address : Bool) → FitsLine k known (Does (Known event)) line →
    NoneYet address known → NoneYet (has_address_after k event (line_seen k pending line) address) (known_after k (Does (Known event)) line known)
event_none k (Send ask) (Exchange command answer) pending known address fits g = order_none (order_of k ask) k pending answer known address g
event_none k RecvBlocks (BlocksIn count end) pending known address fits g = g
event_none k RecvReg (RegisterIn count end) pending known address fits g = g
event_none k Give (BlocksOut count end) pending known address fits g = g
event_none k Waits (Wait end) pending known address fits g = g
event_none k event line pending known address fits g = absurd fits

-- CMD18 and CMD25 change no address
no_address_by : (b w : Bool) (n : ℕ) (seen : Seen) (address : Bool) → has_address_by (order_if b (transfer_order w n) None) seen address ≡ address
no_address_by true true n seen address = refl
no_address_by true false n seen address = refl
no_address_by false w n seen address = refl

no_address_change : (k : Kind) (w : Bool) (n : ℕ) (seen : Seen) (address : Bool) → has_address_after k (Send (transfer_ask w n)) seen address ≡ address
no_address_change k w n seen address = ap (λ o. has_address_by o seen address) (order_is k w n) ∙ no_address_by (is_count n) w n seen address

entry_address : (k : Kind) (event : Event) (line : TraceLine) (code : ℕ) (before entries : List Entry) (a : AddsEvent k event line code before entries) →
    addresses_after k entries false ≡ has_address_after k event (line_seen k (pending_at (code_after code before)) line) (addresses_after k before false)
entry_address k event line code before entries a =
    ap (λ es. addresses_after k es false) a.entries_are
    ∙ (addresses_snoc k before false (Happens event a.position a.outcome (guards_told k line))
    ∙ ap (λ v. has_address_after k event v (addresses_after k before false)) a.seen)

adds_none : (k : Kind) (turn : Turn) (line : TraceLine) (known : HostKnown) (code : ℕ) (before entries : List Entry)
    → FitsLine k known turn line → Adds k turn line code before entries →
    NoneYet (addresses_after k before false) known → NoneYet (addresses_after k entries false) (known_after k turn line known)
adds_none k (Does (Known event)) line known code before entries fits adds g =
    subst (λ v. NoneYet v (known_after k (Does (Known event)) line known)) (sym (entry_address k event line code before entries adds))
    (event_none k event line (pending_at (code_after code before)) known (addresses_after k before false) fits g)
adds_none k (Does (Begins w)) line known code before entries fits (n, adds) g =
    let same : addresses_after k entries false ≡ addresses_after k before false =
    entry_address k (Send (transfer_ask w n)) line code before entries adds
    ∙ no_address_change k w n (line_seen k (pending_at (code_after code before)) line) (addresses_after k before false) in
    λ e. g (sym same ∙ e)
adds_none k (Uses width) line known code before entries fits adds g =
    let same : addresses_after k entries false ≡ addresses_after k before false =
    ap (λ es. addresses_after k es false) adds ∙ addresses_snoc k before false (HostSets [] (digits (code_after code before)).flags width) in
    λ e. g (sym same ∙ e)
adds_none k (Resumes rca lines) line known code before entries fits adds g = absurd adds
adds_none k (OtherLength due) line known code before entries fits adds g = absurd adds
adds_none k Ends line known code before entries fits adds g = λ e. g (ap (λ es. addresses_after k es false) adds ∙ e)
adds_none k Outside line known code before entries fits adds g = λ e. g (ap (λ es. addresses_after k es false) adds ∙ e)

none_yet : (k : Kind) (past : List Told) (code : ℕ) (entries : List Entry) → Tells k past code entries →
    NoneYet (addresses_after k entries false) (known_of k past)
none_yet k [] code entries tells = λ e. refl
none_yet k (told ∷ past) code entries (before, tells, adds) =
    adds_none k (turn_behind k past told) told.line (known_of k past) code before entries (fits_line k (known_of k past) told.line told.next) adds
    (none_yet k past code before tells)

-- with an address no match is impossible
with_address : (o : Option Order) (seen : Seen) (code : ℕ) → is_impossible_by o seen true code ≡ false
with_address None seen code = refl
with_address (Some SendRelativeAddress) SeenTimeOut code = refl
with_address (Some SendRelativeAddress) seen code = refl
with_address (Some order) seen code = refl

never_known : (k : Kind) (event : Event) (o : Outcome) → is_impossible_match k event o true ≡ false
never_known k (Send ask) o = with_address (order_of k ask) o.seen o.shape.0
never_known k RecvBlocks o = refl
never_known k RecvReg o = refl
never_known k Give o = refl
never_known k Waits o = refl

-- the history has an address where the trace has one; so a match that is possible in the trace is possible in the history
possible_there : (k : Kind) (event : Event) (o : Outcome) (known : HostKnown) (address : Bool) → NoneYet address known →
    is_impossible_match k event o (has_address known) ≡ false → is_impossible_match k event o address ≡ false
possible_there k event o known true g e = never_known k event o
possible_there k event o known false g e =
    subst (λ v. is_impossible_match k event o v ≡ false) (ap (λ n. not (n == 0)) (g refl)) e

-- IN BOUNDS of the card with the most blocks

within_blocks : (k : Kind) (blocks : Option ℕ) (argument : ℕ) (unit start_unit : Bool) (partition : Partition) → start_unit ≡ unit →
    blocks_within k blocks argument unit partition ≡ true → (count : ℕ) → blocks ≡ Some count →
    block_named unit argument + count ≤ capacity_of partition (most_blocks k start_unit) (most_boot_blocks k)
within_blocks k None argument unit start_unit partition same e count f = absurd (let g : None ≡ Some count = f in cc)
within_blocks k (Some n) argument unit start_unit partition same e count f =
    let is : n ≡ count = cc in
    subst (λ u. block_named unit argument + count ≤ capacity_of partition (most_blocks k u) (most_boot_blocks k)) (sym same)
    (subst (λ m. block_named unit argument + m ≤ capacity_of partition (most_blocks k unit) (most_boot_blocks k)) is
    (leb-true _ _ (and_right (names_block unit argument) _ e)))

-- the line tells of the event
abbrev FitsEvent : Event → TraceLine → Type 0
FitsEvent (Send ask) (Exchange command answer) = Unit {0}
FitsEvent (Send ask) line = ⊥
FitsEvent event line = Unit {0}

event_fits : (k : Kind) (known : HostKnown) (event : Event) (line : TraceLine) → FitsLine k known (Does (Known event)) line → FitsEvent event line
event_fits k known (Send ask) (Exchange command answer) fits = tt
event_fits k known (Send ask) line fits = absurd fits
event_fits k known RecvBlocks line fits = tt
event_fits k known RecvReg line fits = tt
event_fits k known Give line fits = tt
event_fits k known Waits line fits = tt

entry_within : (k : Kind) (known : HostKnown) (event : Event) (line : TraceLine) (start_code code : ℕ) (o : Outcome) →
    (digits start_code).block_unit ≡ (digits code).block_unit → line_within k event line code ≡ true → FitsEvent event line →
    EntryWithin (most_blocks k (digits start_code).block_unit) (most_boot_blocks k) code
    (Happens event (line_block (digits code).block_unit line) o (guards_told k line))
entry_within k known (Send ask) (Exchange command answer) start_code code o same e fits = λ count f.
    within_blocks k (addressed_blocks ask) command.argument (digits code).block_unit (digits start_code).block_unit (digits code).mode.partition same e count f
entry_within k known (Send ask) line start_code code o same e fits = absurd fits
entry_within k known RecvBlocks line start_code code o same e fits = tt
entry_within k known RecvReg line start_code code o same e fits = tt
entry_within k known Give line start_code code o same e fits = tt
entry_within k known Waits line start_code code o same e fits = tt

-- THE BLOCKS ANNOUNCED LAST

announced_snoc : (k : Kind) (entries : List Entry) (n : ℕ) (entry : Entry) →
    announced_in k (entries ++ entry ∷ []) n ≡ announced_after k entry (announced_in k entries n)
announced_snoc k [] n entry = refl
announced_snoc k (x ∷ rest) n entry = announced_snoc k rest (announced_after k x n) entry

-- some number may be announced
witness : (o : Option ℕ) → (n : ℕ) × MayAnnounce o n
witness None = (1, refl)
witness (Some n) = (n, refl)

pub some_lived : (k : Kind) (past : List Told) (o : Option ℕ) (s : Shape) → LivedFor k past o s → Lived k past s
some_lived k past o s f = (f (witness o).0 (witness o).1).lived

-- a number that may have been announced before an event, after which the other one is
record Before (k : Kind) (event : Event) (line : TraceLine) (known : Option ℕ) (n : ℕ) : Type 0 where
  count : ℕ
  may : MayAnnounce known count
  gives : announced_at k event count ≡ n
  long : IsAsLong line count

record BeforeOrder (o : Option Order) (known : Option ℕ) (n : ℕ) : Type 0 where
  count : ℕ
  may : MayAnnounce known count
  gives : announced_of o count ≡ n

before_order : (order : Order) (known : Option ℕ) (n : ℕ) → MayAnnounce (announced_told order known) n → BeforeOrder (Some order) known n
before_order ReadSingleBlock known n m = record { count = (witness known).0; may = (witness known).1; gives = m }
before_order (ReadMultipleBlock count) known n m = record { count = (witness known).0; may = (witness known).1; gives = m }
before_order WriteBlock known n m = record { count = (witness known).0; may = (witness known).1; gives = m }
before_order (WriteMultipleBlock count) known n m = record { count = (witness known).0; may = (witness known).1; gives = m }
before_order order known n m = record { count = n; may = m; gives = refl }

before_answer : (o : Option Order) (answer : Answer) (known : HostKnown) (n : ℕ) → MayAnnounce (known_after_order o answer known).announced n →
    BeforeOrder o known.announced n
before_answer None answer known n m = record { count = n; may = m; gives = refl }
before_answer (Some order) answer known n m = before_order order known.announced n m

before : (k : Kind) (event : Event) (line : TraceLine) (known : HostKnown) (n : ℕ) → FitsLine k known (Does (Known event)) line →
    MayAnnounce (known_after k (Does (Known event)) line known).announced n → Before k event line known.announced n
before k (Send ask) (Exchange command answer) known n fits m =
    let b : BeforeOrder (order_of k ask) known.announced n = before_answer (order_of k ask) answer known n m in
    record { count = b.count; may = b.may; gives = b.gives; long = tt }
before k RecvBlocks (BlocksIn count end) known n fits m = record { count = count; may = fits; gives = m; long = refl }
before k RecvReg (RegisterIn count end) known n fits m = record { count = n; may = m; gives = refl; long = tt }
before k Give (BlocksOut count end) known n fits m = record { count = count; may = fits; gives = m; long = refl }
before k Waits (Wait end) known n fits m = record { count = n; may = m; gives = refl; long = tt }
before k event line known n fits m = absurd fits

announced_with : (k : Kind) (w : Bool) (n before : ℕ) → is_count n ≡ true → announced_at k (Send (transfer_ask w n)) before ≡ n
announced_with k true n before e = ap (λ o. announced_of o before) (order_counted k true n e)
announced_with k false n before e = ap (λ o. announced_of o before) (order_counted k false n e)

-- ONE LINE MORE

-- what the history of the line before gives
adds_event : (k : Kind) (past : List Told) (told : Told) (event : Event) (s to : Shape) (l : Lived k past s) →
    ((entries : List Entry) → AddsEvent k event told.line l.start_code l.entries entries →
    Adds k (turn_behind k past told) told.line l.start_code l.entries entries) →
    FitsEvent event told.line → line_within k event told.line s.0 ≡ true → IsAsLong told.line (announced_in k l.entries 0) →
    CarriedFrom k event told.line (has_address (known_of k past)) s to → LivedWith k (told ∷ past) to (announced_at k event (announced_in k l.entries 0))
adds_event k past told event s to l adds_so fits within long from =
    let o : Outcome = from.one.outcome in
    let line : TraceLine = told.line in
    let place : ℕ = line_block (digits s.0).block_unit line in
    let entry : Entry = Happens event place o (guards_told k line) in
    let entries : List Entry = l.entries ++ entry ∷ [] in
    let card : CardOf k l.start_code s = card_of k past s l in
    let seen : o.seen ≡ line_seen k (pending_at (code_after l.start_code l.entries)) line =
    from.one.fits.seen ∙ ap (λ n. line_seen k (pending_at n) line) (sym l.end) in
    let adds : AddsEvent k event line l.start_code l.entries entries =
    record { position = place; outcome = o; entries_are = refl; seen = seen; long = long } in
    let follows : MayFollow k (addresses_after k l.entries false) s.0 entry = (
      from.legal,
      from.one.may,
      possible_there k event o (known_of k past) (addresses_after k l.entries false) (none_yet k past l.start_code l.entries l.tells) from.one.fits.possible,
    ) in
    record {
      lived = record {
        start_code = l.start_code;
        start = l.start;
        entries = entries;
        tells = (l.entries, l.tells, adds_so entries adds);
        history = history_snoc k false l.start_code l.entries entry l.history
            (subst (λ n. MayFollow k (addresses_after k l.entries false) n entry) (sym l.end) follows);
        within = within_snoc (most_blocks k (digits l.start_code).block_unit) (most_boot_blocks k) l.start_code l.entries entry l.within
            (subst (λ n. EntryWithin (most_blocks k (digits l.start_code).block_unit) (most_boot_blocks k) n entry) (sym l.end)
            (entry_within k (known_of k past) event line l.start_code s.0 o card.same_unit within fits));
        end = code_snoc l.start_code l.entries entry ∙ ap (λ (x : Shape). x.0) from.one.leads;
      };
      announced = announced_snoc k l.entries 0 entry;
    }

adds_lines : (k : Kind) (past : List Told) (told : Told) (width : Width) (s to : Shape) (l : Lived k past s) → turn_behind k past told ≡ Uses width →
    with_lines_shown s width ≡ to → LivedWith k (told ∷ past) to (announced_in k l.entries 0)
adds_lines k past told width s to l turn leads =
    let c : CardOf k l.start_code s = card_of k past s l in
    let wide : has_width k width ≡ true = subst (λ t. FitsLine k (known_of k past) t told.line) turn (fits_line k (known_of k past) told.line told.next) in
    let last : ℕ = code_after l.start_code l.entries in
    let flags : ℕ = (digits last).flags in
    let entry : Entry = HostSets [] flags width in
    let code : pair_code c.card c.host ≡ last = c.code ∙ sym l.end in
    let shown : flags ≡ c.host.flags =
    ap (λ n. (digits n).flags) (sym code) ∙ ap (λ (f : Fields). f.flags) (digits_law (view c.card c.host) c.pair.flags c.pair.card.preset) in
    let few : flags < 16 = subst (λ n. n < 16) (sym shown) c.pair.flags in
    let there : with_settings last flags width ≡ pair_code c.card (record c.host { lines = width }) =
    ap (λ n. with_settings n flags width) (sym code) ∙ (ap (λ n. with_settings (pair_code c.card c.host) n width) shown
    ∙ set_code k c.card c.host [] c.host.flags width c.pair) in
    let same : record { 0 = pair_code c.card c.host } ≡ s = ap shape_with c.code in
    let lines : shape_with (pair_code c.card (record c.host { lines = width })) ≡ to =
    sym (pair_with_lines k c.card c.host width c.pair) ∙ (ap (λ v. with_lines_shown v width) same ∙ leads) in
    record {
      lived = record {
        start_code = l.start_code;
        start = l.start;
        entries = l.entries ++ entry ∷ [];
        tells = (l.entries, l.tells, subst (λ t. Adds k t told.line l.start_code l.entries (l.entries ++ entry ∷ [])) (sym turn) refl);
        history = history_snoc k false l.start_code l.entries entry l.history (few, wide);
        within = within_snoc (most_blocks k (digits l.start_code).block_unit) (most_boot_blocks k) l.start_code l.entries entry l.within tt;
        end = code_snoc l.start_code l.entries entry ∙ (there ∙ ap (λ (x : Shape). x.0) lines);
      };
      announced = announced_snoc k l.entries 0 entry;
    }

adds_nothing : (k : Kind) (past : List Told) (told : Told) (s : Shape) (l : Lived k past s) →
    Adds k (turn_behind k past told) told.line l.start_code l.entries l.entries → LivedWith k (told ∷ past) s (announced_in k l.entries 0)
adds_nothing k past told s l adds = record {
  lived = record {
    start_code = l.start_code;
    start = l.start;
    entries = l.entries;
    tells = (l.entries, l.tells, adds);
    history = l.history;
    within = l.within;
    end = l.end;
  };
  announced = refl;
}

expected_one : (b : Bool) (k : Kind) (deed : Deed) (line : TraceLine) (address : Bool) (shapes : List Shape) (to : Shape) →
    CarriedBy b k deed line address shapes to → Carried k deed line address shapes to
expected_one true k deed line address shapes to x = x
expected_one false k deed line address shapes to x = absurd x

with_other : (k : Kind) (past : List Told) (s : Shape) (n m : ℕ) → n ≡ m → LivedWith k past s n → LivedWith k past s m
with_other k past s n m e l = record { lived = l.lived; announced = l.announced ∙ e }

-- an event of the tables
lives_by : (k : Kind) (past : List Told) (told : Told) (event : Event) (s to : Shape) → turn_behind k past told ≡ Does (Known event) →
    LivedFor k past (known_of k past).announced s → line_within k event told.line s.0 ≡ true →
    CarriedFrom k event told.line (has_address (known_of k past)) s to →
    LivedFor k (told ∷ past) (known_after k (Does (Known event)) told.line (known_of k past)).announced to
lives_by k past told event s to is lived within from = λ n may.
    let known : HostKnown = known_of k past in
    let fits : FitsLine k known (Does (Known event)) told.line = subst (λ t. FitsLine k known t told.line) is (fits_line k known told.line told.next) in
    let b : Before k event told.line known.announced n = before k event told.line known n fits may in
    let l : LivedWith k past s b.count = lived b.count b.may in
    with_other k (told ∷ past) to (announced_at k event (announced_in k l.lived.entries 0)) n (ap (λ v. announced_at k event v) l.announced ∙ b.gives)
    (adds_event k past told event s to l.lived
    (λ entries adds. subst (λ t. Adds k t told.line l.lived.start_code l.lived.entries entries) (sym is) adds)
    (event_fits k known event told.line fits) within (subst (λ v. IsAsLong told.line v) (sym l.announced) b.long) from)

-- a count that is no more than the greatest lies where that lies
fewer_blocks : (k : Kind) (n argument : ℕ) (unit : Bool) (partition : Partition) → is_count n ≡ true →
    blocks_within k (Some 65535) argument unit partition ≡ true →
    blocks_within k (Some n) argument unit partition ≡ true
fewer_blocks k n argument unit partition some e =
    let names : names_block unit argument ≡ true = and_left (names_block unit argument) _ e in
    let room : block_named unit argument + 65535 ≤ capacity_of partition (most_blocks k unit) (most_boot_blocks k) =
    leb-true _ _ (and_right (names_block unit argument) _ e) in
    let most : n ≤ 65535 = leb-true n 65535 (and_right (nat_le 1 n) _ some) in
    rw (names, le-leb (block_named unit argument + n) (capacity_of partition (most_blocks k unit) (most_boot_blocks k)) (omega (arith, room, most))) refl

fewer_within : (k : Kind) (w : Bool) (n : ℕ) (line : TraceLine) (code : ℕ) → is_count n ≡ true → line_within k (Send (transfer_ask w 65535)) line code ≡ true →
    line_within k (Send (transfer_ask w n)) line code ≡ true
fewer_within k true n (Exchange command answer) code some e = fewer_blocks k n command.argument (digits code).block_unit (digits code).mode.partition some e
fewer_within k false n (Exchange command answer) code some e = fewer_blocks k n command.argument (digits code).block_unit (digits code).mode.partition some e
fewer_within k w n line code some e = refl

as_exchange : (k : Kind) (known : HostKnown) (w : Bool) (n : ℕ) (line : TraceLine) → FitsLine k known (Does (Begins w)) line →
    FitsEvent (Send (transfer_ask w n)) line
as_exchange k known w n (Exchange command answer) fits = tt
as_exchange k known w n line fits = absurd fits

no_phase : (k : Kind) (known : HostKnown) (w : Bool) (n : ℕ) (line : TraceLine) → FitsLine k known (Does (Begins w)) line → IsAsLong line n
no_phase k known w n (Exchange command answer) fits = tt
no_phase k known w n line fits = absurd fits

-- a command with an untold count
lives_begun : (k : Kind) (past : List Told) (told : Told) (w : Bool) (s to : Shape) → turn_behind k past told ≡ Does (Begins w) →
    LivedFor k past (known_of k past).announced s → deed_within k (Begins w) told.line s.0 ≡ true →
    CarriedFrom k (event_at (Begins w) s.0) told.line (has_address (known_of k past)) s to → LivedFor k (told ∷ past) None to
lives_begun k past told w s to is lived within from = λ n some.
    let known : HostKnown = known_of k past in
    let fits : FitsLine k known (Does (Begins w)) told.line = subst (λ t. FitsLine k known t told.line) is (fits_line k known told.line told.next) in
    let l : Lived k past s = some_lived k past known.announced s lived in
    let none : ((digits s.0).preset == 0) ≡ true = and_left ((digits s.0).preset == 0) _ within in
    with_other k (told ∷ past) to (announced_at k (Send (transfer_ask w n)) (announced_in k l.entries 0)) n
    (announced_with k w n (announced_in k l.entries 0) some)
    (adds_event k past told (Send (transfer_ask w n)) s to l
    (λ entries adds. subst (λ t. Adds k t told.line l.start_code l.entries entries) (sym is) (n, adds))
    (as_exchange k known w n told.line fits)
    (fewer_within k w n told.line s.0 some (and_right ((digits s.0).preset == 0) _ within))
    (no_phase k known w (announced_in k l.entries 0) told.line fits)
    (carried_with k w n told.line (has_address known) s to some none from))

lives_deed : (k : Kind) (past : List Told) (told : Told) (deed : Deed) (s to : Shape) → turn_behind k past told ≡ Does deed →
    LivedFor k past (known_of k past).announced s → deed_within k deed told.line s.0 ≡ true →
    CarriedFrom k (event_at deed s.0) told.line (has_address (known_of k past)) s to →
    LivedFor k (told ∷ past) (known_after k (Does deed) told.line (known_of k past)).announced to
lives_deed k past told (Known event) s to is lived within from = lives_by k past told event s to is lived within from
lives_deed k past told (Begins w) s to is lived within from = lives_begun k past told w s to is lived within from

lives_same : (k : Kind) (past : List Told) (told : Told) (to : Shape) (known : Option ℕ) →
    ((code : ℕ) (entries : List Entry) → Adds k (turn_behind k past told) told.line code entries entries) → LivedFor k past known to → LivedFor k
    (told ∷ past) known to
lives_same k past told to known adds lived = λ n may.
    let l : LivedWith k past to n = lived n may in
    with_other k (told ∷ past) to (announced_in k l.lived.entries 0) n l.announced
    (adds_nothing k past told to l.lived (adds l.lived.start_code l.lived.entries))

lives : (k : Kind) (past : List Told) (told : Told) (turn : Turn) (shapes : List Shape) (to : Shape) → turn_behind k past told ≡ turn →
    ((s : Shape) → May shapes s → LivedFor k past (known_of k past).announced s) → ((s : Shape) → May shapes s → turn_within k turn told.line s.0 ≡ true) →
    Follows k turn told.line (known_of k past) shapes to →
    LivedFor k (told ∷ past) (known_after k turn told.line (known_of k past)).announced to
lives k past told (Does deed) shapes to is lived within follows =
    let x : Carried k deed told.line (has_address (known_of k past)) shapes to =
    expected_one (is_expected k (known_of k past).csd deed told.line) k deed told.line (has_address (known_of k past)) shapes to follows in
    lives_deed k past told deed x.source to is (lived x.source x.among) (within x.source x.among) x.from
lives k past told (Uses width) shapes to is lived within follows = λ n may.
    let x : WithLines width shapes to = follows in
    let l : LivedWith k past x.source n = lived x.source x.among n may in
    with_other k (told ∷ past) to (announced_in k l.lived.entries 0) n l.announced (adds_lines k past told width x.source to l.lived is x.leads)
lives k past told (Resumes rca lines) shapes to is lived within follows =
    let x : AnyBehind k lines shapes to = follows in
    absurd (let f : false ≡ true = within x.source x.among in cc)
lives k past told (OtherLength due) shapes to is lived within follows = absurd follows
lives k past told Ends shapes to is lived within follows =
    lives_same k past told to (known_of k past).announced (λ code entries. subst (λ t. Adds k t told.line code entries entries) (sym is) refl)
    (lived to follows)
lives k past told Outside shapes to is lived within follows =
    lives_same k past told to (known_of k past).announced (λ code entries. subst (λ t. Adds k t told.line code entries entries) (sym is) refl)
    (lived to follows)

-- the shapes after a line, where those before it are lived and it is in bounds at each
pub lives_on : (k : Kind) (past : List Told) (told : Told) (shapes : List Shape) (to : Shape) →
    ((s : Shape) → May shapes s → LivedFor k past (known_of k past).announced s) →
    ((s : Shape) → May shapes s → turn_within k (turn_behind k past told) told.line s.0 ≡ true) →
    Follows k (turn_behind k past told) told.line (known_of k past) shapes to → LivedFor k (told ∷ past) (known_of k (told ∷ past)).announced to
lives_on k past told shapes to lived within follows = lives k past told (turn_behind k past told) shapes to refl lived within follows

-- before the first line
pub start_lives : (k : Kind) (s : Shape) → May start_set s → LivedFor k [] (Some 0) s
start_lives k s m = λ n may. record {
  lived = record {
    start_code = s.0;
    start = May-map (λ (x : Shape). x.0) m;
    entries = [];
    tells = refl;
    history = tt;
    within = tt;
    end = refl;
  };
  announced = may;
}

pub reckless_is_real : (k : Kind) → RecklessIsReal k
reckless_is_real k past s event position l illegal =
    illegal_shapes_are_real k l.start_code l.entries event position 0 l.start l.history l.within
    (subst (λ n. legal_code k n event ≡ false) (sym l.end) illegal)

pub does_recklessly : (k : Kind) (past : List Told) (deed : Deed) (s : Shape) → Lived k past s → legal_code k s.0 (event_at deed s.0) ≡ false →
    DoesRecklessly k past deed s
does_recklessly k past (Known event) s l illegal = λ position. record { lived = l; run = reckless_is_real k past s event position l illegal }
does_recklessly k past (Begins w) s l illegal = λ count position.
    record { lived = l; run = reckless_is_real k past s (Send (transfer_ask w count)) position l (never_legal k w count s.0 illegal) }
