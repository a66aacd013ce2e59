-- The COURSE of an audit: where it stands after the lines so far, and what it finds at the next one, both computed.
-- A list of shapes may have one twice, and in any order: only which ones there are counts.
use Rattle.std.specs.Prelude.{◌≡◌, ◌≤◌, ◌==◌, ◌&&◌, ◌||◌, ◌↔◌, not, nat_lt, Bool, true, false, ℕ, List, [], ◌∷◌, Option, Some, None, IfSome, map, if◌then◌else◌}
use Rattle.sdv_registers.specs.declared.kind.Kind.{Kind}
use Rattle.sdv_card.specs.declared.shape.Shape.{Shape}
use Rattle.sdv_card.specs.declared.event.Event.{Event}
use Rattle.sdv_card.specs.declared.event.Outcome.{Outcome}
use Rattle.sdv_card.specs.declared.event.Seen.{Seen}
use Rattle.sdv_card.specs.declared.event.Seen.TheVariants.{Sent, TimeOut, Bare, Ocr, Status, Ok, NotOk}
use Rattle.sdv_card.specs.Lists.{May, all, each}
use Rattle.sdv_card.specs.ShapeBits.{with_lines_shown}
use Rattle.sdv_card.specs.LegalShapes.{legal_code}
use Rattle.sdv_card.specs.Outcomes.{outcomes_code}
use Rattle.sdv_outcomes.specs.Histories.{is_impossible_match}
use Rattle.sdv_audit.specs.declared.line.TraceLine.{TraceLine}
use Rattle.sdv_audit.specs.declared.known.HostKnown.{HostKnown}
use Rattle.sdv_audit.specs.declared.turn.Told.{Told}
use Rattle.sdv_audit.specs.declared.turn.Deed.{Deed}
use Rattle.sdv_audit.specs.declared.turn.Turn.{Turn}
use Rattle.sdv_audit.specs.declared.turn.Turn.TheVariants.{Uses, Resumes, OtherLength, Does}
use Rattle.sdv_audit.specs.declared.audit.Audit.{Audit}
use Rattle.sdv_audit.specs.declared.audit.Findings.{Findings}
use Rattle.sdv_audit.specs.Known.{nothing_known, known_running}
use Rattle.sdv_card.specs.declared.state.Width.TheVariants.{One}
use Rattle.sdv_audit.specs.Turns.{turn_of, known_after, line_seen, event_at, is_expected}
use Rattle.sdv_audit.specs.Carried.{has_address, pending_at}
use Rattle.sdv_audit.specs.Standing.{start_set, NoneAnswers}
use Rattle.sdv_audit.specs.Lived.{turn_within, IsReckless}
use Rattle.sdv_audit.specs.Beyond.{is_beyond, NoneInBounds}
use Rattle.sdv_audit.specs.AnyShape.{any_shapes}
use Rattle.sdv_audit.specs.Audited.{is_empty, is_unanswered, is_reset, lines_told, running_told, address_told, resumes_by}
use Rattle.sdv_card.specs.declared.state.Width.{Width}

-- THE SAME IS SEEN of two answers

-- the sort of an answer, as a number
abbrev pub seen_sort : Seen → ℕ
seen_sort Sent = 0
seen_sort TimeOut = 1
seen_sort Bare = 2
seen_sort (Ocr ready block) = 3
seen_sort (Status state doubt app switch) = 4
seen_sort Ok = 5
seen_sort NotOk = 6

-- what else is seen of it: a state, a bit, and two bits that may not be known
pub record SeenParts : Type 0 where
  pub state : ℕ
  pub bit : Bool
  pub first : Option Bool
  pub second : Option Bool

abbrev pub seen_parts : Seen → SeenParts
seen_parts (Ocr ready block) = record { state = 0; bit = ready; first = block; second = None }
seen_parts (Status state doubt app switch) = record { state = state; bit = doubt; first = app; second = switch }
seen_parts seen = record { state = 0; bit = false; first = None; second = None }

abbrev pub same_bit : Bool → Bool → Bool
same_bit true b = b
same_bit false b = not b

abbrev pub same_flag : Option Bool → Option Bool → Bool
same_flag None None = true
same_flag (Some a) (Some b) = same_bit a b
same_flag a b = false

abbrev pub same_parts : SeenParts → SeenParts → Bool
same_parts a b =
    (a.state == b.state) && (same_bit a.bit b.bit && (same_flag a.first b.first && same_flag a.second b.second))

abbrev pub same_seen : Seen → Seen → Bool
same_seen a b = (seen_sort a == seen_sort b) && same_parts (seen_parts a) (seen_parts b)

-- THE SHAPES after a line

-- the line shows what is seen of the outcome, which is no impossible match
abbrev pub outcome_fits : Kind → Event → TraceLine → (address : Bool) → (code : ℕ) → Outcome → Bool
outcome_fits k event line address code o =
    same_seen o.seen (line_seen k (pending_at code) line) && not (is_impossible_match k event o address)

abbrev pub shape_if : Bool → Shape → List Shape
shape_if fits s = if fits then s ∷ [] else []

abbrev pub shapes_if : Bool → List Shape → List Shape
shapes_if legal shapes = if legal then shapes else []

-- from one shape, by the outcomes that fit
abbrev pub led_by : Kind → Event → TraceLine → (address : Bool) → Shape → List Shape
led_by k event line address s =
    shapes_if (legal_code k s.0 event)
    (each (outcomes_code k s.0 event) (λ o. shape_if (outcome_fits k event line address s.0 o) o.shape))

abbrev pub led_to : Kind → Deed → TraceLine → (address : Bool) → Shape → List Shape
led_to k deed line address s = led_by k (event_at deed s.0) line address s

abbrev pub shapes_after : Kind → Turn → TraceLine → HostKnown → List Shape → List Shape
shapes_after k (Does deed) line known shapes =
    shapes_if (is_expected k known.csd deed line) (each shapes (led_to k deed line (has_address known)))
shapes_after k (Uses width) line known shapes = map (λ s. with_lines_shown s width) shapes
shapes_after k (Resumes rca lines) line known shapes = shapes_if (not (is_empty shapes)) (any_shapes k lines)
shapes_after k (OtherLength due) line known shapes = []
shapes_after k turn line known shapes = shapes

-- THE SHAPE THAT A RECKLESS LINE NAMES: the least one at which the event is not legal

abbrev pub lesser : Shape → Option Shape → Shape
lesser s None = s
lesser s (Some t) = if nat_lt t.0 s.0 then t else s

abbrev pub lesser_if : Bool → Shape → Option Shape → Option Shape
lesser_if here s found = if here then Some (lesser s found) else found

abbrev pub least : (Shape → Bool) → List Shape → Option Shape
least test [] = None
least test (s ∷ rest) = lesser_if (test s) s (least test rest)

-- of the shapes at which the test holds, it is the least; there is none where it holds at none
abbrev pub IsLeast : (Shape → Bool) → List Shape → Option Shape → Type 0
IsLeast test xs None = (s : Shape) → May xs s → test s ≡ false
IsLeast test xs (Some t) = May xs t × (test t ≡ true) × ((s : Shape) → May xs s → test s ≡ true → t.0 ≤ s.0)

abbrev pub least_illegal : Kind → Turn → List Shape → Option Shape
least_illegal k (Does deed) shapes = least (λ s. not (legal_code k s.0 (event_at deed s.0))) shapes
least_illegal k turn shapes = None

-- the event is legal at no shape
abbrev pub is_forbidden : Kind → Turn → List Shape → Bool
is_forbidden k (Does deed) shapes = all (λ s. not (legal_code k s.0 (event_at deed s.0))) shapes
is_forbidden k turn shapes = false

-- Where a trace begins in any state, its host may know which it is: a line is reckless there, if no state that is left
-- allows it.
abbrev pub reckless_at : (running : Bool) → Kind → Turn → List Shape → Option Shape
reckless_at running k turn shapes = if running && not (is_forbidden k turn shapes) then None else least_illegal k turn shapes

-- THE COURSE

pub record Course : Type 0 where
  -- what the lines tell of the host
  pub known : HostKnown
  -- where a card may stand
  pub shapes : List Shape
  -- at each shape, each address so far is that of blocks of some card of the profile, also with the greatest count
  -- where no line told it, and no count was untold that a preset count demands
  pub bounded : Bool
  -- the card could be in any state, before some line by which the next one is judged
  pub running : Bool
  -- the lines by which the next one is judged, the last one first
  pub past : List Told

-- before the first line
abbrev pub begun : Course
begun = record { known = nothing_known; shapes = start_set; bounded = true; running = false; past = [] }

-- before the first line of a trace that begins in a running system: nothing is followed yet, and until a line names the
-- relative card address it is 1
abbrev pub unseen : Course
unseen = record begun { known = known_running 1 One; shapes = [] }

abbrev pub begun_at : (running : Bool) → Course
begun_at running = if running then unseen else begun

abbrev pub turn_at : Kind → Told → Course → Turn
turn_at k told c = turn_of k c.known told

abbrev pub is_resumed : Turn → Bool
is_resumed (Resumes rca lines) = true
is_resumed turn = false

-- one line further
abbrev pub goes_on : Kind → Told → Course → Course
goes_on k told c = record {
  known = known_after k (turn_at k told c) told.line c.known;
  shapes = shapes_after k (turn_at k told c) told.line c.known c.shapes;
  bounded = c.bounded && all (λ s. turn_within k (turn_at k told c) told.line s.0) c.shapes;
  running = c.running || is_resumed (turn_at k told c);
  past = told ∷ c.past;
}

-- from a CMD0 on, as before the first command, with the data lines that the host uses
abbrev pub goes_anew : Kind → Told → Course → Course
goes_anew k told c = goes_on k told (goes_on k (lines_told c.known.lines) begun)

-- no shape is left, or the card could be in any state, and the line is a CMD0
abbrev pub restarts_at : Kind → Told → Course → Bool
restarts_at k told c = (is_empty c.shapes || c.running) && is_reset (turn_at k told c)

-- from any state on, beside a host with this relative card address
abbrev pub any_state : Kind → (rca : ℕ) → Width → Course
any_state k rca lines = goes_on k (running_told rca lines) begun

abbrev pub goes_again : Kind → Told → Course → Course
goes_again k told c = goes_on k told (any_state k (address_told told.line c.known) c.known.lines)

-- no shape is left at an event, or one names another relative address than the host had in any state
abbrev pub resumes_at : Told → Course → Bool
resumes_at told c = resumes_by (is_empty c.shapes) c.running told.line c.known

abbrev pub course_here : Kind → Told → Course → Course
course_here k told c = if resumes_at told c then goes_again k told c else goes_on k told c

abbrev pub course_after : Kind → Told → Course → Course
course_after k told c = if restarts_at k told c then goes_anew k told c else course_here k told c

-- the course by which a line is judged that is no new beginning from a CMD0
abbrev pub judged_by : Kind → Told → Course → Course
judged_by k told c = if resumes_at told c then any_state k (address_told told.line c.known) c.known.lines else c

-- WHAT IS FOUND

abbrev pub found_on : Kind → Told → Course → Findings
found_on k told c = record {
  turn = turn_at k told c;
  reckless = reckless_at c.running k (turn_at k told c) c.shapes;
  unanswered = is_unanswered (reckless_at c.running k (turn_at k told c) c.shapes) c.shapes (goes_on k told c).shapes;
  beyond = not (is_empty c.shapes) && all (λ s. is_beyond k c.known (turn_at k told c) told.line s.0) c.shapes;
  restarted = false;
  resumed = false;
}

abbrev pub found_anew : Kind → Told → Course → Findings
found_anew k told c = record {
  turn = turn_at k told c;
  reckless = None;
  unanswered = is_empty (goes_anew k told c).shapes;
  beyond = false;
  restarted = true;
  resumed = false;
}

abbrev pub found_again : Kind → Told → Course → Findings
found_again k told c =
    record (found_on k told (any_state k (address_told told.line c.known) c.known.lines)) { resumed = true }

abbrev pub found_here : Kind → Told → Course → Findings
found_here k told c = if resumes_at told c then found_again k told c else found_on k told c

abbrev pub found_at : Kind → Told → Course → Findings
found_at k told c = if restarts_at k told c then found_anew k told c else found_here k told c

-- AN AUDIT stands where a course does

abbrev pub SameMembers : List Shape → List Shape → Type 0
SameMembers xs ys = (s : Shape) → May xs s ↔ May ys s

pub record IsAt (audit : Audit) (c : Course) : Type 0 where
  pub known : audit.known ≡ c.known
  pub shapes : SameMembers audit.shapes.items c.shapes
  pub bounded : audit.bounded ≡ c.bounded
  pub running : audit.running ≡ c.running

-- one line further, without and with a new beginning
abbrev pub GoesOn : (old new : Audit) → Told → Type 0
GoesOn old new told = (c : Course) → IsAt old c → IsAt new (goes_on old.kind told c)

abbrev pub GoesAnew : (old new : Audit) → Told → Type 0
GoesAnew old new told = (c : Course) → IsAt old c → IsAt new (goes_anew old.kind told c)

abbrev pub GoesAgain : (old new : Audit) → Told → Type 0
GoesAgain old new told = (c : Course) → IsAt old c → IsAt new (goes_again old.kind told c)

abbrev pub GoesHere : (old new : Audit) → Told → Type 0
GoesHere old new told = (c : Course) → IsAt old c → IsAt new (course_here old.kind told c)

-- what is found is that of any course where the audit stands
abbrev pub FindsOn : Audit → Told → Findings → Type 0
FindsOn audit told found = (c : Course) → IsAt audit c → found ≡ found_on audit.kind told c

abbrev pub FindsAgain : Audit → Told → Findings → Type 0
FindsAgain audit told found = (c : Course) → IsAt audit c → found ≡ found_again audit.kind told c

abbrev pub FindsHere : Audit → Told → Findings → Type 0
FindsHere audit told found = (c : Course) → IsAt audit c → found ≡ found_here audit.kind told c

abbrev pub Finds : Audit → Told → Findings → Type 0
Finds audit told found = (c : Course) → IsAt audit c → found ≡ found_at audit.kind told c

-- WHAT A FINDING MEANS, after any lines

-- the course after lines, in order, from another one on
abbrev pub course_from : Kind → Course → List Told → Course
course_from k c [] = c
course_from k c (told ∷ rest) = course_from k (course_after k told c) rest

-- what is found at a line that is judged by a course, and the course after it
pub record FindingHolds (k : Kind) (told : Told) (c : Course) (found : Findings) (after : Course) : Type 0 where
  -- no card answers so
  pub unanswered : found.unanswered ≡ true → NoneAnswers k after.past
  -- no card in any state answers so where the event is legal
  pub forbidden : IfSome found.reckless (λ s. c.running ≡ true → NoneAnswers k after.past)
  -- the host was reckless beside a real card
  pub reckless : IfSome found.reckless (λ s. c.bounded ≡ true → IsReckless k c.past (turn_at k told c) s)
  -- no card that may stand there has the blocks
  pub beyond : found.beyond ≡ true → NoneInBounds k c.past told

abbrev pub FindingsHold : Kind → Type 0
FindingsHold k = (running : Bool) (before : List Told) (told : Told) →
    FindingHolds k told (judged_by k told (course_from k (begun_at running) before))
    (found_at k told (course_from k (begun_at running) before))
    (course_after k told (course_from k (begun_at running) before))
