-- What an audit knows after lines of a trace.
use Rattle.std.specs.Prelude.{◌≡◌, ◌==◌, ◌&&◌, ◌||◌, ◌/◌, ◌%◌, not, Bool, true, false, IsTrue, ℕ, List, [], ◌∷◌, Option, None, is_none, ◌⊎◌, ◌↔◌, IfSome, MatchOption, if◌then◌else◌}
use Rattle.sdv_card.specs.declared.state.Width.{Width}
use Rattle.sdv_card.specs.declared.shape.Shape.{Shape}
use Rattle.sdv_card.specs.declared.event.Event.TheVariants.{Send}
use Rattle.sdv_card.specs.Lists.{May}
use Rattle.sdv_card.specs.LegalShapes.{legal_code}
use Rattle.sdv_audit.specs.declared.line.TraceLine.{TraceLine}
use Rattle.sdv_audit.specs.declared.line.TraceLine.TheVariants.{Exchange, BlocksIn, BlocksOut, Wait, Lines, Running}
use Rattle.sdv_audit.specs.declared.known.HostKnown.{HostKnown}
use Rattle.sdv_audit.specs.declared.turn.Told.{Told}
use Rattle.sdv_audit.specs.declared.turn.Deed.TheVariants.{Known}
use Rattle.sdv_audit.specs.declared.turn.Turn.{Turn}
use Rattle.sdv_audit.specs.declared.turn.Turn.TheVariants.{Does}
use Rattle.sdv_audit.specs.declared.audit.Audit.{Audit}
use Rattle.sdv_audit.specs.Turns.{turn_of, event_at}
use Rattle.sdv_audit.specs.Lived.{LivedFor, IsReckless}
use Rattle.sdv_audit.specs.declared.audit.Findings.{Findings}
use Rattle.sdv_audit.specs.Beyond.{is_beyond, NoneInBounds}
use Rattle.sdv_audit.specs.Standing.{known_of, Covers, NoneAnswers}

abbrev pub is_empty : List Shape → Bool
is_empty [] = true
is_empty (s ∷ rest) = false

-- what it knows of the host, and shapes that cover each card which may stand there; the last line first
pub record Stands (audit : Audit) (past : List Told) : Type 0 where
  pub known : audit.known ≡ known_of audit.kind past
  pub covers : Covers audit.kind past audit.shapes.items
  -- as long as it is bounded, each shape is that of a real card, whatever blocks may have been announced
  pub lived : audit.bounded ≡ true → (s : Shape) → May audit.shapes.items s →
      LivedFor audit.kind past audit.known.announced s

-- where the audit stood after some lines, so does the new one after this line behind them
abbrev pub StandsOn : (old new : Audit) → Told → Type 0
StandsOn old new told = (past : List Told) → Stands old past → Stands new (told ∷ past)

-- after any such lines and this one, no card answers so
abbrev pub NoneAnswersThere : Audit → Told → Type 0
NoneAnswersThere audit told = (past : List Told) → Stands audit past → NoneAnswers audit.kind (told ∷ past)

-- after any such lines, if the audit is bounded: the turn is reckless beside a real card of this shape
abbrev pub IsRecklessThere : Audit → Turn → Shape → Type 0
IsRecklessThere audit turn s =
    (past : List Told) → Stands audit past → audit.bounded ≡ true → IsReckless audit.kind past turn s

-- the event that a turn makes is legal at each shape
abbrev pub AllLegal : Audit → Turn → Type 0
AllLegal audit (Does deed) =
    (s : Shape) → May audit.shapes.items s → IsTrue (legal_code audit.kind s.0 (event_at deed s.0))
AllLegal audit turn = Unit {0}

-- so it is, unless the card could be in any state: then the host may know which
abbrev pub NotReckless : Audit → Turn → Type 0
NotReckless audit turn = audit.running ≡ false → AllLegal audit turn

-- where it could, the event is legal at no shape
abbrev pub NoneLegal : Audit → Turn → Type 0
NoneLegal audit (Does deed) =
    (s : Shape) → May audit.shapes.items s → legal_code audit.kind s.0 (event_at deed s.0) ≡ false
NoneLegal audit turn = Unit {0}

abbrev pub IsForbidden : Audit → Turn → Shape → Type 0
IsForbidden audit turn s = audit.running ≡ true → NoneLegal audit turn

-- after any such lines and this one, no card answers so, if the card could be in any state
abbrev pub IsForbiddenThere : Audit → Told → Shape → Type 0
IsForbiddenThere audit told s = audit.running ≡ true → NoneAnswersThere audit told

-- the shape is one of the audit's, and the event is not legal there
abbrev pub IsIllegalAt : Audit → Turn → Shape → Type 0
IsIllegalAt audit (Does deed) s = May audit.shapes.items s × (legal_code audit.kind s.0 (event_at deed s.0) ≡ false)
IsIllegalAt audit turn s = ⊥

-- at each shape the address is beyond what the CSD tells
abbrev pub AllBeyond : Audit → Turn → TraceLine → Type 0
AllBeyond audit turn line =
    (s : Shape) → May audit.shapes.items s → is_beyond audit.kind audit.known turn line s.0 ≡ true

-- no shape is left, where there was one and the event was legal at each
abbrev pub is_unanswered : Option Shape → (before after : List Shape) → Bool
is_unanswered reckless before after = is_empty after && is_none reckless && not (is_empty before)

-- WHERE AN AUDIT BEGINS ANEW: at a CMD0, where no shape is left or the card could be in any state

abbrev pub is_reset : Turn → Bool
is_reset (Does (Known (Send ask))) = ask.index == 0
is_reset turn = false

abbrev pub restarts : Audit → Told → Bool
restarts audit told =
    (is_empty audit.shapes.items || audit.running) && is_reset (turn_of audit.kind audit.known told)

-- the line by which a host says which data lines it uses
abbrev pub lines_told : Width → Told
lines_told width = record { line = Lines width; next = None }

-- WHERE IT GOES ON FROM ANY STATE: at an event, where no shape is left; or where the card could be in any state, and the
-- event names another relative address than the host has

-- the line by which an audit forgets what came before
abbrev pub running_told : (rca : ℕ) → (lines : Width) → Told
running_told rca lines = record { line = Running rca lines; next = None }

-- an event of a host, but no phase of a register: nothing tells its length
abbrev pub is_event : TraceLine → Bool
is_event (Exchange command answer) = true
is_event (BlocksIn count end) = true
is_event (BlocksOut count end) = true
is_event (Wait end) = true
is_event line = false

-- the relative address that a line names, or 0
abbrev pub address_in : (index argument : ℕ) → ℕ
address_in index argument =
    if ((index == 7) || ((index == 9) || ((index == 10) || ((index == 13) || (index == 55)))))
    && (argument % 65536 == 0) then argument / 65536 else 0

abbrev pub address_named : TraceLine → ℕ
address_named (Exchange command answer) = address_in command.index command.argument
address_named line = 0

-- the relative address of the host from this line on
abbrev pub address_or : (named known : ℕ) → ℕ
address_or named known = if named == 0 then known else named

abbrev pub address_told : TraceLine → HostKnown → ℕ
address_told line known = address_or (address_named line) known.rca

abbrev pub is_other_address : TraceLine → HostKnown → Bool
is_other_address line known = not (address_named line == 0) && not (address_named line == known.rca)

abbrev pub resumes_by : (empty running : Bool) → TraceLine → HostKnown → Bool
resumes_by empty running line known = (empty && is_event line) || (running && is_other_address line known)

abbrev pub resumes : Audit → Told → Bool
resumes audit told = resumes_by (is_empty audit.shapes.items) audit.running told.line audit.known

-- the lines by which the next one is judged: those so far; where the audit begins anew, the host's data lines alone; or
-- where it goes on from any state, the line that says so
abbrev pub Behind : (restarted resumed : Bool) → Audit → Told → List Told → Type 0
Behind true resumed audit told past = past ≡ lines_told audit.known.lines ∷ []
Behind false true audit told past = past ≡ running_told (address_told told.line audit.known) audit.known.lines ∷ []
Behind false false audit told past = Stands audit past

-- after any such lines and this one, no card answers so
abbrev pub NoneAnswersBehind : (resumed : Bool) → Audit → Told → Type 0
NoneAnswersBehind resumed audit told =
    (past : List Told) → Behind false resumed audit told past → NoneAnswers audit.kind (told ∷ past)

-- what is found at a line where the audit neither begins anew nor goes on from any state
pub record FoundHere (old : Audit) (told : Told) (found : Findings) : Type 0 where
  pub turn : found.turn ≡ turn_of old.kind old.known told
  pub reckless : MatchOption found.reckless (NotReckless old found.turn) (IsIllegalAt old found.turn)
  pub real : IfSome found.reckless (IsRecklessThere old found.turn)
  pub passed : IsTrue found.beyond ↔ ((is_empty old.shapes.items ≡ false) × AllBeyond old found.turn told.line)
  pub beyond : found.beyond ≡ true → (past : List Told) → Stands old past → NoneInBounds old.kind past told

-- what is known after a line that is no CMD0 at which the audit begins anew
pub record Followed (old new : Audit) (told : Told) (found : Findings) : Type 0 where
  pub restarted : found.restarted ≡ false
  pub resumed : found.resumed ≡ resumes old told
  pub stands : (past : List Told) → Behind false found.resumed old told past → Stands new (told ∷ past)
  pub unanswered : found.unanswered ≡ true → NoneAnswersBehind found.resumed old told
  -- where the card could be in any state, no card answers so at an event that is legal
  pub forbidden : IfSome found.reckless (λ s. (found.resumed ≡ true) ⊎ (old.running ≡ true) →
      NoneAnswersBehind found.resumed old told)
  pub here : found.resumed ≡ false → FoundHere old told found
