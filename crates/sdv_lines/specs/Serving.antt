-- What the side of the card does: each request is a call of a port, in order, and each answer tells what it gave.
use Rattle.std.specs.Prelude.{◌≡◌, ◌⊎◌, ◌+◌, ◌-◌, ◌<◌, ◌^◌, ℕ, min, List, [], ◌∷◌, ◌++◌, length, true, Option, Some, None, Result, Ok, Err, MatchResult, IfSome}
use Rattle.std.specs.List.{AllByRecursion}
use Rattle.std.specs.Io.KnownBytes.{Appends, Consumes, IsAtEnd}
use Rattle.hex.specs.Hex.{encode_lower}
use Rattle.sdv_card.specs.declared.answer.DataEnd.TheVariants as ends
use Rattle.sdv_card.specs.Port.{Call, Exchange, DataIn, DataInRegister, DataOut, WaitWhileBusy}
use Rattle.sdv_card.specs.ScriptEvent.{Return, Answered, BlocksIn, RegisterIn, BlocksOut, Waited}
use Rattle.sdv_trace.specs.Trace.{answer_text, line_feed}
use Rattle.sdv_lines.specs.declared.words.TheConstants as words
use Rattle.sdv_lines.specs.declared.fault.ProtocolFault.{ProtocolFault}
use Rattle.sdv_lines.specs.declared.fault.ProtocolFault.TheVariants as faults
use Rattle.sdv_lines.specs.declared.fault.ServeFault.{ServeFault}
use Rattle.sdv_lines.specs.declared.hearing.Request.{Request}
use Rattle.sdv_lines.specs.declared.hearing.Request.TheVariants as requests
use Rattle.sdv_lines.specs.Texts.{IsText, IsLine, AreBlocks, lines_of, trimmed, trims}
use Rattle.sdv_lines.specs.Requests.{block_texts}
use Rattle.sdv_lines.specs.Answers.{data_end_text, wait_end_text}
use Rattle.sdv_lines.specs.Reading.{BeginsLong, HasNoBlocks}
use Rattle.sdv_lines.specs.Hearing.{read_request, is_last, IsInRange}
use Rattle.sdv_lines.specs.Streams.{AppendsFront, Sends}

-- THE LINES OF A REQUEST AND OF ITS ANSWER

-- these texts are a request for the call
abbrev pub IsRequest : Call → List (List ℕ) → Type 0
IsRequest (Exchange command expect) (text ∷ []) = read_request text ≡ Some (requests.Exchange command expect)
IsRequest (DataIn lines count) (text ∷ []) = read_request text ≡ Some (requests.DataIn count lines)
IsRequest (DataInRegister lines count) (text ∷ []) = read_request text ≡ Some (requests.Register count lines)
IsRequest (DataOut lines blocks) (text ∷ texts) =
    (read_request text ≡ Some (requests.DataOut (length blocks) lines)) × AreBlocks texts blocks
IsRequest WaitWhileBusy (text ∷ []) = read_request text ≡ Some requests.Wait
IsRequest call texts = ⊥

-- the texts of the answer that tells what a call gave
abbrev pub answer_texts : Return → List (List ℕ)
answer_texts (Answered answer) = answer_text answer ∷ []
answer_texts (BlocksIn ends.Ok blocks) = words.OK.now ∷ block_texts blocks
answer_texts (BlocksIn ends.Cut blocks) = words.CUT.now ∷ []
answer_texts (RegisterIn ends.Ok bytes) = words.OK.now ∷ encode_lower bytes ∷ []
answer_texts (RegisterIn ends.Cut bytes) = words.CUT.now ∷ []
answer_texts (BlocksOut end) = data_end_text end ∷ []
answer_texts (Waited end) = wait_end_text end ∷ []

abbrev pub answer_of : Return → List ℕ
answer_of returned = lines_of (answer_texts returned)

-- ONE REQUEST

-- a request, the call that it asked for, and what that gave
pub record Turn : Type 0 where
  pub texts : List (List ℕ)
  pub call : Call
  pub returned : Return

-- the request was read, and the call made
pub record Made {S : Type 0} (steps : S → Call → Return → S → Type 0) (turn : Turn) (p p' : S)
    (a a' : Option (List ℕ)) : Type 0 where
  pub lines : AllByRecursion IsLine turn.texts
  pub asks : IsRequest turn.call (trims turn.texts)
  pub read : Consumes a a' (lines_of turn.texts)
  pub step : steps p turn.call turn.returned p'

-- and it was answered
pub record Served {S : Type 0} (steps : S → Call → Return → S → Type 0) (turn : Turn) (p p' : S)
    (a a' r r' : Option (List ℕ)) : Type 0 where
  pub made : Made steps turn p p' a a'
  pub answered : Appends r r' (answer_of turn.returned)

-- or the answer was not written whole
pub record ServedInPart {S : Type 0} (steps : S → Call → Return → S → Type 0) (p p' : S)
    (a a' r r' : Option (List ℕ)) : Type 0 where
  pub turn : Turn
  pub made : Made steps turn p p' a a'
  pub front : AppendsFront r r' (answer_of turn.returned)

-- a call was made once, and its answer written
abbrev pub Does : {S A : Type 0} → (S → Call → Return → S → Type 0) → Call → (p p' : S) → (r r' : Option (List ℕ)) →
    Result A ProtocolFault → Type 0
Does steps call p p' r r' result =
    (returned : Return) × steps p call returned p' × Sends r r' result (answer_of returned)

-- WHAT IS NO REQUEST, where there is room for so many blocks

pub data NoRequest (room : ℕ) (bytes : List ℕ) : Type 0 where
  -- no line
  Unended : IsText bytes → NoRequest room bytes
  -- a line of more than 1,025 bytes
  Overlong : BeginsLong bytes → NoRequest room bytes
  -- a line that says nothing
  Unknown : (text rest : List ℕ) → IsLine text → bytes ≡ text ++ 10 ∷ rest → read_request (trimmed text) ≡ None →
      NoRequest room bytes
  -- a phase of too many blocks
  TooMany : (text rest : List ℕ) (count lines : ℕ) → IsLine text → bytes ≡ text ++ 10 ∷ rest
      → (read_request (trimmed text) ≡ Some (requests.DataIn count lines))
      ⊎ (read_request (trimmed text) ≡ Some (requests.DataOut count lines))
      → room < count → NoRequest room bytes
  -- blocks that are none
  NoBlocks : (text rest : List ℕ) (count lines : ℕ) → IsLine text → bytes ≡ text ++ 10 ∷ rest
      → read_request (trimmed text) ≡ Some (requests.DataOut count lines) → HasNoBlocks count rest → NoRequest room bytes

-- why no request was read
abbrev pub NotHeard : ProtocolFault → (room : ℕ) → (a a' : Option (List ℕ)) → Type 0
NotHeard faults.Read room a a' = Unit {0}
NotHeard faults.Closed room a a' = IfSome a (NoRequest room) × IsAtEnd a'
NotHeard faults.Line room a a' = IfSome a (NoRequest room)
NotHeard faults.Write room a a' = ⊥

-- why a request was not served: its answer was not written, or it is none, and nothing was done
abbrev pub Stops : {S : Type 0} → (S → Call → Return → S → Type 0) → ProtocolFault → (room : ℕ) → (p p' : S) →
    (a a' r r' : Option (List ℕ)) → Type 0
Stops steps faults.Write room p p' a a' r r' = ServedInPart steps p p' a a' r r'
Stops steps fault room p p' a a' r r' = (p' ≡ p) × (r' ≡ r) × NotHeard fault room a a'

-- how many lines a request has
abbrev pub lines_in : Request → ℕ
lines_in (requests.DataOut count lines) = 1 + count
lines_in request = 1

-- a request that was read was served, or not
abbrev pub Serves : {S : Type 0} → (S → Call → Return → S → Type 0) → (room : ℕ) → (lines : ℕ) → (p p' : S) →
    (a a' r r' : Option (List ℕ)) → Result (Unit {0}) ProtocolFault → Type 0
Serves steps room lines p p' a a' r r' result =
    MatchResult result (λ _. (turn : Turn) × Served steps turn p p' a a' r r' × (length turn.texts ≡ lines))
    (λ fault. Stops steps fault room p p' a a' r r')

-- the last line of a host was read, or no byte was left where a request would begin
abbrev pub Ends : (a a' : Option (List ℕ)) → Type 0
Ends a a' =
    ((text : List ℕ) × IsLine text × (is_last (trimmed text) ≡ true) × Consumes a a' (text ++ line_feed))
    ⊎ (IsAtEnd a × IsAtEnd a')

-- the first line of a request was read, or the host ended, or what came is none, whatever room there is
abbrev pub ReadsRequest : (a a' : Option (List ℕ)) → Result (Option Request) ProtocolFault → Type 0
ReadsRequest a a' (Ok None) = Ends a a'
ReadsRequest a a' (Ok (Some request)) =
    ((text : List ℕ) × IsLine text × (read_request (trimmed text) ≡ Some request) × Consumes a a' (text ++ line_feed))
    × IsInRange request
ReadsRequest a a' (Err fault) = (room : ℕ) → NotHeard fault room a a'

-- ALL REQUESTS, one after another

abbrev pub ServedAll : {S : Type 0} → (S → Call → Return → S → Type 0) → List Turn → (p p' : S) →
    (a a' r r' : Option (List ℕ)) → Type 0
ServedAll steps [] p p' a a' r r' = (p' ≡ p) × (a' ≡ a) × (r' ≡ r)
ServedAll {S} steps (turn ∷ turns) p p' a a' r r' =
    (q : S) × (b s : Option (List ℕ)) × Served steps turn p q a b r s × ServedAll steps turns q p' b a' s r'

-- how many lines these requests have
abbrev pub lines_read : List Turn → ℕ
lines_read [] = 0
lines_read (turn ∷ turns) = length turn.texts + lines_read turns

-- all requests were served, up to the end
pub record ServedToEnd {S : Type 0} (steps : S → Call → Return → S → Type 0) (p p' : S)
    (a a' r r' : Option (List ℕ)) : Type 0 where
  pub turns : List Turn
  pub left : Option (List ℕ)
  pub served : ServedAll steps turns p p' a left r r'
  pub ended : Ends left a'

-- or up to one that was not
pub record ServedUpTo {S : Type 0} (steps : S → Call → Return → S → Type 0) (stop : ServeFault) (room : ℕ) (p p' : S)
    (a a' r r' : Option (List ℕ)) : Type 0 where
  pub turns : List Turn
  pub port : S
  pub left : Option (List ℕ)
  pub told : Option (List ℕ)
  pub served : ServedAll steps turns p port a left r told
  pub line : stop.line ≡ min (1 + lines_read turns) (2 ^ 64 - 1)
  pub stops : Stops steps stop.fault room port p' left a' told r'

abbrev pub ServesAll : {S : Type 0} → (S → Call → Return → S → Type 0) → (room : ℕ) → (p p' : S) →
    (a a' r r' : Option (List ℕ)) → Result (Unit {0}) ServeFault → Type 0
ServesAll steps room p p' a a' r r' result =
    MatchResult result (λ _. ServedToEnd steps p p' a a' r r') (λ stop. ServedUpTo steps stop room p p' a a' r r')
