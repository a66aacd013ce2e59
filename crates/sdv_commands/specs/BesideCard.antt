-- A run over lines beside the card of the other side.
use Rattle.std.specs.Prelude.{◌≡◌, ◌≤◌, ℕ, List, [], ◌∷◌, ◌++◌, Option, Some, Result}
use Rattle.sdv_registers.specs.declared.kind.Kind.{Kind}
use Rattle.sdv_card.specs.Card.{Card}
use Rattle.sdv_card.specs.Port.{Call, call_of}
use Rattle.sdv_card.specs.ScriptEvent.{ScriptEvent, Return}
use Rattle.sdv_graph.specs.Walk.{Ending, Open, Pair}
use Rattle.sdv_facts.specs.Beside.{IsAllowed, StepsOf, commands}
use Rattle.sdv_check.specs.Verified.{Acceptance, IsAccepted}
use Rattle.sdv_trace.specs.declared.end.End.{End}
use Rattle.sdv_run.specs.declared.fault.RunFault.{RunFault}
use Rattle.sdv_run.specs.Run.{ending_of}
use Rattle.sdv_run.specs.Step.{World}
use Rattle.sdv_run.specs.Ran.{IsWalk, Ran}
use Rattle.sdv_run.specs.OnCard.{OnCard, RanBeside, ShowsStart}
use Rattle.sdv_lines.specs.Answers.{Answers}
use Rattle.sdv_lines.specs.declared.fault.PortFault.TheVariants.{Commands}
use Rattle.sdv_lines.specs.Partner.{Tells}
use Rattle.sdv_lines.specs.Streams.{Streams, LineSteps, limited}
use Rattle.sdv_commands.specs.declared.drive.Given.{Given}
use Rattle.sdv_commands.specs.declared.drive.Outcome.{Outcome}
use Rattle.sdv_commands.specs.Drive.{IsDrive, events_answered, events_asked, texts_heard}
use Rattle.sdv_commands.specs.Talk.{AreAnswers, BrokeOff, events_of}

-- THE PREMISE: the other side made the call of each event once, in order, and the texts of its answer tell what that gave. A
-- damaged response counts as a lost one.
abbrev pub AnswersAs : {S : Type 0} → (S → Call → Return → S → Type 0) → Kind → List Pair → List (List (List ℕ)) →
    (o o' : S) → Type 0
AnswersAs steps k [] [] o o' = o' ≡ o
AnswersAs {S} steps k (p ∷ es) (texts ∷ answers) o o' =
    (gave : Return) × (u : S) × steps o (call_of k p.0) gave u × Tells (call_of k p.0) texts gave
    × AnswersAs steps k es answers u o'
AnswersAs steps k es answers o o' = ⊥

-- what the other side does at a call, by what the host is told of it
pub record Told {S : Type 0} (steps : S → Call → Return → S → Type 0) (call : Call) (returned : Return)
    (o o' : S) : Type 0 where
  pub texts : List (List ℕ)
  pub heard : Answers call texts returned
  pub gave : Return
  pub tells : Tells call texts gave
  pub step : steps o call gave o'

abbrev pub ToldSteps : {S : Type 0} → (S → Call → Return → S → Type 0) → S → Call → Return → S → Type 0
ToldSteps steps o call returned o' = Told steps call returned o o'

-- the same run, seen from the other side
abbrev pub at_other : {S : Type 0} → S → World Streams → World S
at_other o w = record { port = o; input = w.input; out = w.out; trace = w.trace }

-- A run over lines of an accepted script, whose answers tell what the other side did: it is a run beside the card that the
-- other side shows.
abbrev pub RunsBesideOther : {S : Type 0} → (S → Call → Return → S → Type 0) → (S → Option Card) → Type 0
RunsBesideOther {S} steps card =
    (script certificate : List ℕ) (a : Acceptance) (w w' : World Streams) (result : Result End RunFault)
    (answers : List (List (List ℕ))) (o o' : S) →
    IsAccepted script certificate a → (ran : Ran LineSteps a.graph w w' result)
    → AreAnswers a.graph.kind (events_of LineSteps a.graph w w' result ran) answers
    → AnswersAs steps a.graph.kind (events_of LineSteps a.graph w w' result ran) answers o o'
    → RanBeside (ToldSteps steps) card a.graph a.bound (at_other o w) (at_other o' w') result

-- A run of the command `drive` that came to its end, by what `EndsDrive` says of it: where the answers tell what the other
-- side did, its events moved the card that the other side shows, each legal and in bounds, and no more commands were sent
-- than were certified.
abbrev pub DrivesBesideOther : {S : Type 0} → (S → Call → Return → S → Type 0) → (S → Option Card) → Type 0
DrivesBesideOther {S} steps card =
    (script certificate : List ℕ) (a : Acceptance) (end : End) (es : List Pair) (answers : List (List (List ℕ)))
    (o o' : S) (c : Card) → IsAccepted script certificate a → IsWalk a.graph (ending_of end) es
    → AreAnswers a.graph.kind es answers → AnswersAs steps a.graph.kind es answers o o'
    → ShowsStart card a.graph.kind a.graph.begins o c → ∥ OnCard card a.bound (ending_of end) es c o' ∥₁

-- What was asked for is allowed at the card of the other side. The events that were answered moved that card, each legal and
-- in bounds. Each event that was asked for, also the last one where it was not answered or its request was written in part,
-- is allowed at the card as the events before it left it. And no more commands were asked for than were certified.
pub record AsksOnCard {S : Type 0} (card : S → Option Card) (most : ℕ) (told put_out : List Pair) (c : Card)
    (o' : S) : Type 0 where
  pub before : OnCard card most Open told c o'
  pub allowed : (front : List Pair) (event : ScriptEvent) (returned : Return) (back : List Pair) (u : Card) →
      put_out ≡ front ++ (event, returned) ∷ back → StepsOf c front u → IsAllowed event u
  pub few : commands put_out ≤ most

-- A run of the command `drive`, however it came out, by what `IsDrive` says of it: it ended, it stopped, or it broke off at any
-- event. Where the answers that came tell what the other side did, what was asked for is allowed at its card.
abbrev pub AsksBesideOther : {S : Type 0} → (S → Call → Return → S → Type 0) → (S → Option Card) → Type 0
AsksBesideOther {S} steps card =
    (given : Given) (outcome : Outcome) (out out' trace trace' : Option (List ℕ)) (s s' : Streams)
    (drive : IsDrive given outcome out out' trace trace' s s') (o o' : S) (c : Card) →
    AnswersAs steps drive.acceptance.graph.kind (events_answered drive) (texts_heard drive) o o'
    → ShowsStart card drive.acceptance.graph.kind drive.acceptance.graph.begins o c
    → ∥ AsksOnCard card drive.acceptance.bound (events_answered drive) (events_asked drive) c o' ∥₁

-- The limit on commands stops no run beside a card: where a run broke off at a command because none was left, and the answers
-- before it tell what the other side did, the other side showed no card of the profile.
abbrev pub NoneIsStopped : {S : Type 0} → (S → Call → Return → S → Type 0) → (S → Option Card) → Type 0
NoneIsStopped {S} steps card =
    (script certificate : List ℕ) (a : Acceptance) (last : Ending) (es : List Pair) (s s' : Streams) (o o' : S) (c : Card) →
    IsAccepted script certificate a → IsWalk a.graph last es
    → (broke : BrokeOff a.graph.kind es Commands (limited (Some a.bound) s) s')
    → AnswersAs steps a.graph.kind broke.earlier broke.talked.answers o o' → ShowsStart card a.graph.kind a.graph.begins o c → ⊥
