-- What a run over a port of lines asks and hears: the requests of its events, and answers to them, one after another. And
-- how many of them are commands.
use Rattle.std.specs.Prelude.{◌≡◌, ℕ, List, [], ◌∷◌, ◌++◌, Option, Some, None, Result, Ok, Err, MatchOption}
use Rattle.std.specs.Io.KnownBytes.{Appends, Consumes}
use Rattle.sdv_registers.specs.declared.kind.Kind.{Kind}
use Rattle.sdv_card.specs.Port.{call_of}
use Rattle.sdv_graph.specs.Graph.{Graph}
use Rattle.sdv_graph.specs.Walk.{Pair}
use Rattle.sdv_facts.specs.Beside.{commands}
use Rattle.sdv_trace.specs.declared.end.End.{End}
use Rattle.sdv_run.specs.declared.fault.RunFault.{RunFault}
use Rattle.sdv_run.specs.Run.{Steps}
use Rattle.sdv_run.specs.Step.{World}
use Rattle.sdv_run.specs.Ran.{Ran}
use Rattle.sdv_lines.specs.declared.fault.PortFault.{PortFault}
use Rattle.sdv_lines.specs.declared.fault.PortFault.TheVariants.{Lines, Commands}
use Rattle.sdv_lines.specs.Texts.{lines_of}
use Rattle.sdv_lines.specs.declared.due.Due.{Due}
use Rattle.sdv_lines.specs.Due.{Announces}
use Rattle.sdv_lines.specs.Requests.{request_of}
use Rattle.sdv_lines.specs.Answers.{Answers}
use Rattle.sdv_lines.specs.Streams.{Streams, Spends, Unanswered}

-- the events of a run
abbrev pub events_of : {S : Type 0} (steps : Steps S) (g : Graph) (w w' : World S) (result : Result End RunFault) →
    Ran steps g w w' result → List Pair
events_of steps g w w' (Ok end) ran = ran.events
events_of steps g w w' (Err fault) ran = ran.events

-- what the requests of events announce, one after another: nothing, or the data phase that follows the command
abbrev pub AreAnnounced : Kind → List Pair → List (Option Due) → Type 0
AreAnnounced k [] [] = Unit {0}
AreAnnounced k (p ∷ es) (due ∷ dues) = Announces (call_of k p.0) due × AreAnnounced k es dues
AreAnnounced k es dues = ⊥

-- the requests of events
abbrev pub requests : Kind → List Pair → List (Option Due) → List ℕ
requests k (p ∷ es) (due ∷ dues) = request_of due (call_of k p.0) ++ requests k es dues
requests k es dues = []

-- the texts of an answer to each event, which say what it returned
abbrev pub AreAnswers : Kind → List Pair → List (List (List ℕ)) → Type 0
AreAnswers k [] [] = Unit {0}
AreAnswers k (p ∷ es) (texts ∷ answers) = Answers (call_of k p.0) texts p.1 × AreAnswers k es answers
AreAnswers k es answers = ⊥

abbrev pub answer_lines : List (List (List ℕ)) → List ℕ
answer_lines [] = []
answer_lines (texts ∷ answers) = lines_of texts ++ answer_lines answers

-- Each event was asked for, and answered. Each command was one of those that the port still sent.
pub record Talked (k : Kind) (es : List Pair) (s s' : Streams) : Type 0 where
  pub dues : List (Option Due)
  pub announced : AreAnnounced k es dues
  pub written : Appends s.requests s'.requests (requests k es dues)
  pub answers : List (List (List ℕ))
  pub are_answers : AreAnswers k es answers
  pub read : Consumes s.answers s'.answers (answer_lines answers)
  pub spent : Spends (commands es) s.left s'.left
  pub well : s'.fault ≡ None

-- Events before one were asked for and answered. That one was not asked for whole, or not answered, or was a command where
-- none was left; and nothing was asked or read after it: what it and the events after it returned is the port's word alone.
pub record BrokeOff (k : Kind) (es : List Pair) (why : PortFault) (s s' : Streams) : Type 0 where
  pub earlier : List Pair
  pub unanswered : Pair
  pub later : List Pair
  pub all : es ≡ earlier ++ unanswered ∷ later
  pub before : Streams
  pub talked : Talked k earlier s before
  pub broke : Unanswered why (call_of k unanswered.0) before s'

-- by why the port gave up, or did not
abbrev pub TalksAt : Option PortFault → Kind → List Pair → (s s' : Streams) → Type 0
TalksAt fault k es s s' = MatchOption fault (Talked k es s s') (λ why. BrokeOff k es why s s')

abbrev pub Talks : Kind → List Pair → (s s' : Streams) → Type 0
Talks k es s s' = TalksAt s'.fault k es s s'

-- THE EVENTS WHOSE REQUESTS WERE WRITTEN, the last one perhaps in part: all of them, or those up to the one that was not
-- answered. A command that was one too many was not written.
abbrev pub asked_at : (fault : Option PortFault) (k : Kind) (es : List Pair) (s s' : Streams) → TalksAt fault k es s s' →
    List Pair
asked_at None k es s s' talked = es
asked_at (Some (Lines why)) k es s s' broke = broke.earlier ++ broke.unanswered ∷ []
asked_at (Some Commands) k es s s' broke = broke.earlier

abbrev pub asked : (k : Kind) (es : List Pair) (s s' : Streams) → Talks k es s s' → List Pair
asked k es s s' talks = asked_at s'.fault k es s s' talks

-- THE EVENTS THAT WERE ANSWERED, and the texts of their answers: of all of them, or of those before the one that was not
abbrev pub answered_at : (fault : Option PortFault) (k : Kind) (es : List Pair) (s s' : Streams) → TalksAt fault k es s s' →
    List Pair
answered_at None k es s s' talked = es
answered_at (Some why) k es s s' broke = broke.earlier

abbrev pub answered : (k : Kind) (es : List Pair) (s s' : Streams) → Talks k es s s' → List Pair
answered k es s s' talks = answered_at s'.fault k es s s' talks

abbrev pub texts_at : (fault : Option PortFault) (k : Kind) (es : List Pair) (s s' : Streams) → TalksAt fault k es s s' →
    List (List (List ℕ))
texts_at None k es s s' talked = talked.answers
texts_at (Some why) k es s s' broke = broke.talked.answers

abbrev pub texts_of_answers : (k : Kind) (es : List Pair) (s s' : Streams) → Talks k es s s' → List (List (List ℕ))
texts_of_answers k es s s' talks = texts_at s'.fault k es s s' talks
