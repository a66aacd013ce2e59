-- What a run over lines asks for is allowed at the card of the other side, also where the run breaks off.
use Rattle.std.proofs.Common.{◌≡◌, ◌∙◌, ◌≤◌, refl, sym, append_assoc, ℕ, List, [], ◌∷◌, ◌++◌, Option, Some, None, Result, Ok, Err}
use Rattle.sdv_registers.specs.declared.kind.Kind.{Kind}
use Rattle.sdv_card.specs.Card.{Card}
use Rattle.sdv_card.specs.Damage.{KeepsTablesOverNoise}
use Rattle.sdv_card.specs.Port.{Call, Shows}
use Rattle.sdv_card.specs.ScriptEvent.{ScriptEvent, Return}
use Rattle.sdv_graph.specs.Graph.{Graph}
use Rattle.sdv_graph.specs.Walk.{Ending, Open, Pair}
use Rattle.sdv_facts.specs.Beside.{IsAllowed, IsGood, StepsOf, commands}
use Rattle.sdv_facts.specs.Stands.{EachIsMade}
use Rattle.sdv_facts.proofs.Headline.{made_from}
use Rattle.sdv_facts.proofs.StepLaws.{laws_of}
use Rattle.sdv_trace.specs.declared.end.End.{End}
use Rattle.sdv_run.specs.declared.fault.RunFault.{RunFault}
use Rattle.sdv_run.specs.Run.{ending_of}
use Rattle.sdv_run.specs.Step.{World}
use Rattle.sdv_run.specs.Ran.{IsWalk, Ran}
use Rattle.sdv_run.specs.OnCard.{OnCard}
use Rattle.sdv_run.proofs.OnCard.{Beside, beside}
use Rattle.sdv_lines.specs.declared.fault.PortFault.{PortFault}
use Rattle.sdv_lines.specs.declared.fault.PortFault.TheVariants.{Lines, Commands}
use Rattle.sdv_lines.specs.Streams.{Streams, LineSteps, limited}
use Rattle.sdv_commands.specs.Talk.{Talked, TalksAt, answered_at, asked_at, events_of, texts_at}
use Rattle.sdv_commands.specs.BesideCard.{AnswersAs, AsksBesideOther, AsksOnCard, ToldSteps}
use Rattle.sdv_commands.proofs.BesideLaws.{made_front, told_keeps, told_moved}
use Rattle.sdv_commands.proofs.TalkLaws.{few_at, talked_few}

-- EVENTS THAT A HOST MAKES are allowed

abbrev EachIsAllowed : List Pair → Card → Type 0
EachIsAllowed es c =
    (front : List Pair) (event : ScriptEvent) (returned : Return) (back : List Pair) (u : Card) → es ≡ front ++ (event, returned) ∷ back → StepsOf c front u →
    IsAllowed event u

all_allowed : (k : Kind) (es : List Pair) (c : Card) → EachIsMade k es c → EachIsAllowed es c
all_allowed k es c made front event returned back u is steps =
    let one = made front event returned back u is steps in
    record { legal = one.fine.legal; bounds = one.fine.bounds }

good_so_far : (k : Kind) (most : ℕ) (es : List Pair) (c : Card) → EachIsMade k es c → commands es ≤ most → IsGood most Open es c
good_so_far k most es c made few = record { allowed = all_allowed k es c made; sent = λ last steps. few; ends = λ last steps. tt }

-- THE EVENTS OF A RUN are a walk, however it ended
walked : (g : Graph) (w w' : World Streams) (result : Result End RunFault) (ran : Ran LineSteps g w w' result)
    → (last : Ending) × IsWalk g last (events_of LineSteps g w w' result ran)
walked g w w' (Ok end) ran = (ending_of end, ran.walk)
walked g w w' (Err fault) ran = (Open, ran.walk)

module _ {S : Type 0} (steps : S → Call → Return → S → Type 0) (card : S → Option Card) (keeps : KeepsTablesOverNoise steps card) where
  module _ (k : Kind) (most : ℕ) (s : Streams) (limit : s.left ≡ Some most) (o o' : S) (c : Card) (shown : Shows card o c) where
    -- events that were answered
    on_card : (told : List Pair) (t : Streams) (talked : Talked k told s t) → EachIsMade k told c → AnswersAs steps k told talked.answers o o'
        → OnCard card most Open told c o'
    on_card told t talked made does =
        let on : Beside card told c o' = beside (ToldSteps steps) card (told_keeps steps card keeps) k told c o o' made shown
        (told_moved steps card keeps k told talked.answers o o' talked.are_answers does) in
        let few : commands told ≤ most = talked_few k most told s t limit told t talked in
        record { last = on.last; steps = on.steps; shown = on.shown; good = good_so_far k most told c made few; sent = few; ends = tt }

    asks_at : (fault : Option PortFault) (es : List Pair) (s' : Streams) (talks : TalksAt fault k es s s') → EachIsMade k es c
        → AnswersAs steps k (answered_at fault k es s s' talks) (texts_at fault k es s s' talks) o o'
        → AsksOnCard card most (answered_at fault k es s s' talks) (asked_at fault k es s s' talks) c o'
    asks_at None es s' talked made does = record {
      before = on_card es s' talked made does;
      allowed = all_allowed k es c made;
      few = few_at k most es s s' limit None talked;
    }
    asks_at (Some (Lines why)) es s' broke made does =
        let asked : List Pair = broke.earlier ++ broke.unanswered ∷ [] in
        let all : es ≡ asked ++ broke.later = broke.all ∙ sym (append_assoc broke.earlier (broke.unanswered ∷ []) broke.later) in
        record {
          before = on_card broke.earlier broke.before broke.talked
              (made_front k es broke.earlier (broke.unanswered ∷ broke.later) c broke.all made) does;
          allowed = all_allowed k asked c (made_front k es asked broke.later c all made);
          few = few_at k most es s s' limit (Some (Lines why)) broke;
        }
    asks_at (Some Commands) es s' broke made does =
        let front : EachIsMade k broke.earlier c = made_front k es broke.earlier (broke.unanswered ∷ broke.later) c broke.all made in
        record {
          before = on_card broke.earlier broke.before broke.talked front does;
          allowed = all_allowed k broke.earlier c front;
          few = few_at k most es s s' limit (Some Commands) broke;
        }

  pub asks_beside : AsksBesideOther steps card
  asks_beside given outcome out out' trace trace' s s' drive o o' c does start =
      let a = drive.acceptance in
      let g = a.graph in
      let es : List Pair = events_of LineSteps g _ _ drive.result drive.ran in
      let walk = walked g _ _ drive.result drive.ran in
      let made : EachIsMade g.kind es c = made_from g drive.accepted.facts.points (laws_of g.kind) drive.accepted.graph.graph.sound drive.accepted.closed
      c start.kind start.start walk.0 es walk.1.path in
      ∣ asks_at g.kind a.bound (limited (Some a.bound) s) refl o o' c start.shown drive.after.fault es drive.after drive.talks made does ∣₁
