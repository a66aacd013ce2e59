-- What is played over a port that shows a card, by the table of an accepted script.
use Rattle.std.proofs.Common.{◌≡◌, ℕ, List, [], ◌∷◌, ◌++◌, true, false, Option, Ok, Err, refl, sym, ◌∙◌, subst, inr}
use Rattle.std.specs.Prelude.{Result}
use Rattle.sdv_registers.specs.declared.kind.Kind.{Kind}
use Rattle.sdv_card.specs.Card.{Card, Block}
use Rattle.sdv_card.specs.Host.{host_after}
use Rattle.sdv_card.specs.Damage.{counts_as, KeepsTablesOverNoise, DamageAsTimeOut}
use Rattle.sdv_card.specs.Port.{KeepsTables}
use Rattle.sdv_card.specs.ScriptEvent.{ScriptEvent, SendCommand, Return, Answered}
use Rattle.sdv_card.specs.Step.{Step}
use Rattle.sdv_card.proofs.DamageLaws.{handed_on}
use Rattle.sdv_graph.specs.Walk.{Pair, Open}
use Rattle.sdv_graph.specs.Path.{Stand, Path, Follows, Move, Goes, Does, Halts, move_from}
use Rattle.sdv_graph.specs.Graph.{Graph}
use Rattle.sdv_graph.proofs.Paths.{roll}
use Rattle.sdv_facts.specs.Stands.{IsMade}
use Rattle.sdv_facts.proofs.Headline.{made_from}
use Rattle.sdv_facts.proofs.StepLaws.{Laws, laws_of}
use Rattle.sdv_check.specs.Verified.{Acceptance, IsAccepted}
use Rattle.sdv_run.specs.declared.fault.RunFault.{RunFault}
use Rattle.sdv_run.specs.declared.fault.RunFault.TheVariants.{Reply, Input, Output, Trace, Memory}
use Rattle.sdv_run.specs.declared.returned.Returned.{Returned}
use Rattle.sdv_run.specs.Asks.{deed_of}
use Rattle.sdv_run.specs.Machine.{ToldAt, now}
use Rattle.sdv_run.specs.OnCard.{ShowsStart}
use Rattle.sdv_run.specs.Performs.{Source}
use Rattle.sdv_run.specs.Run.{Steps, RunMoved}
use Rattle.sdv_run.specs.Takes.{goes_on_with, Took}
use Rattle.sdv_run.proofs.OnCard.{taken, beside, last_step}
use Rattle.sdv_table.specs.Fits.{IsTable}
use Rattle.sdv_player.specs.declared.next_step.Next.{Next}
use Rattle.sdv_player.specs.declared.next_step.Next.TheVariants as nexts
use Rattle.sdv_player.specs.declared.state.State.{State}
use Rattle.sdv_player.specs.OverPort.{Played, WasRefused, PlaysOver, PlayedBeside, PlaysBeside}
use Rattle.sdv_player.specs.Play.{Starts, as_heard}
use Rattle.sdv_player.specs.Plays.{heard_in}
use Rattle.sdv_player.specs.Seen.{kind_of, stand_of}
use Rattle.sdv_player.specs.StandsFor.{run_of}
use Rattle.sdv_player.proofs.Played.{told_at, open_here, from_start, plays_are_walks}
use Rattle.sdv_player.proofs.AsHeard.{heard_more, moved_heard, told_heard}
use Rattle.sdv_player.proofs.PlayedBeside.{plays_are_good}

-- STEP BY STEP

-- a run goes on with what a card returns
goes_on : (k : Kind) → Laws k → (e : ScriptEvent) (c : Card) (seen : Return) (u : Card) → IsMade k e c → Step e c seen u → goes_on_with k e seen ≡ true
goes_on k laws (SendCommand ask position argument) c (Answered answer) u made step = taken k laws ask position argument c answer u made step
goes_on k laws (SendCommand ask position argument) c seen u made step = refl
goes_on k laws e c seen u made step = refl

-- an event that was told, where a run stands
told_here : (g : Graph) (s : Stand) (m : Move) (returned : Returned) (held : List Block) (e : ScriptEvent) (seen : Return) → ToldAt m returned held e seen →
    move_from g.kind g.points s ≡ m → Path g.kind g.points Open s ((e, seen) ∷ [])
told_here g s (Goes next) returned held e seen t at = absurd t
told_here g s (Does deed before next) returned held e seen t at =
    roll g.kind g.points Open s ((e, seen) ∷ [])
    (inr (subst (λ m. Follows g.kind Open (Path g.kind g.points Open) m ((e, seen) ∷ [])) (sym at)
    (e, seen, [], t.is, t.fits, refl, open_here g (next seen (host_after g.kind e seen before)))))
told_here g s (Halts last) returned held e seen t at = absurd t

refused_at : (k : Kind) (m : Move) (returned : Returned) (stand : Stand) (held : List Block) (e : ScriptEvent) (seen : Return) →
    Took k m returned stand (Err Reply) → ToldAt m returned held e seen → goes_on_with k e seen ≡ false
refused_at k (Goes next) returned stand held e seen took t = absurd t
refused_at k (Does deed before next) returned stand held e seen took t = (took held e seen t).1
refused_at k (Halts last) returned stand held e seen took t = absurd t

-- FROM THE START

module _ {S : Type 0} (steps : Steps S) (card : S → Option Card) (keeps : KeepsTablesOverNoise steps card) (script certificate : List ℕ) (a : Acceptance)
    (words : List ℕ) (s : State) (accepted : IsAccepted script certificate a) (table : IsTable a.graph a.bound words) (starts : Starts words s) (from : Source S)
    (c : Card) (start : ShowsStart card a.graph.kind a.graph.begins from.0 c) where
  kind : kind_of s.host ≡ a.graph.kind
  kind = (starts a.graph a.bound table accepted.graph.graph.sound).stands.kind

  -- the steps of the port, where a damaged answer counts as a lost one
  abbrev steps_heard : Steps S
  steps_heard = DamageAsTimeOut steps

  keeps_heard : KeepsTables steps_heard card
  keeps_heard = handed_on steps card keeps

  played_beside : (s' : State) (to : Source S) (said : Next) (p : Played (kind_of s.host) steps words s s' from to said) →
      PlayedBeside card a.bound (heard_in p.events) said c to.0
  played_beside s' to said p =
      let g = a.graph in
      let sound = accepted.graph.graph.sound in
      let es = heard_in p.events in
      let run = plays_are_walks g a.bound words es s' said table sound (s, starts, p.plays) in
      let made = subst (λ k. RunMoved k steps from.0 p.events to.0) kind p.made.moved in
      let moved = moved_heard g.kind steps from.0 p.events to.0 made in
      let each = made_from g accepted.facts.points (laws_of g.kind) sound accepted.closed c start.kind start.start run.last es run.walk.path in
      let b = beside steps_heard card keeps_heard g.kind es c from.0 to.0 each start.shown moved in
      let good = plays_are_good script certificate a words es s' said c b.last accepted table (s, starts, p.plays) start.kind start.start b.steps in
      record {
        last = good.end;
        how = good.how;
        on = record { last = b.last; steps = b.steps; shown = b.shown; good = good.good; sent = good.sent; ends = good.ends };
        sends = good.sends;
      }

  never_refused : (s' : State) (to : Source S) → WasRefused (kind_of s.host) steps words s s' from to → ⊥
  never_refused s' to w =
      let g = a.graph in
      let sound = accepted.graph.graph.sound in
      let laws = laws_of g.kind in
      let es = heard_in w.events in
      let event = w.last.0 in
      let seen = counts_as w.last.1 in
      let last : Pair = (event, seen) in
      let returned = as_heard w.returned in
      let all = from_start g a.bound words es w.here (nexts.Event w.event) table sound (s, starts, w.plays) in
      let m = run_of g w.here all.registers in
      let t = told_at (now m) w.event returned w.held event seen all.says (told_heard (deed_of w.event) w.returned w.held event w.last.1 w.told) in
      let path = all.leads Open (last ∷ []) (told_here g (stand_of w.here all.registers) (now m) returned w.held event seen t refl) in
      let each = made_from g accepted.facts.points laws sound accepted.closed c start.kind start.start Open (es ++ last ∷ []) path in
      let made = subst (λ k. RunMoved k steps from.0 (w.events ++ w.last ∷ []) to.0) kind w.made.moved in
      let moved = subst (λ l. RunMoved g.kind steps_heard from.0 l to.0) (heard_more w.events (w.last ∷ []))
      (moved_heard g.kind steps from.0 (w.events ++ w.last ∷ []) to.0 made) in
      let b = beside steps_heard card keeps_heard g.kind (es ++ last ∷ []) c from.0 to.0 each start.shown moved in
      let l = last_step es last c b.last b.steps in
      let is_made = each es event seen [] l.before refl l.steps in
      let yes : goes_on_with g.kind event seen ≡ true = goes_on g.kind laws event l.before seen b.last is_made l.step in
      let took = w.refused g all.registers all.stands all.asked in
      let no : goes_on_with g.kind event seen ≡ false = refused_at g.kind (now m) returned m.stand w.held event seen took t in
      let clash : true ≡ false = sym yes ∙ no in
      absurd (cc)

pub plays_beside : {S : Type 0} (steps : Steps S) (card : S → Option Card) → KeepsTablesOverNoise steps card → (words : List ℕ) (room : ℕ) (s s' : State)
    (from to : Source S) (result : Result Next RunFault) → PlaysOver (kind_of s.host) steps words room s s' from to result →
    PlaysBeside (kind_of s.host) steps card words room s s' from to result
plays_beside steps card keeps words room s s' from to (Ok said) played = λ script certificate a c accepted table starts start.
    (played, played_beside steps card keeps script certificate a words s accepted table starts from c start s' to said played)
plays_beside steps card keeps words room s s' from to (Err Reply) refused = λ script certificate a c accepted table starts start.
    never_refused steps card keeps script certificate a words s accepted table starts from c start s' to refused
plays_beside steps card keeps words room s s' from to (Err Input) cut = λ script certificate a c accepted table starts start.
    (cut, played_beside steps card keeps script certificate a words s accepted table starts from c start s' to (nexts.Event cut.event) cut.played)
plays_beside steps card keeps words room s s' from to (Err Memory) cut = λ script certificate a c accepted table starts start.
    (cut, played_beside steps card keeps script certificate a words s accepted table starts from c start s' to (nexts.Event cut.event) cut.played)
plays_beside steps card keeps words room s s' from to (Err Output) over = absurd over
plays_beside steps card keeps words room s s' from to (Err Trace) over = absurd over
