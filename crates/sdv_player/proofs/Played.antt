-- What is played from the start is a walk.
use Rattle.std.proofs.Common.{◌≡◌, ℕ, List, [], ◌∷◌, ◌++◌, Some, Ok, refl, sym, subst, inl, inr}
use Rattle.std.proofs.lemmas.List.{append-nil}
use Rattle.sdv_card.specs.Card.{Block}
use Rattle.sdv_card.specs.ScriptEvent.{ScriptEvent, Return}
use Rattle.sdv_graph.specs.Walk.{Pair, Ending, Open}
use Rattle.sdv_graph.specs.Path.{Stand, Path, Follows, Move, Goes, Does, Halts, move_from}
use Rattle.sdv_graph.specs.Graph.{Graph, begin}
use Rattle.sdv_graph.specs.GraphOf.{IsSound}
use Rattle.sdv_graph.proofs.Paths.{roll}
use Rattle.sdv_run.specs.declared.next_event.NextEvent.{NextEvent}
use Rattle.sdv_run.specs.declared.returned.Returned.{Returned}
use Rattle.sdv_run.specs.Asks.{deed_of, AsksFor}
use Rattle.sdv_run.specs.Takes.{Told}
use Rattle.sdv_run.specs.Machine.{LeadsBy, ToldAt, now}
use Rattle.sdv_run.proofs.Runs.{is_walk}
use Rattle.sdv_table.specs.Fits.{IsTable}
use Rattle.sdv_player.specs.declared.next_step.Next.{Next}
use Rattle.sdv_player.specs.declared.next_step.Next.TheVariants as nexts
use Rattle.sdv_player.specs.declared.state.State.{State}
use Rattle.sdv_player.specs.Play.{Says, IsAsked, GoesTo, GoesOn}
use Rattle.sdv_player.specs.Plays.{TellsOne, Plays, PlaysFromStart, IsEnding, PlaysAreWalks}
use Rattle.sdv_player.specs.Seen.{Registers, no_registers, stand_of}
use Rattle.sdv_player.specs.StandsFor.{run_of, StandsFor}
use Rattle.sdv_player.proofs.Counted.{counted_from_start}

pub told_at : (m : Move) (event : NextEvent) (returned : Returned) (held : List Block) (e : ScriptEvent) (seen : Return) → AsksFor m (Ok (Some event)) →
    Told (deed_of event) returned held e seen → ToldAt m returned held e seen
told_at (Goes next) event returned held e seen asks t = absurd asks
told_at (Does deed before next) event returned held e seen asks t = subst (λ d. Told d returned held e seen) (sym asks) t
told_at (Halts last) event returned held e seen asks t = absurd asks

-- it stands for the run, where these events led it, and says what comes there
pub record Led (g : Graph) (ws : List ℕ) (from : Stand) (es : List Pair) (s' : State) (said : Next) : Type 0 where
  pub registers : Registers
  pub stands : StandsFor g ws s' registers
  pub leads : LeadsBy g from es (stand_of s' registers)
  pub says : Says (run_of g s' registers) s'.commands said
  pub asked : IsAsked said s'.asked

-- an event more
one_more : (g : Graph) (ws : List ℕ) (s here next : State) (r : Registers) (event : Next) (p : Pair) → StandsFor g ws s r → GoesTo g ws s here r event →
    TellsOne ws here next event p → (r' : Registers) × StandsFor g ws next r' × LeadsBy g (stand_of s r) (p ∷ []) (stand_of next r')
one_more g ws s here next r (nexts.Event event) p stands to (returned, held, t, takes, off) =
    let on : GoesOn g ws here next r returned = takes g r to.stands in
    let by = on.went.leads held p.0 p.1 (told_at (now (run_of g here r)) event returned held p.0 p.1 to.says t) in
    (on.registers, on.stands, λ e rest path. to.came.leads e (p ∷ rest) (by e rest path))
one_more g ws s here next r nexts.Done p stands to one = absurd one
one_more g ws s here next r (nexts.Fault name) p stands to one = absurd one
one_more g ws s here next r nexts.Number p stands to one = absurd one
one_more g ws s here next r nexts.Stopped p stands to one = absurd one

pub led : (es : List Pair) (g : Graph) (ws : List ℕ) (s s' : State) (r : Registers) (said : Next) → StandsFor g ws s r → Plays ws s es s' said →
    Led g ws (stand_of s r) es s' said
led [] g ws s s' r said stands (advances, keeps, stops) =
    let to = advances g r stands in
    record { registers = r; stands = to.stands; leads = to.came.leads; says = to.says; asked = to.asked }
led (p ∷ ps) g ws s s' r said stands (here, next, event, advances, keeps, stops, tells, plays) =
    let one = one_more g ws s here next r event p stands (advances g r stands) tells in
    let on = led ps g ws next s' one.0 said one.1 plays in
    record {
      registers = on.registers;
      stands = on.stands;
      leads = λ e rest path. one.2 e (ps ++ rest) (on.leads e rest path);
      says = on.says;
      asked = on.asked;
    }

-- HOW IT ENDS

module _ (g : Graph) (s : Stand) where
  pub open_here : Path g.kind g.points Open s []
  open_here = roll g.kind g.points Open s [] (inl (refl, refl))

  ended_here : (last : Ending) → move_from g.kind g.points s ≡ Halts last → Path g.kind g.points last s []
  ended_here last halts =
      roll g.kind g.points last s [] (inr (subst (λ m. Follows g.kind last (Path g.kind g.points last) m []) (sym halts) (refl, refl)))

-- the end that is said
pub record EndsHere (g : Graph) (s : Stand) (said : Next) : Type 0 where
  pub last : Ending
  pub how : IsEnding said last
  pub path : Path g.kind g.points last s []

ends_here : (g : Graph) (s' : State) (r : Registers) (said : Next) → Says (run_of g s' r) s'.commands said → EndsHere g (stand_of s' r) said
ends_here g s' r (nexts.Event event) says = record { last = Open; how = refl; path = open_here g (stand_of s' r) }
ends_here g s' r nexts.Done says = record { last = says.last; how = says.how; path = ended_here g (stand_of s' r) says.last says.halts }
ends_here g s' r (nexts.Fault name) says = record { last = says.last; how = says.how; path = ended_here g (stand_of s' r) says.last says.halts }
ends_here g s' r nexts.Number says = record { last = says.last; how = says.how; path = ended_here g (stand_of s' r) says.last says.halts }
ends_here g s' r nexts.Stopped says = record { last = Open; how = refl; path = open_here g (stand_of s' r) }

-- the whole, from the start of a run
pub from_start : (g : Graph) (most : ℕ) (ws : List ℕ) (es : List Pair) (s' : State) (said : Next) → IsTable g most ws → IsSound g → PlaysFromStart ws es s' said →
    Led g ws (begin g) es s' said
from_start g most ws es s' said table sound (s, starts, plays) =
    let first = starts g most table sound in
    subst (λ m. Led g ws m.stand es s' said) first.start (led es g ws s s' no_registers said first.stands plays)

pub plays_are_walks : PlaysAreWalks
plays_are_walks g most ws es s said table sound played =
    let all = from_start g most ws es s said table sound played in
    let end = ends_here g s all.registers said all.says in
    let path : Path g.kind g.points end.last (begin g) es =
    subst (λ es. Path g.kind g.points end.last (begin g) es) (append-nil es) (all.leads end.last [] end.path) in
    record { last = end.last; how = end.how; walk = is_walk g end.last es path; asked = (counted_from_start g most ws es s said table sound played).1 }
