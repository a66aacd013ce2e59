-- How many commands a player asks for.
use Rattle.std.proofs.Common.{◌≡◌, ◌+◌, ◌≤◌, ℕ, List, [], ◌∷◌, refl, sym, ap, subst, arith}
use Rattle.sdv_card.specs.Card.{Block}
use Rattle.sdv_card.specs.ScriptEvent.{ScriptEvent, SendCommand, Return, Answered, MayReturn}
use Rattle.sdv_graph.specs.Walk.{Pair, IsDeed}
use Rattle.sdv_graph.specs.Graph.{Graph}
use Rattle.sdv_graph.specs.GraphOf.{IsSound}
use Rattle.sdv_facts.specs.Beside.{commands, commands_in}
use Rattle.sdv_run.specs.declared.next_event.NextEvent.{NextEvent}
use Rattle.sdv_run.specs.declared.next_event.NextEvent.TheVariants as events
use Rattle.sdv_run.specs.declared.returned.Returned.{Returned}
use Rattle.sdv_run.specs.declared.returned.Returned.TheVariants as told
use Rattle.sdv_run.specs.Asks.{deed_of}
use Rattle.sdv_run.specs.Takes.{Tells}
use Rattle.sdv_table.specs.Fits.{IsTable}
use Rattle.sdv_player.specs.declared.next_step.Next.{Next}
use Rattle.sdv_player.specs.declared.next_step.Next.TheVariants as nexts
use Rattle.sdv_player.specs.declared.state.State.{State}
use Rattle.sdv_player.specs.Play.{commands_of, moves_said, commands_said, commands_told}
use Rattle.sdv_player.specs.Plays.{TellsOne, PlaysFromStart, PlaysAreCounted}

-- AN EVENT counts as what it returns

abbrev commands_seen : Return → ℕ
commands_seen (Answered answer) = 1
commands_seen seen = 0

told_alike : (returned : Returned) (held : List Block) (seen : Return) → Tells returned held seen → commands_told returned ≡ commands_seen seen
told_alike (told.Answered a) held (Answered answer) t = refl
told_alike (told.Answered a) held seen t = absurd t
told_alike returned held (Answered answer) t = absurd t
told_alike returned held seen t = refl

may_alike : (made : ScriptEvent) (seen : Return) → MayReturn made seen → commands_in made ≡ commands_seen seen
may_alike (SendCommand ask position argument) (Answered answer) may = refl
may_alike (SendCommand ask position argument) seen may = absurd may
may_alike made (Answered answer) may = absurd may
may_alike made seen may = refl

pub deed_alike : (event : NextEvent) (made : ScriptEvent) → IsDeed (deed_of event) made → commands_of event ≡ commands_in made
deed_alike (events.Send ask position argument) made is = sym (ap commands_in is)
deed_alike (events.ReceiveBlocks lines count) made is = sym (ap commands_in is)
deed_alike (events.ReceiveRegister lines count) made is = sym (ap commands_in is)
deed_alike (events.GiveBlocks lines count) made is = sym (ap commands_in is.2)
deed_alike events.Wait made is = sym (ap commands_in is)

-- one is taken off
one_off : (ws : List ℕ) (here next : State) (said : Next) (p : Pair) → TellsOne ws here next said p → commands_said said ≤ here.commands →
    commands_in p.0 + next.commands ≡ here.commands
one_off ws here next (nexts.Event event) p (returned, held, t, takes, off) enough =
    let asked = deed_alike event p.0 t.is in
    let answered = told_alike returned held p.1 t.tells in
    let returns = may_alike p.0 p.1 t.fits in
    let taken = off.commands in
    omega (arith, asked, answered, returns, taken, enough)
one_off ws here next nexts.Done p one enough = absurd one
one_off ws here next (nexts.Fault name) p one enough = absurd one
one_off ws here next nexts.Number p one enough = absurd one
one_off ws here next nexts.Stopped p one enough = absurd one

one_move : (ws : List ℕ) (here next : State) (said : Next) (p : Pair) → TellsOne ws here next said p → moves_said said ≤ here.moves →
    1 + next.moves ≡ here.moves
one_move ws here next (nexts.Event event) p (returned, held, t, takes, off) one_more =
    let taken = off.move in
    omega (arith, taken, one_more)
one_move ws here next nexts.Done p one one_more = absurd one
one_move ws here next (nexts.Fault name) p one one_more = absurd one
one_move ws here next nexts.Number p one one_more = absurd one
one_move ws here next nexts.Stopped p one one_more = absurd one

-- PLAYS

pub plays_are_counted : PlaysAreCounted
plays_are_counted ws [] s s' said (advances, keeps, stops) =
    let left = keeps.left in
    let enough = keeps.enough in
    let moves = keeps.moves in
    let one_more = keeps.one_more in
    record { left = omega (arith, left); asked = omega (arith, enough); events = omega (arith, moves, one_more) }
plays_are_counted ws (p ∷ ps) s s' said (here, next, event, advances, keeps, stops, tells, plays) =
    let rest = plays_are_counted ws ps next s' said plays in
    let all = rest.left in
    let last = rest.asked in
    let events = rest.events in
    let left = keeps.left in
    let moves = keeps.moves in
    let enough : commands_said event ≤ here.commands = subst (λ n. commands_said event ≤ n) (sym left) keeps.enough in
    let one = one_off ws here next event p tells enough in
    let move = one_move ws here next event p tells keeps.one_more in
    record { left = omega (arith, all, left, one); asked = omega (arith, last, left, one); events = omega (arith, events, moves, move) }

-- from the start of the run of a table
pub counted_from_start : (g : Graph) (most : ℕ) (ws : List ℕ) (es : List Pair) (s' : State) (said : Next) → IsTable g most ws → IsSound g →
    PlaysFromStart ws es s' said → (commands es + s'.commands ≡ most) × (commands es + commands_said said ≤ most)
counted_from_start g most ws es s' said table sound (s, starts, plays) =
    let first = (starts g most table sound).commands in
    let all = plays_are_counted ws es s s' said plays in
    (subst (λ n. commands es + s'.commands ≡ n) first all.left, subst (λ n. commands es + commands_said said ≤ n) first all.asked)
