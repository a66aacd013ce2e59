-- What a player hears of what events returned: a damaged answer counts as a lost one.
use Rattle.std.proofs.Common.{◌≡◌, List, [], ◌∷◌, ◌++◌, refl, sym, ap, subst}
use Rattle.std.proofs.lemmas.List.{map-append}
use Rattle.sdv_registers.specs.declared.kind.Kind.{Kind}
use Rattle.sdv_card.specs.declared.answer.Answer.{Answer}
use Rattle.sdv_card.specs.declared.answer.Answer.TheVariants.{Sent, TimeOut, Reply as Replied, Damaged}
use Rattle.sdv_card.specs.Card.{Block}
use Rattle.sdv_card.specs.Damage.{counts_as, DamageAsTimeOut}
use Rattle.sdv_card.specs.ScriptEvent.{ScriptEvent, SendCommand, Return, Answered, MayReturn}
use Rattle.sdv_graph.specs.Walk.{Pair, Deed}
use Rattle.sdv_run.specs.declared.returned.Returned.{Returned}
use Rattle.sdv_run.specs.declared.returned.Returned.TheVariants as told
use Rattle.sdv_run.specs.Run.{Steps, RunMoved}
use Rattle.sdv_run.specs.Takes.{Tells, Told}
use Rattle.sdv_player.specs.Hearing.{heard}
use Rattle.sdv_player.specs.Play.{as_heard}
use Rattle.sdv_player.specs.Plays.{heard_in}

pub heard_more : (es fs : List Pair) → heard_in (es ++ fs) ≡ heard_in es ++ heard_in fs
heard_more es fs = map-append (λ (p : Pair). (p.0, counts_as p.1)) es fs

-- the calls that were made at a port are those of one that hands a damaged answer on as a time-out
pub moved_heard : {S : Type 0} (k : Kind) (steps : Steps S) (s : S) (es : List Pair) (t : S) → RunMoved k steps s es t →
    RunMoved k (DamageAsTimeOut steps) s (heard_in es) t
moved_heard k steps s [] t moved = moved
moved_heard k steps s (p ∷ ps) t (u, step, more) =
    (u, record { heard = p.1; counts = refl; step = step }, moved_heard k steps u ps t more)

-- WHAT AN EVENT RETURNED

counts_heard : (answer : Answer) → counts_as (Answered answer) ≡ Answered (heard answer)
counts_heard Sent = refl
counts_heard TimeOut = refl
counts_heard (Replied reply) = refl
counts_heard (Damaged fault) = refl

tells_heard : (returned : Returned) (held : List Block) (seen : Return) → Tells returned held seen → Tells (as_heard returned) held (counts_as seen)
tells_heard (told.Answered a) held (Answered answer) t =
    subst (λ (r : Return). Tells (told.Answered (heard a)) held r) (sym (counts_heard answer)) (ap heard t)
tells_heard (told.Answered a) held seen t = absurd t
tells_heard returned held (Answered answer) t = absurd t
tells_heard returned held seen t = t

may_heard : (event : ScriptEvent) (seen : Return) → MayReturn event seen → MayReturn event (counts_as seen)
may_heard (SendCommand ask position argument) (Answered answer) may =
    subst (λ (r : Return). MayReturn (SendCommand ask position argument) r) (sym (counts_heard answer)) tt
may_heard (SendCommand ask position argument) seen may = absurd may
may_heard event (Answered answer) may = absurd may
may_heard event seen may = may

pub told_heard : (deed : Deed) (returned : Returned) (held : List Block) (event : ScriptEvent) (seen : Return) → Told deed returned held event seen →
    Told deed (as_heard returned) held event (counts_as seen)
told_heard deed returned held event seen t =
    record { is = t.is; fits = may_heard event seen t.fits; tells = tells_heard returned held seen t.tells }
