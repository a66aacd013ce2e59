-- What a player over a port has done so far.
use Rattle.std.proofs.Common.{◌≡◌, ℕ, List, [], ◌∷◌, ◌++◌, true, false, Err, refl, sym, ap, ◌∙◌, subst, append_assoc}
use Rattle.std.proofs.lemmas.List.{append-nil}
use Rattle.sdv_registers.specs.declared.kind.Kind.{Kind}
use Rattle.sdv_card.specs.Card.{Block}
use Rattle.sdv_card.specs.Damage.{counts_as}
use Rattle.sdv_graph.specs.Walk.{Pair, given_by, given}
use Rattle.sdv_run.specs.declared.fault.RunFault.{RunFault}
use Rattle.sdv_run.specs.declared.fault.RunFault.TheVariants.{Reply, Input, Output, Trace, Memory}
use Rattle.sdv_run.specs.declared.next_event.NextEvent.{NextEvent}
use Rattle.sdv_run.specs.declared.returned.Returned.{Returned}
use Rattle.sdv_run.specs.Asks.{deed_of, CanPerform}
use Rattle.sdv_run.specs.Performs.{Source, Performed, Performs, IsShort}
use Rattle.sdv_run.specs.Run.{Steps}
use Rattle.sdv_run.proofs.Made.{moved_more, given_more}
use Rattle.sdv_player.specs.declared.next_step.Next.{Next}
use Rattle.sdv_player.specs.declared.next_step.Next.TheVariants as nexts
use Rattle.sdv_player.specs.declared.state.State.{State}
use Rattle.sdv_player.specs.OverPort.{Made, Played, NotMade, WasRefused, PlaysOver}
use Rattle.sdv_player.specs.Play.{IsStopped, Advances, Keeps, Stops, Takes, TakesOff, as_heard}
use Rattle.sdv_player.specs.Plays.{heard_in, Plays}
use Rattle.sdv_player.proofs.AsHeard.{heard_more, told_heard}

module _ {S : Type 0} (k : Kind) (steps : Steps S) (words : List ℕ) (s₀ : State) (from : Source S) where
  -- what is played from here on comes after these events
  pub record SoFar (s : State) (to : Source S) : Type 0 where
    pub events : List Pair
    pub made : Made k steps events from to
    pub plays : (rest : List Pair) (s' : State) (said : Next) → Plays words s rest s' said → Plays words s₀ (heard_in events ++ rest) s' said

  -- an event more was made
  pub made_more : (es : List Pair) (u v : Source S) (event : NextEvent) (held : List Block) (returned : Returned) → Made k steps es from u →
      (p : Performed k steps event u v held returned) → Made k steps (es ++ (p.event, p.seen) ∷ []) from v
  made_more es u v event held returned made p = record {
    moved = moved_more k steps es ((p.event, p.seen) ∷ []) from.0 u.0 v.0 made.moved (v.0, p.step, refl);
    input = made.input ∙ ap (λ l. given es ++ l) (p.input ∙ ap (λ l. l ++ v.1) (sym (append-nil (given_by p.event))))
        ∙ sym (append_assoc (given es) (given ((p.event, p.seen) ∷ [])) v.1)
        ∙ ap (λ l. l ++ v.1) (sym (given_more es ((p.event, p.seen) ∷ [])));
  }

  -- it says this
  pub says : (s s' : State) (to : Source S) (said : Next) → SoFar s to → Advances words s s' said → Keeps s s' said → Stops s s' said →
      Played k steps words s₀ s' from to said
  says s s' to said so advances keeps stops = record {
    events = so.events;
    made = so.made;
    plays = subst (λ es. Plays words s₀ es s' said) (append-nil (heard_in so.events)) (so.plays [] s' said (advances, keeps, stops));
  }

  -- it went on by the event that it said
  pub more : (s here next : State) (u v : Source S) (event : NextEvent) (held : List Block) (returned : Returned) → SoFar s u →
      Advances words s here (nexts.Event event) → Keeps s here (nexts.Event event) → Stops s here (nexts.Event event) →
      Performed k steps event u v held returned →
      Takes words here next (as_heard returned) true → TakesOff here next (as_heard returned) → SoFar next v
  more s here next u v event held returned so advances keeps stops p takes off = record {
    events = so.events ++ (p.event, p.seen) ∷ [];
    made = made_more so.events u v event held returned so.made p;
    plays = λ rest s' said played.
        let last : Pair = (p.event, counts_as p.seen) in
        let whole : heard_in (so.events ++ (p.event, p.seen) ∷ []) ++ rest ≡ heard_in so.events ++ last ∷ rest =
        ap (λ l. l ++ rest) (heard_more so.events ((p.event, p.seen) ∷ [])) ∙ append_assoc (heard_in so.events) (last ∷ []) rest in
        let t = told_heard (deed_of event) returned held p.event p.seen p.told in
        subst (λ es. Plays words s₀ es s' said) (sym whole)
        (so.plays (last ∷ rest) s' said
        (here, next, nexts.Event event, advances, keeps, stops, (as_heard returned, held, t, takes, off), played));
  }

  -- or does not go on with what it returned
  pub refused : (s here next : State) (u v : Source S) (event : NextEvent) (held : List Block) (returned : Returned) → SoFar s u →
      Advances words s here (nexts.Event event) → Keeps s here (nexts.Event event) → Stops s here (nexts.Event event) →
      Performed k steps event u v held returned →
      Takes words here next (as_heard returned) false → IsStopped next → WasRefused k steps words s₀ next from v
  unfolding says
  refused s here next u v event held returned so advances keeps stops p takes stopped = record {
    events = so.events;
    last = (p.event, p.seen);
    made = made_more so.events u v event held returned so.made p;
    here = here;
    event = event;
    plays = (says s here u (nexts.Event event) so advances keeps stops).plays;
    returned = returned;
    held = held;
    told = p.told;
    refused = takes;
    stopped = stopped;
  }

  -- it says an event that cannot be made
  pub no_room : (s here : State) (to : Source S) (event : NextEvent) (room : ℕ) → SoFar s to → Advances words s here (nexts.Event event) →
      Keeps s here (nexts.Event event) → Stops s here (nexts.Event event) → (CanPerform event room → ⊥) →
      NotMade k steps words s₀ here from to (λ event. CanPerform event room → ⊥)
  no_room s here to event room so advances keeps stops cannot =
      record { event = event; because = cannot; played = says s here to (nexts.Event event) so advances keeps stops }

  pub cut : (s here : State) (u v : Source S) (event : NextEvent) (held : List Block) (room : ℕ) (fault : RunFault) → SoFar s u →
      Advances words s here (nexts.Event event) → Keeps s here (nexts.Event event) → Stops s here (nexts.Event event) →
      Performs k steps event u v held (Err fault) →
      PlaysOver k steps words room s₀ here from v (Err fault)
  cut s here u v event held room Input so advances keeps stops p =
      subst (λ w. NotMade k steps words s₀ here from w (λ event. IsShort event w.1)) (sym p.1)
      (record { event = event; because = p.0; played = says s here u (nexts.Event event) so advances keeps stops })
  cut s here u v event held room Reply so advances keeps stops p = absurd p
  cut s here u v event held room Output so advances keeps stops p = absurd p
  cut s here u v event held room Trace so advances keeps stops p = absurd p
  cut s here u v event held room Memory so advances keeps stops p = absurd p

pub at_first : {S : Type 0} (k : Kind) (steps : Steps S) (words : List ℕ) (s : State) (from : Source S) → SoFar k steps words s from s from
at_first k steps words s from = record { events = []; made = record { moved = refl; input = refl }; plays = λ rest s' said played. played }
