-- Runs that begin with CMD0, beside a card in any state: each is, event by event, a run beside a card before its first
-- command.
use Rattle.std.proofs.Common.{◌≡◌, ℕ, inl, inr, refl, sym, ◌∙◌, subst, arith, Bool, true, false, List, [], ◌∷◌, ◌++◌, None, Some}
use Rattle.sdv_registers.specs.declared.kind.Kind.{Kind}
use Rattle.sdv_card.specs.Card.{Card}
use Rattle.sdv_card.specs.Host.{Host}
use Rattle.sdv_card.specs.Laws.{Sound}
use Rattle.sdv_card.specs.Port.{PhaseOnCard}
use Rattle.sdv_card.specs.Profile.{IsOfProfile, IsAtStart, host_at_start}
use Rattle.sdv_card.specs.Resets.{IsReset}
use Rattle.sdv_card.specs.ScriptEvent.{ScriptEvent, SendCommand, ReceiveBlocks, ReceiveRegister, GiveBlocks, AwaitReady, Return}
use Rattle.sdv_card.specs.Shapes.{IsPair}
use Rattle.sdv_card.specs.Step.{Step}
use Rattle.sdv_card.proofs.ResetSteps.{fresh_after, step_afresh, reset_legal, reset_in_bounds, start_after, step_again, reset_of, reset_keeps, keeps_trans, reset_start, pair_anywhere, makes_reset}
use Rattle.sdv_graph.specs.Begins.{IsNoEnd, BeginWithReset, begins}
use Rattle.sdv_graph.specs.Tree.{Statements, Declared}
use Rattle.sdv_graph.specs.Walk.{Pair, Ending, Fell, Broke, Finished, Failed, Open, Walk}
use Rattle.sdv_graph.proofs.Begun.{walks_begin}
use Rattle.sdv_facts.specs.Beside.{MayStart, StepsOf, Walks, IsOver, EndsWell, IsAllowed, IsGood, GoesOn, RunsWell, RunsWellAnywhere}
use Rattle.sdv_facts.specs.Stands.{IsMade, EachIsMade}

reset_allowed : (k : Kind) (event : ScriptEvent) (c : Card) → IsReset k event → k ≡ c.kind → IsAllowed event c
reset_allowed k event c is kind = record { legal = reset_legal k event c is kind; bounds = reset_in_bounds k event c is }

none_within : (front : List Pair) (x : Pair) (back : List Pair) → [] ≡ front ++ x ∷ back → ⊥
none_within [] x back e = cc
none_within (y ∷ front) x back e = cc

no_end : (e : Ending) (c : Card) → IsNoEnd e → EndsWell e c
no_end Open c n = tt
no_end (Failed name) c n = tt
no_end Fell c n = absurd n
no_end Broke c n = absurd n
no_end Finished c n = absurd n

module _ (k : Kind) (walks : Walks) (most : ℕ) (begin : BeginWithReset k walks) (well : RunsWell k walks most) where
  -- the card after the first event
  card_start : (e : Ending) (p : Pair) (rest : List Pair) (c u : Card) → k ≡ c.kind → IsOfProfile c → walks e (p ∷ rest) → Step p.0 c p.1 u
      → (k ≡ u.kind) × IsAtStart u × Step p.0 u p.1 u
  card_start e p rest c u kind profile walk step =
      let is : IsReset k p.0 = begin e (p ∷ rest) walk in
      let a = fresh_after k p.0 c p.1 u is kind step in
      (kind ∙ a.keeps.same.kind, start_after k p.0 c p.1 u is kind profile step, step_again k p.0 c p.1 u is kind step)

  -- a run beside c is one beside the card after the first event
  good_there : (e : Ending) (p : Pair) (rest : List Pair) (c u : Card) → k ≡ c.kind → IsOfProfile c → walks e (p ∷ rest) → Step p.0 c p.1 u
      → IsGood most e (p ∷ rest) u
  good_there e p rest c u kind profile walk step =
      let s = card_start e p rest c u kind profile walk step in
      well.good u s.0 s.1 e (p ∷ rest) walk

  allowed : (e : Ending) (p : Pair) (rest : List Pair) (c : Card) → k ≡ c.kind → IsOfProfile c → walks e (p ∷ rest) →
      (front : List Pair) (event : ScriptEvent) (returned : Return) (back : List Pair) (u : Card) →
      p ∷ rest ≡ front ++ (event, returned) ∷ back → StepsOf c front u → IsAllowed event u
  allowed e p rest c kind profile walk [] event returned back u is steps =
      let same : p ≡ (event, returned) = cc in
      subst (λ c. IsAllowed event c) steps
      (reset_allowed k event c (subst (λ (p : Pair). IsReset k p.0) same (begin e (p ∷ rest) walk)) kind)
  allowed e p rest c kind profile walk (q ∷ front) event returned back u is steps =
      let same : q ≡ p = cc in
      let step : Step p.0 c p.1 steps.0 = subst (λ (p : Pair). Step p.0 c p.1 steps.0) same steps.1 in
      let s = card_start e p rest c steps.0 kind profile walk step in
      (good_there e p rest c steps.0 kind profile walk step).allowed (q ∷ front) event returned back u is
      (steps.0, subst (λ (p : Pair). Step p.0 steps.0 p.1 steps.0) (sym same) s.2, steps.2)

  good_anywhere : (c : Card) → k ≡ c.kind → IsOfProfile c → (e : Ending) (es : List Pair) → walks e es → IsGood most e es c
  good_anywhere c kind profile e [] walk = record {
    allowed = λ front event returned back u is steps. absurd (none_within front (event, returned) back is);
    sent = λ last steps. omega arith;
    ends = λ last steps. no_end e last (begin e [] walk);
  }
  good_anywhere c kind profile e (p ∷ rest) walk = record {
    allowed = allowed e p rest c kind profile walk;
    sent = λ last steps. (good_there e p rest c steps.0 kind profile walk steps.1).sent last
        (steps.0, (card_start e p rest c steps.0 kind profile walk steps.1).2, steps.2);
    ends = λ last steps. (good_there e p rest c steps.0 kind profile walk steps.1).ends last
        (steps.0, (card_start e p rest c steps.0 kind profile walk steps.1).2, steps.2);
  }

  -- OPEN RUNS

  -- what goes on from the card after a reset goes on from c
  goes_from : (c : Card) → k ≡ c.kind → (end : Ending) (more : List Pair) (last : Card) → IsOver end → walks end more → StepsOf (reset_of c) more last
      → GoesOn walks [] c
  goes_from c kind end [] last over walk steps = record { end = end; over = over; more = []; last = c; steps = refl; walk = walk }
  goes_from c kind end (p ∷ more) last over walk steps =
      let is : IsReset k p.0 = begin end (p ∷ more) walk in
      let a = fresh_after k p.0 (reset_of c) p.1 steps.0 is kind steps.1 in
      let step : Step p.0 c p.1 steps.0 = subst (λ r. Step p.0 c r steps.0) (sym a.sent)
      (step_afresh k p.0 c steps.0 is kind (keeps_trans c (reset_of c) steps.0 (reset_keeps c) a.keeps) a.fresh) in
      record { end = end; over = over; more = p ∷ more; last = last; steps = (steps.0, step, steps.2); walk = walk }

  goes_anywhere : (c : Card) → k ≡ c.kind → IsOfProfile c → IsAtStart (reset_of c) → (es : List Pair) (last : Card) → walks Open es → StepsOf c es last
      → GoesOn walks es last
  goes_anywhere c kind profile start [] last walk steps =
      let l = well.goes_on (reset_of c) kind start [] (reset_of c) walk refl in
      subst (λ c. GoesOn walks [] c) steps (goes_from c kind l.end l.more l.last l.over l.walk l.steps)
  goes_anywhere c kind profile start (p ∷ es) last walk steps =
      let s = card_start Open p es c steps.0 kind profile walk steps.1 in
      well.goes_on steps.0 s.0 s.1 (p ∷ es) last walk (steps.0, s.2, steps.2)

pub runs_anywhere : (k : Kind) (walks : Walks) (most : ℕ) → BeginWithReset k walks → RunsWell k walks most → RunsWellAnywhere k walks most
runs_anywhere k walks most begin well = record {
  good = good_anywhere k walks most begin well;
  goes_on = λ c kind profile. goes_anywhere k walks most begin well c kind profile (reset_start k c kind profile);
}

-- the walks of a script whose text begins with CMD0
pub scripts_anywhere : (k : Kind) (names : Declared) (body : Statements) (most : ℕ) → begins k body ≡ true → RunsWell k (Walk k names body) most
    → RunsWellAnywhere k (Walk k names body) most
scripts_anywhere k names body most is well = runs_anywhere k (Walk k names body) most (walks_begin k names body is) well

-- where no script begins with CMD0, the card is before its first command
pub start_only : (c : Card) → MayStart false c → IsAtStart c
start_only c (inl start) = start
start_only c (inr (is, profile)) = absurd (let e : false ≡ true = is in cc)

-- whichever it is, it is of the profile
pub profile_of : (begins : Bool) (c : Card) → MayStart begins c → IsOfProfile c
profile_of begins c (inl start) = start.profile
profile_of begins c (inr (is, profile)) = profile

-- EVENTS THAT A HOST MAKES

-- a host that knows nothing of the card but what is due
abbrev host_beside : Card → Host
host_beside c = record (host_at_start 0) { announced = c.announced; register_length = 1 }

pair_beside : (k : Kind) (c : Card) → k ≡ c.kind → IsOfProfile c → IsPair k c (host_beside c)
pair_beside k c kind profile =
    let p = pair_anywhere k c 0 kind profile in
    record { kind = p.kind; card = p.card; lines = p.lines; flags = p.flags; rca = p.rca }

sound_beside : (c : Card) → Sound c (host_beside c)
sound_beside c = record {
  csd = λ bytes e. absurd (let f : None ≡ Some bytes = e in cc);
  ext_csd = λ bytes emmc e. absurd (let f : None ≡ Some bytes = e in cc);
  blocks = λ due. refl;
  register = λ due. omega arith;
}

reset_on_card : (k : Kind) (event : ScriptEvent) (c : Card) → IsReset k event → PhaseOnCard event c
reset_on_card k (SendCommand ask position argument) c is = tt
reset_on_card k (ReceiveBlocks lines count) c is = absurd is
reset_on_card k (ReceiveRegister lines count) c is = absurd is
reset_on_card k (GiveBlocks lines blocks) c is = absurd is
reset_on_card k AwaitReady c is = absurd is

reset_made : (k : Kind) (event : ScriptEvent) (c : Card) → IsReset k event → k ≡ c.kind → IsOfProfile c → IsMade k event c
reset_made k event c is kind profile = record {
  host = host_beside c;
  fine = record {
    pair = pair_beside k c kind profile;
    made = makes_reset k event (host_beside c) is;
    legal = reset_legal k event c is kind;
    bounds = reset_in_bounds k event c is;
    on_card = reset_on_card k event c is;
  };
  honest = record { pair = pair_beside k c kind profile; profile = profile; sound = sound_beside c };
}

module _ (k : Kind) (walks : Walks) (begin : BeginWithReset k walks)
    (made : (c : Card) → k ≡ c.kind → IsAtStart c → (e : Ending) (es : List Pair) → walks e es → EachIsMade k es c) where
  pub made_anywhere : (c : Card) → k ≡ c.kind → IsOfProfile c → (e : Ending) (es : List Pair) → walks e es → EachIsMade k es c
  made_anywhere c kind profile e [] walk front event returned back u is steps = absurd (none_within front (event, returned) back is)
  made_anywhere c kind profile e (p ∷ rest) walk [] event returned back u is steps =
      let same : p ≡ (event, returned) = cc in
      subst (λ c. IsMade k event c) steps
      (reset_made k event c (subst (λ (p : Pair). IsReset k p.0) same (begin e (p ∷ rest) walk)) kind profile)
  made_anywhere c kind profile e (p ∷ rest) walk (q ∷ front) event returned back u is steps =
      let same : q ≡ p = cc in
      let step : Step p.0 c p.1 steps.0 = subst (λ (p : Pair). Step p.0 c p.1 steps.0) same steps.1 in
      let reset : IsReset k p.0 = begin e (p ∷ rest) walk in
      let a = fresh_after k p.0 c p.1 steps.0 reset kind step in
      let again : Step p.0 steps.0 p.1 steps.0 = step_again k p.0 c p.1 steps.0 reset kind step in
      made steps.0 (kind ∙ a.keeps.same.kind) (start_after k p.0 c p.1 steps.0 reset kind profile step) e (p ∷ rest) walk (q ∷ front) event returned back u is
      (steps.0, subst (λ (p : Pair). Step p.0 steps.0 p.1 steps.0) (sym same) again, steps.2)
