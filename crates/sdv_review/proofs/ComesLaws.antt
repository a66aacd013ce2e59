-- Wherever a run comes beside a card, what a closed certificate says of the point holds.
use Rattle.std.proofs.Common.{◌≡◌, ℕ, zero, suc, ◌<◌, inl, inr, refl, sym, ◌∙◌, subst, List, Option, Some, None}
use Rattle.std.specs.Prelude.{slice_get, MatchOption}
use Rattle.std.proofs.lemmas.List.{length-replicate}
use Rattle.std.proofs.lemmas.Option.{slice_get_within}
use Rattle.sdv_card.specs.Card.{Card}
use Rattle.sdv_card.specs.Host.{Host}
use Rattle.sdv_card.specs.Laws.{StartHolds}
use Rattle.sdv_card.specs.Profile.{IsAtStart, host_at_start}
use Rattle.sdv_card.specs.Shapes.{pair_code}
use Rattle.sdv_graph.specs.Graph.{Graph, begin}
use Rattle.sdv_graph.specs.GraphOf.{IsSound}
use Rattle.sdv_graph.specs.Path.{Stand, Move, Goes, Does, Halts, move_from}
use Rattle.sdv_graph.specs.Walk.{Pair}
use Rattle.sdv_facts.specs.Closed.{Closed, StartsAt}
use Rattle.sdv_facts.specs.Facts.{PointFacts}
use Rattle.sdv_facts.specs.Stands.{Stands, MovesWell, StepsWell}
use Rattle.sdv_facts.specs.Start.{start_numbers, start_var}
use Rattle.sdv_facts.proofs.Headline.{each_step}
use Rattle.sdv_facts.proofs.StartLaws.{start_holds}
use Rattle.sdv_facts.proofs.StepLaws.{Laws, laws_of, has_point}
use Rattle.sdv_facts.proofs.TestLaws.{target_holds}
use Rattle.sdv_review.specs.Comes.{IsHere, Onward, ComesWithin, Comes}

-- THE START

record First (g : Graph) (ps : List PointFacts) : Type 0 where
  facts : PointFacts
  known : slice_get ps 0 ≡ Some facts
  starts : StartsAt g facts

first_of : (g : Graph) (ps : List PointFacts) (o : Option PointFacts) → slice_get ps 0 ≡ o → MatchOption o ⊥ (λ p. StartsAt g p) → First g ps
first_of g ps None e m = absurd m
first_of g ps (Some p) e m = record { facts = p; known = e; starts = m }

pub begins : (g : Graph) (ps : List PointFacts) → Laws g.kind → IsSound g → Closed g ps → (c : Card) → g.kind ≡ c.kind → IsAtStart c → Stands g ps (begin g) c
begins g ps laws sound closed c kind start =
    let f : First g ps = first_of g ps (slice_get ps 0) refl closed.start in
    let there = has_point g.points 0 (subst (λ n. 0 < n) closed.points.count (slice_get_within ps 0 f.facts f.known)) in
    let h : Host = host_at_start g.numbers in
    let s : StartHolds g.kind c h = laws.starts_hold c g.numbers kind start in
    let matches = closed.points.each 0 there.0 f.facts there.1 f.known in
    record {
      place = there.0;
      here = subst (λ i. slice_get g.points i ≡ Some there.0) (sym sound.nested.first_point) there.1;
      facts = f.facts;
      known = subst (λ i. slice_get ps i ≡ Some f.facts) (sym sound.nested.first_point) f.known;
      box = sound.nested.first_turns there.0 there.1;
      holds = record {
        shape = f.starts.shapes (pair_code c h) s.shape;
        numbers = target_holds f.facts.facts.numbers (start_numbers g.numbers)
            (matches.variables ∙ sym (length-replicate g.numbers start_var)) f.starts.numbers c h (start_holds g.numbers c start.profile);
      };
      honest = record { pair = s.pair; profile = start.profile; sound = s.sound };
      on_card = s.on_card;
    }

-- ONE MOVE AFTER ANOTHER

module _ (g : Graph) (ps : List PointFacts) (well : StepsWell g ps) (t : Stand) (u : Card) where
  here : (s : Stand) (c : Card) (es : List Pair) → Stands g ps s c → IsHere s c es t u → Stands g ps t u
  here s c es at h = subst (λ c. Stands g ps t c) h.card (subst (λ s. Stands g ps s c) h.stand at)

  abbrev Later : ℕ → Type 0
  Later n = (s : Stand) (c : Card) (es : List Pair) → Stands g ps s c → ComesWithin g.kind g.points n t u s c es → Stands g ps t u

  moved : (n : ℕ) (m : Move) (most : ℕ) (c : Card) (es : List Pair) → MovesWell g ps most m c → Onward g.kind (ComesWithin g.kind g.points n t u) m c es
      → Later n → Stands g ps t u
  moved n (Goes next) most c es a on later = later next c es a.stands on
  moved n (Does deed h next) most c es a on later =
      let b = (a on.event on.is).1 on.returned on.after on.step in
      later _ on.after on.rest b.stands on.on
  moved n (Halts last) most c es a on later = absurd on

  came : (n : ℕ) → Later n
  came zero s c es at h = here s c es at h
  came (suc n) s c es at (inl h) = here s c es at h
  came (suc n) s c es at (inr on) = moved n (move_from g.kind g.points s) _ c es (well s c at) on (came n)

-- what the certificate says of the point holds there
pub stands_there : (g : Graph) (ps : List PointFacts) → IsSound g → Closed g ps → (c : Card) (es : List Pair) (s : Stand) (u : Card) → Comes g c es s u
    → Stands g ps s u
stands_there g ps sound closed c es s u run =
    came g ps (each_step g ps (laws_of g.kind) sound closed) s u run.moves (begin g) c es
    (begins g ps (laws_of g.kind) sound closed c run.kind run.start) run.comes
