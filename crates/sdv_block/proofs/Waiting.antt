-- WAITING while a card programs: the loop halts, or goes on with the card as it was but for its state.
use Rattle.std.proofs.Common.{◌≡◌, ℕ, zero, suc, inl, inr, refl, ap, subst, ◌∙◌, List, [], ◌∷◌}
use Rattle.std.specs.Prelude.{◌⊎◌, codes}
use Rattle.sdv_registers.specs.declared.kind.Kind.{Kind}
use Rattle.sdv_card.specs.declared.answer.WaitEnd.TheVariants.{Ok as Over, Late}
use Rattle.sdv_card.specs.Card.{Card}
use Rattle.sdv_card.specs.Host.{Host, host_after}
use Rattle.sdv_card.specs.ScriptEvent.{AwaitReady, Return, Waited}
use Rattle.sdv_card.specs.Step.{Step}
use Rattle.sdv_graph.specs.declared.tree.Phase.TheVariants as phases
use Rattle.sdv_graph.specs.Tree.{nothing, first, phase, break}
use Rattle.sdv_graph.specs.Walk.{Pair, Ending, Open, Rest, exactly, rounds, walk_statements}
use Rattle.sdv_card.proofs.Same.{steps_keep_same}
use Rattle.sdv_block.specs.RequestStatements.{fails}
use Rattle.sdv_block.specs.Served.{AllowedSteps}
use Rattle.sdv_block.proofs.Parts.{Halts, halts, halts_in_fault, Acted, made, after_phase, phase_part, Past}
use Rattle.sdv_block.proofs.Quiet.{Quiet, quiet_both, HaltedQuiet, halted_later, halted_here}
use Rattle.sdv_block.proofs.UserArea.{IsUser}

-- an error that is still to be shown stays so
pub record ErrorKept (c : Card) (h : Host) (front : List Pair) (u : Card) (h' : Host) : Type 0 where
  pub quiet : Quiet c h front u h'
  pub error : c.unshown_error ≡ u.unshown_error

module _ (k : Kind) (e : Ending) (fell broke : Rest) where
  -- wait { ok { break } else { } }
  abbrev body : Rest → Rest
  body again = walk_statements k e (first (phase phases.Wait (first break nothing) nothing) nothing) again fell

  -- the loop's else block
  abbrev other : Rest
  other = walk_statements k e (fails (codes "busy")) fell broke

  abbrev WaitOutcome : Host → List Pair → (c last : Card) → Type 0
  WaitOutcome h es c last = HaltedQuiet e es c last ⊎ Past (ErrorKept c h) fell es last

  waited : (c v : Card) (h : Host) (returned : Return) → Step AwaitReady c returned v →
      ErrorKept c h ((AwaitReady, returned) ∷ []) v (host_after k AwaitReady returned h)
  waited c v h (Waited end) step = record {
    quiet = record {
      same = steps_keep_same c.kind AwaitReady c (Waited end) v refl step;
      contents = ap (λ (x : Card). x.contents) step.card;
      user = λ user. subst (λ (x : Card). IsUser x) step.card user;
      read = refl;
      gave = refl;
      flags = refl;
    };
    error = ap (λ (x : Card). x.unshown_error) step.card;
  }
  waited c v h returned step = absurd step

  -- one more turn before what came of the others
  one_more : (c v last : Card) (h : Host) (returned : Return) (es rest : List Pair) → es ≡ (AwaitReady, returned) ∷ rest → Step AwaitReady c returned v →
      host_after k AwaitReady returned h ≡ h →
      WaitOutcome h rest v last → WaitOutcome h es c last
  one_more c v last h returned es rest same step host (inl halt) =
      inl (halted_later e es ((AwaitReady, returned) ∷ []) rest c v last h (host_after k AwaitReady returned h) same (waited c v h returned step).quiet halt)
  one_more c v last h returned es rest same step host (inr r) =
      let w = waited c v h returned step in
      inr (record {
        front = (AwaitReady, returned) ∷ r.front;
        rest = r.rest;
        card = r.card;
        host = r.host;
        split = same ∙ ap (λ (es : List Pair). (AwaitReady, returned) ∷ es) r.split;
        did = record {
          quiet = quiet_both c v r.card h h r.host ((AwaitReady, returned) ∷ []) r.front
              (record {
                same = w.quiet.same;
                contents = w.quiet.contents;
                user = w.quiet.user;
                read = w.quiet.read;
                gave = w.quiet.gave;
                flags = refl;
              }) r.did.quiet;
          error = w.error ∙ r.did.error;
        };
        on = r.on;
        steps = r.steps;
      })

  turn : (again : Rest) (h : Host) (es : List Pair) (c last : Card) →
      ((es : List Pair) (c : Card) → again h es → AllowedSteps c es last → WaitOutcome h es c last) →
      (returned : Return) (rest : List Pair) (v : Card) → es ≡ (AwaitReady, returned) ∷ rest → Step AwaitReady c returned v →
      after_phase k e (first break nothing) nothing again fell returned (host_after k AwaitReady returned h) rest → AllowedSteps v rest last →
      WaitOutcome h es c last
  turn again h es c last later (Waited Over) rest v same step (inl s) steps =
      inl (halted_later e es ((AwaitReady, Waited Over) ∷ []) rest c v last h h same (waited c v h (Waited Over) step).quiet
      (halted_here e rest v last (halts e Open rest tt s) steps))
  turn again h es c last later (Waited Over) rest v same step (inr on) steps = inr (record {
    front = (AwaitReady, Waited Over) ∷ [];
    rest = rest;
    card = v;
    host = h;
    split = same;
    did = waited c v h (Waited Over) step;
    on = on;
    steps = steps;
  })
  turn again h es c last later (Waited Late) rest v same step on steps = one_more c v last h (Waited Late) es rest same step refl (later rest v on steps)
  turn again h es c last later returned rest v same step on steps = absurd step

  turn_part : (again : Rest) (h : Host) (es : List Pair) (c last : Card) →
      ((es : List Pair) (c : Card) → again h es → AllowedSteps c es last → WaitOutcome h es c last) →
      AllowedSteps c es last → Halts e es ⊎ Acted k (exactly AwaitReady) h (after_phase k e (first break nothing) nothing again fell) es c last →
      WaitOutcome h es c last
  turn_part again h es c last later steps (inl halt) = inl (halted_here e es c last halt steps)
  turn_part again h es c last later steps (inr a) =
      let m = made k AwaitReady h (after_phase k e (first break nothing) nothing again fell) es c last a in
      turn again h es c last later m.returned m.rest m.after m.same m.step m.on m.steps

  pub wait_part : (n : ℕ) (h : Host) (last : Card) (es : List Pair) (c : Card) → rounds e n body other h es → AllowedSteps c es last → WaitOutcome h es c last
  wait_part zero h last es c (inl s) steps = inl (halted_here e es c last (halts e Open es tt s) steps)
  wait_part zero h last es c (inr w) steps = inl (halted_here e es c last (halts_in_fault e (codes "busy") es refl w) steps)
  wait_part (suc n) h last es c (inl s) steps = inl (halted_here e es c last (halts e Open es tt s) steps)
  wait_part (suc n) h last es c (inr w) steps =
      turn_part (rounds e n body other) h es c last (wait_part n h last) steps
      (phase_part k e phases.Wait (first break nothing) nothing (rounds e n body other) fell h es c last w steps)
