-- STOPPING a transfer of several blocks: the walk halts, or goes on with the card's blocks as they were.
use Rattle.std.proofs.Common.{◌≡◌, ℕ, zero, suc, inl, inr, refl, Bool, true, false, List, [], ◌∷◌}
use Rattle.std.specs.Prelude.{◌⊎◌, codes}
use Rattle.sdv_registers.specs.declared.kind.Kind.{Kind}
use Rattle.sdv_card.specs.declared.guard.Guard.{Guard}
use Rattle.sdv_card.specs.declared.guard.Guard.TheVariants.{Answer, Clean, State as InState}
use Rattle.sdv_card.specs.declared.state.State.TheVariants.{Tran}
use Rattle.sdv_card.specs.Card.{Card}
use Rattle.sdv_card.specs.Host.{Host}
use Rattle.sdv_card.specs.ScriptEvent.{Answered}
use Rattle.sdv_graph.specs.Tree.{Statements, nothing, first, send}
use Rattle.sdv_graph.specs.Walk.{Pair, Ending, Open, Failed, Rest, Stops, Either, all_pass, rounds, walk_statements}
use Rattle.sdv_card.proofs.Members.{and_left}
use Rattle.sdv_block.specs.RequestStatements.{stop_command, status_command, status_ways, fails, only_if, poll_statement, stop_reading, stop_writing}
use Rattle.sdv_block.specs.Served.{AllowedSteps}
use Rattle.sdv_block.proofs.Asking.{Asked, asked, host, quiet_command, faulted, asked_part}
use Rattle.sdv_block.proofs.CardSteps.{status_keeps, stop_keeps, stop_keeps_error}
use Rattle.sdv_block.proofs.Parts.{Halts, halts, halts_in_fault, either, argument_at, Sent, send_part, Past, past_both, past_here}
use Rattle.sdv_block.proofs.Quiet.{Quiet, quiet_none, quiet_both, HaltedQuiet, halted_later, halted_here}
use Rattle.sdv_block.proofs.Waiting.{ErrorKept}

-- a quiet part halted, or was passed
abbrev pub QuietOutcome : Rest → Ending → Host → List Pair → (c last : Card) → Type 0
QuietOutcome after e h es c last = HaltedQuiet e es c last ⊎ Past (Quiet c h) after es last

-- a quiet part after another
pub quiet_then : (next after : Rest) (e : Ending) (h : Host) (es : List Pair) (c last : Card) (w : Past (Quiet c h) next es last) →
    QuietOutcome after e w.host w.rest w.card last →
    QuietOutcome after e h es c last
quiet_then next after e h es c last w (inl halt) = inl (halted_later e es w.front w.rest c w.card last h w.host w.split w.did halt)
quiet_then next after e h es c last w (inr r) = inr (past_both next after es last w r (quiet_both c w.card r.card h w.host r.host w.front r.front w.did r.did))

-- ASKING FOR THE STATUS until the card is in transfer state

module _ (k : Kind) (e : Ending) (fell broke : Rest) where
  -- send 13 { clean & state=tran { break } answer { } else { fault read } }
  abbrev body : Rest → Rest
  body again = walk_statements k e (first (send status_command status_ways) nothing) again fell

  abbrev other : Rest
  other = walk_statements k e (fails (codes "read")) fell broke

  module _ (again : Rest) (h : Host) (es : List Pair) (c last : Card) where
    abbrev SentStatus : Type 0
    SentStatus = Sent k e status_command status_ways again fell h es c last

    abbrev after : SentStatus → Host
    after s = host k e status_command status_ways status_keeps again fell h es c last s

    -- the command, and what comes after it
    past_command : (s : SentStatus) (next : Rest) → next (after s) s.rest → Past (Quiet c h) next es last
    past_command s next on = record {
      front = asked k e status_command status_ways status_keeps again fell h es c last s ∷ [];
      rest = s.rest;
      card = s.after;
      host = after s;
      split = s.same;
      did = quiet_command k e status_command status_ways status_keeps again fell h es c last s;
      on = on;
      steps = s.steps;
    }

    abbrev passes_in_tran : SentStatus → Bool
    passes_in_tran s = all_pass k (Clean ∷ InState Tran ∷ []) (Answered s.answer)

    abbrev passes_answered : SentStatus → Bool
    passes_answered s = all_pass k (Answer ∷ []) (Answered s.answer)

    abbrev Faulted : SentStatus → Type 0
    Faulted s = Stops e Open s.rest ⊎ Stops e (Failed (codes "read")) s.rest

    -- the break
    broken : (s : SentStatus) → Stops e Open s.rest ⊎ fell (after s) s.rest → QuietOutcome fell e h es c last
    broken s (inl stop) =
        inl (halted_later e es (asked k e status_command status_ways status_keeps again fell h es c last s ∷ []) s.rest c s.after last h (after s) s.same
        (quiet_command k e status_command status_ways status_keeps again fell h es c last s)
        (halted_here e s.rest s.after last (halts e Open s.rest tt stop) s.steps))
    broken s (inr on) = inr (past_command s fell on)

    -- another turn, or the fault
    unbroken : (s : SentStatus) → ((h : Host) (es : List Pair) (c : Card) → again h es → AllowedSteps c es last → QuietOutcome fell e h es c last) →
        ((passes_answered s ≡ true) × again (after s) s.rest) ⊎ ((passes_answered s ≡ false) × Faulted s) → QuietOutcome fell e h es c last
    unfolding past_command
    unbroken s later (inl x) = quiet_then again fell e h es c last (past_command s again x.1) (later (after s) s.rest s.after x.1 s.steps)
    unbroken s later (inr x) = inl (faulted k e status_command status_ways status_keeps again fell h es c last s (codes "read") refl x.1)

    abbrev Unbroken : SentStatus → Type 0
    Unbroken s = Either (passes_answered s) (again (after s) s.rest) (Faulted s)

    abbrev Broken : SentStatus → Type 0
    Broken s = Stops e Open s.rest ⊎ fell (after s) s.rest

    by_answer : (s : SentStatus) → ((h : Host) (es : List Pair) (c : Card) → again h es → AllowedSteps c es last → QuietOutcome fell e h es c last) →
        ((passes_in_tran s ≡ true) × Broken s) ⊎ ((passes_in_tran s ≡ false) × Unbroken s) → QuietOutcome fell e h es c last
    by_answer s later (inl x) = broken s x.1
    by_answer s later (inr x) = unbroken s later (either (again (after s) s.rest) (Faulted s) (passes_answered s) x.1)

    turn : ((h : Host) (es : List Pair) (c : Card) → again h es → AllowedSteps c es last → QuietOutcome fell e h es c last) → AllowedSteps c es last →
        Halts e es ⊎ SentStatus → QuietOutcome fell e h es c last
    turn later steps (inl halt) = inl (halted_here e es c last halt steps)
    turn later steps (inr s) = by_answer s later (either (Broken s) (Unbroken s) (passes_in_tran s) s.on)

  pub poll_part : (n : ℕ) (last : Card) (h : Host) (es : List Pair) (c : Card) → rounds e n body other h es → AllowedSteps c es last →
      QuietOutcome fell e h es c last
  poll_part zero last h es c (inl s) steps = inl (halted_here e es c last (halts e Open es tt s) steps)
  poll_part zero last h es c (inr w) steps = inl (halted_here e es c last (halts_in_fault e (codes "read") es refl w) steps)
  poll_part (suc n) last h es c (inl s) steps = inl (halted_here e es c last (halts e Open es tt s) steps)
  poll_part (suc n) last h es c (inr w) steps =
      turn (rounds e n body other) h es c last (poll_part n last) steps
      (send_part k e status_command status_ways (rounds e n body other) fell h es c last w steps)

-- AFTER A READ

module _ (k : Kind) (e : Ending) (rest : Statements) (fell broke : Rest) (h : Host) (es : List Pair) (c last : Card) where
  abbrev on : Rest
  on = walk_statements k e rest fell broke

  -- the command and the polling
  abbrev stopping : Statements
  stopping = first (send stop_command (only_if (Answer ∷ []) (codes "read"))) (first poll_statement rest)

  abbrev polling : Rest
  polling = walk_statements k e (first poll_statement rest) fell broke

  quieted : {guards : List Guard} (next : Rest) → Past (Asked k stop_command guards c h) next es last → Past (Quiet c h) next es last
  quieted next w =
      record { front = w.front; rest = w.rest; card = w.card; host = w.host; split = w.split; did = w.did.quiet; on = w.on; steps = w.steps }

  of_stopped : HaltedQuiet e es c last ⊎ Past (Asked k stop_command (Answer ∷ []) c h) polling es last → QuietOutcome on e h es c last
  unfolding quieted
  of_stopped (inl halt) = inl halt
  of_stopped (inr w) = quiet_then polling on e h es c last (quieted polling w) (poll_part k e on broke 1000 last w.host w.rest w.card w.on w.steps)

  stopping_part : walk_statements k e stopping fell broke h es → AllowedSteps c es last → QuietOutcome on e h es c last
  stopping_part walk steps = of_stopped (asked_part k e stop_command (Answer ∷ []) (codes "read") stop_keeps refl polling broke h es c last walk steps)

  pub stop_reading_part : (count : ℕ) → walk_statements k e (stop_reading count rest) fell broke h es → AllowedSteps c es last → QuietOutcome on e h es c last
  stop_reading_part zero walk steps = stopping_part walk steps
  stop_reading_part (suc zero) walk steps = inr (past_here on h es c last walk steps (quiet_none c h))
  stop_reading_part (suc (suc n)) walk steps = stopping_part walk steps

  -- AFTER A WRITE

  abbrev KeptOutcome : Type 0
  KeptOutcome = HaltedQuiet e es c last ⊎ Past (ErrorKept c h) on es last

  of_stopped_write : HaltedQuiet e es c last ⊎ Past (Asked k stop_command (Clean ∷ []) c h) on es last → KeptOutcome
  of_stopped_write (inl halt) = inl halt
  of_stopped_write (inr w) = inr (record {
    front = w.front;
    rest = w.rest;
    card = w.card;
    host = w.host;
    split = w.split;
    did = record {
      quiet = w.did.quiet;
      error = stop_keeps_error k (argument_at k stop_command h w.did.position) c w.card w.did.answer w.did.sends (and_left _ _ w.did.passed);
    };
    on = w.on;
    steps = w.steps;
  })

  stopped_write_part : walk_statements k e (first (send stop_command (only_if (Clean ∷ []) (codes "write"))) rest) fell broke h es → AllowedSteps c es last →
      KeptOutcome
  stopped_write_part walk steps = of_stopped_write (asked_part k e stop_command (Clean ∷ []) (codes "write") stop_keeps refl on broke h es c last walk steps)

  pub stop_writing_part : (count : ℕ) → walk_statements k e (stop_writing count rest) fell broke h es → AllowedSteps c es last → KeptOutcome
  stop_writing_part zero walk steps = stopped_write_part walk steps
  stop_writing_part (suc zero) walk steps = inr (past_here on h es c last walk steps (record { quiet = quiet_none c h; error = refl }))
  stop_writing_part (suc (suc n)) walk steps = stopped_write_part walk steps
