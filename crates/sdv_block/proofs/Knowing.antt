-- QUIET COMMANDS: what the host knows of the card stays true, and the script goes on or ends in a fault of its own.
use Rattle.std.proofs.Common.{◌≡◌, ℕ, inl, inr, refl, sym, ap, ◌∙◌, true, false, List, [], ◌∷◌, ◌++◌, append_assoc}
use Rattle.std.specs.Prelude.{◌⊎◌, codes}
use Rattle.std.specs.Str.{bytes_eq}
use Rattle.sdv_registers.specs.declared.kind.Kind.{Kind}
use Rattle.sdv_card.specs.declared.answer.Answer.{Answer}
use Rattle.sdv_card.specs.declared.guard.Guard.{Guard}
use Rattle.sdv_card.specs.Card.{Card}
use Rattle.sdv_card.specs.CommandTable.{order_of}
use Rattle.sdv_card.specs.Host.{Host, host_after}
use Rattle.sdv_card.specs.HostEvents.{Makes}
use Rattle.sdv_card.specs.Profile.{IsOfProfile}
use Rattle.sdv_card.specs.ScriptEvent.{ScriptEvent, Answered}
use Rattle.sdv_card.specs.Shapes.{IsPair}
use Rattle.sdv_card.specs.Step.{Sends}
use Rattle.sdv_card.specs.Taken.{SameCard}
use Rattle.sdv_graph.specs.declared.tree.ScriptCommand.{ScriptCommand}
use Rattle.sdv_graph.specs.AddressSent.{address_of_command}
use Rattle.sdv_graph.specs.Tree.{nothing, Ways, otherwise, send}
use Rattle.sdv_graph.specs.Walk.{Pair, Ending, Open, Failed, Rest, Stops, all_pass, walk_statement}
use Rattle.sdv_facts.specs.Beside.{IsAllowed}
use Rattle.sdv_facts.specs.Keeps.{IsHonest}
use Rattle.sdv_card.proofs.KeepPairs.{steps_keep_pairs}
use Rattle.sdv_card.proofs.KeepSound.{steps_keep_sound}
use Rattle.sdv_block.specs.RequestStatements.{only_if}
use Rattle.sdv_block.specs.Served.{AllowedSteps}
use Rattle.sdv_block.proofs.Addresses.{order_flags}
use Rattle.sdv_block.proofs.CardSteps.{Spares, send_keeps, send_same}
use Rattle.sdv_block.proofs.Parts.{Halts, halts_in_fault, either, argument_at, command_at, Sent, send_part, Past}
use Rattle.sdv_block.proofs.Quiet.{Quiet, quiet_both, HaltedQuiet, halted_later, halted_here}
use Rattle.sdv_block.proofs.UserArea.{send_user}
use Rattle.sdv_facts.proofs.StepLaws.{order_numbers}

-- WHAT A HOST KNOWS

pub record Knowing (k : Kind) (c : Card) (h : Host) (front : List Pair) (u : Card) (h' : Host) : Type 0 where
  pub quiet : Quiet c h front u h'
  pub honest : IsHonest k u h'
  pub numbers : h'.numbers ≡ h.numbers

pub profile_kept : (c u : Card) (k : Kind) (h : Host) → IsPair k u h → SameCard c u → IsOfProfile c → IsOfProfile u
profile_kept c u k h pair same of = record {
  card = pair.card;
  version = rw (sym same.kind, sym same.version, sym same.block_unit) of.version;
  least = rw (sym same.capacity) of.least;
  most = rw (sym same.capacity, sym same.kind, sym same.block_unit) of.most;
  readable = rw (sym same.kind, sym same.csd) of.readable;
  told = rw (sym same.kind, sym same.block_unit, sym same.csd, sym same.ext_csd, sym same.capacity) of.told;
  told_boot = rw (sym same.kind, sym same.ext_csd, sym same.boot_capacity) of.told_boot;
}

pub known_after : (k : Kind) (command : ScriptCommand) (position : ℕ) (c u : Card) (h : Host) (answer : Answer) → Spares command.ask.index
    → IsHonest k c h →
    IsAllowed (command_at k command h position) c → Sends command.ask (argument_at k command h position) c answer u →
    Knowing k c h ((command_at k command h position, Answered answer) ∷ []) u (host_after k (command_at k command h position) (Answered answer) h)
known_after k command position c u h answer other honest allowed s =
    let event : ScriptEvent = command_at k command h position in
    let h' : Host = host_after k event (Answered answer) h in
    let made : Makes k event h = record { address = address_of_command h command.address position; same = refl } in
    let same : SameCard c u = send_same command.ask (argument_at k command h position) c u answer s in
    let pair : IsPair k u h' = steps_keep_pairs k event c h (Answered answer) u honest.pair made s in
    record {
      quiet = record {
        same = same;
        contents = send_keeps command.ask (argument_at k command h position) c u answer other.no_erase s;
        user = λ user. send_user command.ask (argument_at k command h position) c u answer other.no_switch s user;
        read = refl;
        gave = refl;
        flags =
            order_flags (order_of k command.ask) answer h;
      };
      honest = record {
        pair = pair;
        profile = profile_kept c u k h' pair same honest.profile;
        sound = steps_keep_sound k event c h (Answered answer) u honest.pair made allowed.legal s honest.sound;
      };
      numbers = order_numbers (order_of k command.ask) answer h;
    }

-- ONE PART AFTER ANOTHER

pub and_on : (k : Kind) (e : Ending) (next after : Rest) (h : Host) (es : List Pair) (c last : Card) → (w : Past (Knowing k c h) next es last) →
    HaltedQuiet e w.rest w.card last ⊎ Past (Knowing k w.card w.host) after w.rest last → HaltedQuiet e es c last ⊎ Past (Knowing k c h) after es last
and_on k e next after h es c last w (inl halt) = inl (halted_later e es w.front w.rest c w.card last h w.host w.split w.did.quiet halt)
and_on k e next after h es c last w (inr r) = inr (record {
  front = w.front ++ r.front;
  rest = r.rest;
  card = r.card;
  host = r.host;
  split = w.split ∙ (ap (λ (es : List Pair). w.front ++ es) r.split ∙ sym (append_assoc w.front r.front r.rest));
  did = record {
    quiet = quiet_both c w.card r.card h w.host r.host w.front r.front w.did.quiet r.did.quiet;
    honest = r.did.honest;
    numbers = r.did.numbers ∙ w.did.numbers;
  };
  on = r.on;
  steps = r.steps;
})

-- A COMMAND

module _ (k : Kind) (e : Ending) (command : ScriptCommand) (other : Spares command.ask.index) (fell broke : Rest) (h : Host) (es : List Pair) (c last : Card)
    (honest : IsHonest k c h) where
  abbrev Outcome : Type 0
  Outcome = HaltedQuiet e es c last ⊎ Past (Knowing k c h) fell es last

  abbrev SentIt : Ways → Type 0
  SentIt ways = Sent k e command ways fell broke h es c last

  known : (ways : Ways) (s : SentIt ways) →
      Knowing k c h ((command_at k command h s.position, Answered s.answer) ∷ []) s.after
      (host_after k (command_at k command h s.position) (Answered s.answer) h)
  known ways s = known_after k command s.position c s.after h s.answer other honest s.allowed s.sends

  passed : (ways : Ways) (s : SentIt ways) → fell (host_after k (command_at k command h s.position) (Answered s.answer) h) s.rest → Outcome
  passed ways s on = inr (record {
    front = (command_at k command h s.position, Answered s.answer) ∷ [];
    rest = s.rest;
    card = s.after;
    host = host_after k (command_at k command h s.position) (Answered s.answer) h;
    split = s.same;
    did = known ways s;
    on = on;
    steps = s.steps;
  })

  pub faulted : (ways : Ways) (s : SentIt ways) (name : List ℕ) → bytes_eq name (codes "beyond") ≡ false → Stops e Open s.rest ⊎ Stops e (Failed name) s.rest →
      HaltedQuiet e es c last
  faulted ways s name early f = halted_later e es ((command_at k command h s.position, Answered s.answer) ∷ []) s.rest c s.after last h
      (host_after k (command_at k command h s.position) (Answered s.answer) h) s.same (known ways s).quiet
      (halted_here e s.rest s.after last (halts_in_fault e name s.rest early f) s.steps)

  -- whatever is answered
  of_anyway : Halts e es ⊎ SentIt (otherwise nothing) → AllowedSteps c es last → Outcome
  of_anyway (inl halt) steps = inl (halted_here e es c last halt steps)
  of_anyway (inr s) steps = passed (otherwise nothing) s s.on

  pub anyway_part : walk_statement k e (send command (otherwise nothing)) fell broke h es → AllowedSteps c es last → Outcome
  anyway_part walk steps = of_anyway (send_part k e command (otherwise nothing) fell broke h es c last walk steps) steps

  -- where the guards hold
  guarded : (guards : List Guard) (name : List ℕ) → bytes_eq name (codes "beyond") ≡ false → (s : SentIt (only_if guards name)) →
      ((all_pass k guards (Answered s.answer) ≡ true) × fell (host_after k (command_at k command h s.position) (Answered s.answer) h) s.rest)
      ⊎ ((all_pass k guards (Answered s.answer) ≡ false) × (Stops e Open s.rest ⊎ Stops e (Failed name) s.rest)) → Outcome
  guarded guards name early s (inl x) = passed (only_if guards name) s x.1
  guarded guards name early s (inr x) = inl (faulted (only_if guards name) s name early x.1)

  of_guarded : (guards : List Guard) (name : List ℕ) → bytes_eq name (codes "beyond") ≡ false → Halts e es ⊎ SentIt (only_if guards name) →
      AllowedSteps c es last → Outcome
  of_guarded guards name early (inl halt) steps = inl (halted_here e es c last halt steps)
  of_guarded guards name early (inr s) steps = guarded guards name early s
      (either (fell (host_after k (command_at k command h s.position) (Answered s.answer) h) s.rest) (Stops e Open s.rest ⊎ Stops e (Failed name) s.rest)
      (all_pass k guards (Answered s.answer)) s.on)

  pub guarded_part : (guards : List Guard) (name : List ℕ) → bytes_eq name (codes "beyond") ≡ false →
      walk_statement k e (send command (only_if guards name)) fell broke h es → AllowedSteps c es last → Outcome
  guarded_part guards name early walk steps = of_guarded guards name early (send_part k e command (only_if guards name) fell broke h es c last walk steps) steps
