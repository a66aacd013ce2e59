-- A READ beside a card: the walk halts with the card's blocks as they were, or goes on with the blocks read.
use Rattle.std.proofs.Common.{◌≡◌, ℕ, ◌+◌, ◌≤◌, inl, inr, refl, sym, ap, ◌∙◌, List, [], ◌∷◌, ◌++◌, take, drop, append-nil}
use Rattle.std.specs.Prelude.{◌⊎◌, codes}
use Rattle.sdv_registers.specs.declared.kind.Kind.{Kind}
use Rattle.sdv_card.specs.declared.answer.DataEnd.TheVariants.{Ok, Cut}
use Rattle.sdv_card.specs.declared.guard.Guard.TheVariants.{Clean}
use Rattle.sdv_card.specs.declared.state.Width.{Width}
use Rattle.sdv_card.specs.Card.{Card, Block}
use Rattle.sdv_card.specs.Host.{Host, host_after}
use Rattle.sdv_card.specs.ScriptEvent.{ReceiveBlocks, Return, BlocksIn}
use Rattle.sdv_card.specs.Step.{Step}
use Rattle.sdv_card.specs.Taken.{SameCard}
use Rattle.sdv_graph.specs.declared.tree.Phase.TheVariants as phases
use Rattle.sdv_graph.specs.Tree.{Statements, nothing, first, phase}
use Rattle.sdv_graph.specs.Walk.{Pair, Ending, Rest, exactly, walk_statements, given}
use Rattle.sdv_card.proofs.Members.{and_left}
use Rattle.sdv_card.proofs.Same.{same_both, steps_keep_same}
use Rattle.sdv_block.specs.RequestStatements.{read_command, fails, stop_reading, read_statements}
use Rattle.sdv_block.specs.Served.{AllowedSteps, IsEarly, blocks_read, disk_blocks}
use Rattle.sdv_block.proofs.Addresses.{position_is, named, named_within}
use Rattle.sdv_block.proofs.Asking.{Asked, asked_part}
use Rattle.sdv_block.proofs.CardSteps.{Begun, read_begun, read_keeps, read_within}
use Rattle.sdv_block.proofs.Quiet.{HaltedQuiet, halted_later, halted_here, at_rest, moved_contents, blocks_read-append, gave_none}
use Rattle.sdv_block.proofs.Parts.{Halts, halts_in_fault, Acted, made, argument_at, after_phase, phase_part, Past, past_both}
use Rattle.sdv_block.proofs.Stopping.{QuietOutcome, stop_reading_part}
use Rattle.sdv_block.proofs.UserArea.{IsUser, moved_user, same_disks, user_truth}

-- it read the blocks, and changed nothing
pub record ReadBlocks (block count : ℕ) (c : Card) (front : List Pair) (u : Card) (h : Host) : Type 0 where
  pub same : SameCard c u
  pub contents : c.contents ≡ u.contents
  pub user : IsUser u
  pub read : blocks_read front ≡ take count (drop block (disk_blocks c))
  pub gave : given front ≡ []
  pub room : block + count ≤ c.capacity

-- it halted after it had read the blocks
pub record HaltedRead (block count : ℕ) (e : Ending) (es : List Pair) (c last : Card) : Type 0 where
  pub early : IsEarly e
  pub contents : c.contents ≡ last.contents
  pub read : blocks_read es ≡ take count (drop block (disk_blocks c))
  pub gave : given es ≡ []
  pub room : block + count ≤ c.capacity

-- the blocks of the phase are those that were named
phase_blocks : (announced next : ℕ) (blocks contents : List Block) (count block : ℕ) → count ≡ announced → block ≡ next →
    blocks ≡ take announced (drop next contents) →
    blocks ≡ take count (drop block contents)
phase_blocks announced next blocks contents count block e f truth = rw (e, f) truth

-- what was read, where nothing is read before and after it
read_alone : (f g : List Pair) (blocks : List Block) → blocks_read f ≡ [] → blocks_read g ≡ blocks → blocks_read (f ++ g) ≡ blocks
read_alone f g blocks p q = blocks_read-append f g ∙ (ap (λ (bs : List Block). bs ++ blocks_read g) p ∙ q)

read_before : (f g : List Pair) (blocks : List Block) → blocks_read f ≡ blocks → blocks_read g ≡ [] → blocks_read (f ++ g) ≡ blocks
read_before f g blocks p q =
    blocks_read-append f g ∙ (ap (λ (bs : List Block). bs ++ blocks_read g) p ∙ (ap (λ (bs : List Block). blocks ++ bs) q ∙ append-nil blocks))

-- THE PHASE

pub record Received (block count : ℕ) (u : Card) (front : List Pair) (v : Card) (h : Host) : Type 0 where
  pub same : SameCard u v
  pub contents : u.contents ≡ v.contents
  pub user : IsUser v
  pub read : blocks_read front ≡ take count (drop block (disk_blocks u))
  pub gave : given front ≡ []

module _ (k : Kind) (e : Ending) (block count : ℕ) (fell broke : Rest) (h : Host) (es : List Pair) (u last : Card) (announced : count ≡ u.announced)
    (next : block ≡ u.next_block) (user : IsUser u) where
  abbrev RecvOutcome : Type 0
  RecvOutcome = HaltedQuiet e es u last ⊎ Past (Received block count u) fell es last

  recv_by : (lines : Width) (n : ℕ) (returned : Return) (rest : List Pair) (v : Card) → es ≡ (ReceiveBlocks lines n, returned) ∷ rest →
      Step (ReceiveBlocks lines n) u returned v →
      after_phase k e nothing (fails (codes "read")) fell broke returned (host_after k (ReceiveBlocks lines n) returned h) rest → AllowedSteps v rest last →
      RecvOutcome
  recv_by lines n (BlocksIn Ok blocks) rest v same step on steps = inr (record {
    front = (ReceiveBlocks lines n, BlocksIn Ok blocks) ∷ [];
    rest = rest;
    card = v;
    host = h;
    split = same;
    did = record {
      same = steps_keep_same u.kind (ReceiveBlocks lines n) u (BlocksIn Ok blocks) v refl step;
      contents = moved_contents Ok u v step.moved;
      user = moved_user Ok u v step.moved user;
      read = append-nil blocks
          ∙ phase_blocks u.announced u.next_block blocks (disk_blocks u) count block announced next (user_truth u blocks user step.truth);
      gave = refl;
    };
    on = on;
    steps = steps;
  })
  recv_by lines n (BlocksIn Cut blocks) rest v same step on steps =
      let halt = halts_in_fault e (codes "read") rest refl on in
      let whole : es ≡ (ReceiveBlocks lines n, BlocksIn Cut blocks) ∷ [] =
      same ∙ ap (λ (r : List Pair). (ReceiveBlocks lines n, BlocksIn Cut blocks) ∷ r) halt.none in
      inl (record {
        early = halt.early;
        contents = moved_contents Cut u v step.moved ∙ ap (λ (x : Card). x.contents) (at_rest e rest v last halt steps);
        read = ap blocks_read whole;
        gave = ap given whole;
      })
  recv_by lines n returned rest v same step on steps = absurd step

  of_recv : AllowedSteps u es last →
      Halts e es ⊎ Acted k (exactly (ReceiveBlocks h.lines h.announced)) h (after_phase k e nothing (fails (codes "read")) fell broke) es u last → RecvOutcome
  of_recv steps (inl halt) = inl (halted_here e es u last halt steps)
  of_recv steps (inr a) =
      let m = made k (ReceiveBlocks h.lines h.announced) h (after_phase k e nothing (fails (codes "read")) fell broke) es u last a in
      recv_by h.lines h.announced m.returned m.rest m.after m.same m.step m.on m.steps

  pub recv_part : walk_statements k e (first (phase phases.ReceiveBlocks nothing (fails (codes "read"))) nothing) fell broke h es → AllowedSteps u es last →
      RecvOutcome
  recv_part walk steps = of_recv steps (phase_part k e phases.ReceiveBlocks nothing (fails (codes "read")) fell broke h es u last walk steps)

-- THE WHOLE READ

module _ (k : Kind) (e : Ending) (block count : ℕ) (rest : Statements) (fell broke : Rest) (h : Host) (es : List Pair) (c last : Card)
    (user : IsUser c) where
  -- what comes after the blocks are read
  abbrev on : Rest
  on = walk_statements k e rest fell broke

  -- what comes after the phase
  abbrev stopping : Rest
  stopping = walk_statements k e (stop_reading count rest) fell broke

  -- what comes after the command
  abbrev receiving : Rest
  receiving = walk_statements k e (first (phase phases.ReceiveBlocks nothing (fails (codes "read"))) (stop_reading count rest)) fell broke

  abbrev Outcome : Type 0
  Outcome = HaltedQuiet e es c last ⊎ (HaltedRead block count e es c last ⊎ Past (ReadBlocks block count c) on es last)

  of_stopped : (w : Past (ReadBlocks block count c) stopping es last) → QuietOutcome on e w.host w.rest w.card last → Outcome
  of_stopped w (inl halt) = inr (inl (record {
    early = halt.early;
    contents = w.did.contents ∙ halt.contents;
    read = ap blocks_read w.split ∙ read_before w.front w.rest (take count (drop block (disk_blocks c))) w.did.read halt.read;
    gave = ap given w.split ∙ gave_none w.front w.rest w.did.gave halt.gave;
    room = w.did.room;
  }))
  of_stopped w (inr r) = inr (inr (past_both stopping on es last w r (record {
    same = same_both c w.card r.card w.did.same r.did.same;
    contents = w.did.contents ∙ r.did.contents;
    user = r.did.user w.did.user;
    read = read_before w.front r.front (take count (drop block (disk_blocks c))) w.did.read r.did.read;
    gave = gave_none w.front r.front w.did.gave r.did.gave;
    room = w.did.room;
  })))

  of_received : (w : Past (Asked k (read_command block count) (Clean ∷ []) c h) receiving es last) → block + count ≤ c.capacity →
      HaltedQuiet e w.rest w.card last ⊎ Past (Received block count w.card) stopping w.rest last → Outcome
  unfolding past_both
  of_received w room (inl halt) = inl (halted_later e es w.front w.rest c w.card last h w.host w.split w.did.quiet halt)
  of_received w room (inr r) =
      let both = past_both receiving stopping es last w r (record {
        same = same_both c w.card r.card w.did.quiet.same r.did.same;
        contents = w.did.quiet.contents ∙ r.did.contents;
        user = r.did.user;
        read = read_alone w.front r.front (take count (drop block (disk_blocks c))) w.did.quiet.read
            (r.did.read ∙ ap (λ (bs : List Block). take count (drop block bs)) (sym (same_disks c w.card w.did.quiet.contents)));
        gave = gave_none w.front r.front w.did.quiet.gave r.did.gave;
        room = room;
      }) in
      of_stopped both (stop_reading_part k e rest fell broke r.host r.rest r.card last count r.on r.steps)

  of_asked : HaltedQuiet e es c last ⊎ Past (Asked k (read_command block count) (Clean ∷ []) c h) receiving es last → Outcome
  of_asked (inl halt) = inl halt
  of_asked (inr w) =
      let argument : ℕ = argument_at k (read_command block count) h w.did.position in
      let begun : Begun count argument c w.card =
      read_begun k count argument c w.card w.did.answer (and_left _ _ w.did.passed) w.did.allowed.legal w.did.sends in
      let is = position_is h block w.did.position w.did.sent_at in
      let bounds = read_within count w.did.position argument c w.did.allowed.bounds in
      let at : block ≡ w.card.next_block = sym (named c.block_unit w.card.block_unit block w.did.position argument is begun.same.block_unit bounds.unit)
      ∙ begun.block in
      of_received w (named_within c block count w.did.position argument user is bounds)
      (recv_part k e block count stopping broke w.host w.rest w.card last begun.count_is at (w.did.quiet.user user) w.on w.steps)

  pub read_part : walk_statements k e (read_statements block count rest) fell broke h es → AllowedSteps c es last → Outcome
  read_part walk steps = of_asked
      (asked_part k e (read_command block count) (Clean ∷ []) (codes "read") (read_keeps count) refl receiving broke h es c last walk steps)
