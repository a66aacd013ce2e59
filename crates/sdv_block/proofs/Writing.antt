-- A WRITE beside a card: the walk halts with the other blocks as they were, or goes on with the blocks written.
use Rattle.std.proofs.Common.{◌≡◌, ℕ, ◌+◌, ◌≤◌, inl, inr, refl, sym, ap, ◌∙◌, subst, true, false, List, [], ◌∷◌, ◌++◌, take, drop, length, append-nil}
use Rattle.std.specs.Prelude.{◌⊎◌, codes}
use Rattle.sdv_registers.specs.declared.kind.Kind.{Kind}
use Rattle.sdv_card.specs.declared.guard.Guard.TheVariants.{Clean, State as InState}
use Rattle.sdv_card.specs.declared.state.State.TheVariants.{Tran}
use Rattle.sdv_card.specs.Card.{Card, Block, AreBlocks}
use Rattle.sdv_card.specs.Host.{Host}
use Rattle.sdv_card.specs.Taken.{SameCard}
use Rattle.sdv_graph.specs.declared.tree.Phase.TheVariants as phases
use Rattle.sdv_graph.specs.Tree.{Statements, nothing, first, phase, send}
use Rattle.sdv_graph.specs.Walk.{Pair, Ending, Rest, walk_statements, given}
use Rattle.sdv_card.proofs.Members.{and_left}
use Rattle.sdv_card.proofs.Same.{same_both}
use Rattle.sdv_block.specs.RequestStatements.{write_command, status_command, only_if, fails, settle_statements, stop_writing, write_statements}
use Rattle.sdv_block.specs.Disk.{with_blocks}
use Rattle.sdv_block.specs.Served.{AllowedSteps, blocks_read, disk_blocks, SameBoot}
use Rattle.sdv_block.proofs.Addresses.{position_is, named, named_within}
use Rattle.sdv_block.proofs.Asking.{Asked, asked_part}
use Rattle.sdv_block.proofs.CardSteps.{Begun, write_begun, write_keeps, write_within}
use Rattle.sdv_block.proofs.Parts.{argument_at, Past, past_both}
use Rattle.sdv_block.proofs.Quiet.{quiet_both, HaltedQuiet, halted_later, read_none, given-append}
use Rattle.sdv_block.proofs.Giving.{SameBut, rebuilt, same_but_then, Gave, HaltedWriting, halted_quietly, give_part}
use Rattle.sdv_block.proofs.Status.{ShownClean, status_part}
use Rattle.sdv_block.proofs.Stopping.{stop_writing_part}
use Rattle.sdv_block.proofs.UserArea.{IsUser, boots_both, same_boots, same_disks}
use Rattle.sdv_block.proofs.Waiting.{ErrorKept, wait_part}

-- one part that keeps an error, and then one that shows that there is none
shown_later : (next after : Rest) (e : Ending) (h : Host) (es : List Pair) (c last : Card) (w : Past (ErrorKept c h) next es last) →
    HaltedQuiet e w.rest w.card last ⊎ Past (ShownClean w.card w.host) after w.rest last → HaltedQuiet e es c last ⊎ Past (ShownClean c h) after es last
shown_later next after e h es c last w (inl halt) = inl (halted_later e es w.front w.rest c w.card last h w.host w.split w.did.quiet halt)
shown_later next after e h es c last w (inr r) = inr (past_both next after es last w r (record {
  quiet = quiet_both c w.card r.card h w.host r.host w.front r.front w.did.quiet r.did.quiet;
  no_error = w.did.error ∙ r.did.no_error;
}))

-- STOPPING, WAITING AND THE STATUS

module _ (k : Kind) (e : Ending) (rest : Statements) (fell broke : Rest) where
  abbrev on_settled : Rest
  on_settled = walk_statements k e rest fell broke

  abbrev settling : Rest
  settling = walk_statements k e (settle_statements rest) fell broke

  abbrev asking : Rest
  asking = walk_statements k e (first (send status_command (only_if (Clean ∷ InState Tran ∷ []) (codes "write"))) rest) fell broke

  abbrev SettledOutcome : Host → List Pair → (c last : Card) → Type 0
  SettledOutcome h es c last = HaltedQuiet e es c last ⊎ Past (ShownClean c h) on_settled es last

  of_waited : (h : Host) (es : List Pair) (c last : Card) → HaltedQuiet e es c last ⊎ Past (ErrorKept c h) asking es last → SettledOutcome h es c last
  of_waited h es c last (inl halt) = inl halt
  of_waited h es c last (inr w) = shown_later asking on_settled e h es c last w (status_part k e rest fell broke w.host w.rest w.card last w.on w.steps)

  settle_part : (h : Host) (es : List Pair) (c last : Card) → settling h es → AllowedSteps c es last → SettledOutcome h es c last
  settle_part h es c last walk steps = of_waited h es c last (wait_part k e asking broke 1000 h last es c walk steps)

  of_stopped : (h : Host) (es : List Pair) (c last : Card) → HaltedQuiet e es c last ⊎ Past (ErrorKept c h) settling es last → SettledOutcome h es c last
  of_stopped h es c last (inl halt) = inl halt
  of_stopped h es c last (inr w) = shown_later settling on_settled e h es c last w (settle_part w.host w.rest w.card last w.on w.steps)

  pub stop_and_settle_part : (count : ℕ) (h : Host) (es : List Pair) (c last : Card) →
      walk_statements k e (stop_writing count (settle_statements rest)) fell broke h es → AllowedSteps c es last →
      SettledOutcome h es c last
  stop_and_settle_part count h es c last walk steps =
      of_stopped h es c last (stop_writing_part k e (settle_statements rest) fell broke h es c last count walk steps)

-- GIVING THE BLOCKS, and all that comes after it

-- it wrote the next blocks of the input
pub record WroteBlocks (block count : ℕ) (c : Card) (front : List Pair) (u : Card) (h : Host) : Type 0 where
  pub same : SameCard c u
  pub new : List Block
  pub size : length new ≡ count
  pub gave : given front ≡ new
  pub read : blocks_read front ≡ []
  pub contents : disk_blocks u ≡ with_blocks block new (disk_blocks c)
  pub outside : SameBut block count (disk_blocks c) (disk_blocks u)
  pub boot : SameBoot c u
  pub user : IsUser u
  pub blocks : AreBlocks c.capacity (disk_blocks u)

-- no error is left, so the blocks were stored
surely_stored : (block count : ℕ) (u : Card) (new : List Block) → (take count (drop block (disk_blocks u)) ≡ new) ⊎ (true ≡ u.unshown_error)
    → u.unshown_error ≡ false →
    take count (drop block (disk_blocks u)) ≡ new
surely_stored block count u new (inl s) e = s
surely_stored block count u new (inr d) e = absurd (let f : true ≡ false = d ∙ e in cc)

gave_then : (f g : List Pair) (new : List Block) → given f ≡ new → given g ≡ [] → given (f ++ g) ≡ new
gave_then f g new p q = given-append f g ∙ (ap (λ (bs : List Block). bs ++ given g) p ∙ (ap (λ (bs : List Block). new ++ bs) q ∙ append-nil new))

module _ (k : Kind) (e : Ending) (block count : ℕ) (rest : Statements) (fell broke : Rest) (h : Host) (es : List Pair) (c last : Card)
    (announced : count ≡ c.announced) (next : block ≡ c.next_block) (user : IsUser c) where
  abbrev on_stored : Rest
  on_stored = walk_statements k e rest fell broke

  abbrev stopping : Rest
  stopping = walk_statements k e (stop_writing count (settle_statements rest)) fell broke

  abbrev StoredOutcome : Type 0
  StoredOutcome = HaltedWriting block count e es c last ⊎ Past (WroteBlocks block count c) on_stored es last

  of_settled : (w : Past (Gave block count c h) stopping es last) → HaltedQuiet e w.rest w.card last ⊎ Past (ShownClean w.card w.host) on_stored w.rest last →
      StoredOutcome
  of_settled w (inl halt) = inl (record {
    early = halt.early;
    outside = same_but_then block count (disk_blocks c) (disk_blocks w.card) (disk_blocks last) w.did.outside (same_disks w.card last halt.contents);
    boot = boots_both c w.card last w.did.boot (same_boots w.card last halt.contents);
    read = ap blocks_read w.split ∙ read_none w.front w.rest w.did.read halt.read;
  })
  of_settled w (inr r) =
      let stored = rebuilt block count (disk_blocks c) (disk_blocks w.card) w.did.new w.did.outside w.did.size
      (surely_stored block count w.card w.did.new w.did.stored r.did.no_error) in
      let kept = same_disks w.card r.card r.did.quiet.contents in
      inr (past_both stopping on_stored es last w r (record {
        same = same_both c w.card r.card w.did.same r.did.quiet.same;
        new = w.did.new;
        size = w.did.size;
        gave = gave_then w.front r.front w.did.new w.did.gave r.did.quiet.gave;
        read = read_none w.front r.front w.did.read r.did.quiet.read;
        contents = sym kept ∙ stored;
        outside = same_but_then block count (disk_blocks c) (disk_blocks w.card) (disk_blocks r.card) w.did.outside kept;
        boot = boots_both c w.card r.card w.did.boot (same_boots w.card r.card r.did.quiet.contents);
        user = r.did.quiet.user w.did.user;
        blocks = subst (λ bs. AreBlocks c.capacity bs) kept w.did.blocks;
      }))

  of_gave : HaltedWriting block count e es c last ⊎ Past (Gave block count c h) stopping es last → StoredOutcome
  of_gave (inl halt) = inl halt
  of_gave (inr w) = of_settled w (stop_and_settle_part k e rest fell broke count w.host w.rest w.card last w.on w.steps)

  pub store_part : walk_statements k e
      (first (phase phases.GiveBlocks nothing (fails (codes "write"))) (stop_writing count (settle_statements rest))) fell broke h es →
      AllowedSteps c es last → StoredOutcome
  store_part walk steps = of_gave (give_part k e block count stopping broke h es c last announced next user walk steps)

-- THE WHOLE WRITE

-- the blocks were written, and the card has them
pub record Wrote (block count : ℕ) (c : Card) (front : List Pair) (u : Card) (h : Host) : Type 0 where
  pub wrote : WroteBlocks block count c front u h
  pub room : block + count ≤ c.capacity

module _ (k : Kind) (e : Ending) (block count : ℕ) (rest : Statements) (fell broke : Rest) (h : Host) (es : List Pair) (c last : Card)
    (user : IsUser c) where
  abbrev on : Rest
  on = walk_statements k e rest fell broke

  abbrev giving : Rest
  giving = walk_statements k e (first (phase phases.GiveBlocks nothing (fails (codes "write"))) (stop_writing count (settle_statements rest))) fell broke

  abbrev Outcome : Type 0
  Outcome = HaltedWriting block count e es c last ⊎ Past (Wrote block count c) on es last

  abbrev AskedWrite : Type 0
  AskedWrite = Past (Asked k (write_command block count) (Clean ∷ []) c h) giving es last

  of_stored : (w : AskedWrite) → block + count ≤ c.capacity →
      HaltedWriting block count e w.rest w.card last ⊎ Past (WroteBlocks block count w.card) on w.rest last → Outcome
  of_stored w room (inl halt) = inl (record {
    early = halt.early;
    outside = subst (λ bs. SameBut block count bs (disk_blocks last)) (sym (same_disks c w.card w.did.quiet.contents)) halt.outside;
    boot = boots_both c w.card last (same_boots c w.card w.did.quiet.contents) halt.boot;
    read = ap blocks_read w.split ∙ read_none w.front w.rest w.did.quiet.read halt.read;
  })
  of_stored w room (inr r) = inr (past_both giving on es last w r (record {
    wrote = record {
      same = same_both c w.card r.card w.did.quiet.same r.did.same;
      new = r.did.new;
      size = r.did.size;
      gave = given-append w.front r.front ∙ (ap (λ (bs : List Block). bs ++ given r.front) w.did.quiet.gave ∙ r.did.gave);
      read = read_none w.front r.front w.did.quiet.read r.did.read;
      contents = r.did.contents ∙ ap (λ (bs : List Block). with_blocks block r.did.new bs) (sym (same_disks c w.card w.did.quiet.contents));
      outside = subst (λ bs. SameBut block count bs (disk_blocks r.card)) (sym (same_disks c w.card w.did.quiet.contents)) r.did.outside;
      boot = boots_both c w.card r.card (same_boots c w.card w.did.quiet.contents) r.did.boot;
      user = r.did.user;
      blocks = subst (λ n. AreBlocks n (disk_blocks r.card)) (sym w.did.quiet.same.capacity) r.did.blocks;
    };
    room = room;
  }))

  of_asked : HaltedQuiet e es c last ⊎ AskedWrite → Outcome
  of_asked (inl halt) = inl (halted_quietly block count e es c last halt)
  of_asked (inr w) =
      let argument : ℕ = argument_at k (write_command block count) h w.did.position in
      let begun : Begun count argument c w.card =
      write_begun k count argument c w.card w.did.answer (and_left _ _ w.did.passed) w.did.allowed.legal w.did.sends in
      let is = position_is h block w.did.position w.did.sent_at in
      let bounds = write_within count w.did.position argument c w.did.allowed.bounds in
      let at : block ≡ w.card.next_block = sym (named c.block_unit w.card.block_unit block w.did.position argument is begun.same.block_unit bounds.unit)
      ∙ begun.block in
      of_stored w (named_within c block count w.did.position argument user is bounds)
      (store_part k e block count rest fell broke w.host w.rest w.card last begun.count_is at (w.did.quiet.user user) w.on w.steps)

  pub write_part : walk_statements k e (write_statements block count rest) fell broke h es → AllowedSteps c es last → Outcome
  write_part walk steps = of_asked
      (asked_part k e (write_command block count) (Clean ∷ []) (codes "write") (write_keeps count) refl giving broke h es c last walk steps)
