-- GIVING BLOCKS to a card that takes them: the phase halts, or the blocks are stored, or an error is still to be shown.
use Rattle.std.proofs.Common.{◌≡◌, ℕ, ◌+◌, inl, inr, refl, sym, ap, ◌∙◌, subst, true, List, [], ◌∷◌, ◌++◌, take, drop, length, append-nil}
use Rattle.std.specs.Prelude.{◌⊎◌, codes}
use Rattle.std.proofs.lemmas.List.{take-append-drop, drop-drop}
use Rattle.sdv_registers.specs.declared.kind.Kind.{Kind}
use Rattle.sdv_card.specs.declared.answer.DataEnd.TheVariants.{Ok, Cut}
use Rattle.sdv_card.specs.declared.state.Width.{Width}
use Rattle.sdv_card.specs.Card.{Card, Block, AreBlocks}
use Rattle.sdv_card.specs.Host.{Host, host_after}
use Rattle.sdv_card.specs.Phases.{Stored}
use Rattle.sdv_card.specs.ScriptEvent.{ScriptEvent, GiveBlocks, Return, BlocksOut}
use Rattle.sdv_card.specs.Step.{Step}
use Rattle.sdv_card.specs.Taken.{SameCard}
use Rattle.sdv_graph.specs.declared.tree.Phase.TheVariants as phases
use Rattle.sdv_graph.specs.Tree.{nothing, first, phase}
use Rattle.sdv_graph.specs.Walk.{Pair, Ending, Rest, giving, walk_statements, given}
use Rattle.sdv_facts.specs.Beside.{IsAllowed}
use Rattle.sdv_card.proofs.Same.{steps_keep_same}
use Rattle.sdv_block.specs.RequestStatements.{fails}
use Rattle.sdv_block.specs.Disk.{with_blocks}
use Rattle.sdv_block.specs.Served.{AllowedSteps, IsEarly, blocks_read, disk_blocks, SameBoot}
use Rattle.sdv_block.proofs.Parts.{Halts, halts_in_fault, Acted, after_phase, phase_part, Past}
use Rattle.sdv_block.proofs.Quiet.{HaltedQuiet, halted_here, at_rest}
use Rattle.sdv_block.proofs.UserArea.{IsUser, UserWritten, written_user, same_boots, same_disks, user_stored, user_written}

-- the blocks before and behind so many blocks are the same
pub record SameBut (block count : ℕ) (before after : List Block) : Type 0 where
  pub below : take block before ≡ take block after
  pub above : drop (block + count) before ≡ drop (block + count) after

-- where those blocks themselves are known, all are
pub rebuilt : (block count : ℕ) (before after new : List Block) → SameBut block count before after → length new ≡ count → take count (drop block after) ≡ new →
    after ≡ with_blocks block new before
rebuilt block count before after new same size stored =
    let rest : drop count (drop block after) ≡ drop (block + count) after = drop-drop count block after in
    let there : drop block after ≡ new ++ drop (block + length new) before =
    sym (take-append-drop count (drop block after))
    ∙ (ap (λ (bs : List Block). bs ++ drop count (drop block after)) stored
    ∙ (ap (λ (bs : List Block). new ++ bs) (rest ∙ sym same.above) ∙ ap (λ n. new ++ drop (block + n) before) (sym size))) in
    sym (take-append-drop block after)
    ∙ (ap (λ (bs : List Block). bs ++ drop block after) (sym same.below) ∙ ap (λ (bs : List Block). take block before ++ bs) there)

-- it gave blocks, of which a card may have stored anything
pub record Gave (block count : ℕ) (c : Card) (h : Host) (front : List Pair) (u : Card) (h' : Host) : Type 0 where
  pub same : SameCard c u
  pub new : List Block
  pub size : length new ≡ count
  pub gave : given front ≡ new
  pub read : blocks_read front ≡ []
  pub outside : SameBut block count (disk_blocks c) (disk_blocks u)
  pub boot : SameBoot c u
  pub user : IsUser u
  pub blocks : AreBlocks c.capacity (disk_blocks u)
  -- it stored the blocks, or an error is still to be shown
  pub stored : (take count (drop block (disk_blocks u)) ≡ new) ⊎ (true ≡ u.unshown_error)
  pub host : h' ≡ h

-- it halted, read nothing, and changed no other block
pub record HaltedWriting (block count : ℕ) (e : Ending) (es : List Pair) (c last : Card) : Type 0 where
  pub early : IsEarly e
  pub outside : SameBut block count (disk_blocks c) (disk_blocks last)
  pub boot : SameBoot c last
  pub read : blocks_read es ≡ []

pub same_but : (block count : ℕ) (before after : List Block) → before ≡ after → SameBut block count before after
same_but block count before after e =
    record { below = ap (λ (bs : List Block). take block bs) e; above = ap (λ (bs : List Block). drop (block + count) bs) e }

pub same_but_then : (block count : ℕ) (before between after : List Block) → SameBut block count before between → between ≡ after →
    SameBut block count before after
same_but_then block count before between after s e = subst (λ bs. SameBut block count before bs) e s

-- a halt that changed nothing is one
pub halted_quietly : (block count : ℕ) (e : Ending) (es : List Pair) (c last : Card) → HaltedQuiet e es c last → HaltedWriting block count e es c last
halted_quietly block count e es c last q =
    record {
      early = q.early;
      outside = same_but block count (disk_blocks c) (disk_blocks last) (same_disks c last q.contents);
      boot = same_boots c last q.contents;
      read = q.read;
    }

addressed_blocks : (block count announced next : ℕ) (before after : List Block) → count ≡ announced → block ≡ next → take next before ≡ take next after →
    drop (next + announced) before ≡ drop (next + announced) after → SameBut block count before after
addressed_blocks block count announced next before after e f below above = record { below = rw f below; above = rw (e, f) above }

stored_blocks : (block count announced next : ℕ) (after blocks : List Block) → count ≡ announced → block ≡ next → take announced (drop next after) ≡ blocks →
    take count (drop block after) ≡ blocks
stored_blocks block count announced next after blocks e f stored = rw (e, f) stored

module _ (k : Kind) (e : Ending) (block count : ℕ) (fell broke : Rest) (h : Host) (es : List Pair) (c last : Card) (announced : count ≡ c.announced)
    (next : block ≡ c.next_block) (user : IsUser c) where
  abbrev GaveOutcome : Type 0
  GaveOutcome = HaltedWriting block count e es c last ⊎ Past (Gave block count c h) fell es last

  abbrev after_give : Return → Rest
  after_give = after_phase k e nothing (fails (codes "write")) fell broke

  stored_or_not : (u : Card) (blocks : List Block) → Stored c blocks u ⊎ (true ≡ u.unshown_error)
      → (take count (drop block (disk_blocks u)) ≡ blocks) ⊎ (true ≡ u.unshown_error)
  stored_or_not u blocks (inl s) = inl (stored_blocks block count c.announced c.next_block (disk_blocks u) blocks announced next (user_stored c u blocks user s))
  stored_or_not u blocks (inr d) = inr d

  outside_of : (u : Card) → UserWritten c u → SameBut block count (disk_blocks c) (disk_blocks u)
  outside_of u o = addressed_blocks block count c.announced c.next_block (disk_blocks c) (disk_blocks u) announced next o.below o.above

  give_by : (lines : Width) (blocks : List Block) → length blocks ≡ c.announced → (returned : Return) (rest : List Pair) (u : Card) →
      es ≡ (GiveBlocks lines blocks, returned) ∷ rest →
      Step (GiveBlocks lines blocks) c returned u → after_give returned (host_after k (GiveBlocks lines blocks) returned h) rest → AllowedSteps u rest last
      → GaveOutcome
  give_by lines blocks size (BlocksOut Ok) rest u same step on steps = inr (record {
    front = (GiveBlocks lines blocks, BlocksOut Ok) ∷ [];
    rest = rest;
    card = u;
    host = h;
    split = same;
    did = record {
      same = steps_keep_same c.kind (GiveBlocks lines blocks) c (BlocksOut Ok) u refl step;
      new = blocks;
      size = size ∙ sym announced;
      gave = append-nil blocks;
      read = refl;
      outside = outside_of u (user_written c u user step.others);
      boot = (user_written c u user step.others).boot;
      user = written_user Ok c u step.moved user;
      blocks = (user_written c u user step.others).blocks;
      stored = stored_or_not u blocks step.stored;
      host = refl;
    };
    on = on;
    steps = steps;
  })
  give_by lines blocks size (BlocksOut Cut) rest u same step on steps =
      let written = user_written c u user step.others in
      let halt = halts_in_fault e (codes "write") rest refl on in
      inl (record {
        early = halt.early;
        outside = same_but_then block count (disk_blocks c) (disk_blocks u) (disk_blocks last) (outside_of u written)
            (ap (λ (x : Card). disk_blocks x) (at_rest e rest u last halt steps));
        boot = subst (λ (x : Card). SameBoot c x) (at_rest e rest u last halt steps) written.boot;
        read = ap blocks_read (same ∙ ap (λ (r : List Pair). (GiveBlocks lines blocks, BlocksOut Cut) ∷ r) halt.none);
      })
  give_by lines blocks size returned rest u same step on steps = absurd step

  of_give : AllowedSteps c es last → Halts e es ⊎ Acted k (giving h.lines h.announced) h after_give es c last → GaveOutcome
  of_give steps (inl halt) = inl (halted_quietly block count e es c last (halted_here e es c last halt steps))
  of_give steps (inr a) =
      let blocks : List Block = a.is.0 in
      let is : a.event ≡ GiveBlocks h.lines blocks = a.is.2 in
      let allowed : IsAllowed (GiveBlocks h.lines blocks) c = subst (λ v. IsAllowed v c) is a.allowed in
      give_by h.lines blocks allowed.bounds a.returned a.rest a.after
      (a.same ∙ ap (λ (v : ScriptEvent). (v, a.returned) ∷ a.rest) is)
      (subst (λ v. Step v c a.returned a.after) is a.step)
      (subst (λ v. after_give a.returned (host_after k v a.returned h) a.rest) is a.on) a.steps

  pub give_part : walk_statements k e (first (phase phases.GiveBlocks nothing (fails (codes "write"))) nothing) fell broke h es → AllowedSteps c es last →
      GaveOutcome
  give_part walk steps = of_give steps (phase_part k e phases.GiveBlocks nothing (fails (codes "write")) fell broke h es c last walk steps)
