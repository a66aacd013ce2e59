-- A WHOLE BATCH beside a card of the profile.
use Rattle.std.proofs.Common.{◌≡◌, ℕ, ◌<◌, ◌≤◌, inl, inr, refl, sym, ap, ◌∙◌, subst, List, [], ◌∷◌, ◌++◌, append_assoc}
use Rattle.std.specs.Prelude.{◌⊎◌, codes, slice_get}
use Rattle.sdv_registers.specs.declared.kind.Kind.{Kind}
use Rattle.sdv_card.specs.declared.state.Mode.{Mode}
use Rattle.sdv_card.specs.Card.{Card, Block}
use Rattle.sdv_card.specs.Host.{Host}
use Rattle.sdv_card.specs.Profile.{IsAtStart, host_at_start}
use Rattle.sdv_graph.specs.Tree.{Statements, first}
use Rattle.sdv_graph.specs.ValueOfLet.{number}
use Rattle.sdv_graph.specs.Walk.{Pair, Ending, Fell, Broke, Failed, Rest, Walk, after_all, given, walk_statements}
use Rattle.sdv_facts.specs.Keeps.{IsHonest}
use Rattle.sdv_card.proofs.Same.{same_both}
use Rattle.sdv_card.proofs.StartHolds.{starts_hold}
use Rattle.sdv_block.specs.declared.request.Request.{Request}
use Rattle.sdv_block.specs.RequestStatements.{batch_statements}
use Rattle.sdv_block.specs.BringUpStatements.{batch_names, capacity_statement, capacity_test, batch_body}
use Rattle.sdv_block.specs.Disk.{AllServed, after_batch}
use Rattle.sdv_block.specs.Served.{AllowedSteps, blocks_read, disk_blocks, disk_of, EndsAs, Served}
use Rattle.sdv_block.proofs.BringUp.{unit_part}
use Rattle.sdv_block.proofs.Capacity.{Counted, CountOutcome, capacity_part, TooSmall, Enough, test_part}
use Rattle.sdv_block.proofs.ReadyLoop.{FoundUnit}
use Rattle.sdv_block.proofs.Parts.{Halts, Past}
use Rattle.sdv_block.proofs.UserArea.{IsUser, boots_both, same_boots, same_disks}
use Rattle.sdv_block.proofs.Quiet.{HaltedQuiet, halted_here, read_none, gave_none, blocks_read-append, given-append}
use Rattle.sdv_block.proofs.DiskLaws.{same_disk}
use Rattle.sdv_block.proofs.Serving.{serves}

-- the card is too small for the batch, and nothing was done to it
pub record Refused (least : ℕ) (e : Ending) (es : List Pair) (c last : Card) : Type 0 where
  pub is : e ≡ Failed (codes "beyond")
  pub small : c.capacity < least
  pub contents : c.contents ≡ last.contents
  pub read : blocks_read es ≡ []
  pub gave : given es ≡ []

-- the card is large enough, and serves the requests
pub record Serves (least : ℕ) (rs : List Request) (e : Ending) (es : List Pair) (c last : Card) : Type 0 where
  pub enough : least ≤ c.capacity
  pub served : Served rs e es c last

-- a batch halted before its requests, was refused, or was served
abbrev pub Outcome : (least : ℕ) → List Request → Ending → List Pair → (c last : Card) → Type 0
Outcome least rs e es c last = HaltedQuiet e es c last ⊎ (Refused least e es c last ⊎ Serves least rs e es c last)

-- what was served from a card with the same blocks was served from the card itself
later_served : (rs : List Request) (e : Ending) (es front rest : List Pair) (c u last : Card) → es ≡ front ++ rest → blocks_read front ≡ [] → given front ≡ [] →
    c.contents ≡ u.contents → Served rs e rest u last → Served rs e es c last
later_served rs e es front rest c u last split read gave contents s = record {
  ends = λ left output.
      subst (λ r. EndsAs e (disk_of last left (output ++ r)) (after_batch rs (disk_of c (given es ++ left) output))) (sym read_is)
      (subst (λ d. EndsAs e (disk_of last left (output ++ blocks_read rest)) (after_batch rs d)) (same left output) (s.ends left output));
  over = s.over;
  all = λ is left output. subst (λ d. AllServed rs d) (same left output) (s.all is left output);
  outside = λ block other. s.outside block other ∙ ap (λ (bs : List Block). slice_get bs block) (sym (same_disks c u contents));
  boot = boots_both c u last (same_boots c u contents) s.boot;
}
  where
    read_is : blocks_read es ≡ blocks_read rest
    read_is = ap blocks_read split ∙ (blocks_read-append front rest ∙ ap (λ (bs : List Block). bs ++ blocks_read rest) read)

    given_is : given es ≡ given rest
    given_is = ap given split ∙ (given-append front rest ∙ ap (λ (bs : List Block). bs ++ given rest) gave)

    same : (left output : List Block) → disk_of u (given rest ++ left) output ≡ disk_of c (given es ++ left) output
    same left output = same_disk (disk_blocks u) (disk_blocks c) (given rest ++ left) (given es ++ left) output output (sym (same_disks c u contents))
        (ap (λ (bs : List Block). bs ++ left) (sym given_is)) refl

module _ (k : Kind) (e : Ending) (least : ℕ) (rs : List Request) (fell broke : Rest) (h : Host) (es : List Pair) (c last : Card)
    (user : IsUser c) where
  abbrev tested : Statements
  tested = first (capacity_test least) (batch_statements rs)

  abbrev on_tested : Rest
  on_tested = walk_statements k e tested fell broke

  abbrev on_requests : Rest
  on_requests = walk_statements k e (batch_statements rs) fell broke

  abbrev Ready : Type 0
  Ready = Past (Counted c) on_tested es last

  halted_after : (w : Ready) → HaltedQuiet e w.rest w.card last → HaltedQuiet e es c last
  halted_after w halt = record {
    early = halt.early;
    contents = w.did.contents ∙ halt.contents;
    read = ap blocks_read w.split ∙ read_none w.front w.rest w.did.read halt.read;
    gave = ap given w.split ∙ gave_none w.front w.rest w.did.gave halt.gave;
  }

  after_test : (w : Ready) → Halts e w.rest ⊎ (TooSmall e least (number w.host 0) w.rest ⊎ Enough on_requests least (number w.host 0) w.host w.rest) →
      Outcome least rs e es c last
  after_test w (inl halt) = inl (halted_after w (halted_here e w.rest w.card last halt w.steps))
  after_test w (inr (inl x)) = inr (inl (record {
    is = x.is;
    small = subst (λ n. n < least) (w.did.cap ∙ sym w.did.same.capacity) x.small;
    contents = w.did.contents ∙ ap (λ (u : Card). u.contents) (subst (λ es. AllowedSteps w.card es last) x.none w.steps);
    read = ap blocks_read w.split ∙ read_none w.front w.rest w.did.read (ap blocks_read x.none);
    gave = ap given w.split ∙ gave_none w.front w.rest w.did.gave (ap given x.none);
  }))
  after_test w (inr (inr x)) = inr (inr (record {
    enough = subst (λ n. least ≤ n) (w.did.cap ∙ sym w.did.same.capacity) x.enough;
    served = later_served rs e es w.front w.rest c w.card last w.split w.did.read w.did.gave w.did.contents
        (serves k e last fell broke rs w.host w.rest w.card w.did.blocks (w.did.user user) x.on w.steps);
  }))

  after_capacity : HaltedQuiet e es c last ⊎ Ready → Outcome least rs e es c last
  after_capacity (inl halt) = inl halt
  after_capacity (inr w) = after_test w (test_part k e least on_requests broke w.host w.rest w.on)

  -- the capacity, after the commands that bring the card up
  abbrev Found : Type 0
  Found = Past (FoundUnit k c h) (walk_statements k e (first (capacity_statement k) tested) fell broke) es last

  then_capacity : (w : Found) → CountOutcome e on_tested w.rest w.card last → HaltedQuiet e es c last ⊎ Ready
  then_capacity w (inl halt) = inl (record {
    early = halt.early;
    contents = w.did.contents ∙ halt.contents;
    read = ap blocks_read w.split ∙ read_none w.front w.rest w.did.read halt.read;
    gave = ap given w.split ∙ gave_none w.front w.rest w.did.gave halt.gave;
  })
  then_capacity w (inr r) = inr (record {
    front = w.front ++ r.front;
    rest = r.rest;
    card = r.card;
    host = r.host;
    split = w.split ∙ (ap (λ (es : List Pair). w.front ++ es) r.split ∙ sym (append_assoc w.front r.front r.rest));
    did = record {
      same = same_both c w.card r.card w.did.same r.did.same;
      contents = w.did.contents ∙ r.did.contents;
      user = λ user. r.did.user (w.did.user user);
      read = read_none w.front r.front w.did.read r.did.read;
      gave = gave_none w.front r.front w.did.gave r.did.gave;
      blocks = r.did.blocks;
      cap = r.did.cap;
    };
    on = r.on;
    steps = r.steps;
  })

  after_unit : h.numbers ≡ 0 ∷ [] → HaltedQuiet e es c last ⊎ Found → Outcome least rs e es c last
  after_unit numbers (inl halt) = inl halt
  after_unit numbers (inr w) =
      after_capacity (then_capacity w
      (capacity_part e on_tested broke last k w.host w.rest w.card w.did.honest (w.did.numbers ∙ numbers) w.did.unit w.on w.steps))

  pub batch_part : h.numbers ≡ 0 ∷ [] → h.flags ≡ 0 → IsHonest k c h → walk_statements k e (batch_body k least rs) fell broke h es → AllowedSteps c es last →
      Outcome least rs e es c last
  batch_part numbers clear honest walk steps =
      after_unit numbers (unit_part k e fell broke last (first (capacity_statement k) tested) h es c clear honest walk steps)

-- every walk of the whole script beside a card of the profile
pub batch_walk : (k : Kind) (e : Ending) (least : ℕ) (rs : List Request) (es : List Pair) (c last : Card) → k ≡ c.kind → IsAtStart c →
    Walk k (batch_names k) (batch_body k least rs) e es → AllowedSteps c es last →
    Outcome least rs e es c last
batch_walk k e least rs es c last kind start walk steps =
    let s = starts_hold k c 1 kind start in
    batch_part k e least rs (after_all e Fell) (after_all e Broke) (host_at_start 1) es c last (ap (λ (m : Mode). m.partition) start.mode) refl refl
    (record { pair = s.pair; profile = start.profile; sound = s.sound }) walk steps
