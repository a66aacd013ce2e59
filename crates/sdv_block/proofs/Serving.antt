-- A BATCH beside a card does what a plain disk does.
use Rattle.std.proofs.Common.{◌≡◌, ℕ, ◌+◌, inl, inr, refl, sym, ap, ◌∙◌, subst, arith, true, false, List, [], ◌∷◌, ◌++◌, take, drop, ◌≤◌, length, length-append, append-nil, append_assoc}
use Rattle.std.specs.Prelude.{◌⊎◌, slice_get}
use Rattle.std.proofs.lemmas.Bool.{le-leb}
use Rattle.sdv_registers.specs.declared.kind.Kind.{Kind}
use Rattle.sdv_card.specs.Card.{Card, Block, AreBlocks}
use Rattle.sdv_card.specs.Host.{Host}
use Rattle.sdv_graph.specs.Walk.{Pair, Ending, Finished, Open, Rest, walk_statements, given}
use Rattle.sdv_card.proofs.Members.{both_true}
use Rattle.sdv_block.specs.declared.request.Request.{Request}
use Rattle.sdv_block.specs.declared.request.Request.TheVariants.{Read, Write}
use Rattle.sdv_block.specs.RequestStatements.{batch_statements}
use Rattle.sdv_block.specs.Disk.{Disk, with_blocks, can_serve, after_request, after_batch, AllServed, HasRead, SameOutside, writes}
use Rattle.sdv_block.specs.Served.{AllowedSteps, blocks_read, IsEarly, disk_blocks, disk_of, EndsAs, SameBoot, Served}
use Rattle.sdv_block.proofs.DiskLaws.{same_at, same_outside, outside_both, grows, first_served, same_disk}
use Rattle.sdv_block.proofs.Giving.{HaltedWriting}
use Rattle.sdv_block.proofs.Reading.{ReadBlocks, HaltedRead, read_part}
use Rattle.sdv_block.proofs.Writing.{Wrote, write_part}
use Rattle.sdv_block.proofs.Parts.{Past, halts}
use Rattle.sdv_block.proofs.Quiet.{HaltedQuiet, halted_here, same_blocks, blocks_read-append, given-append}
use Rattle.sdv_block.proofs.UserArea.{IsUser, boots_both, same_boots, same_disks}

-- A WALK THAT HALTED EARLY read what was read before, and so no more than the disk

ends_early : (e : Ending) (reached served : Disk) → IsEarly e → HasRead reached.output served → EndsAs e reached served
ends_early Finished reached served early h = absurd early
ends_early e reached served early h = h

pub not_early : (e : Ending) → IsEarly e → e ≡ Finished → ⊥
not_early e early is = subst (λ v. IsEarly v) is early

read_nothing : (output read : List Block) → read ≡ [] → output ≡ output ++ read
read_nothing output read e = rw e (sym (append-nil output))

pub halted_early : (rs : List Request) (e : Ending) (es : List Pair) (c last : Card) → IsEarly e → blocks_read es ≡ [] →
    SameOutside rs (disk_blocks c) (disk_blocks last) → SameBoot c last → Served rs e es c last
halted_early rs e es c last early read outside boot = record {
  ends = λ left output. ends_early e (disk_of last left (output ++ blocks_read es)) (after_batch rs (disk_of c (given es ++ left) output)) early
      (subst (λ o. HasRead o (after_batch rs (disk_of c (given es ++ left) output))) (read_nothing output (blocks_read es) read)
      (grows rs (disk_of c (given es ++ left) output)));
  over = inr early;
  all = λ is. absurd (not_early e early is);
  outside = outside;
  boot = boot;
}

-- DONE

done_by : (e : Ending) (es : List Pair) (c last : Card) → es ≡ [] → e ≡ Finished → c ≡ last → Served [] e es c last
done_by e es c last none is same = record {
  ends = λ left output. subst (λ e. EndsAs e (disk_of last left (output ++ blocks_read es)) (disk_of c (given es ++ left) output)) (sym is)
      (same_disk (disk_blocks c) (disk_blocks last) (given es ++ left) left output (output ++ blocks_read es) (ap (λ (x : Card). disk_blocks x) same)
      (ap (λ (es : List Pair). given es ++ left) none) (read_nothing output (blocks_read es) (ap blocks_read none)));
  over = inl is;
  all = λ is left output. tt;
  outside = same_outside [] (disk_blocks c) (disk_blocks last) (ap (λ (x : Card). disk_blocks x) same);
  boot = same_boots c last (ap (λ (x : Card). x.contents) same);
}

-- as many elements as the first list has

take_all_of : (n : ℕ) (first others : List Block) → length first ≡ n → take n (first ++ others) ≡ first
take_all_of n [] others e = rw (sym e) refl
take_all_of n (b ∷ first) others e = rw (sym e) (ap (λ (bs : List Block). b ∷ bs) (take_all_of (length first) first others refl))

drop_all_of : (n : ℕ) (first others : List Block) → length first ≡ n → drop n (first ++ others) ≡ others
drop_all_of n [] others e = rw (sym e) refl
drop_all_of n (b ∷ first) others e = rw (sym e) (drop_all_of (length first) first others refl)

-- ONE REQUEST, AND THEN THE OTHERS

-- what a request made of the card is what it makes of the disk
record Step (r : Request) (es front rest : List Pair) (c u : Card) : Type 0 where
  split : es ≡ front ++ rest
  can : (left output : List Block) → can_serve (disk_of c (given es ++ left) output) r ≡ true
  -- the blocks that it read
  now : (left output : List Block) → after_request r (disk_of c (given es ++ left) output) ≡ disk_of u (given rest ++ left) (output ++ blocks_read front)
  outside : (block : ℕ) → writes r block ≡ false → slice_get (disk_blocks u) block ≡ slice_get (disk_blocks c) block
  boot : SameBoot c u

and_then : (r : Request) (rs : List Request) (e : Ending) (es front rest : List Pair) (c u last : Card) → Step r es front rest c u → Served rs e rest u last →
    Served (r ∷ rs) e es c last
and_then r rs e es front rest c u last step s = record {
  ends = λ left output. (
      let d = disk_of c (given es ++ left) output in
      let reached : disk_of last left ((output ++ blocks_read front) ++ blocks_read rest) ≡ disk_of last left (output ++ blocks_read es) =
      ap (λ (o : List Block). disk_of last left o)
      (append_assoc output (blocks_read front) (blocks_read rest)
      ∙ ap (λ (bs : List Block). output ++ bs) (sym (ap blocks_read step.split ∙ blocks_read-append front rest))) in
      let served : after_batch rs (disk_of u (given rest ++ left) (output ++ blocks_read front)) ≡ after_batch (r ∷ rs) d =
      ap (λ (d : Disk). after_batch rs d) (sym (step.now left output)) ∙ sym (first_served r rs d (step.can left output)) in
      subst (λ x. EndsAs e x (after_batch (r ∷ rs) d)) reached
      (subst (λ y. EndsAs e (disk_of last left ((output ++ blocks_read front) ++ blocks_read rest)) y) served (s.ends left (output ++ blocks_read front))));
  over = s.over;
  all = λ is left output. (step.can left output, subst (λ d. AllServed rs d) (sym (step.now left output)) (s.all is left (output ++ blocks_read front)));
  outside = outside_both r rs (disk_blocks c) (disk_blocks u) (disk_blocks last) step.outside s.outside;
  boot = boots_both c u last step.boot s.boot;
}

-- blocks that were read
read_step : (block count : ℕ) (es front rest : List Pair) (c u : Card) (h : Host) → AreBlocks c.capacity (disk_blocks c) → es ≡ front ++ rest →
    ReadBlocks block count c front u h →
    Step (Read block count) es front rest c u
read_step block count es front rest c u h blocks split did = record {
  split = split;
  can = λ left output. le-leb (block + count) (length (disk_blocks c)) (subst (λ n. block + count ≤ n) (sym blocks.size) did.room);
  now = λ left output. same_disk (disk_blocks c) (disk_blocks u) (given es ++ left) (given rest ++ left) _ _ (same_disks c u did.contents)
      (ap (λ (bs : List Block). bs ++ left) (ap given split ∙ (given-append front rest ∙ ap (λ (bs : List Block). bs ++ given rest) did.gave)))
      (ap (λ (bs : List Block). output ++ bs) (sym did.read));
  outside = λ i other. ap (λ (bs : List Block). slice_get bs i) (sym (same_disks c u did.contents));
  boot = same_boots c u did.contents;
}

-- blocks that were written
write_step : (block count : ℕ) (es front rest : List Pair) (c u : Card) (h : Host) → AreBlocks c.capacity (disk_blocks c) → es ≡ front ++ rest →
    Wrote block count c front u h →
    Step (Write block count) es front rest c u
write_step block count es front rest c u h blocks split did = record {
  split = split;
  can = λ left output.
      both_true _ _ (le-leb (block + count) (length (disk_blocks c)) (subst (λ n. block + count ≤ n) (sym blocks.size) did.room))
      (le-leb count (length (given es ++ left)) (enough left));
  now = λ left output. same_disk (with_blocks block (take count (given es ++ left)) (disk_blocks c)) (disk_blocks u) (drop count (given es ++ left))
      (given rest ++ left) output
      (output ++ blocks_read front)
      (ap (λ (bs : List Block). with_blocks block bs (disk_blocks c)) (taken left) ∙ sym did.wrote.contents) (dropped left)
      (read_nothing output (blocks_read front) did.wrote.read);
  outside = λ i other. same_at block count i (disk_blocks c) (disk_blocks u) did.wrote.outside other;
  boot = did.wrote.boot;
}
  where
    new : List Block
    new = did.wrote.new

    input : (left : List Block) → given es ++ left ≡ new ++ (given rest ++ left)
    input left =
        ap (λ (bs : List Block). bs ++ left) (ap given split ∙ (given-append front rest ∙ ap (λ (bs : List Block). bs ++ given rest) did.wrote.gave))
        ∙ append_assoc new (given rest) left

    enough : (left : List Block) → count ≤ length (given es ++ left)
    enough left =
        let a = length-append new (given rest ++ left) in
        subst (λ (bs : List Block). count ≤ length bs) (sym (input left)) (let size = did.wrote.size in omega (arith, a, size))

    taken : (left : List Block) → take count (given es ++ left) ≡ new
    taken left = ap (λ (bs : List Block). take count bs) (input left) ∙ take_all_of count new (given rest ++ left) did.wrote.size

    dropped : (left : List Block) → drop count (given es ++ left) ≡ given rest ++ left
    dropped left = ap (λ (bs : List Block). drop count bs) (input left) ∙ drop_all_of count new (given rest ++ left) did.wrote.size

-- A WALK THAT HALTED after it had read the blocks of a request
halted_reading : (block count : ℕ) (rs : List Request) (e : Ending) (es : List Pair) (c last : Card) → AreBlocks c.capacity (disk_blocks c) →
    HaltedRead block count e es c last →
    Served (Read block count ∷ rs) e es c last
halted_reading block count rs e es c last blocks q = record {
  ends = λ left output. (
      let d = disk_of c (given es ++ left) output in
      let can : can_serve d (Read block count) ≡ true =
      le-leb (block + count) (length (disk_blocks c)) (subst (λ n. block + count ≤ n) (sym blocks.size) q.room) in
      let more : HasRead (output ++ take count (drop block (disk_blocks c))) (after_batch rs (after_request (Read block count) d)) =
      grows rs (after_request (Read block count) d) in
      ends_early e (disk_of last left (output ++ blocks_read es)) (after_batch (Read block count ∷ rs) d) q.early
      (subst (λ served. HasRead (output ++ blocks_read es) served) (sym (first_served (Read block count) rs d can))
      (subst (λ (bs : List Block). HasRead (output ++ bs) (after_batch rs (after_request (Read block count) d))) (sym q.read) more)));
  over = inr q.early;
  all = λ is. absurd (not_early e q.early is);
  outside = same_outside (Read block count ∷ rs) (disk_blocks c) (disk_blocks last) (same_disks c last q.contents);
  boot = same_boots c last q.contents;
}

-- THE BATCH

module _ (k : Kind) (e : Ending) (last : Card) (fell broke : Rest) where
  abbrev Serves : List Request → Type 0
  Serves rs = (h : Host) (es : List Pair) (c : Card) → AreBlocks c.capacity (disk_blocks c) → IsUser c → walk_statements k e (batch_statements rs) fell broke h es →
      AllowedSteps c es last →
      Served rs e es c last

  -- what comes after a request
  abbrev others : List Request → Rest
  others rs = walk_statements k e (batch_statements rs) fell broke

  of_read : (block count : ℕ) (rs : List Request) → Serves rs → (es : List Pair) (c : Card) → AreBlocks c.capacity (disk_blocks c) →
      HaltedQuiet e es c last ⊎ (HaltedRead block count e es c last ⊎ Past (ReadBlocks block count c) (others rs) es last) →
      Served (Read block count ∷ rs) e es c last
  of_read block count rs later es c blocks (inl q) =
      halted_early (Read block count ∷ rs) e es c last q.early q.read
      (same_outside (Read block count ∷ rs) (disk_blocks c) (disk_blocks last) (same_disks c last q.contents)) (same_boots c last q.contents)
  of_read block count rs later es c blocks (inr (inl q)) = halted_reading block count rs e es c last blocks q
  of_read block count rs later es c blocks (inr (inr r)) =
      and_then (Read block count) rs e es r.front r.rest c r.card last (read_step block count es r.front r.rest c r.card r.host blocks r.split r.did)
      (later r.host r.rest r.card (same_blocks c r.card blocks r.did.same (same_disks c r.card r.did.contents)) r.did.user r.on r.steps)

  of_write : (block count : ℕ) (rs : List Request) → Serves rs → (es : List Pair) (c : Card) → AreBlocks c.capacity (disk_blocks c) →
      HaltedWriting block count e es c last ⊎ Past (Wrote block count c) (others rs) es last → Served (Write block count ∷ rs) e es c last
  of_write block count rs later es c blocks (inl q) = halted_early (Write block count ∷ rs) e es c last q.early q.read
      (outside_both (Write block count) rs (disk_blocks c) (disk_blocks last) (disk_blocks last)
      (λ i other. same_at block count i (disk_blocks c) (disk_blocks last) q.outside other)
      (same_outside rs (disk_blocks last) (disk_blocks last) refl)) q.boot
  of_write block count rs later es c blocks (inr r) =
      and_then (Write block count) rs e es r.front r.rest c r.card last (write_step block count es r.front r.rest c r.card r.host blocks r.split r.did)
      (later r.host r.rest r.card (subst (λ n. AreBlocks n (disk_blocks r.card)) r.did.wrote.same.capacity r.did.wrote.blocks) r.did.wrote.user r.on r.steps)

  pub serves : (rs : List Request) → Serves rs
  serves [] h es c b user (inl s) steps =
      let q = halted_here e es c last (halts e Open es tt s) steps in
      halted_early [] e es c last q.early q.read (same_outside [] (disk_blocks c) (disk_blocks last) (same_disks c last q.contents))
      (same_boots c last q.contents)
  serves [] h es c b user (inr s) steps = done_by e es c last s.0 s.1 (subst (λ es. AllowedSteps c es last) s.0 steps)
  serves (Read block count ∷ rs) h es c b user walk steps =
      of_read block count rs (serves rs) es c b (read_part k e block count (batch_statements rs) fell broke h es c last user walk steps)
  serves (Write block count ∷ rs) h es c b user walk steps =
      of_write block count rs (serves rs) es c b (write_part k e block count (batch_statements rs) fell broke h es c last user walk steps)
