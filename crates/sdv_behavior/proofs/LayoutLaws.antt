-- Where the blocks of a partition stand in an image: what is shown and changed there is shown and changed in the
-- partition, and in no other.
use Rattle.std.proofs.Common.{◌≡◌, ℕ, ◌≤◌, ◌<◌, ◌+◌, ◌-◌, ◌*◌, ◌^◌, min, refl, sym, ap, subst, ◌∙◌, List, length, take, drop, All, arith, length-take-le}
use Rattle.std.proofs.lemmas.List.{drop-drop, drop-take, take-take, length-take, length-drop, take-append-drop}
use Rattle.std.proofs.lemmas.List.Elements.{All-append, All-take, All-drop}
use Rattle.sdv_card.specs.declared.state.Partition.{Partition}
use Rattle.sdv_card.specs.declared.state.Partition.TheVariants.{User, Boot1, Boot2}
use Rattle.sdv_card.specs.Card.{Block, Partitions, IsRegister, AreBlocks, blocks_of, put}
use Rattle.sdv_image.specs.Images.{OnlyThese}
use Rattle.sdv_image.proofs.BlockLaws.{kept_front, shorter}
use Rattle.sdv_behavior.specs.declared.card_desc.CardDesc.{CardDesc}
use Rattle.sdv_behavior.specs.Layout.{boot_capacity, partition_size, partition_place, image_size, contents_of}
use Rattle.sdv_behavior.proofs.Described.{described_law, capacity_small}

-- SIZES

pub partition_inside : (d : CardDesc) (partition : Partition) → partition_place d partition + partition_size d partition ≤ image_size d
partition_inside d User = omega arith
partition_inside d Boot1 = omega arith
partition_inside d Boot2 = omega arith

pub image_small : (d : CardDesc) → image_size d < 2 ^ 34
image_small d =
    let all = capacity_small d in
    let boot = (described_law d).boot_fits in
    omega (arith, all, boot)

-- what is known of the places of blocks
pub ruleset places = (partition_inside, image_small)

-- WINDOWS of a list: so many elements from a place on

-- what stands behind some elements of a window
behind_window : (size first : ℕ) (xs : List Block) → first ≤ size → drop first (take size xs) ≡ take (size - first) (drop first xs)
behind_window size first xs h =
    let e : first + (size - first) ≡ size = omega (arith, h) in
    subst (λ (n : ℕ). drop first (take n xs) ≡ take (size - first) (drop first xs)) e (drop-take first (size - first) xs)

-- what stands in a window
in_front : (size first count : ℕ) (xs : List Block) → first + count ≤ size → take count (drop first xs) ≡ take count (drop first (take size xs))
in_front size first count xs h =
    let room : first ≤ size = omega (arith, h) in
    let less : count ≤ size - first = omega (arith, h) in
    sym (ap (λ (l : List Block). take count l) (behind_window size first xs room) ∙ take-take count (size - first) (drop first xs) less)

-- with another place for its first element
in_window : (start size first count : ℕ) (xs : List Block) → first + count ≤ size →
    take count (drop (start + first) xs) ≡ take count (drop first (take size (drop start xs)))
in_window start size first count xs h =
    ap (λ (l : List Block). take count l) (sym (drop-drop first start xs)) ∙ in_front size first count (drop start xs) h

-- equal backs have equal backs
further : (m n : ℕ) (old new : List Block) → n ≤ m → drop n old ≡ drop n new → drop m old ≡ drop m new
further m n old new h e =
    let same : n + (m - n) ≡ m = omega (arith, h) in
    subst (λ (k : ℕ). drop k old ≡ drop k new) same
    (sym (drop-drop (m - n) n old) ∙ (ap (λ (l : List Block). drop (m - n) l) e ∙ drop-drop (m - n) n new))

-- a window before, or behind, what changed is the same
same_before : (start size n : ℕ) (old new : List Block) → start + size ≤ n → take n old ≡ take n new → take size (drop start old) ≡ take size (drop start new)
same_before start size n old new h e = kept_front start size old new (shorter (start + size) n old new h e)

same_behind : (start size n : ℕ) (old new : List Block) → n ≤ start → drop n old ≡ drop n new → take size (drop start old) ≡ take size (drop start new)
same_behind start size n old new h e = ap (λ (l : List Block). take size l) (further start n old new h e)

-- WHAT CHANGED in a list changed in a window of it

-- in its front
only_front : (size first count : ℕ) (old new : List Block) → first + count ≤ size → OnlyThese first count old new →
    OnlyThese first count (take size old) (take size new)
only_front size first count old new h o = record {
  size = length-take size old ∙ (ap (λ (n : ℕ). min size n) o.size ∙ sym (length-take size new));
  below = let room : first ≤ size = omega (arith, h) in take-take first size old room ∙ (o.below ∙ sym (take-take first size new room));
  above = behind_window size (first + count) old h
      ∙ (ap (λ (l : List Block). take (size - (first + count)) l) o.above ∙ sym (behind_window size (first + count) new h));
}

-- in its back
only_back : (start first count : ℕ) (old new : List Block) → OnlyThese (start + first) count old new → OnlyThese first count (drop start old) (drop start new)
only_back start first count old new o = record {
  size = length-drop start old ∙ (ap (λ (n : ℕ). n - start) o.size ∙ sym (length-drop start new));
  below = kept_front start first old new o.below;
  above =
      let place : start + first + count ≡ start + (first + count) = omega arith in
      let e : drop (start + (first + count)) old ≡ drop (start + (first + count)) new =
      subst (λ (n : ℕ). drop n old ≡ drop n new) place o.above in
      drop-drop (first + count) start old ∙ (e ∙ sym (drop-drop (first + count) start new));
}

-- PARTITIONS

-- what stands at a place of the image stands in the partition
pub shown_there : (d : CardDesc) (partition : Partition) (first count : ℕ) (all : List Block) → first + count ≤ partition_size d partition →
    take count (drop (partition_place d partition + first) all) ≡ take count (drop first (blocks_of partition (contents_of d all)))
shown_there d User first count all h =
    let e : 0 + first ≡ first = omega arith in
    ap (λ (n : ℕ). take count (drop n all)) e ∙ in_front d.capacity first count all h
shown_there d Boot1 first count all h = in_window d.capacity (boot_capacity d) first count all h
shown_there d Boot2 first count all h = ap (λ (l : List Block). take count l) (sym (drop-drop first (d.capacity + boot_capacity d) all))

-- what changed at a place of the image changed in the partition, and no other partition did
pub record OnlyThere (d : CardDesc) (partition : Partition) (first count : ℕ) (old new : List Block) : Type 0 where
  pub these : OnlyThese first count (blocks_of partition (contents_of d old)) (blocks_of partition (contents_of d new))
  pub others : put partition (blocks_of partition (contents_of d new)) (contents_of d old) ≡ contents_of d new

abbrev parts : (user boot_1 boot_2 : List Block) → Partitions
parts user boot_1 boot_2 = record { user = user; boot_1 = boot_1; boot_2 = boot_2 }

same_parts : {a b c a' b' c' : List Block} → a ≡ a' → b ≡ b' → c ≡ c' → parts a b c ≡ parts a' b' c'
same_parts {a} {b} {c} {a'} {b'} {c'} p q r =
    ap (λ (l : List Block). parts l b c) p ∙ (ap (λ (l : List Block). parts a' l c) q ∙ ap (λ (l : List Block). parts a' b' l) r)

pub only_there : (d : CardDesc) (partition : Partition) (first count : ℕ) (old new : List Block) → first + count ≤ partition_size d partition →
    OnlyThese (partition_place d partition + first) count old new → OnlyThere d partition first count old new
only_there d User first count old new h o =
    let e : 0 + first ≡ first = omega arith in
    let here : OnlyThese first count old new = subst (λ (n : ℕ). OnlyThese n count old new) e o in
    record {
      these = only_front d.capacity first count old new h here;
      others = same_parts refl
          (same_behind d.capacity (boot_capacity d) (first + count) old new h here.above)
          (further (d.capacity + boot_capacity d) (first + count) old new (omega (arith, h)) here.above);
    }
only_there d Boot1 first count old new h o =
    let back : OnlyThese first count (drop d.capacity old) (drop d.capacity new) = only_back d.capacity first count old new o in
    record {
      these = only_front (boot_capacity d) first count (drop d.capacity old) (drop d.capacity new) h back;
      others = same_parts
          (shorter d.capacity (d.capacity + first) old new (omega arith) o.below) refl
          (further (d.capacity + boot_capacity d) (d.capacity + first + count) old new (omega (arith, h)) o.above);
    }
only_there d Boot2 first count old new h o =
    record {
      these = only_back (d.capacity + boot_capacity d) first count old new o;
      others = same_parts
          (shorter d.capacity (d.capacity + boot_capacity d + first) old new (omega arith) o.below)
          (same_before d.capacity (boot_capacity d) (d.capacity + boot_capacity d + first) old new (omega arith) o.below) refl;
    }

-- WHOLE BLOCKS: an image of the card's size has partitions of theirs, and the other way round

front_sized : (size n : ℕ) (xs : List Block) → size ≤ n → AreBlocks n xs → AreBlocks size (take size xs)
front_sized size n xs h a = record {
  size = let s = a.size in length-take-le size xs (omega (arith, h, s));
  blocks_fit = All-take (IsRegister 512) size xs a.blocks_fit;
}

back_sized : (start size n : ℕ) (xs : List Block) → start + size ≡ n → AreBlocks n xs → AreBlocks size (drop start xs)
back_sized start size n xs h a = record {
  size = let s = a.size in let l = length-drop start xs in omega (arith, h, s, l);
  blocks_fit = All-drop (IsRegister 512) start xs a.blocks_fit;
}

pub contents_sized : (d : CardDesc) (all : List Block) → AreBlocks (image_size d) all → (partition : Partition) →
    AreBlocks (partition_size d partition) (blocks_of partition (contents_of d all))
contents_sized d all a User = front_sized d.capacity (image_size d) all (omega arith) a
contents_sized d all a Boot1 =
    front_sized (boot_capacity d) (2 * boot_capacity d) (drop d.capacity all) (omega arith)
    (back_sized d.capacity (2 * boot_capacity d) (image_size d) all refl a)
contents_sized d all a Boot2 = back_sized (d.capacity + boot_capacity d) (boot_capacity d) (image_size d) all (omega arith) a

-- a list is a front of it and the rest
parted : (P : Block → Type 0) (n : ℕ) (xs : List Block) → All P (take n xs) → All P (drop n xs) → All P xs
parted P n xs front back = subst (λ (l : List Block). All P l) (take-append-drop n xs) (All-append P (take n xs) (drop n xs) front back)

pub whole_sized : (d : CardDesc) (all : List Block) →
    ((partition : Partition) → AreBlocks (partition_size d partition) (blocks_of partition (contents_of d all))) → AreBlocks (image_size d) all
whole_sized d all fit =
    let user : AreBlocks d.capacity (take d.capacity all) = fit User in
    let boot_1 : AreBlocks (boot_capacity d) (take (boot_capacity d) (drop d.capacity all)) = fit Boot1 in
    let boot_2 : AreBlocks (boot_capacity d) (drop (d.capacity + boot_capacity d) all) = fit Boot2 in
    let rest : All (IsRegister 512) (drop (boot_capacity d) (drop d.capacity all)) =
    subst (λ (l : List Block). All (IsRegister 512) l) (sym (drop-drop (boot_capacity d) d.capacity all)) boot_2.blocks_fit in
    record {
      size =
          sizes d.capacity (boot_capacity d) (length all) (sym (length-take d.capacity all) ∙ user.size)
          (ap (λ (n : ℕ). min (boot_capacity d) n) (sym (length-drop d.capacity all))
          ∙ (sym (length-take (boot_capacity d) (drop d.capacity all)) ∙ boot_1.size))
          (sym (length-drop (d.capacity + boot_capacity d) all) ∙ boot_2.size);
      blocks_fit =
          parted (IsRegister 512) d.capacity all user.blocks_fit
          (parted (IsRegister 512) (boot_capacity d) (drop d.capacity all) boot_1.blocks_fit rest);
    }
  where
    sizes : (capacity boot n : ℕ) → min capacity n ≡ capacity → min boot (n - capacity) ≡ boot → n - (capacity + boot) ≡ boot → n ≡ capacity + 2 * boot
    sizes capacity boot n user boot_1 boot_2 = omega (arith, user, boot_1, boot_2)
