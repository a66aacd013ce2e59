-- THE CAPACITY: past the statement that reads it, the first number is the card's; and the test of it.
use Rattle.std.proofs.Common.{◌≡◌, ℕ, ◌<◌, ◌≤◌, inl, inr, refl, sym, ap, ◌∙◌, subst, Bool, true, false, List, [], ◌∷◌, ◌++◌, append_assoc, Option, Some, None}
use Rattle.std.specs.Prelude.{◌⊎◌, codes, nat_le, slice_set, slice_index, option_map, option_and_then, if◌then◌else◌}
use Rattle.std.proofs.lemmas.Bool.{leb-true, leb-false}
use Rattle.sdv_frames.specs.Bits.{bits_of}
use Rattle.sdv_registers.specs.Csd.{blocks}
use Rattle.sdv_registers.specs.ExtCsd.{sec_count}
use Rattle.sdv_registers.specs.declared.kind.Kind.{Kind}
use Rattle.sdv_registers.specs.declared.kind.Kind.TheVariants.{Sd, Emmc}
use Rattle.sdv_card.specs.declared.answer.DataEnd.TheVariants.{Ok, Cut}
use Rattle.sdv_card.specs.declared.event.Aim.TheVariants.{Plain}
use Rattle.sdv_card.specs.declared.guard.Guard.TheVariants.{Clean}
use Rattle.sdv_card.specs.declared.state.Partition.TheVariants.{User}
use Rattle.sdv_card.specs.Card.{Card, AreBlocks}
use Rattle.sdv_card.specs.Host.{Host, host_after}
use Rattle.sdv_card.specs.HostEvents.{Makes}
use Rattle.sdv_card.specs.Profile.{told_blocks}
use Rattle.sdv_card.specs.ScriptEvent.{ScriptEvent, ReceiveRegister, Return, Answered, RegisterIn}
use Rattle.sdv_card.specs.Shapes.{IsPair}
use Rattle.sdv_card.specs.Step.{Step}
use Rattle.sdv_card.specs.Taken.{SameCard}
use Rattle.sdv_card.proofs.KeepPairs.{steps_keep_pairs}
use Rattle.sdv_card.proofs.KeepSound.{same_sectors, steps_keep_sound}
use Rattle.sdv_card.proofs.Same.{same_both, same_itself, steps_keep_same}
use Rattle.sdv_graph.specs.declared.tree.Atom.TheVariants as atoms
use Rattle.sdv_graph.specs.declared.tree.Let.{Let}
use Rattle.sdv_graph.specs.declared.tree.Phase.TheVariants as phases
use Rattle.sdv_card.specs.ShapeBits.{is_flag_set}
use Rattle.sdv_graph.specs.Counts.{max_number}
use Rattle.sdv_graph.specs.Tree.{Statements, Ways, nothing, first, otherwise, way, phase, setting}
use Rattle.sdv_graph.specs.ValueOfLet.{number, with_number, in_range, value_of_let}
use Rattle.sdv_graph.specs.Walk.{Pair, Ending, Open, Failed, Rest, Stops, InRange, number_fault, exactly, all_pass, walk_statement, walk_statements, given}
use Rattle.sdv_facts.specs.Beside.{IsAllowed}
use Rattle.sdv_facts.specs.Keeps.{IsHonest}
use Rattle.sdv_block.specs.RequestStatements.{fails}
use Rattle.sdv_block.specs.BringUpStatements.{plain, cap_from, ext_csd_statement, capacity_statement, capacity_test}
use Rattle.sdv_block.specs.Served.{AllowedSteps, blocks_read, disk_blocks}
use Rattle.sdv_block.proofs.CardSteps.{Spares, spares}
use Rattle.sdv_block.proofs.Knowing.{Knowing, profile_kept, known_after}
use Rattle.sdv_block.proofs.Parts.{Halts, halts, halts_in_fault, either, command_at, Acted, made, Sent, send_part, after_phase, phase_part, Past}
use Rattle.sdv_block.proofs.Quiet.{HaltedQuiet, halted_later, halted_here, moved_contents, read_none, gave_none}
use Rattle.sdv_block.proofs.UserArea.{IsUser, moved_user}

-- THE VALUE of a register

in_range_is : (n value : ℕ) → in_range n ≡ Some value → n ≡ value
in_range_is n value e = go (nat_le n max_number) e
  where
    go : (b : Bool) → (if b then Some n else None) ≡ Some value → n ≡ value
    go true e = cc
    go false e = absurd (cc)

sd_told : (k : Kind) (c : Card) → Sd ≡ k → told_blocks k c.block_unit c.csd c.ext_csd ≡ c.capacity → blocks Sd (bits_of c.csd) ≡ c.capacity
sd_told k c e t = subst (λ k. told_blocks k c.block_unit c.csd c.ext_csd ≡ c.capacity) (sym e) t

told_by : (c : Card) (k : Kind) (unit : Bool) → k ≡ c.kind → unit ≡ c.block_unit → told_blocks c.kind c.block_unit c.csd c.ext_csd ≡ c.capacity →
    told_blocks k unit c.csd c.ext_csd ≡ c.capacity
told_by c k unit kind same told =
    subst (λ k. told_blocks k unit c.csd c.ext_csd ≡ c.capacity) (sym kind) (subst (λ u. told_blocks c.kind u c.csd c.ext_csd ≡ c.capacity) (sym same) told)

csd_value : (k : Kind) (c : Card) (h : Host) (n : ℕ) → IsHonest k c h → blocks k (bits_of c.csd) ≡ c.capacity →
    value_of_let k h (cap_from atoms.CsdBlocks) ≡ Some n → n ≡ c.capacity
csd_value k c h n honest told e = go h.csd refl e
  where
    go : (o : Option (List ℕ)) → h.csd ≡ o → option_and_then in_range (option_map (λ bytes. blocks k (bits_of bytes)) o) ≡ Some n → n ≡ c.capacity
    go None held e = absurd (cc)
    go (Some bytes) held e =
        sym (in_range_is (blocks k (bits_of bytes)) n e)
        ∙ (ap (λ (b : List ℕ). blocks k (bits_of b)) (honest.sound.csd bytes held) ∙ told)

ext_csd_value : (c : Card) (h : Host) (n : ℕ) → IsHonest Emmc c h → sec_count c.ext_csd ≡ c.capacity → value_of_let Emmc h (cap_from atoms.ExtBlocks) ≡ Some n →
    n ≡ c.capacity
ext_csd_value c h n honest told e = go h.ext_csd refl e
  where
    go : (o : Option (List ℕ)) → h.ext_csd ≡ o → option_and_then in_range (option_map sec_count o) ≡ Some n → n ≡ c.capacity
    go None held e = absurd (cc)
    go (Some bytes) held e =
        sym (in_range_is (sec_count bytes) n e)
        ∙ (same_sectors bytes c.ext_csd (honest.sound.ext_csd bytes (sym honest.pair.kind) held) ∙ told)

-- PAST THE STATEMENT

pub record Counted (c : Card) (front : List Pair) (u : Card) (h' : Host) : Type 0 where
  pub same : SameCard c u
  pub contents : c.contents ≡ u.contents
  pub user : IsUser c → IsUser u
  pub read : blocks_read front ≡ []
  pub gave : given front ≡ []
  pub blocks : AreBlocks u.capacity (disk_blocks u)
  pub cap : number h' 0 ≡ u.capacity

abbrev pub CountOutcome : Ending → Rest → List Pair → (c last : Card) → Type 0
CountOutcome e fell es c last = HaltedQuiet e es c last ⊎ Past (Counted c) fell es last

-- quiet events before what came of the others
counted_after : (k : Kind) (e : Ending) (fell : Rest) (c u last : Card) (h i : Host) (es front rest : List Pair) → es ≡ front ++ rest →
    Knowing k c h front u i → CountOutcome e fell rest u last → CountOutcome e fell es c last
counted_after k e fell c u last h i es front rest split w (inl halt) = inl (halted_later e es front rest c u last h i split w.quiet halt)
counted_after k e fell c u last h i es front rest split w (inr r) = inr (record {
  front = front ++ r.front;
  rest = r.rest;
  card = r.card;
  host = r.host;
  split = split ∙ (ap (λ (es : List Pair). front ++ es) r.split ∙ sym (append_assoc front r.front r.rest));
  did = record {
    same = same_both c u r.card w.quiet.same r.did.same;
    contents = w.quiet.contents ∙ r.did.contents;
    user = λ user. r.did.user (w.quiet.user user);
    read = read_none front r.front w.quiet.read r.did.read;
    gave = gave_none front r.front w.quiet.gave r.did.gave;
    blocks = r.did.blocks;
    cap = r.did.cap;
  };
  on = r.on;
  steps = r.steps;
})

held : (numbers : List ℕ) (value : ℕ) → numbers ≡ 0 ∷ [] → slice_index (slice_set numbers 0 value) 0 ≡ value
held numbers value e = rw e refl

-- let cap = ATOM
module _ (k : Kind) (e : Ending) (fell broke : Rest) (h : Host) (es : List Pair) (c last : Card) (l : Let) (target : l.target ≡ 0) (honest : IsHonest k c h)
    (numbers : h.numbers ≡ 0 ∷ []) (is : (n : ℕ) → value_of_let k h l ≡ Some n → n ≡ c.capacity) where
  by_value : (o : Option ℕ) → value_of_let k h l ≡ o → InRange e o (λ n. fell (with_number h l.target n) es) es → AllowedSteps c es last →
      CountOutcome e fell es c last
  by_value None value s steps = inl (halted_here e es c last (halts e number_fault es refl s) steps)
  by_value (Some n) value on steps = inr (record {
    front = [];
    rest = es;
    card = c;
    host = with_number h l.target n;
    split = refl;
    did = record {
      same = same_itself c c refl;
      contents = refl;
      user = λ user. user;
      read = refl;
      gave = refl;
      blocks = honest.pair.card.contents User;
      cap = subst (λ x. slice_index (slice_set h.numbers x n) 0 ≡ c.capacity) (sym target) (held h.numbers n numbers ∙ is n value);
    };
    on = on;
    steps = steps;
  })

  let_part : walk_statement k e (setting l) fell broke h es → AllowedSteps c es last → CountOutcome e fell es c last
  let_part (inl s) steps = inl (halted_here e es c last (halts e Open es tt s) steps)
  let_part (inr w) steps = by_value (value_of_let k h l) refl w steps

-- A REGISTER PHASE keeps what the host knows true

register_known : (k : Kind) (c v : Card) (h : Host) (returned : Return) → IsHonest k c h → IsAllowed (ReceiveRegister h.lines h.register_length) c →
    Step (ReceiveRegister h.lines h.register_length) c returned v →
    Knowing k c h ((ReceiveRegister h.lines h.register_length, returned) ∷ []) v (host_after k (ReceiveRegister h.lines h.register_length) returned h)
register_known k c v h (RegisterIn end bytes) honest allowed step =
    let event : ScriptEvent = ReceiveRegister h.lines h.register_length in
    let h' : Host = host_after k event (RegisterIn end bytes) h in
    let same : SameCard c v = steps_keep_same k event c (RegisterIn end bytes) v honest.pair.kind step in
    let made : Makes k event h = record { lines_are = refl; size = refl } in
    let pair : IsPair k v h' = steps_keep_pairs k event c h (RegisterIn end bytes) v honest.pair made step in
    record {
      quiet = record {
        same = same;
        contents = moved_contents end c v step.moved;
        user = λ user. moved_user end c v step.moved user;
        read = refl;
        gave = refl;
        flags = refl;
      };
      honest = record {
        pair = pair;
        profile = profile_kept c v k h' pair same honest.profile;
        sound = steps_keep_sound k event c h (RegisterIn end bytes) v honest.pair made allowed.legal step honest.sound;
      };
      numbers = refl;
    }
register_known k c v h returned honest allowed step = absurd step

-- AN e.MMC DEVICE WITH BLOCK ADDRESSES: its EXT_CSD tells

abbrev in_ext : Statements
in_ext = first (setting (cap_from atoms.ExtBlocks)) nothing

abbrev ext_failed : Statements
ext_failed = fails (codes "ext")

abbrev ext_phase : Statements
ext_phase = first (phase phases.ReceiveRegister in_ext ext_failed) nothing

abbrev ext_ways : Ways
ext_ways = way (Clean ∷ []) ext_phase (otherwise ext_failed)

unit_kept : (c u : Card) → SameCard c u → c.block_unit ≡ true → u.block_unit ≡ true
unit_kept c u same unit = sym same.block_unit ∙ unit

module _ (e : Ending) (fell broke : Rest) (last : Card) where
  ext_told : (h : Host) (c : Card) → IsHonest Emmc c h → c.block_unit ≡ true → sec_count c.ext_csd ≡ c.capacity
  ext_told h c honest unit = told_by c Emmc true honest.pair.kind (sym unit) honest.profile.told

  register_by : (h : Host) (es : List Pair) (c : Card) → IsHonest Emmc c h → h.numbers ≡ 0 ∷ [] → c.block_unit ≡ true →
      (returned : Return) (rest : List Pair) (v : Card) → es ≡ (ReceiveRegister h.lines h.register_length, returned) ∷ rest →
      IsAllowed (ReceiveRegister h.lines h.register_length) c → Step (ReceiveRegister h.lines h.register_length) c returned v →
      after_phase Emmc e in_ext ext_failed fell broke returned (host_after Emmc (ReceiveRegister h.lines h.register_length) returned h) rest →
      AllowedSteps v rest last → CountOutcome e fell es c last
  register_by h es c honest numbers unit (RegisterIn Ok bytes) rest v same allowed step on steps =
      let event : ScriptEvent = ReceiveRegister h.lines h.register_length in
      let w = register_known Emmc c v h (RegisterIn Ok bytes) honest allowed step in
      let i : Host = host_after Emmc event (RegisterIn Ok bytes) h in
      let told = ext_told i v w.honest (unit_kept c v w.quiet.same unit) in
      counted_after Emmc e fell c v last h i es ((event, RegisterIn Ok bytes) ∷ []) rest same w
      (let_part Emmc e fell broke i rest v last (cap_from atoms.ExtBlocks) refl w.honest (w.numbers ∙ numbers)
      (λ n value. ext_csd_value v i n w.honest told value) on steps)
  register_by h es c honest numbers unit (RegisterIn Cut bytes) rest v same allowed step on steps =
      let event : ScriptEvent = ReceiveRegister h.lines h.register_length in
      let w = register_known Emmc c v h (RegisterIn Cut bytes) honest allowed step in
      inl (halted_later e es ((event, RegisterIn Cut bytes) ∷ []) rest c v last h (host_after Emmc event (RegisterIn Cut bytes) h) same w.quiet
      (halted_here e rest v last (halts_in_fault e (codes "ext") rest refl on) steps))
  register_by h es c honest numbers unit returned rest v same allowed step on steps = absurd step

  of_phase : (h : Host) (es : List Pair) (c : Card) → IsHonest Emmc c h → h.numbers ≡ 0 ∷ [] → c.block_unit ≡ true → AllowedSteps c es last →
      Halts e es ⊎ Acted Emmc (exactly (ReceiveRegister h.lines h.register_length)) h (after_phase Emmc e in_ext ext_failed fell broke) es c last →
      CountOutcome e fell es c last
  of_phase h es c honest numbers unit steps (inl halt) = inl (halted_here e es c last halt steps)
  of_phase h es c honest numbers unit steps (inr a) =
      let m = made Emmc (ReceiveRegister h.lines h.register_length) h (after_phase Emmc e in_ext ext_failed fell broke) es c last a in
      register_by h es c honest numbers unit m.returned m.rest m.after m.same m.allowed m.step m.on m.steps

  abbrev ExtFailed : List Pair → Type 0
  ExtFailed rest = Stops e Open rest ⊎ Stops e (Failed (codes "ext")) rest

  abbrev phase_walk : Rest
  phase_walk = walk_statements Emmc e ext_phase fell broke

  if_clean : (h : Host) (rest : List Pair) (u : Card) (b : Bool) → IsHonest Emmc u h → h.numbers ≡ 0 ∷ [] → u.block_unit ≡ true → AllowedSteps u rest last →
      ((b ≡ true) × phase_walk h rest) ⊎ ((b ≡ false) × ExtFailed rest) → CountOutcome e fell rest u last
  if_clean h rest u b honest numbers unit steps (inl x) =
      of_phase h rest u honest numbers unit steps (phase_part Emmc e phases.ReceiveRegister in_ext ext_failed fell broke h rest u last x.1 steps)
  if_clean h rest u b honest numbers unit steps (inr x) = inl (halted_here e rest u last (halts_in_fault e (codes "ext") rest refl x.1) steps)

  of_ext : (h : Host) (es : List Pair) (c : Card) → IsHonest Emmc c h → h.numbers ≡ 0 ∷ [] → c.block_unit ≡ true → AllowedSteps c es last →
      Halts e es ⊎ Sent Emmc e (plain 8 Plain 0) ext_ways fell broke h es c last → CountOutcome e fell es c last
  of_ext h es c honest numbers unit steps (inl halt) = inl (halted_here e es c last halt steps)
  of_ext h es c honest numbers unit steps (inr s) =
      let i : Host = host_after Emmc (command_at Emmc (plain 8 Plain 0) h s.position) (Answered s.answer) h in
      let w = known_after Emmc (plain 8 Plain 0) s.position c s.after h s.answer spares_8 honest s.allowed s.sends in
      let b : Bool = all_pass Emmc (Clean ∷ []) (Answered s.answer) in
      counted_after Emmc e fell c s.after last h i es ((command_at Emmc (plain 8 Plain 0) h s.position, Answered s.answer) ∷ []) s.rest s.same w
      (if_clean i s.rest s.after b w.honest (w.numbers ∙ numbers) (unit_kept c s.after w.quiet.same unit) s.steps
      (either (phase_walk i s.rest) (ExtFailed s.rest) b s.on))
    where
      spares_8 : Spares 8
      spares_8 = spares 8 refl refl

  ext_part : (h : Host) (es : List Pair) (c : Card) → IsHonest Emmc c h → h.numbers ≡ 0 ∷ [] → c.block_unit ≡ true →
      walk_statement Emmc e ext_csd_statement fell broke h es → AllowedSteps c es last → CountOutcome e fell es c last
  ext_part h es c honest numbers unit walk steps =
      of_ext h es c honest numbers unit steps (send_part Emmc e (plain 8 Plain 0) ext_ways fell broke h es c last walk steps)

  -- by its CSD
  csd_part : (k : Kind) (h : Host) (es : List Pair) (c : Card) → IsHonest k c h → h.numbers ≡ 0 ∷ [] → blocks k (bits_of c.csd) ≡ c.capacity →
      walk_statement k e (setting (cap_from atoms.CsdBlocks)) fell broke h es → AllowedSteps c es last → CountOutcome e fell es c last
  csd_part k h es c honest numbers told walk steps =
      let_part k e fell broke h es c last (cap_from atoms.CsdBlocks) refl honest numbers (λ n value. csd_value k c h n honest told value) walk steps

  by_unit : (h : Host) (es : List Pair) (c : Card) → IsHonest Emmc c h → h.numbers ≡ 0 ∷ [] → is_flag_set h.flags 0 ≡ c.block_unit → AllowedSteps c es last →
      ((is_flag_set h.flags 0 ≡ true) × walk_statement Emmc e ext_csd_statement fell broke h es)
      ⊎ ((is_flag_set h.flags 0 ≡ false) × walk_statement Emmc e (setting (cap_from atoms.CsdBlocks)) fell broke h es) → CountOutcome e fell es c last
  by_unit h es c honest numbers unit steps (inl x) = ext_part h es c honest numbers (sym unit ∙ x.0) x.1 steps
  by_unit h es c honest numbers unit steps (inr x) =
      csd_part Emmc h es c honest numbers (told_by c Emmc false honest.pair.kind (sym x.0 ∙ unit) honest.profile.told) x.1 steps

  pub capacity_part : (k : Kind) (h : Host) (es : List Pair) (c : Card) → IsHonest k c h → h.numbers ≡ 0 ∷ [] → is_flag_set h.flags 0 ≡ c.block_unit →
      walk_statement k e (capacity_statement k) fell broke h es → AllowedSteps c es last → CountOutcome e fell es c last
  capacity_part Sd h es c honest numbers unit walk steps = csd_part Sd h es c honest numbers (sd_told c.kind c honest.pair.kind honest.profile.told) walk steps
  capacity_part Emmc h es c honest numbers unit (inl s) steps = inl (halted_here e es c last (halts e Open es tt s) steps)
  capacity_part Emmc h es c honest numbers unit (inr w) steps =
      by_unit h es c honest numbers unit steps
      (either (walk_statement Emmc e ext_csd_statement fell broke h es) (walk_statement Emmc e (setting (cap_from atoms.CsdBlocks)) fell broke h es)
      (is_flag_set h.flags 0) w)

-- if cap >= LEAST { } else { fault beyond }

-- the walk ended in the fault `beyond`, and the number is too small
pub record TooSmall (e : Ending) (least value : ℕ) (es : List Pair) : Type 0 where
  pub none : es ≡ []
  pub is : e ≡ Failed (codes "beyond")
  pub small : value < least

pub record Enough (fell : Rest) (least value : ℕ) (h : Host) (es : List Pair) : Type 0 where
  pub enough : least ≤ value
  pub on : fell h es

abbrev Beyond : Ending → List Pair → Type 0
Beyond e es = Stops e Open es ⊎ Stops e (Failed (codes "beyond")) es

abbrev Tested : Ending → (least : ℕ) → Rest → Host → List Pair → Type 0
Tested e least fell h es = Halts e es ⊎ (TooSmall e least (number h 0) es ⊎ Enough fell least (number h 0) h es)

is_beyond : (e : Ending) (least : ℕ) (fell : Rest) (h : Host) (es : List Pair) → nat_le least (number h 0) ≡ false → Beyond e es → Tested e least fell h es
is_beyond e least fell h es less (inl s) = inl (halts e Open es tt s)
is_beyond e least fell h es less (inr s) = inr (inl (record { none = s.0; is = s.1; small = leb-false least (number h 0) less }))

by_test : (e : Ending) (least : ℕ) (fell : Rest) (h : Host) (es : List Pair) →
    ((nat_le least (number h 0) ≡ true) × fell h es) ⊎ ((nat_le least (number h 0) ≡ false) × Beyond e es) → Tested e least fell h es
by_test e least fell h es (inl x) = inr (inr (record { enough = leb-true least (number h 0) x.0; on = x.1 }))
by_test e least fell h es (inr x) = is_beyond e least fell h es x.0 x.1

pub test_part : (k : Kind) (e : Ending) (least : ℕ) (fell broke : Rest) (h : Host) (es : List Pair) → walk_statement k e (capacity_test least) fell broke h es →
    Tested e least fell h es
test_part k e least fell broke h es (inl s) = inl (halts e Open es tt s)
test_part k e least fell broke h es (inr w) = by_test e least fell h es (either (fell h es) (Beyond e es) (nat_le least (number h 0)) w)
