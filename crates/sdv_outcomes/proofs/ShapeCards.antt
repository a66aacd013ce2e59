-- A card and a host of each shape, and a step there for each outcome.
use Rattle.std.proofs.Common.{◌≡◌, ℕ, ◌+◌, ◌<◌, ◌≤◌, ◌/◌, ◌==◌, ◌&&◌, refl, ap, subst, sym, ◌∙◌, Bool, true, false, IsTrue, [], ◌∷◌, replicate, Option, Some, None, if◌then◌else◌, eqb-true, lit<, arith}
use Rattle.std.proofs.lemmas.List.{length-replicate}
use Rattle.std.proofs.lemmas.List.Elements.{All-replicate}
use Rattle.std.proofs.lemmas.Nat.{mod_below}
use Rattle.sdv_registers.specs.declared.kind.Kind.{Kind}
use Rattle.sdv_registers.specs.declared.kind.Kind.TheVariants.{Sd, Emmc}
use Rattle.sdv_card.specs.declared.state.State.{State}
use Rattle.sdv_card.specs.declared.state.State.TheVariants.{Idle, Ready, Ident}
use Rattle.sdv_card.specs.declared.state.Partition.{Partition}
use Rattle.sdv_card.specs.declared.state.Partition.TheVariants.{User, Boot1, Boot2}
use Rattle.sdv_card.specs.declared.fields.Fields.{Fields}
use Rattle.sdv_card.specs.declared.event.Ask.{Ask}
use Rattle.sdv_card.specs.declared.event.Event.{Event}
use Rattle.sdv_card.specs.declared.event.Event.TheVariants.{Send, RecvBlocks, RecvReg, Give, Wait}
use Rattle.sdv_card.specs.declared.event.Outcome.{Outcome}
use Rattle.sdv_card.specs.declared.event.Seen.{Seen}
use Rattle.sdv_card.specs.declared.event.Seen.TheVariants.{TimeOut}
use Rattle.sdv_card.specs.declared.command.Order.{Order}
use Rattle.sdv_card.specs.declared.command.Order.TheVariants.{SendRelativeAddress, ReadSingleBlock, ReadMultipleBlock, WriteBlock, WriteMultipleBlock, EraseBlockStart, EraseBlockEnd, EraseGroupStart, EraseGroupEnd}
use Rattle.sdv_card.specs.Lists.{May}
use Rattle.sdv_card.specs.Modes.{mode_fits, has_width}
use Rattle.sdv_card.specs.Takes.{matches}
use Rattle.sdv_card.specs.CommandTable.{order_of, addressed_blocks}
use Rattle.sdv_card.specs.Card.{Card, IsCard, IsByte, IsRegister, AreBlocks, DataRegisters, AddressFits, capacity_of, blocks_of, transfer_fits, kind_fits, length_fits}
use Rattle.sdv_card.specs.Host.{Host}
use Rattle.sdv_card.specs.ScriptEvent.{event_of}
use Rattle.sdv_card.specs.Code.{code_of, digits, fields_of}
use Rattle.sdv_card.specs.Shapes.{view, pair_code, is_shape, match_fits}
use Rattle.sdv_card.specs.LegalShapes.{ask_legal, event_legal, legal_at, legal_code}
use Rattle.sdv_card.specs.Outcomes.{outcomes_code}
use Rattle.sdv_card.specs.Laws.{order_blocks}
use Rattle.sdv_card.proofs.Digits.{same_fields}
use Rattle.sdv_card.proofs.Members.{and_left, and_right}
use Rattle.sdv_card.proofs.RowsOfOrders.{order_count}
use Rattle.sdv_card.proofs.OrdersOfAsks.{of_ask}
use Rattle.sdv_card.proofs.TableLaws.{asks_address, legal_is_exact}
use Rattle.sdv_outcomes.specs.OpenGuards.{OpenGuards}
use Rattle.sdv_outcomes.specs.Representative.{IsRepresentativePair}
use Rattle.sdv_outcomes.specs.Histories.{Entry, Happens, is_impossible_by, is_impossible_match, IsHistory, EntryWithin, IsWithin}
use Rattle.sdv_outcomes.specs.EachShape.{CardWithOutcome, EachOutcomeHasCard, EachIllegalShapeHasCard}
use Rattle.sdv_outcomes.proofs.MadeEvents.{block, block_fits, event_for, event_is, event_made}
use Rattle.sdv_outcomes.proofs.HistoryRuns.{histories_have_runs}

-- THE CARD, with n blocks in each partition, and its host

abbrev rca_for : State → Option ℕ
rca_for Idle = None
rca_for Ready = None
rca_for Ident = None
rca_for state = Some 1

card_for : Kind → ℕ → Fields → Card
card_for k n f = record {
  kind = k;
  version = 2;
  block_unit = f.block_unit;
  capacity = n;
  boot_capacity = n;
  csd = replicate 15 0;
  cid = replicate 15 0;
  ext_csd = replicate 512 0;
  scr = replicate 8 0;
  sd_status = replicate 64 0;
  state = f.state;
  rca = rca_for f.state;
  app = f.app;
  block_length = if f.length_512 then 512 else 0;
  erase = f.erase;
  mode = f.mode;
  preset = f.preset;
  transfer = f.transfer;
  next_block = 0;
  announced = 1;
  unshown_error = false;
  contents = record { user = replicate n block; boot_1 = replicate n block; boot_2 = replicate n block };
}

host_for : Fields → Host
host_for f = record {
  numbers = [];
  flags = f.flags;
  rca = if f.matched then 1 else 2;
  lines = f.lines;
  csd = None;
  ext_csd = None;
  announced = 1;
  register_length = 512;
}

zeros : (n : ℕ) → IsRegister n (replicate n 0)
zeros n = record { size = length-replicate {A = ℕ} n 0; bytes_fit = All-replicate IsByte n 0 (lit< tt) }

blocks_for : (n : ℕ) → AreBlocks n (replicate n block)
blocks_for n = record { size = length-replicate n block; blocks_fit = All-replicate (IsRegister 512) n block block_fits }

has_address : (s : State) → AddressFits s (rca_for s)
has_address Idle = refl
has_address Ready = refl
has_address Ident = refl
has_address s = (1, refl, lit< tt, lit< tt)

length_is : (b : Bool) → ((if b then 512 else 0) == 512) ≡ b
length_is true = refl
length_is false = refl

match_is : (s : State) (b : Bool) → match_fits s b ≡ true → matches (rca_for s) (if b then 1 else 2) ≡ b
match_is Idle b e = sym e
match_is Ready b e = sym e
match_is Ident b e = sym e
match_is s true e = refl
match_is s false e = refl

-- what a shape says
record ShapeFits (k : Kind) (f : Fields) : Type 0 where
  transfer : transfer_fits f.state f.transfer ≡ true
  kind : kind_fits k f.transfer f.app f.preset ≡ true
  matched : match_fits f.state f.matched ≡ true
  len : length_fits f.block_unit f.length_512 ≡ true
  mode : mode_fits k f.mode ≡ true
  lines : has_width k f.lines ≡ true

shape_fits : (k : Kind) (f : Fields) → is_shape k f ≡ true → ShapeFits k f
unfolding is_shape
shape_fits k f e =
    let e1 = and_left (transfer_fits f.state f.transfer && kind_fits k f.transfer f.app f.preset && match_fits f.state f.matched
    && length_fits f.block_unit f.length_512 && mode_fits k f.mode) (has_width k f.lines) e in
    let e2 = and_left (transfer_fits f.state f.transfer && kind_fits k f.transfer f.app f.preset && match_fits f.state f.matched
    && length_fits f.block_unit f.length_512) (mode_fits k f.mode) e1 in
    let e3 = and_left (transfer_fits f.state f.transfer && kind_fits k f.transfer f.app f.preset && match_fits f.state f.matched)
    (length_fits f.block_unit f.length_512) e2 in
    let e4 = and_left (transfer_fits f.state f.transfer && kind_fits k f.transfer f.app f.preset) (match_fits f.state f.matched) e3 in
    record {
      transfer = and_left (transfer_fits f.state f.transfer) (kind_fits k f.transfer f.app f.preset) e4;
      kind = and_right (transfer_fits f.state f.transfer) (kind_fits k f.transfer f.app f.preset) e4;
      matched = and_right (transfer_fits f.state f.transfer && kind_fits k f.transfer f.app f.preset) (match_fits f.state f.matched) e3;
      len = and_right (transfer_fits f.state f.transfer && kind_fits k f.transfer f.app f.preset && match_fits f.state f.matched)
          (length_fits f.block_unit f.length_512) e2;
      mode = and_right (transfer_fits f.state f.transfer && kind_fits k f.transfer f.app f.preset && match_fits f.state f.matched
          && length_fits f.block_unit f.length_512) (mode_fits k f.mode) e1;
      lines = and_right (transfer_fits f.state f.transfer && kind_fits k f.transfer f.app f.preset && match_fits f.state f.matched
          && length_fits f.block_unit f.length_512 && mode_fits k f.mode) (has_width k f.lines) e;
    }

registers_for : (k : Kind) (n : ℕ) (f : Fields) → DataRegisters k (card_for k n f)
unfolding card_for
registers_for Sd n f = record { scr = zeros 8; sd_status = zeros 64 }
registers_for Emmc n f = zeros 512

contents_for : (n : ℕ) (p : Partition) →
    AreBlocks (capacity_of p n n) (blocks_of p (record { user = replicate n block; boot_1 = replicate n block; boot_2 = replicate n block }))
contents_for n User = blocks_for n
contents_for n Boot1 = blocks_for n
contents_for n Boot2 = blocks_for n

card_is : (k : Kind) (n : ℕ) (f : Fields) → ShapeFits k f → f.preset < 65536 → IsCard (card_for k n f)
unfolding card_for
card_is k n f s preset = record {
  csd = zeros 15;
  cid = zeros 15;
  registers = registers_for k n f;
  address = has_address f.state;
  transfer = s.transfer;
  kind_rules = s.kind;
  block_length = subst (λ b. length_fits f.block_unit b ≡ true) (sym (length_is f.length_512)) s.len;
  mode = s.mode;
  preset = preset;
  announced = lit< tt;
  contents = contents_for n;
}

small_rca : (b : Bool) → (if b then 1 else 2) < 65536
small_rca true = lit< tt
small_rca false = lit< tt

some_rca : (b : Bool) → 0 < (if b then 1 else 2)
some_rca true = lit< tt
some_rca false = lit< tt

one_room : (p : Partition) (n : ℕ) → 0 < n → 0 + 1 ≤ capacity_of p n n
one_room User n h = omega arith
one_room Boot1 n h = omega arith
one_room Boot2 n h = omega arith

pair_for : (k : Kind) (n : ℕ) (f : Fields) → ShapeFits k f → f.flags < 16 → f.preset < 65536 → 0 < n → IsRepresentativePair k (card_for k n f) (host_for f)
unfolding card_for host_for
pair_for k n f s flags preset some = record {
  pair = record { kind = refl; card = card_is k n f s preset; lines = s.lines; flags = flags; rca = small_rca f.matched };
  sound = record {
    csd = λ bytes e. absurd (cc);
    ext_csd = λ bytes e g. absurd (cc);
    blocks = λ e. refl;
    register = λ e. lit< tt;
  };
  on_card = λ e. record { some = lit< tt; room = one_room f.mode.partition n some };
  representative = record { all_shown = refl; version = λ e. refl; boot_blocks = λ e. some };
}

view_for : (k : Kind) (n : ℕ) (f : Fields) → ShapeFits k f → view (card_for k n f) (host_for f) ≡ f
unfolding card_for host_for
view_for k n f s = same_fields refl refl refl refl (length_is f.length_512) refl (match_is f.state f.matched s.matched) refl refl refl refl

room_for : (k : Kind) (n : ℕ) (f : Fields) (code : ℕ) (entry : Entry) → EntryWithin n n code entry →
    IsWithin (card_for k n f).capacity (card_for k n f).boot_capacity code (entry ∷ [])
unfolding card_for
room_for k n f code entry within = (within, tt)

address_for : (f : Fields) → 0 < (host_for f).rca
unfolding host_for
address_for f = some_rca f.matched

-- AN ASK of the command tables addresses fewer blocks than 65,536

few_blocks : (order : Order) (count : ℕ) → order_blocks order ≡ Some count → order_count order < 65536 → count ≤ 65536
few_blocks (ReadMultipleBlock n) count e h = let f : n ≡ count = cc in omega arith
few_blocks (WriteMultipleBlock n) count e h = let f : n ≡ count = cc in omega arith
few_blocks ReadSingleBlock count e h = let f : 1 ≡ count = cc in omega arith
few_blocks WriteBlock count e h = let f : 1 ≡ count = cc in omega arith
few_blocks EraseBlockStart count e h = let f : 1 ≡ count = cc in omega arith
few_blocks EraseBlockEnd count e h = let f : 1 ≡ count = cc in omega arith
few_blocks EraseGroupStart count e h = let f : 1 ≡ count = cc in omega arith
few_blocks EraseGroupEnd count e h = let f : 1 ≡ count = cc in omega arith
few_blocks order count e h = absurd (let f : None ≡ Some count = e in cc)

ask_fits : (k : Kind) (ask : Ask) (o : Option Order) (f : Fields) → order_of k ask ≡ o → ask_legal k o f ≡ true →
    (count : ℕ) → addressed_blocks ask ≡ Some count → count ≤ 65536
ask_fits k ask None f e l count a = absurd (let g : false ≡ true = l in cc)
ask_fits k ask (Some order) f e l count a = few_blocks order count (asks_address k ask order e ∙ a) (of_ask k ask order e).count

partition_room : (p : Partition) (n m : ℕ) → m ≤ n → m ≤ capacity_of p n n
partition_room User n m h = h
partition_room Boot1 n m h = h
partition_room Boot2 n m h = h

-- so an event at a position is in bounds, where each partition has 65,536 blocks from there on
event_fits : (k : Kind) (code : ℕ) (event : Event) (position : ℕ) (o : Outcome) (guards : OpenGuards) (f : Fields) → event_legal k event f ≡ true →
    EntryWithin (position + 65536) (position + 65536) code (Happens event position o guards)
event_fits k code (Send ask) position o guards f l = λ count a.
    let few : count ≤ 65536 = ask_fits k ask (order_of k ask) f refl l count a in
    partition_room (digits code).mode.partition (position + 65536) (position + count) (omega arith)
event_fits k code RecvBlocks position o guards f l = tt
event_fits k code RecvReg position o guards f l = tt
event_fits k code Give position o guards f l = tt
event_fits k code Wait position o guards f l = tt

-- A CODE

record Shown (code : ℕ) (f : Fields) : Type 0 where
  same : code_of f ≡ code
  flags : f.flags < 16
  preset : f.preset < 65536

small_digits : (code : ℕ) → ((digits code).flags < 16) × ((digits code).preset < 65536)
unfolding digits
small_digits code = (mod_below (code / 65536) 16 (lit< tt), mod_below (code / 4294967296) 65536 (lit< tt))

shown_by : (code : ℕ) (f : Fields) (b : Bool) → (code_of (digits code) == code) ≡ b → (if b then Some (digits code) else None) ≡ Some f → Shown code f
shown_by code f true t e =
    let g : digits code ≡ f = cc in
    subst (λ v. Shown code v) g (record { same = eqb-true _ _ t; flags = (small_digits code).0; preset = (small_digits code).1 })
shown_by code f false t e = absurd (cc)

shown : (code : ℕ) (f : Fields) → fields_of code ≡ Some f → Shown code f
unfolding fields_of
shown code f e = shown_by code f (code_of (digits code) == code) refl e

-- AN OUTCOME: the host has an address, so that no match is impossible

possible_by : (order : Option Order) (seen : Seen) (code : ℕ) → is_impossible_by order seen true code ≡ false
possible_by (Some SendRelativeAddress) TimeOut code = refl
possible_by order seen code = refl

possible : (k : Kind) (event : Event) (o : Outcome) → is_impossible_match k event o true ≡ false
possible k (Send ask) o = possible_by (order_of k ask) o.seen o.shape.0
possible k RecvBlocks o = refl
possible k RecvReg o = refl
possible k Give o = refl
possible k Wait o = refl

has_card : (k : Kind) (code : ℕ) (event : Event) (position : ℕ) (o : Outcome) (guards : OpenGuards) (f : Option Fields) → fields_of code ≡ f →
    legal_at k event f ≡ true → IsTrue (legal_code k code event) → May (outcomes_code k code event) o → CardWithOutcome k code event position o guards
has_card k code event position o guards None e l legal m = absurd (let g : false ≡ true = l in cc)
has_card k code event position o guards (Some f) e l legal m =
    let is : Shown code f = shown code f e in
    let s : ShapeFits k f = shape_fits k f (and_left (is_shape k f) _ l) in
    let n : ℕ = position + 65536 in
    let c : Card = card_for k n f in
    let h : Host = host_for f in
    let pair : IsRepresentativePair k c h = pair_for k n f s is.flags is.preset (omega arith) in
    let same : pair_code c h ≡ code = ap code_of (view_for k n f s) ∙ is.same in
    record {
      card = c;
      host = h;
      pair = pair;
      same = same;
      run = histories_have_runs k (Happens event position o guards ∷ []) true c h pair (λ e. address_for f)
          (subst (λ v. IsHistory k true v (Happens event position o guards ∷ [])) (sym same) ((legal, m, possible k event o), tt))
          (room_for k n f (pair_code c h) (Happens event position o guards)
          (event_fits k (pair_code c h) event position o guards f (and_right (is_shape k f) _ l)));
    }

pub each_outcome_has_card : (k : Kind) → EachOutcomeHasCard k
each_outcome_has_card k code event position o guards legal m =
    has_card k code event position o guards (fields_of code) refl legal legal m

-- AN ILLEGAL EVENT

pub each_illegal_shape_has_card : (k : Kind) → EachIllegalShapeHasCard k
each_illegal_shape_has_card k code f event position e shape illegal =
    let is : Shown code f = shown code f e in
    let c : Card = card_for k 1 f in
    let h : Host = host_for f in
    let s : ShapeFits k f = shape_fits k f shape in
    let pair : IsRepresentativePair k c h = pair_for k 1 f s is.flags is.preset (lit< tt) in
    let same : pair_code c h ≡ code = ap code_of (view_for k 1 f s) ∙ is.same in
    record {
      card = c;
      host = h;
      pair = pair;
      same = same;
      event_made = event_for k event position c h;
      is = event_is k event position c h;
      made = event_made k event position c h;
      illegal = λ x is_event made legal.
          let yes : legal_code k (pair_code c h) (event_of x) ≡ true = (legal_is_exact k x c h pair.pair made).0 legal in
          let here : legal_code k code event ≡ true =
          subst (λ v. legal_code k v event ≡ true) same (subst (λ v. legal_code k (pair_code c h) v ≡ true) is_event yes) in
          let bad : true ≡ false = sym here ∙ illegal in
          cc;
    }
