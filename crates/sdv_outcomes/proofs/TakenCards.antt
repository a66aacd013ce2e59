-- For each fields that may follow a row, a card that took the row, or stayed, and has these fields.
use Rattle.std.proofs.Common.{◌≡◌, ℕ, ◌<◌, zero, suc, ◌⊎◌, ◌||◌, inl, inr, refl, subst, sym, ◌∙◌, Bool, true, false, not, List, ◌==◌, Option, Some, None, lit<, arith, rules}
use Rattle.std.proofs.lemmas.Bool.Decides.{nat_tests}
use Rattle.sdv_registers.specs.declared.kind.Kind.{Kind}
use Rattle.sdv_registers.specs.declared.kind.Kind.TheVariants.{Sd, Emmc}
use Rattle.sdv_card.specs.declared.state.State.{State}
use Rattle.sdv_card.specs.declared.state.EraseStage.{EraseStage}
use Rattle.sdv_card.specs.declared.state.Mode.{Mode}
use Rattle.sdv_card.specs.declared.state.Partition.{Partition}
use Rattle.sdv_card.specs.declared.state.Partition.TheVariants.{User, Boot1, Boot2}
use Rattle.sdv_card.specs.declared.fields.Fields.{Fields}
use Rattle.sdv_card.specs.declared.answer.Answer.{Answer}
use Rattle.sdv_card.specs.declared.answer.Answer.TheVariants.{TimeOut}
use Rattle.sdv_card.specs.declared.command.Setting.TheVariants.{Lines, Access}
use Rattle.sdv_card.specs.declared.command.Row.{Row}
use Rattle.sdv_card.specs.declared.command.Row.TheVariants.{Cmd0, Cmd3Sd, Cmd3Emmc, Cmd6, Cmd13, Cmd16, Cmd17, Cmd18, Cmd24, Cmd25, Cmd38}
use Rattle.sdv_card.specs.declared.command.Response.TheVariants.{NewAddress}
use Rattle.sdv_card.specs.Lists.{May}
use Rattle.sdv_card.specs.StateTable.{◌to◌, rows}
use Rattle.sdv_card.specs.Modes.{has_partition}
use Rattle.sdv_card.specs.RowRules.{may_reach, states_after, app_after, erase_after, erase_stayed, mode_after, mode_stayed, may_switch, preset_after, preset_kept, length_after, matched_after, transfer_after}
use Rattle.sdv_card.specs.Responses.{response_of}
use Rattle.sdv_card.specs.Takes.{matches}
use Rattle.sdv_card.specs.Card.{Card, IsCard, Partitions, AreBlocks, ContentsFit, accessed_capacity, accessed_blocks, put_accessed, blocks_of, put}
use Rattle.sdv_card.specs.Host.{Host}
use Rattle.sdv_card.specs.Taken.{Taken, Stayed, LengthAfter, RcaAfter, BlocksAfter, ContentsAfter, block_of}
use Rattle.sdv_card.specs.Shapes.{view}
use Rattle.sdv_card.specs.Outcomes.{taken, stayed, with_presets, with_matches, with_modes, with_lengths, with_apps, with_states, with_erases}
use Rattle.sdv_card.proofs.Digits.{same_fields}
use Rattle.sdv_card.proofs.Members.{only, May-from_targets}
use Rattle.sdv_card.proofs.RowsOfOrders.{row_rca}
use Rattle.sdv_card.proofs.TakenFields.{SameHost}
use Rattle.sdv_outcomes.proofs.MembersBack.{May-map_back, May-each_back, May-filter_back, none_back}

-- THE PARTS of fields that are among all with these states, flags, lengths, modes, matches and preset counts

pub record Parts (t : Fields) (states : List State) (apps lengths : List Bool) (modes : List Mode) (ms : List Bool) (presets : List ℕ) (v : Fields)
    : Type 0 where
  pub state : State
  pub app : Bool
  pub len : Bool
  pub mode : Mode
  pub matched : Bool
  pub preset : ℕ
  pub in_states : May states state
  pub in_apps : May apps app
  pub in_lengths : May lengths len
  pub in_modes : May modes mode
  pub in_matches : May ms matched
  pub in_presets : May presets preset
  pub same : record t { state = state; app = app; length_512 = len; mode = mode; matched = matched; preset = preset } ≡ v

parts_back : (t : Fields) (states : List State) (apps lengths : List Bool) (modes : List Mode) (ms : List Bool) (presets : List ℕ) (v : Fields) →
    May (with_states t states apps lengths modes ms presets) v → Parts t states apps lengths modes ms presets v
parts_back t states apps lengths modes ms presets v m =
    let s = May-each_back states (λ (state : State). with_apps (record t { state = state }) apps lengths modes ms presets) m in
    let a = May-each_back apps (λ (app : Bool). with_lengths (record t { state = s.0; app = app }) lengths modes ms presets) s.2 in
    let l = May-each_back lengths (λ (len : Bool). with_modes (record t { state = s.0; app = a.0; length_512 = len }) modes ms presets) a.2 in
    let o = May-each_back modes (λ (mode : Mode). with_matches (record t { state = s.0; app = a.0; length_512 = l.0; mode = mode }) ms presets) l.2 in
    let x = May-each_back ms
    (λ (b : Bool). with_presets (record t { state = s.0; app = a.0; length_512 = l.0; mode = o.0; matched = b }) presets) o.2 in
    let p = May-map_back (λ (n : ℕ). record t { state = s.0; app = a.0; length_512 = l.0; mode = o.0; matched = x.0; preset = n }) presets x.2 in
    record {
      state = s.0;
      app = a.0;
      len = l.0;
      mode = o.0;
      matched = x.0;
      preset = p.0;
      in_states = s.1;
      in_apps = a.1;
      in_lengths = l.1;
      in_modes = o.1;
      in_matches = x.1;
      in_presets = p.1;
      same = p.2;
    }

-- the parts after a row that was taken
abbrev pub TakenParts : Kind → Row → (heard : Bool) → Fields → Fields → Type 0
TakenParts k row heard t v =
    Parts (record t { transfer = transfer_after row t.preset t.transfer; erase = erase_after row t.erase })
    (states_after k row t.block_unit t.state) (app_after row) (length_after row t.block_unit t.length_512)
    (mode_after row heard t.state t.mode) (matched_after row heard t.matched) (preset_after k row t.preset) v

pub taken_parts : (k : Kind) (row : Row) (heard : Bool) (t v : Fields) → May (taken k row heard t) v → TakenParts k row heard t v
taken_parts k row heard t v m =
    parts_back (record t { transfer = transfer_after row t.preset t.transfer; erase = erase_after row t.erase })
    (states_after k row t.block_unit t.state) (app_after row) (length_after row t.block_unit t.length_512)
    (mode_after row heard t.state t.mode) (matched_after row heard t.matched) (preset_after k row t.preset) v m

-- THE CARD

abbrev length_for : Row → (unit len : Bool) → ℕ → ℕ
length_for Cmd0 true len before = 512
length_for Cmd0 false true before = 512
length_for Cmd0 false false before = 0
length_for Cmd16 unit len before = 512
length_for row unit len before = before

abbrev next_for : Row → ℕ → Bool → ℕ → ℕ
next_for Cmd17 argument unit before = block_of unit argument
next_for (Cmd18 n) argument unit before = block_of unit argument
next_for Cmd24 argument unit before = block_of unit argument
next_for (Cmd25 n) argument unit before = block_of unit argument
next_for row argument unit before = before

abbrev announced_for : Row → ℕ → ℕ
announced_for Cmd17 before = 1
announced_for (Cmd18 n) before = n
announced_for Cmd24 before = 1
announced_for (Cmd25 n) before = n
announced_for row before = before

-- t after the row, with no unshown error
abbrev pub card_taken : Row → ℕ → Card → State → (app len : Bool) → Mode → ℕ → Option ℕ → Card
card_taken row argument t state app len mode preset rca = record t {
  state = state;
  rca = rca;
  app = app;
  block_length = length_for row t.block_unit len t.block_length;
  erase = erase_after row t.erase;
  mode = mode;
  preset = preset;
  transfer = transfer_after row t.preset t.transfer;
  next_block = next_for row argument t.block_unit t.next_block;
  announced = announced_for row t.announced;
  unshown_error = false;
}

-- ITS PARTS

length_is : (row : Row) (unit : Bool) (before : ℕ) (len : Bool) → May (length_after row unit (before == 512)) len →
    LengthAfter row unit before (length_for row unit len before) × ((length_for row unit len before == 512) ≡ len)
length_is Cmd0 true before len m = (refl, only m)
length_is Cmd0 false before true m = (tt, refl)
length_is Cmd0 false before false m = (tt, refl)
length_is Cmd16 unit before len m = (refl, only m)
length_is row unit before len m = (refl, only m)

blocks_are : (row : Row) (argument : ℕ) (t u : Card) → t.block_unit ≡ u.block_unit → next_for row argument t.block_unit t.next_block ≡ u.next_block →
    announced_for row t.announced ≡ u.announced → BlocksAfter row argument t u
blocks_are Cmd17 argument t u e f g = record { block = subst (λ b. block_of b argument ≡ u.next_block) e f; count_is = g }
blocks_are (Cmd18 n) argument t u e f g = record { block = subst (λ b. block_of b argument ≡ u.next_block) e f; count_is = g }
blocks_are Cmd24 argument t u e f g = record { block = subst (λ b. block_of b argument ≡ u.next_block) e f; count_is = g }
blocks_are (Cmd25 n) argument t u e f g = record { block = subst (λ b. block_of b argument ≡ u.next_block) e f; count_is = g }
blocks_are row argument t u e f g = record { block = f; count_is = g }

-- a partition's own blocks, put in their place
pub put_back : (p : Partition) (contents : Partitions) → put p (blocks_of p contents) contents ≡ contents
put_back User contents = refl
put_back Boot1 contents = refl
put_back Boot2 contents = refl

contents_are : (row : Row) (t u : Card) → ContentsFit t → t.contents ≡ u.contents → ContentsAfter row t u
contents_are Cmd38 t u fits e = record {
  others = subst (λ x. put_accessed t (accessed_blocks t x) t.contents ≡ x) e (put_back t.mode.partition t.contents);
  blocks = subst (λ x. AreBlocks (accessed_capacity t) (accessed_blocks t x)) e (fits t.mode.partition);
}
contents_are row t u fits e = e

some_blocks : (boot : ℕ) → 0 < boot → not (boot == 0) ≡ true
some_blocks zero h = absurd (omega arith)
some_blocks (suc n) h = grind (arith, nat_tests)

or_right : (a b : Bool) → b ≡ true → (a || b) ≡ true
or_right true b e = refl
or_right false b e = e

partition_is : (p : Partition) (boot : ℕ) → 0 < boot → has_partition p boot ≡ true
partition_is User boot h = refl
partition_is Boot1 boot h = some_blocks boot h
partition_is Boot2 boot h = some_blocks boot h

switch_is : (k : Kind) (row : Row) (boot : ℕ) (fails : Bool) (a b : State) → (Emmc ≡ k → 0 < boot) → May (rows k row) (a to b) →
    may_switch row boot fails ≡ true
switch_is Emmc (Cmd6 (Access p)) boot fails a b h m = or_right fails _ (partition_is p boot (h refl))
switch_is Sd (Cmd6 (Access p)) boot fails a b h m = absurd m.one
switch_is k (Cmd6 (Lines width)) boot fails a b h m = refl
switch_is k row boot fails a b h m = refl

-- THE ADDRESS

pub record AddressAfter (row : Row) (answer : Answer) (a : Option ℕ) (n : ℕ) (matched : Bool) : Type 0 where
  pub rca : Option ℕ
  pub after : RcaAfter row a rca
  pub is : matches rca (row_rca row answer n) ≡ matched

other_than : (n : ℕ) → (x : ℕ) × (0 < x) × (x < 65536) × ((x == n) ≡ false)
other_than zero = (1, lit< tt, lit< tt, refl)
other_than (suc zero) = (2, lit< tt, lit< tt, refl)
other_than (suc (suc n)) = (1, lit< tt, lit< tt, grind (arith, nat_tests))

same_chosen : (n : ℕ) → n < 65536 → AddressAfter Cmd3Sd TimeOut None n true ⊎ (n ≡ 0)
same_chosen zero h = inr refl
same_chosen (suc n) h = inl (record { rca = Some (suc n); after = (suc n, refl, omega arith, h); is = search rules })

-- after a row whose response was lost; an SD card does not choose the address 0, which its host may hold
pub lost_address : (row : Row) (a : Option ℕ) (n : ℕ) (matched : Bool) → n < 65536 → May (matched_after row false (matches a n)) matched →
    AddressAfter row TimeOut a n matched ⊎ ((row ≡ Cmd3Sd) × (n ≡ 0) × (matched ≡ true))
lost_address Cmd0 a n matched h m = inl (record { rca = None; after = refl; is = only m })
lost_address Cmd3Sd a n false h m =
    let x = other_than n in inl (record { rca = Some x.0; after = (x.0, refl, x.1, x.2); is = x.3 })
lost_address Cmd3Sd a n true h m = elim (same_chosen n h) [
  | inl x ↦ inl (record { rca = x.rca; after = x.after; is = x.is })
  | inr e ↦ inr (refl, e, refl)
]
lost_address Cmd3Emmc a n matched h m = inl (record { rca = Some 1; after = refl; is = only m })
lost_address row a n matched h m = inl (record { rca = a; after = refl; is = only m })

-- after one whose response was heard, and shows no new address
pub heard_address : (row : Row) (answer : Answer) (a : Option ℕ) (n : ℕ) (matched : Bool) → (NewAddress ≡ response_of row → ⊥) →
    May (matched_after row true (matches a n)) matched → AddressAfter row answer a n matched
heard_address Cmd0 answer a n matched other m = record { rca = None; after = refl; is = only m }
heard_address Cmd3Sd answer a n matched other m = absurd (other refl)
heard_address Cmd3Emmc answer a n matched other m = record { rca = Some 1; after = refl; is = only m }
heard_address row answer a n matched other m = record { rca = a; after = refl; is = only m }

-- TAKEN

abbrev pub taken_to : (k : Kind) (row : Row) (heard : Bool) (argument : ℕ) (h : Host) (t : Card) (v : Fields) → TakenParts k row heard (view t h) v →
    Option ℕ → Card
taken_to k row heard argument h t v p rca = card_taken row argument t p.state p.app p.len p.mode p.preset rca

pub taken_is : (k : Kind) (row : Row) (heard : Bool) (argument : ℕ) (h : Host) (t : Card) (v : Fields) (p : TakenParts k row heard (view t h) v)
    (rca : Option ℕ) →
    k ≡ t.kind → IsCard t → (Emmc ≡ k → 0 < t.boot_capacity) → RcaAfter row t.rca rca → Taken row heard argument t (taken_to k row heard argument h t v p rca)
taken_is k row heard argument h t v p rca kind card boot_blocks after =
    let s = May-filter_back (may_reach row t.block_unit) _ p.in_states in
    let move : May (rows k row) (t.state to p.state) = May-from_targets s.0 in
    record {
      same = record {
        kind = refl;
        version = refl;
        block_unit = refl;
        capacity = refl;
        boot_capacity = refl;
        csd = refl;
        cid = refl;
        ext_csd = refl;
        scr = refl;
        sd_status = refl;
      };
      state = subst (λ v. May (rows v row) (t.state to p.state)) kind move;
      reached = s.1;
      app = p.in_apps;
      erase = refl;
      block_length = (length_is row t.block_unit t.block_length p.len p.in_lengths).0;
      preset = subst (λ v. May (preset_after v row t.preset) p.preset) kind p.in_presets;
      rca = after;
      transfer = refl;
      mode = p.in_modes;
      switched = switch_is k row t.boot_capacity p.mode.error t.state p.state boot_blocks move;
      blocks = blocks_are row argument t (taken_to k row heard argument h t v p rca) refl refl refl;
      contents = contents_are row t (taken_to k row heard argument h t v p rca) card.contents refl;
    }

pub taken_view : (k : Kind) (row : Row) (heard : Bool) (argument : ℕ) (h h' : Host) (t : Card) (v : Fields) (p : TakenParts k row heard (view t h) v)
    (rca : Option ℕ) →
    SameHost h h' → matches rca h'.rca ≡ p.matched → v ≡ view (taken_to k row heard argument h t v p rca) h'
taken_view k row heard argument h h' t v p rca host e =
    sym p.same
    ∙ same_fields refl refl refl refl (sym (length_is row t.block_unit t.block_length p.len p.in_lengths).1) refl (sym e) refl host.lines host.flags refl

-- STAYED

pub record StayParts (t : Fields) (erases : List EraseStage) (modes : List Mode) (ms : List Bool) (presets : List ℕ) (v : Fields) : Type 0 where
  pub erase : EraseStage
  pub mode : Mode
  pub matched : Bool
  pub preset : ℕ
  pub in_erases : May erases erase
  pub in_modes : May modes mode
  pub in_matches : May ms matched
  pub in_presets : May presets preset
  pub same : record t { erase = erase; mode = mode; matched = matched; preset = preset } ≡ v

erases_back : (t : Fields) (erases : List EraseStage) (modes : List Mode) (ms : List Bool) (presets : List ℕ) (v : Fields) →
    May (with_erases t erases modes ms presets) v → StayParts t erases modes ms presets v
erases_back t erases modes ms presets v m =
    let s = May-each_back erases (λ (erase : EraseStage). with_modes (record t { erase = erase }) modes ms presets) m in
    let o = May-each_back modes (λ (mode : Mode). with_matches (record t { erase = s.0; mode = mode }) ms presets) s.2 in
    let x = May-each_back ms (λ (b : Bool). with_presets (record t { erase = s.0; mode = o.0; matched = b }) presets) o.2 in
    let p = May-map_back (λ (n : ℕ). record t { erase = s.0; mode = o.0; matched = x.0; preset = n }) presets x.2 in
    record {
      erase = s.0;
      mode = o.0;
      matched = x.0;
      preset = p.0;
      in_erases = s.1;
      in_modes = o.1;
      in_matches = x.1;
      in_presets = p.1;
      same = p.2;
    }

abbrev pub StayedParts : Kind → Row → (heard : Bool) → List Bool → Fields → Fields → Type 0
StayedParts k row heard ms t v =
    StayParts (record t { app = false }) (erase_stayed row t.erase) (mode_stayed row heard t.state t.mode) ms (preset_kept k t.preset) v

pub stayed_parts : (k : Kind) (row : Row) (heard : Bool) (ms : List Bool) (t v : Fields) → May (stayed k row heard ms t) v → StayedParts k row heard ms t v
stayed_parts k Cmd13 heard ms t v m = absurd (none_back m)
stayed_parts k row heard ms t v m =
    erases_back (record t { app = false }) (erase_stayed row t.erase) (mode_stayed row heard t.state t.mode) ms (preset_kept k t.preset) v m

abbrev pub stayed_to : (k : Kind) (row : Row) (heard : Bool) (ms : List Bool) (h : Host) (t : Card) (v : Fields) →
    StayedParts k row heard ms (view t h) v → Card
stayed_to k row heard ms h t v p = record t { app = false; erase = p.erase; mode = p.mode; preset = p.preset; unshown_error = false }

pub stayed_is : (k : Kind) (row : Row) (heard : Bool) (ms : List Bool) (h : Host) (t : Card) (v : Fields) (p : StayedParts k row heard ms (view t h) v) →
    k ≡ t.kind → Stayed row heard t (stayed_to k row heard ms h t v p)
stayed_is k row heard ms h t v p kind = record {
  same = record {
    kind = refl;
    version = refl;
    block_unit = refl;
    capacity = refl;
    boot_capacity = refl;
    csd = refl;
    cid = refl;
    ext_csd = refl;
    scr = refl;
    sd_status = refl;
  };
  state = refl;
  app = refl;
  erase = p.in_erases;
  block_length = refl;
  preset = subst (λ v. May (preset_kept v t.preset) p.preset) kind p.in_presets;
  rca = refl;
  transfer = refl;
  mode = p.in_modes;
  blocks = record { block = refl; count_is = refl };
  contents = refl;
}

pub stayed_view : (k : Kind) (row : Row) (heard : Bool) (ms : List Bool) (h h' : Host) (t : Card) (v : Fields) (p : StayedParts k row heard ms (view t h) v) →
    SameHost h h' → matches t.rca h'.rca ≡ p.matched → v ≡ view (stayed_to k row heard ms h t v p) h'
stayed_view k row heard ms h h' t v p host e =
    sym p.same ∙ same_fields refl refl refl refl refl refl (sym e) refl host.lines host.flags refl
