-- What a simulator leaves of a card that takes a row is what the tables say of that row, part by part.
use Rattle.std.proofs.Common.{◌≡◌, ℕ, ◌<◌, ◌==◌, not, inl, refl, Bool, true, false, List, [], ◌∷◌, Option, if◌then◌else◌, lit<}
use Rattle.sdv_registers.specs.declared.kind.Kind.{Kind}
use Rattle.sdv_registers.specs.declared.kind.Kind.TheVariants.{Sd, Emmc}
use Rattle.sdv_card.specs.declared.state.State.{State}
use Rattle.sdv_card.specs.declared.state.State.TheVariants.{Idle, Ready}
use Rattle.sdv_card.specs.declared.state.Mode.{Mode}
use Rattle.sdv_card.specs.declared.state.EraseStage.{EraseStage}
use Rattle.sdv_card.specs.declared.command.Setting.TheVariants.{Access}
use Rattle.sdv_card.specs.declared.command.Row.{Row}
use Rattle.sdv_card.specs.declared.command.Row.TheVariants.{Cmd0, Cmd1, Cmd3Sd, Cmd6, Cmd13, Cmd16, Cmd17, Cmd18, Cmd23, Cmd24, Cmd25, Cmd55, Acmd6, Acmd13, Acmd41}
use Rattle.sdv_card.specs.Lists.{May, IsOneOf}
use Rattle.sdv_card.specs.StateTable.{◌to◌, rows, targets}
use Rattle.sdv_card.specs.RowRules.{may_reach, app_after, erase_stayed, preset_after, preset_kept, mode_after, mode_stayed, may_switch}
use Rattle.sdv_card.specs.Modes.{has_partition, may_stay_pending, mode_told}
use Rattle.sdv_card.specs.Card.{Partitions}
use Rattle.sdv_card.specs.Legal.{RowLegal}
use Rattle.sdv_card.specs.Taken.{Taken, Stayed, SameCard, LengthAfter, RcaAfter, BlocksAfter, ContentsAfter}
use Rattle.sdv_card.proofs.Members.{here, there, May-targets, May-from_targets}
use Rattle.sdv_behavior.specs.declared.behavior.Behavior.{Behavior}
use Rattle.sdv_behavior.specs.declared.card_desc.CardDesc.{CardDesc}
use Rattle.sdv_behavior.specs.declared.card_state.CardState.{CardState}
use Rattle.sdv_behavior.specs.declared.choice.Choice.{Choice}
use Rattle.sdv_behavior.specs.Layout.{boot_capacity}
use Rattle.sdv_behavior.specs.CardOf.{card_with}
use Rattle.sdv_behavior.proofs.Described.{IsDescribed}
use Rattle.sdv_behavior.specs.Heard.{address_of, is_ready, length_of, switch_fails, choice_of}
use Rattle.sdv_behavior.specs.RowTaken.{first_of, state_next, rca_next, app_next, length_next, mode_left, mode_next, preset_left, preset_next, erase_left, taken_by, stays}

-- STATE

first_is_one : (ss : List State) (s : State) (x : State) → IsOneOf ss x → IsOneOf ss (first_of ss s)
first_is_one [] s x m = absurd m
first_is_one (y ∷ ss) s x m = inl refl

first_target : (k : Kind) (row : Row) (state : State) {target : State} → May (targets (rows k row) state) target →
    May (rows k row) (state to first_of (targets (rows k row) state) state)
first_target k row state m = May-from_targets (record { one = first_is_one (targets (rows k row) state) state _ m.one })

-- a card that is asked for its conditions is idle, and may stay so
idle_still : (k : Kind) (state : State) {target : State} → May (targets (rows k Cmd1) state) target → May (rows k Cmd1) (state to state)
idle_still Sd state m = absurd m.one
idle_still Emmc Idle m = there (here refl)
idle_still Emmc state m = absurd m.one

sd_idle_still : (k : Kind) (high : Bool) (state : State) {target : State} → May (targets (rows k (Acmd41 high)) state) target →
    May (rows k (Acmd41 high)) (state to state)
sd_idle_still Emmc high state m = absurd m.one
sd_idle_still Sd high Idle m = there (here refl)
sd_idle_still Sd high state m = absurd m.one

state_law : (k : Kind) (row : Row) (ready : Bool) (state : State) {target : State} → May (targets (rows k row) state) target →
    May (rows k row) (state to state_next k row ready state)
state_law k Cmd1 false state m = idle_still k state m
state_law k Cmd1 true state m = first_target k Cmd1 state m
state_law k (Acmd41 high) false state m = sd_idle_still k high state m
state_law k (Acmd41 high) true state m = first_target k (Acmd41 high) state m
state_law k row ready state m = first_target k row state m

-- a card with block addresses whose host cannot work with them
abbrev pub is_refused : Row → Bool → Bool
is_refused (Acmd41 false) true = true
is_refused row block_unit = false

not_ready : (ready : Bool) (row : Row) (block_unit checked : Bool) → is_refused row block_unit ≡ true →
    is_ready ready row block_unit checked ≡ false
not_ready false (Acmd41 false) true checked e = refl
not_ready true (Acmd41 false) true checked e = refl
not_ready ready (Acmd41 false) false checked e = absurd (let f : false ≡ true = e in cc)
not_ready ready (Acmd41 true) block_unit checked e = absurd (let f : false ≡ true = e in cc)
not_ready ready row block_unit checked e = absurd (let f : false ≡ true = e in cc)

reached_still : (k : Kind) (state : State) {target : State} → May (targets (rows k (Acmd41 false)) state) target → may_reach (Acmd41 false) true state ≡ true
reached_still Emmc state m = absurd m.one
reached_still Sd Ready m = absurd m.one
reached_still Sd state m = refl

reached_law : (k : Kind) (row : Row) (block_unit ready : Bool) (state : State) {target : State} → (is_refused row block_unit ≡ true → ready ≡ false) →
    May (targets (rows k row) state) target → may_reach row block_unit (state_next k row ready state) ≡ true
reached_law k (Acmd41 false) true true state only m = absurd (let f : true ≡ false = only refl in cc)
reached_law k (Acmd41 false) true false state only m = reached_still k state m
reached_law k row block_unit ready state only m = refl

-- MODE

-- CMD13 keeps a pending switch error only where the tables leave it that
abbrev pub KeepsFit : Row → (heard keeps : Bool) → State → Mode → Type 0
KeepsFit Cmd13 heard keeps from mode = keeps ≡ true → may_stay_pending heard from mode ≡ true
KeepsFit row heard keeps from mode = Unit {0}

told_or_kept : (heard keeps : Bool) (from : State) (mode : Mode) → (keeps ≡ true → may_stay_pending heard from mode ≡ true) →
    May (mode_told heard from mode) (mode_left Cmd13 keeps mode)
told_or_kept heard false from mode may = here refl
told_or_kept heard true from mode may = rw (may refl) (there (here refl))

mode_law : (row : Row) (heard fails keeps : Bool) (from : State) (mode : Mode) → KeepsFit row heard keeps from mode →
    May (mode_after row heard from mode) (mode_next row fails keeps mode)
mode_law (Cmd6 setting) heard true keeps from mode fits = there (here refl)
mode_law (Cmd6 setting) heard false keeps from mode fits = here refl
mode_law Cmd0 heard fails keeps from mode fits = here refl
mode_law (Acmd6 width) heard fails keeps from mode fits = here refl
mode_law Cmd13 heard fails keeps from mode fits = told_or_kept heard keeps from mode fits
mode_law row heard fails keeps from mode fits = here refl

mode_stays : (row : Row) (heard keeps : Bool) (from : State) (mode : Mode) → KeepsFit row heard keeps from mode →
    May (mode_stayed row heard from mode) (mode_left row keeps mode)
mode_stays Cmd13 heard keeps from mode fits = told_or_kept heard keeps from mode fits
mode_stays row heard keeps from mode fits = here refl

-- a switch that does not fail is one that may succeed
switch_law : (row : Row) (boot : ℕ) (fails keeps : Bool) (mode : Mode) → (fails ≡ false → may_switch row boot false ≡ true) →
    may_switch row boot (mode_next row fails keeps mode).error ≡ true
switch_law (Cmd6 (Access partition)) boot true keeps mode may = refl
switch_law (Cmd6 (Access partition)) boot false keeps mode may = may refl
switch_law row boot fails keeps mode may = refl

not_false : (b : Bool) → not b ≡ false → b ≡ true
not_false true e = refl
not_false false e = absurd (let f : true ≡ false = e in cc)

may_succeed : (fails : Bool) (row : Row) (boot : ℕ) → switch_fails fails row boot ≡ false → may_switch row boot false ≡ true
may_succeed true (Cmd6 (Access partition)) boot e = absurd (let f : true ≡ false = e in cc)
may_succeed false (Cmd6 (Access partition)) boot e = not_false (has_partition partition boot) e
may_succeed fails row boot e = refl

-- WHAT A CARD CHOOSES is what the tables leave it

pub record ChoiceFits (d : CardDesc) (row : Row) (choice : Choice) : Type 0 where
  pub ready : is_refused row d.block_unit ≡ true → choice.ready ≡ false
  pub switch : choice.switch_fails ≡ false → may_switch row (boot_capacity d) false ≡ true
  pub some_address : 0 < choice.address
  pub address_fits : choice.address < 65536
  pub length : d.block_unit ≡ true → choice.length ≡ 512

another_some : (is_1 : Bool) → 0 < (if is_1 then 2 else 1)
another_some true = lit< tt
another_some false = lit< tt

another_fits : (is_1 : Bool) → (if is_1 then 2 else 1) < 65536
another_fits true = lit< tt
another_fits false = lit< tt

address_some : (described : ℕ) (other : Bool) → 0 < described → 0 < address_of described other
address_some described false some = some
address_some described true some = another_some (described == 1)

address_small : (described : ℕ) (other : Bool) → described < 65536 → address_of described other < 65536
address_small described false fits = fits
address_small described true fits = another_fits (described == 1)

length_whole : (block_unit : Bool) (described : ℕ) (other : Bool) → (block_unit ≡ true → described ≡ 512) → block_unit ≡ true →
    length_of block_unit described other ≡ 512
length_whole true described other whole e = whole refl
length_whole false described other whole e = absurd (let f : false ≡ true = e in cc)

pub choice_fits : (d : CardDesc) → IsDescribed d → (behavior : Behavior) (row : Row) (t : CardState) → ChoiceFits d row (choice_of d behavior row t)
choice_fits d is behavior row t = record {
  ready = not_ready behavior.ready row d.block_unit t.checked;
  switch = may_succeed behavior.fails_switch row (boot_capacity d);
  some_address = address_some d.rca behavior.other_address is.some_address;
  address_fits = address_small d.rca behavior.other_address is.address_fits;
  length = length_whole d.block_unit d.block_length behavior.other_length is.length;
}

-- THE OTHER PARTS

app_law : (row : Row) (sets : Bool) → May (app_after row) (app_next row sets)
app_law Cmd55 true = there (here refl)
app_law Cmd55 false = here refl
app_law row sets = here refl

preset_stays : (k : Kind) (keeps : Bool) (preset : ℕ) → May (preset_kept k preset) (preset_left k keeps preset)
preset_stays Sd keeps preset = here refl
preset_stays Emmc true preset = here refl
preset_stays Emmc false preset = there (here refl)

preset_law : (k : Kind) (row : Row) (keeps : Bool) (preset : ℕ) → May (preset_after k row preset) (preset_next k row keeps preset)
preset_law k Cmd0 keeps preset = here refl
preset_law k (Cmd18 n) keeps preset = here refl
preset_law k (Cmd23 n) keeps preset = here refl
preset_law k (Cmd25 n) keeps preset = here refl
preset_law k row keeps preset = preset_stays k keeps preset

rca_law : (chosen : ℕ) (row : Row) (rca : Option ℕ) → 0 < chosen → chosen < 65536 → RcaAfter row rca (rca_next chosen row rca)
rca_law chosen Cmd0 rca some fits = refl
rca_law chosen Cmd3Sd rca some fits = (chosen, refl, some, fits)
rca_law chosen row rca some fits = refl

length_law : (first : ℕ) (row : Row) (block_unit : Bool) (length : ℕ) → (block_unit ≡ true → first ≡ 512) →
    LengthAfter row block_unit length (length_next first row length)
length_law first Cmd0 true length whole = whole refl
length_law first Cmd0 false length whole = tt
length_law first Cmd16 block_unit length whole = refl
length_law first row block_unit length whole = refl

erase_stays : (row : Row) (keeps : Bool) (erase : EraseStage) → May (erase_stayed row erase) (erase_left row keeps erase)
erase_stays Cmd13 keeps erase = here refl
erase_stays Acmd13 keeps erase = here refl
erase_stays row true erase = here refl
erase_stays row false erase = there (here refl)

-- the blocks that the host announced last, by what it announces with a row
abbrev pub announced_with : Row → ℕ → ℕ
announced_with Cmd17 before = 1
announced_with (Cmd18 n) before = n
announced_with Cmd24 before = 1
announced_with (Cmd25 n) before = n
announced_with row before = before

-- the card after a row that it takes, whether it then has an error that no status has shown or not
abbrev pub taken_with : (error : Bool) → CardDesc → Row → (argument : ℕ) → Choice → CardState → CardState
taken_with error d row argument choice t = record (taken_by d row argument choice t) { unshown_error = error }

-- one that stays
abbrev pub stayed_with : (error : Bool) → Kind → Row → Choice → CardState → CardState
stayed_with error k row choice t = record (stays k row choice t) { unshown_error = error }

blocks_law : (d : CardDesc) (row : Row) (argument : ℕ) (choice : Choice) (t : CardState) (error : Bool) (announced : ℕ) (contents contents' : Partitions) →
    BlocksAfter row argument (card_with d t announced contents) (card_with d (taken_with error d row argument choice t) (announced_with row announced) contents')
blocks_law d Cmd17 argument choice t error announced contents contents' = record { block = refl; count_is = refl }
blocks_law d (Cmd18 n) argument choice t error announced contents contents' = record { block = refl; count_is = refl }
blocks_law d Cmd24 argument choice t error announced contents contents' = record { block = refl; count_is = refl }
blocks_law d (Cmd25 n) argument choice t error announced contents contents' = record { block = refl; count_is = refl }
blocks_law d row argument choice t error announced contents contents' = record { block = refl; count_is = refl }

same_card : (d : CardDesc) (t u : CardState) (n m : ℕ) (contents contents' : Partitions) → SameCard (card_with d t n contents) (card_with d u m contents')
same_card d t u n m contents contents' =
    record {
      kind = refl;
      version = refl;
      block_unit = refl;
      capacity = refl;
      boot_capacity = refl;
      csd = refl;
      cid = refl;
      ext_csd = refl;
      scr = refl;
      sd_status = refl;
    }

-- THE ROW

module _ (d : CardDesc) (is : IsDescribed d) (row : Row) (argument : ℕ) (t : CardState) (announced : ℕ) (contents : Partitions) where
  pub taken_law : (choice : Choice) (contents' : Partitions) → ChoiceFits d row choice →
      RowLegal row (card_with d t announced contents) → (error : Bool) →
      ContentsAfter row (card_with d t announced contents) (card_with d (taken_with error d row argument choice t) (announced_with row announced) contents') →
      (heard : Bool) → KeepsFit row heard choice.keeps_switch_error t.state t.mode →
      Taken row heard argument (card_with d t announced contents) (card_with d (taken_with error d row argument choice t) (announced_with row announced) contents')
  taken_law choice contents' fits legal error left heard keeps =
      let m = May-targets legal.has_row in
      record {
        same = same_card d t (taken_with error d row argument choice t) announced (announced_with row announced) contents contents';
        state = state_law d.kind row choice.ready t.state m;
        reached = reached_law d.kind row d.block_unit choice.ready t.state fits.ready m;
        app = app_law row choice.app;
        erase = refl;
        block_length = length_law choice.length row d.block_unit t.block_length fits.length;
        preset = preset_law d.kind row choice.keeps_preset t.preset;
        rca = rca_law choice.address row t.rca fits.some_address fits.address_fits;
        transfer = refl;
        mode = mode_law row heard choice.switch_fails choice.keeps_switch_error t.state t.mode keeps;
        switched = switch_law row (boot_capacity d) choice.switch_fails choice.keeps_switch_error t.mode fits.switch;
        blocks = blocks_law d row argument choice t error announced contents contents';
        contents = left;
      }

  pub stayed_law : (heard error : Bool) (choice : Choice) → KeepsFit row heard choice.keeps_switch_error t.state t.mode →
      Stayed row heard (card_with d t announced contents) (card_with d (stayed_with error d.kind row choice t) announced contents)
  stayed_law heard error choice keeps = record {
    same = same_card d t (stayed_with error d.kind row choice t) announced announced contents contents;
    state = refl;
    app = refl;
    erase = erase_stays row choice.keeps_erase t.erase;
    block_length = refl;
    preset = preset_stays d.kind choice.keeps_preset t.preset;
    rca = refl;
    transfer = refl;
    mode = mode_stays row heard choice.keeps_switch_error t.state t.mode keeps;
    blocks = record { block = refl; count_is = refl };
    contents = refl;
  }
