-- What the words of a simulated card show.
use Rattle.std.proofs.Common.{◌≡◌, ℕ, ◌<◌, ◌+◌, ◌*◌, ◌/◌, ◌%◌, ◌^◌, ◌==◌, refl, ap, ◌∙◌, Bool, true, false, not, if◌then◌else◌, lit<, lit≤, arith}
use Rattle.std.proofs.lemmas.Nat.Bits.{and_pow}
use Rattle.sdv_frames.specs.Bits.{bits, number_of}
use Rattle.sdv_registers.proofs.FieldLaws.{field-bits}
use Rattle.sdv_registers.specs.declared.kind.Kind.{Kind}
use Rattle.sdv_registers.specs.declared.kind.Kind.TheVariants.{Sd, Emmc}
use Rattle.sdv_registers.specs.Status.{state as state_field, is_switch_error, is_app_cmd, rca as published_rca, has_doubt, has_doubt_r6}
use Rattle.sdv_registers.specs.Ocr.{is_powered_up, ccs, access_mode, voltage_windows}
use Rattle.sdv_card.specs.declared.state.State.{State}
use Rattle.sdv_card.specs.declared.state.State.TheVariants.{Idle}
use Rattle.sdv_card.specs.States.{state_number}
use Rattle.sdv_behavior.specs.declared.behavior.StatusError.{StatusError}
use Rattle.sdv_behavior.specs.declared.behavior.StatusError.TheVariants.{Nothing, General, OutOfRange, EraseSequence, IllegalCommand}
use Rattle.sdv_behavior.specs.Replies.{error_shown}
use Rattle.sdv_behavior.specs.Words.{leaves_doubt, doubt_of, status_word, low_word, address_word, conditions_word}

-- CARD STATUS

pub record StatusShows (word : ℕ) (s : State) (a w e : Bool) : Type 0 where
  pub is_word : word < 2 ^ 32
  pub state : state_field word ≡ state_number s
  pub app : is_app_cmd word ≡ a
  pub switch : is_switch_error word ≡ w
  pub error : has_doubt word ≡ e

-- each word by its bits
pub status_shows : (app switch : Bool) (error : StatusError) (state : State) →
    StatusShows (status_word state app switch error) state app switch (leaves_doubt error)
unfolding bits number_of
status_shows false false Nothing Idle = record { is_word = lit< tt; state = refl; app = refl; switch = refl; error = refl }
status_shows false false Nothing state = record { is_word = lit< tt; state = refl; app = refl; switch = refl; error = refl }
status_shows false true Nothing Idle = record { is_word = lit< tt; state = refl; app = refl; switch = refl; error = refl }
status_shows false true Nothing state = record { is_word = lit< tt; state = refl; app = refl; switch = refl; error = refl }
status_shows true false Nothing Idle = record { is_word = lit< tt; state = refl; app = refl; switch = refl; error = refl }
status_shows true false Nothing state = record { is_word = lit< tt; state = refl; app = refl; switch = refl; error = refl }
status_shows true true Nothing Idle = record { is_word = lit< tt; state = refl; app = refl; switch = refl; error = refl }
status_shows true true Nothing state = record { is_word = lit< tt; state = refl; app = refl; switch = refl; error = refl }
status_shows false false General Idle = record { is_word = lit< tt; state = refl; app = refl; switch = refl; error = refl }
status_shows false false General state = record { is_word = lit< tt; state = refl; app = refl; switch = refl; error = refl }
status_shows false true General Idle = record { is_word = lit< tt; state = refl; app = refl; switch = refl; error = refl }
status_shows false true General state = record { is_word = lit< tt; state = refl; app = refl; switch = refl; error = refl }
status_shows true false General Idle = record { is_word = lit< tt; state = refl; app = refl; switch = refl; error = refl }
status_shows true false General state = record { is_word = lit< tt; state = refl; app = refl; switch = refl; error = refl }
status_shows true true General Idle = record { is_word = lit< tt; state = refl; app = refl; switch = refl; error = refl }
status_shows true true General state = record { is_word = lit< tt; state = refl; app = refl; switch = refl; error = refl }
status_shows false false OutOfRange Idle = record { is_word = lit< tt; state = refl; app = refl; switch = refl; error = refl }
status_shows false false OutOfRange state = record { is_word = lit< tt; state = refl; app = refl; switch = refl; error = refl }
status_shows false true OutOfRange Idle = record { is_word = lit< tt; state = refl; app = refl; switch = refl; error = refl }
status_shows false true OutOfRange state = record { is_word = lit< tt; state = refl; app = refl; switch = refl; error = refl }
status_shows true false OutOfRange Idle = record { is_word = lit< tt; state = refl; app = refl; switch = refl; error = refl }
status_shows true false OutOfRange state = record { is_word = lit< tt; state = refl; app = refl; switch = refl; error = refl }
status_shows true true OutOfRange Idle = record { is_word = lit< tt; state = refl; app = refl; switch = refl; error = refl }
status_shows true true OutOfRange state = record { is_word = lit< tt; state = refl; app = refl; switch = refl; error = refl }
status_shows false false EraseSequence Idle = record { is_word = lit< tt; state = refl; app = refl; switch = refl; error = refl }
status_shows false false EraseSequence state = record { is_word = lit< tt; state = refl; app = refl; switch = refl; error = refl }
status_shows false true EraseSequence Idle = record { is_word = lit< tt; state = refl; app = refl; switch = refl; error = refl }
status_shows false true EraseSequence state = record { is_word = lit< tt; state = refl; app = refl; switch = refl; error = refl }
status_shows true false EraseSequence Idle = record { is_word = lit< tt; state = refl; app = refl; switch = refl; error = refl }
status_shows true false EraseSequence state = record { is_word = lit< tt; state = refl; app = refl; switch = refl; error = refl }
status_shows true true EraseSequence Idle = record { is_word = lit< tt; state = refl; app = refl; switch = refl; error = refl }
status_shows true true EraseSequence state = record { is_word = lit< tt; state = refl; app = refl; switch = refl; error = refl }
status_shows false false IllegalCommand Idle = record { is_word = lit< tt; state = refl; app = refl; switch = refl; error = refl }
status_shows false false IllegalCommand state = record { is_word = lit< tt; state = refl; app = refl; switch = refl; error = refl }
status_shows false true IllegalCommand Idle = record { is_word = lit< tt; state = refl; app = refl; switch = refl; error = refl }
status_shows false true IllegalCommand state = record { is_word = lit< tt; state = refl; app = refl; switch = refl; error = refl }
status_shows true false IllegalCommand Idle = record { is_word = lit< tt; state = refl; app = refl; switch = refl; error = refl }
status_shows true false IllegalCommand state = record { is_word = lit< tt; state = refl; app = refl; switch = refl; error = refl }
status_shows true true IllegalCommand Idle = record { is_word = lit< tt; state = refl; app = refl; switch = refl; error = refl }
status_shows true true IllegalCommand state = record { is_word = lit< tt; state = refl; app = refl; switch = refl; error = refl }

-- an error of an earlier write is shown by one that leaves a doubt
pub doubt_is : (error : StatusError) → leaves_doubt (doubt_of error) ≡ true
doubt_is Nothing = refl
doubt_is General = refl
doubt_is OutOfRange = refl
doubt_is EraseSequence = refl
doubt_is IllegalCommand = refl

pub doubt_shown : (error : StatusError) (pending : Bool) → leaves_doubt (error_shown (doubt_of error) pending) ≡ true
doubt_shown error false = doubt_is error
doubt_shown error true = doubt_is (doubt_of error)

-- OCR

pub record ConditionsShow (word : ℕ) (is : Bool) : Type 0 where
  pub is_word : word < 2 ^ 32
  pub windows : voltage_windows word ≡ 511
  pub ready : is_powered_up word ≡ is

pub conditions_show : (k : Kind) (block_unit ready : Bool) → ConditionsShow (conditions_word k block_unit ready) ready
unfolding bits number_of
conditions_show Sd false false = record { is_word = lit< tt; windows = refl; ready = refl }
conditions_show Sd false true = record { is_word = lit< tt; windows = refl; ready = refl }
conditions_show Sd true false = record { is_word = lit< tt; windows = refl; ready = refl }
conditions_show Sd true true = record { is_word = lit< tt; windows = refl; ready = refl }
conditions_show Emmc false false = record { is_word = lit< tt; windows = refl; ready = refl }
conditions_show Emmc false true = record { is_word = lit< tt; windows = refl; ready = refl }
conditions_show Emmc true false = record { is_word = lit< tt; windows = refl; ready = refl }
conditions_show Emmc true true = record { is_word = lit< tt; windows = refl; ready = refl }

pub sd_unit : (block_unit : Bool) → ccs (conditions_word Sd block_unit true) ≡ block_unit
unfolding bits number_of
sd_unit false = refl
sd_unit true = refl

pub emmc_unit : (block_unit : Bool) → access_mode (conditions_word Emmc block_unit true) ≡ (if block_unit then 2 else 0)
unfolding bits number_of
emmc_unit false = refl
emmc_unit true = refl

-- R6

pub record AddressShows (word published : ℕ) (s : State) (e : Bool) : Type 0 where
  pub is_word : word < 2 ^ 32
  pub state : state_field word ≡ state_number s
  pub rca : published_rca word ≡ published
  pub error : has_doubt_r6 word ≡ e

-- the low half
record LowShows (low : ℕ) (s : State) (e : Bool) : Type 0 where
  half : low < 65536
  state : low / 2 ^ 9 % 2 ^ 4 ≡ state_number s
  error : not (low / 2 ^ 13 % 2 * 2 ^ 13 == 0) ≡ e

low_shows : (error : Bool) (state : State) → LowShows (low_word state error) state error
low_shows false Idle = record { half = lit< tt; state = refl; error = refl }
low_shows false state = record { half = lit< tt; state = refl; error = refl }
low_shows true Idle = record { half = lit< tt; state = refl; error = refl }
low_shows true state = record { half = lit< tt; state = refl; error = refl }

-- the address above it
above : (rca low : ℕ) → rca < 65536 → low < 65536 → (65536 * rca + low) / 2 ^ 16 % 2 ^ 16 ≡ rca
above rca low r l = omega arith

below : (rca low : ℕ) → (65536 * rca + low) / 2 ^ 9 % 2 ^ 4 ≡ low / 2 ^ 9 % 2 ^ 4
below rca low = omega arith

at_13 : (rca low : ℕ) → (65536 * rca + low) / 2 ^ 13 % 2 ≡ low / 2 ^ 13 % 2
at_13 rca low = omega arith

fits : (rca low : ℕ) → rca < 65536 → low < 65536 → 65536 * rca + low < 2 ^ 32
fits rca low r l = omega arith

pub address_shows : (rca : ℕ) (error : Bool) (state : State) → rca < 65536 → AddressShows (address_word rca state error) rca state error
address_shows rca error state r =
    let l = low_shows error state in
    let w : ℕ = 65536 * rca + low_word state error in
    record {
      is_word = fits rca (low_word state error) r l.half;
      state = field-bits 31 12 9 w (lit≤ tt) (lit≤ tt) ∙ below rca (low_word state error) ∙ l.state;
      rca = field-bits 31 31 16 w (lit≤ tt) (lit≤ tt) ∙ above rca (low_word state error) r l.half;
      error = ap (λ n. not (n == 0)) (and_pow w 13) ∙ ap (λ n. not (n * 2 ^ 13 == 0)) (at_13 rca (low_word state error)) ∙ l.error;
    }
