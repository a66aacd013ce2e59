-- Words that a card may answer: a status, an address and operating conditions, each with the bits that are wanted.
use Rattle.std.proofs.Common.{◌≡◌, ℕ, ◌<◌, ◌+◌, ◌*◌, ◌/◌, ◌%◌, ◌^◌, ◌==◌, ◌&&◌, ◌||◌, refl, ap, ◌∙◌, Bool, true, false, not, eqb-true, lit<, lit≤, arith, if◌then◌else◌}
use Rattle.std.specs.Prelude.{nat_lt}
use Rattle.std.specs.Int.RustNames.{bit_and}
use Rattle.std.specs.Int.Bits.{and_zero_r}
use Rattle.std.proofs.Math.Nat.{mod-add-div}
use Rattle.std.proofs.lemmas.Bool.{ltb-true}
use Rattle.std.proofs.lemmas.Nat.{and_mask, and_block, pow_pos, mod_below}
use Rattle.sdv_frames.specs.Bits.{bits, number_of}
use Rattle.sdv_frames.proofs.Tried.{both, same_bit, same_bit_is}
use Rattle.sdv_registers.specs.declared.kind.Kind.{Kind}
use Rattle.sdv_registers.specs.declared.kind.Kind.TheVariants.{Sd, Emmc}
use Rattle.sdv_registers.specs.Status.{state as state_field, is_switch_error, is_app_cmd, is_ready_for_data, is_clean, is_clean_r6, has_doubt, has_doubt_r6, rca as published_rca}
use Rattle.sdv_registers.specs.Ocr.{is_powered_up, ccs, access_mode, voltage_windows}
use Rattle.sdv_registers.proofs.FieldLaws.{field-bits}
use Rattle.sdv_card.specs.declared.state.State.{State}
use Rattle.sdv_card.specs.declared.state.State.TheVariants.{Idle, Ready, Ident, Stby, Tran, Data, Rcv, Prg, Dis}
use Rattle.sdv_card.specs.States.{state_number}
use Rattle.sdv_card.specs.Code.{bool_number}
use Rattle.sdv_card.specs.Agrees.{IsWord}

-- EACH STATE AND EACH BIT is tried

each_bit : (Bool → Bool) → Bool
each_bit test = test false && test true

each_state : (State → Bool) → Bool
each_state test =
    test Idle && (test Ready && (test Ident && (test Stby && (test Tran && (test Data && (test Rcv && (test Prg && test Dis)))))))

of_bit : (test : Bool → Bool) (b : Bool) → each_bit test ≡ true → test b ≡ true
unfolding each_bit
of_bit test false e = (both (test false) _ e).0
of_bit test true e = (both (test false) _ e).1

of_state : (test : State → Bool) (s : State) → each_state test ≡ true → test s ≡ true
unfolding each_state
of_state test s e =
    let idle = both (test Idle) _ e in
    let ready = both (test Ready) _ idle.1 in
    let ident = both (test Ident) _ ready.1 in
    let stby = both (test Stby) _ ident.1 in
    let tran = both (test Tran) _ stby.1 in
    let sending = both (test Data) _ tran.1 in
    let rcv = both (test Rcv) _ sending.1 in
    let prg = both (test Prg) (test Dis) rcv.1 in
    pick s idle.0 ready.0 ident.0 stby.0 tran.0 sending.0 rcv.0 prg.0 prg.1
  where
    pick : (s : State) → test Idle ≡ true → test Ready ≡ true → test Ident ≡ true → test Stby ≡ true → test Tran ≡ true → test Data ≡ true →
        test Rcv ≡ true → test Prg ≡ true → test Dis ≡ true → test s ≡ true
    pick Idle a b c d e f g h i = a
    pick Ready a b c d e f g h i = b
    pick Ident a b c d e f g h i = c
    pick Stby a b c d e f g h i = d
    pick Tran a b c d e f g h i = e
    pick Data a b c d e f g h i = f
    pick Rcv a b c d e f g h i = g
    pick Prg a b c d e f g h i = h
    pick Dis a b c d e f g h i = i

-- A STATUS of this state, with these bits at 31 (a doubt), 5 (application flag), 7 (switch error) and 8 (ready for data);
-- without a doubt and a switch error, bit 22 says whether it is clean

abbrev status_word : State → (doubt app switch ready clean : Bool) → ℕ
status_word s doubt app switch ready clean =
    2147483648 * bool_number doubt + 4194304 * bool_number (not clean) + 512 * state_number s
    + 256 * bool_number ready + 128 * bool_number switch + 32 * bool_number app

pub record StatusWord (s : State) (doubt app switch ready clean : Bool) : Type 0 where
  pub word : ℕ
  pub is_word : IsWord word
  pub state : state_field word ≡ state_number s
  pub doubt_is : has_doubt word ≡ doubt
  pub app_is : is_app_cmd word ≡ app
  pub switch_is : is_switch_error word ≡ switch
  pub ready_is : is_ready_for_data word ≡ ready
  pub clean_is : (k : Kind) → doubt ≡ false → switch ≡ false → is_clean k word ≡ clean

abbrev clean_fits : (word : ℕ) (doubt switch clean : Bool) → Bool
clean_fits word false false clean = same_bit (is_clean Sd word) clean && same_bit (is_clean Emmc word) clean
clean_fits word doubt switch clean = true

status_fits : ℕ → State → (doubt app switch ready clean : Bool) → Bool
status_fits word s doubt app switch ready clean =
    nat_lt word (2 ^ 32) && ((state_field word == state_number s) && (same_bit (has_doubt word) doubt && (same_bit (is_app_cmd word) app
    && (same_bit (is_switch_error word) switch && (same_bit (is_ready_for_data word) ready && clean_fits word doubt switch clean)))))

statuses_fit : State → Bool
statuses_fit s = each_bit (λ doubt. each_bit (λ app. each_bit (λ switch. each_bit (λ ready. each_bit (λ clean.
    status_fits (status_word s doubt app switch ready clean) s doubt app switch ready clean)))))

all_statuses_fit : each_state statuses_fit ≡ true
unfolding each_state each_bit statuses_fit status_fits bits number_of
all_statuses_fit = refl

clean_of : (word : ℕ) (doubt switch clean : Bool) → clean_fits word doubt switch clean ≡ true → (k : Kind) → doubt ≡ false → switch ≡ false →
    is_clean k word ≡ clean
clean_of word false false clean e Sd f g = same_bit_is _ clean (both (same_bit (is_clean Sd word) clean) _ e).0
clean_of word false false clean e Emmc f g = same_bit_is _ clean (both (same_bit (is_clean Sd word) clean) _ e).1
clean_of word true switch clean e k f g = absurd (cc)
clean_of word false true clean e k f g = absurd (cc)

fitting_status : (word : ℕ) (s : State) (doubt app switch ready clean : Bool) → status_fits word s doubt app switch ready clean ≡ true →
    StatusWord s doubt app switch ready clean
unfolding status_fits
fitting_status word s doubt app switch ready clean e =
    let small = both (nat_lt word (2 ^ 32)) _ e in
    let state = both (state_field word == state_number s) _ small.1 in
    let doubts = both (same_bit (has_doubt word) doubt) _ state.1 in
    let apps = both (same_bit (is_app_cmd word) app) _ doubts.1 in
    let switches = both (same_bit (is_switch_error word) switch) _ apps.1 in
    let readies = both (same_bit (is_ready_for_data word) ready) (clean_fits word doubt switch clean) switches.1 in
    record {
      word = word;
      is_word = ltb-true word (2 ^ 32) small.0;
      state = eqb-true _ _ state.0;
      doubt_is = same_bit_is _ _ doubts.0;
      app_is = same_bit_is _ _ apps.0;
      switch_is = same_bit_is _ _ switches.0;
      ready_is = same_bit_is _ _ readies.0;
      clean_is = clean_of word doubt switch clean readies.1;
    }

pub status : (s : State) (doubt app switch ready clean : Bool) → StatusWord s doubt app switch ready clean
unfolding statuses_fit
status s doubt app switch ready clean =
    fitting_status (status_word s doubt app switch ready clean) s doubt app switch ready clean
    (of_bit _ clean (of_bit _ ready (of_bit _ switch (of_bit _ app (of_bit _ doubt (of_state statuses_fit s all_statuses_fit))))))

-- AN ADDRESS in an R6, with bit 13 as the doubt; without a doubt, bit 14 says whether it is clean

pub record AddressWord (s : State) (doubt : Bool) (rca : ℕ) (ready clean : Bool) : Type 0 where
  pub word : ℕ
  pub is_word : IsWord word
  pub state : state_field word ≡ state_number s
  pub doubt_is : has_doubt_r6 word ≡ doubt
  pub rca_is : published_rca word ≡ rca
  pub ready_is : is_ready_for_data word ≡ ready
  pub clean_is : doubt ≡ false → is_clean_r6 word ≡ clean

-- the address is 1

abbrev first_address_word : State → (doubt ready clean : Bool) → ℕ
first_address_word s doubt ready clean =
    65536 + 16384 * bool_number (not clean) + 8192 * bool_number doubt + 512 * state_number s + 256 * bool_number ready

address_fits : ℕ → State → (doubt ready clean : Bool) → Bool
address_fits word s doubt ready clean =
    nat_lt word (2 ^ 32) && ((state_field word == state_number s) && (same_bit (has_doubt_r6 word) doubt && ((published_rca word == 1)
    && (same_bit (is_ready_for_data word) ready && (doubt || same_bit (is_clean_r6 word) clean)))))

addresses_fit : State → Bool
addresses_fit s = each_bit (λ doubt. each_bit (λ ready. each_bit (λ clean.
    address_fits (first_address_word s doubt ready clean) s doubt ready clean)))

all_addresses_fit : each_state addresses_fit ≡ true
unfolding each_state each_bit addresses_fit address_fits bits number_of
all_addresses_fit = refl

without_doubt : (doubt b : Bool) → (doubt || b) ≡ true → doubt ≡ false → b ≡ true
without_doubt true b e f = absurd (cc)
without_doubt false b e f = e

fitting_address : (word : ℕ) (s : State) (doubt ready clean : Bool) → address_fits word s doubt ready clean ≡ true →
    AddressWord s doubt 1 ready clean
unfolding address_fits
fitting_address word s doubt ready clean e =
    let small = both (nat_lt word (2 ^ 32)) _ e in
    let state = both (state_field word == state_number s) _ small.1 in
    let doubts = both (same_bit (has_doubt_r6 word) doubt) _ state.1 in
    let rcas = both (published_rca word == 1) _ doubts.1 in
    let readies = both (same_bit (is_ready_for_data word) ready) _ rcas.1 in
    record {
      word = word;
      is_word = ltb-true word (2 ^ 32) small.0;
      state = eqb-true _ _ state.0;
      doubt_is = same_bit_is _ _ doubts.0;
      rca_is = eqb-true _ _ rcas.0;
      ready_is = same_bit_is _ _ readies.0;
      clean_is = λ f. same_bit_is _ _ (without_doubt doubt _ readies.1 f);
    }

pub first_address : (s : State) (doubt ready clean : Bool) → AddressWord s doubt 1 ready clean
unfolding addresses_fit
first_address s doubt ready clean =
    fitting_address (first_address_word s doubt ready clean) s doubt ready clean
    (of_bit _ clean (of_bit _ ready (of_bit _ doubt (of_state addresses_fit s all_addresses_fit))))

-- the address is any number, with a doubt

-- a number and the mask of one bit share that bit alone
one_bit : (number place : ℕ) → bit_and number (2 ^ place) ≡ number / 2 ^ place % 2 * 2 ^ place
one_bit number place =
    let parts : number / 2 ^ place * 2 ^ place + number % 2 ^ place ≡ number = grind (arith, mod-add-div number (2 ^ place)) in
    let mask : 1 * 2 ^ place + 0 ≡ 2 ^ place = omega arith in
    let cut = and_block place (number / 2 ^ place) 1 (number % 2 ^ place) 0 (mod_below number (2 ^ place) (pow_pos place)) (pow_pos place) in
    let one : bit_and (number / 2 ^ place) 1 ≡ number / 2 ^ place % 2 = and_mask (number / 2 ^ place) 1 in
    let none : bit_and (number % 2 ^ place) 0 ≡ 0 = and_zero_r (number % 2 ^ place) in
    let whole : bit_and number (2 ^ place) ≡ bit_and (number / 2 ^ place) 1 * 2 ^ place + bit_and (number % 2 ^ place) 0 =
    rw (parts, mask) at cut in
    whole ∙ rw (one, none) (omega arith)

small_state : (s : State) → state_number s < 16
small_state Idle = lit< tt
small_state Ready = lit< tt
small_state Ident = lit< tt
small_state Stby = lit< tt
small_state Tran = lit< tt
small_state Data = lit< tt
small_state Rcv = lit< tt
small_state Prg = lit< tt
small_state Dis = lit< tt

small_bit : (b : Bool) → bool_number b < 2
small_bit false = lit< tt
small_bit true = lit< tt

bit_back : (b : Bool) → (bool_number b == 1) ≡ b
bit_back false = refl
bit_back true = refl

-- the address, the state, the doubt and the bit ready for data
doubted_word : (rca state ready : ℕ) → ℕ
doubted_word rca state ready = 65536 * rca + 512 * state + 8192 + 256 * ready

state_digit : (m n r : ℕ) → n < 16 → r < 2 → doubted_word m n r / 2 ^ 9 % 2 ^ 4 ≡ n
unfolding doubted_word
state_digit m n r small bit = omega arith

rca_digit : (m n r : ℕ) → n < 16 → r < 2 → m < 65536 → doubted_word m n r / 2 ^ 16 % 2 ^ 16 ≡ m
unfolding doubted_word
rca_digit m n r small bit below = omega arith

doubt_digit : (m n r : ℕ) → n < 16 → r < 2 → doubted_word m n r / 2 ^ 13 % 2 ≡ 1
unfolding doubted_word
doubt_digit m n r small bit = omega arith

ready_digit : (m n r : ℕ) → n < 16 → r < 2 → doubted_word m n r / 2 ^ 8 % 2 ^ 1 ≡ r
unfolding doubted_word
ready_digit m n r small bit = omega arith

doubt_masked : (m n r : ℕ) → n < 16 → r < 2 → bit_and (doubted_word m n r) (2 ^ 13) ≡ 8192
doubt_masked m n r small bit = one_bit (doubted_word m n r) 13 ∙ rw (doubt_digit m n r small bit) refl

short_word : (m n r : ℕ) → n < 16 → r < 2 → m < 65536 → doubted_word m n r < 2 ^ 32
unfolding doubted_word
short_word m n r small bit below = omega arith

pub doubted_address : (s : State) (rca : ℕ) (ready clean : Bool) → rca < 65536 → AddressWord s true rca ready clean
doubted_address s rca ready clean below =
    let n : ℕ = state_number s in
    let r : ℕ = bool_number ready in
    let word : ℕ = doubted_word rca n r in
    record {
      word = word;
      is_word = short_word rca n r (small_state s) (small_bit ready) below;
      state = field-bits 31 12 9 word (lit≤ tt) (lit≤ tt) ∙ state_digit rca n r (small_state s) (small_bit ready);
      doubt_is = ap (λ v. not (v == 0)) (doubt_masked rca n r (small_state s) (small_bit ready));
      rca_is = field-bits 31 31 16 word (lit≤ tt) (lit≤ tt) ∙ rca_digit rca n r (small_state s) (small_bit ready) below;
      ready_is = ap (λ v. v == 1) (field-bits 31 8 8 word (lit≤ tt) (lit≤ tt) ∙ ready_digit rca n r (small_state s) (small_bit ready))
          ∙ bit_back ready;
      clean_is = λ e. absurd (let f : true ≡ false = e in cc);
    }

-- OPERATING CONDITIONS with all voltage windows, of a card that is powered up or not, with this unit

pub record ConditionsWord (ready unit : Bool) : Type 0 where
  pub word : ℕ
  pub is_word : IsWord word
  pub windows : voltage_windows word ≡ 511
  pub ready_is : is_powered_up word ≡ ready
  pub sd : ccs word ≡ unit
  pub emmc : access_mode word ≡ (if unit then 2 else 0)

pub conditions : (ready unit : Bool) → ConditionsWord ready unit
unfolding bits number_of
conditions false false = record { word = 0x00ff8000; is_word = lit< tt; windows = refl; ready_is = refl; sd = refl; emmc = refl }
conditions false true = record { word = 0x40ff8000; is_word = lit< tt; windows = refl; ready_is = refl; sd = refl; emmc = refl }
conditions true false = record { word = 0x80ff8000; is_word = lit< tt; windows = refl; ready_is = refl; sd = refl; emmc = refl }
conditions true true = record { word = 0xc0ff8000; is_word = lit< tt; windows = refl; ready_is = refl; sd = refl; emmc = refl }
