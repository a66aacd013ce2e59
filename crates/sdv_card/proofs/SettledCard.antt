-- The rules of a card are kept where only its state, its transfer and the like change, as by its own step.
use Rattle.std.proofs.Common.{◌≡◌, ℕ, ◌<◌, inl, inr, refl, subst, Bool, true, false, Option, Some, None, if◌then◌else◌, ◌==◌}
use Rattle.sdv_registers.specs.declared.kind.Kind.{Kind}
use Rattle.sdv_registers.specs.declared.kind.Kind.TheVariants.{Sd, Emmc}
use Rattle.sdv_card.specs.declared.state.State.{State}
use Rattle.sdv_card.specs.declared.state.State.TheVariants.{Idle, Ready, Ident, Stby, Tran, Data, Rcv, Prg, Dis}
use Rattle.sdv_card.specs.declared.state.Transfer.{Transfer}
use Rattle.sdv_card.specs.declared.state.Transfer.TheVariants.{Nothing, ScrDue, SdStatusDue, ExtCsdDue}
use Rattle.sdv_card.specs.States.{is_open, own_target}
use Rattle.sdv_card.specs.Card.{Card, IsCard, IsRegister, DataRegisters, AddressFits, ContentsFit, transfer_fits, kind_fits, length_fits}
use Rattle.sdv_card.specs.Modes.{mode_fits}
use Rattle.sdv_card.specs.Settled.{Settled}
use Rattle.sdv_card.specs.Phases.{register_due}
use Rattle.sdv_card.specs.Taken.{SameCard}
use Rattle.sdv_card.proofs.Same.{settled_same}

kept_registers : (k : Kind) (c u : Card) → SameCard c u → DataRegisters k c → DataRegisters k u
kept_registers Sd c u same r = record {
  scr = subst (λ v. IsRegister 8 v) same.scr r.scr;
  sd_status = subst (λ v. IsRegister 64 v) same.sd_status r.sd_status;
}
kept_registers Emmc c u same r = subst (λ v. IsRegister 512 v) same.ext_csd r

-- what a step may change of a card keeps the rules
pub record Fits (u : Card) : Type 0 where
  pub address : AddressFits u.state u.rca
  pub transfer : transfer_fits u.state u.transfer ≡ true
  pub kind_rules : kind_fits u.kind u.transfer u.app u.preset ≡ true
  pub block_length : length_fits u.block_unit (u.block_length == 512) ≡ true
  pub preset : u.preset < 65536
  pub announced : u.announced < 65536
  pub mode : mode_fits u.kind u.mode ≡ true
  pub contents : ContentsFit u

pub card_after : (c u : Card) → IsCard c → SameCard c u → Fits u → IsCard u
card_after c u card same fits = record {
  csd = subst (λ v. IsRegister 15 v) same.csd card.csd;
  cid = subst (λ v. IsRegister 15 v) same.cid card.cid;
  registers = subst (λ k. DataRegisters k u) same.kind (kept_registers c.kind c u same card.registers);
  address = fits.address;
  transfer = fits.transfer;
  kind_rules = fits.kind_rules;
  block_length = fits.block_length;
  preset = fits.preset;
  announced = fits.announced;
  mode = fits.mode;
  contents = fits.contents;
}

-- THE RULES OF A KIND, whose transfers differ by the registers alone

pub kind_of_none : (k : Kind) (x : Transfer) (app : Bool) (preset : ℕ) → kind_fits k x app preset ≡ true → kind_fits k Nothing app preset ≡ true
kind_of_none Sd ExtCsdDue app preset e = absurd (let f : false ≡ true = e in cc)
kind_of_none Sd x app preset e = e
kind_of_none Emmc ScrDue app preset e = absurd (let f : false ≡ true = e in cc)
kind_of_none Emmc SdStatusDue app preset e = absurd (let f : false ≡ true = e in cc)
kind_of_none Emmc x app preset e = e

pub kind_of_blocks : (k : Kind) (x : Transfer) (app : Bool) (preset : ℕ) → register_due x ≡ false → kind_fits k Nothing app preset ≡ true →
    kind_fits k x app preset ≡ true
kind_of_blocks k ScrDue app preset q e = absurd (let f : true ≡ false = q in cc)
kind_of_blocks k SdStatusDue app preset q e = absurd (let f : true ≡ false = q in cc)
kind_of_blocks k ExtCsdDue app preset q e = absurd (let f : true ≡ false = q in cc)
kind_of_blocks Sd x app preset q e = e
kind_of_blocks Emmc x app preset q e = e

-- ITS OWN STEP

own_address : (state : State) (x : Transfer) (s : State) (rca : Option ℕ) → own_target state x ≡ Some s → AddressFits state rca → AddressFits s rca
own_address Data x s rca e a = own_data (is_open x) s rca e a
  where
    own_data : (b : Bool) (s : State) (rca : Option ℕ) → (if b then None else Some Tran) ≡ Some s → AddressFits Data rca → AddressFits s rca
    own_data true s rca e a = absurd (cc)
    own_data false s rca e a = let f : Tran ≡ s = cc in subst (λ v. AddressFits v rca) f a
own_address Prg x s rca e a = let f : Tran ≡ s = cc in subst (λ v. AddressFits v rca) f a
own_address Dis x s rca e a = let f : Stby ≡ s = cc in subst (λ v. AddressFits v rca) f a
own_address Idle x s rca e a = absurd (cc)
own_address Ready x s rca e a = absurd (cc)
own_address Ident x s rca e a = absurd (cc)
own_address Stby x s rca e a = absurd (cc)
own_address Tran x s rca e a = absurd (cc)
own_address Rcv x s rca e a = absurd (cc)

own_transfer : (state : State) (x : Transfer) (s : State) → own_target state x ≡ Some s → transfer_fits s Nothing ≡ true
own_transfer Data x s e = own_data (is_open x) s e
  where
    own_data : (b : Bool) (s : State) → (if b then None else Some Tran) ≡ Some s → transfer_fits s Nothing ≡ true
    own_data true s e = absurd (cc)
    own_data false s e = let f : Tran ≡ s = cc in subst (λ v. transfer_fits v Nothing ≡ true) f refl
own_transfer Prg x s e = let f : Tran ≡ s = cc in subst (λ v. transfer_fits v Nothing ≡ true) f refl
own_transfer Dis x s e = let f : Stby ≡ s = cc in subst (λ v. transfer_fits v Nothing ≡ true) f refl
own_transfer Idle x s e = absurd (cc)
own_transfer Ready x s e = absurd (cc)
own_transfer Ident x s e = absurd (cc)
own_transfer Stby x s e = absurd (cc)
own_transfer Tran x s e = absurd (cc)
own_transfer Rcv x s e = absurd (cc)

own_fits : (c : Card) (s : State) → own_target c.state c.transfer ≡ Some s → IsCard c → Fits (record c { state = s; transfer = Nothing })
own_fits c s e card = record {
  address = own_address c.state c.transfer s c.rca e card.address;
  transfer = own_transfer c.state c.transfer s e;
  kind_rules = kind_of_none c.kind c.transfer c.app c.preset card.kind_rules;
  block_length = card.block_length;
  preset = card.preset;
  announced = card.announced;
  mode = card.mode;
  contents = card.contents;
}

pub settled_is_card : (c t : Card) → IsCard c → Settled c t → IsCard t
settled_is_card c t card (inl e) = subst (λ v. IsCard v) e card
settled_is_card c t card (inr x) = card_after c t card (settled_same c t (inr x)) (subst (λ v. Fits v) x.2 (own_fits c x.0 x.1 card))
