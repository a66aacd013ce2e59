-- Each place after a phase has a transfer that fits its state and of which no phase is due, and an address.
use Rattle.std.proofs.Common.{◌≡◌, ℕ, inl, inr, refl, subst, true, false, List, [], ◌∷◌, Option}
use Rattle.sdv_card.specs.declared.state.State.TheVariants.{Tran, Data, Rcv, Prg}
use Rattle.sdv_card.specs.declared.state.Place.{Place}
use Rattle.sdv_card.specs.declared.state.Transfer.{Transfer}
use Rattle.sdv_card.specs.declared.state.Transfer.TheVariants.{Nothing, ReadDue, OpenReadDue, ScrDue, SdStatusDue, ExtCsdDue, ReadOver, OpenReadOver, WriteDue, OpenWriteDue, WriteOver, OpenWriteOver}
use Rattle.sdv_card.specs.declared.answer.DataEnd.{DataEnd}
use Rattle.sdv_card.specs.declared.answer.DataEnd.TheVariants.{Ok, Cut}
use Rattle.sdv_card.specs.Lists.{May, IsOneOf}
use Rattle.sdv_card.specs.Card.{AddressFits, transfer_fits}
use Rattle.sdv_card.specs.Phases.{◌with◌, after_phase, register_due, blocks_due}

pub record Calm (p : Place) : Type 0 where
  pub transfer : transfer_fits p.state p.transfer ≡ true
  pub no_register : register_due p.transfer ≡ false
  pub no_blocks : blocks_due p.transfer ≡ false
  -- a card that has an address in transfer state has it there
  pub address : (rca : Option ℕ) → AddressFits Tran rca → AddressFits p.state rca

abbrev EachCalm : List Place → Type 0
EachCalm [] = Unit {0}
EachCalm (p ∷ ps) = Calm p × EachCalm ps

calm_one : (ps : List Place) (q : Place) → EachCalm ps → IsOneOf ps q → Calm q
calm_one [] q each m = absurd m
calm_one (p ∷ ps) q each (inl e) = subst (λ v. Calm v) e each.0
calm_one (p ∷ ps) q each (inr m) = calm_one ps q each.1 m

in_tran : Calm (Tran with Nothing)
in_tran = record { transfer = refl; no_register = refl; no_blocks = refl; address = λ rca a. a }

in_data : Calm (Data with ReadOver)
in_data = record { transfer = refl; no_register = refl; no_blocks = refl; address = λ rca a. a }

in_open_data : Calm (Data with OpenReadOver)
in_open_data = record { transfer = refl; no_register = refl; no_blocks = refl; address = λ rca a. a }

in_prg : Calm (Prg with Nothing)
in_prg = record { transfer = refl; no_register = refl; no_blocks = refl; address = λ rca a. a }

in_rcv : Calm (Rcv with WriteOver)
in_rcv = record { transfer = refl; no_register = refl; no_blocks = refl; address = λ rca a. a }

in_open_rcv : Calm (Rcv with OpenWriteOver)
in_open_rcv = record { transfer = refl; no_register = refl; no_blocks = refl; address = λ rca a. a }

each_calm : (x : Transfer) (end : DataEnd) → EachCalm (after_phase x end)
each_calm ReadDue Ok = (in_tran, tt)
each_calm ReadDue Cut = (in_data, (in_tran, tt))
each_calm OpenReadDue end = (in_open_data, tt)
each_calm ScrDue Ok = (in_tran, tt)
each_calm ScrDue Cut = (in_data, (in_tran, tt))
each_calm SdStatusDue Ok = (in_tran, tt)
each_calm SdStatusDue Cut = (in_data, (in_tran, tt))
each_calm ExtCsdDue Ok = (in_tran, tt)
each_calm ExtCsdDue Cut = (in_data, (in_tran, tt))
each_calm WriteDue Ok = (in_prg, tt)
each_calm WriteDue Cut = (in_rcv, (in_prg, tt))
each_calm OpenWriteDue end = (in_open_rcv, tt)
each_calm x end = tt

pub calm_place : (x : Transfer) (end : DataEnd) (p : Place) → May (after_phase x end) p → Calm p
calm_place x end p m = calm_one (after_phase x end) p (each_calm x end) m.one
