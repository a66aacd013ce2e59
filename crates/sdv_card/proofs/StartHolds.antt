-- A card of the profile before the first command, beside a host that knows nothing, has one of the start shapes.
use Rattle.std.proofs.Common.{◌≡◌, ℕ, refl, ap, subst, sym, ◌∙◌, Bool, true, false, ◌==◌, Some, None, arith}
use Rattle.sdv_registers.specs.declared.kind.Kind.{Kind}
use Rattle.sdv_registers.specs.declared.kind.Kind.TheVariants.{Sd, Emmc}
use Rattle.sdv_card.specs.declared.state.Width.TheVariants.{One}
use Rattle.sdv_card.specs.Modes.{first_mode, has_width}
use Rattle.sdv_card.specs.declared.state.State.TheVariants.{Idle}
use Rattle.sdv_card.specs.declared.state.Transfer.TheVariants.{Nothing}
use Rattle.sdv_card.specs.declared.state.EraseStage.TheVariants.{Outside}
use Rattle.sdv_card.specs.declared.fields.Fields.{Fields}
use Rattle.sdv_card.specs.Lists.{May}
use Rattle.sdv_card.specs.Takes.{matches}
use Rattle.sdv_card.specs.Card.{Card, length_fits}
use Rattle.sdv_card.specs.Phases.{blocks_due, register_due}
use Rattle.sdv_card.specs.Profile.{IsAtStart, host_at_start}
use Rattle.sdv_card.specs.Code.{code_of}
use Rattle.sdv_card.specs.Shapes.{view, start_codes}
use Rattle.sdv_card.specs.Laws.{StartsHold}
use Rattle.sdv_card.proofs.Digits.{same_fields}
use Rattle.sdv_card.proofs.Members.{here, there}

start_fields : Bool → Bool → Fields
start_fields unit length_512 = record {
  state = Idle;
  transfer = Nothing;
  erase = Outside;
  block_unit = unit;
  length_512 = length_512;
  app = false;
  matched = true;
  mode = first_mode;
  lines = One;
  flags = 0;
  preset = 0;
}

start_code : (unit length_512 : Bool) → length_fits unit length_512 ≡ true → May start_codes (code_of (start_fields unit length_512))
unfolding code_of start_fields
start_code true true e = there (there (here refl))
start_code true false e = absurd (let f : false ≡ true = e in cc)
start_code false true e = there (here refl)
start_code false false e = here refl

start_view : (c : Card) (n : ℕ) → IsAtStart c → start_fields c.block_unit (c.block_length == 512) ≡ view c (host_at_start n)
unfolding start_fields
start_view c n start =
    same_fields (sym start.state) (sym start.transfer) (sym start.erase) refl refl (sym start.app)
    (sym (ap (λ r. matches r 0) start.rca)) (sym start.mode) refl refl (sym start.preset)

no_blocks : (c : Card) → IsAtStart c → blocks_due c.transfer ≡ true → ⊥
no_blocks c start due = let e : false ≡ true = sym (ap blocks_due start.transfer) ∙ due in cc

no_register : (c : Card) → IsAtStart c → register_due c.transfer ≡ true → ⊥
no_register c start due = let e : false ≡ true = sym (ap register_due start.transfer) ∙ due in cc

one_line : (k : Kind) → has_width k One ≡ true
one_line Sd = refl
one_line Emmc = refl

pub starts_hold : (k : Kind) → StartsHold k
starts_hold k c n kind start = record {
  pair = record { kind = kind; card = start.profile.card; lines = one_line k; flags = omega arith; rca = omega arith };
  shape = subst (λ f. May start_codes (code_of f)) (start_view c n start) (start_code c.block_unit (c.block_length == 512) start.profile.card.block_length);
  sound = record {
    csd = λ bytes e. absurd (let f : None ≡ Some bytes = e in cc);
    ext_csd = λ bytes emmc e. absurd (let f : None ≡ Some bytes = e in cc);
    blocks = λ due. absurd (no_blocks c start due);
    register = λ due. absurd (no_register c start due);
  };
  on_card = λ due. absurd (no_blocks c start due);
}
