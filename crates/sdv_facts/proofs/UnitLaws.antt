-- What every shape of a list says of the unit, a card with one of these shapes says.
use Rattle.std.proofs.Common.{◌≡◌, refl, ℕ, List, [], ◌∷◌, inl, inr, ap, subst, Bool, true, false, not, ◌&&◌}
use Rattle.sdv_registers.specs.declared.kind.Kind.{Kind}
use Rattle.sdv_card.specs.Lists.{May, IsOneOf, all}
use Rattle.sdv_card.specs.Card.{Card}
use Rattle.sdv_card.specs.Host.{Host}
use Rattle.sdv_card.specs.Code.{digits}
use Rattle.sdv_card.specs.Shapes.{view, pair_code, IsPair}
use Rattle.sdv_card.proofs.Digits.{digits_law}
use Rattle.sdv_card.specs.ShapeBits.{has_block_addresses, partition_shown, is_flag_set, has_flag}

pub both : (a b : Bool) → a && b ≡ true → (a ≡ true) × (b ≡ true)
both true b e = (refl, e)
both false b e = absurd (cc)

all_at : {A : Type 0} (p : A → Bool) (xs : List A) (x : A) → all p xs ≡ true → IsOneOf xs x → p x ≡ true
all_at p [] x e m = absurd m
all_at p (y ∷ ys) x e (inl same) = subst (λ z. p z ≡ true) same (both (p y) (all p ys) e).0
all_at p (y ∷ ys) x e (inr m) = all_at p ys x (both (p y) (all p ys) e).1 m

pub all-member : {A : Type 0} (p : A → Bool) (xs : List A) (x : A) → all p xs ≡ true → May xs x → p x ≡ true
all-member p xs x e m = all_at p xs x e m.one

pub negated : (b : Bool) → not b ≡ true → b ≡ false
negated true e = absurd (cc)
negated false e = refl

module _ (k : Kind) (c : Card) (h : Host) (pair : IsPair k c h) where
  shown : digits (pair_code c h) ≡ view c h
  shown = digits_law (view c h) pair.flags pair.card.preset

  pub unit_shown : has_block_addresses (record { 0 = pair_code c h }) ≡ c.block_unit
  unit_shown = ap (λ f. f.block_unit) shown

  pub access_shown : partition_shown (record { 0 = pair_code c h }) ≡ c.mode.partition
  access_shown = ap (λ f. f.mode.partition) shown

  pub flag_shown : (flag : ℕ) → has_flag (record { 0 = pair_code c h }) flag ≡ is_flag_set h.flags flag
  flag_shown flag = ap (λ f. is_flag_set f.flags flag) shown
