-- The shape at which a refusal is explained: the one that it names, or else one of the point's shapes at which the clause
-- that fails does.
use Rattle.std.specs.Prelude.{◌≡◌, List, [], ◌∷◌}
use Rattle.sdv_card.specs.declared.shape.Shape.{Shape}
use Rattle.sdv_card.specs.Lists.{May}
use Rattle.sdv_graph.specs.Path.{Action}
use Rattle.sdv_facts.specs.declared.numbers.Numbers.{Numbers}
use Rattle.sdv_facts.specs.Closed.{AddressAt, EndsAt}
use Rattle.sdv_facts.specs.Facts.{Facts, facts_with}
use Rattle.sdv_certify.specs.declared.fault.CertifyFault.{CertifyFault}
use Rattle.sdv_certify.specs.declared.fault.CertifyFault.TheVariants.{Illegal, Address, EndState, TooMany, Memory}
use Rattle.sdv_certify.specs.Refusal.{AllEnd}

-- beside a card of the shape the blocks of a statement's command are known to lie in the partition in access, and are
-- addressed in the card's unit
unfoldable pub TakesAddress : Action → Numbers → Shape → Type 0
TakesAddress action ns s = AddressAt (facts_with (s ∷ []) ns) action

abbrev pub AllTake : Action → Numbers → List Shape → Type 0
AllTake action ns shapes = (s : Shape) → May shapes s → TakesAddress action ns s

-- one of the shapes, at which they are not
pub record IsUntaken (action : Action) (ns : Numbers) (shapes : List Shape) (s : Shape) : Type 0 where
  pub one : May shapes s
  pub takes_not : TakesAddress action ns s → ⊥

-- one of the shapes, with which the script may not end there
pub record IsOtherEnd (action : Action) (shapes : List Shape) (s : Shape) : Type 0 where
  pub one : May shapes s
  pub ends_not : EndsAt action s → ⊥

abbrev pub IsRefusedAt : CertifyFault → Action → Facts → Shape → Type 0
IsRefusedAt (Illegal point shape) action known s = shape ≡ s
IsRefusedAt (Address point) action known s = IsUntaken action known.numbers known.shapes s
IsRefusedAt (EndState point) action known s = IsOtherEnd action known.shapes s
IsRefusedAt TooMany action known s = ⊥
IsRefusedAt Memory action known s = ⊥

-- there is no such shape: the clause is kept for each
abbrev pub IsRefusedNowhere : CertifyFault → Action → Facts → Type 0
IsRefusedNowhere (Illegal point shape) action known = ⊥
IsRefusedNowhere (Address point) action known = AllTake action known.numbers known.shapes
IsRefusedNowhere (EndState point) action known = AllEnd action known.shapes
IsRefusedNowhere TooMany action known = Unit {0}
IsRefusedNowhere Memory action known = Unit {0}
