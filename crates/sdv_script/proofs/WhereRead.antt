-- Where reading gives something.
use Rattle.std.proofs.Common.{◌≡◌, Bool, true, false, List, refl, cond, Option, Some, None}
use Rattle.std.specs.Prelude.{IfSome, ◌&&◌}
use Rattle.sdv_text.specs.Fronts.{◌>>=◌}
use Rattle.sdv_script.specs.Tokens.{Token}

pub IfSome-bind : {A B : Type 0} (o : Option A) (f : A → Option B) (P : A → Type 0) (Q : B → Type 0) → IfSome o P → ((a : A) → P a → IfSome (f a) Q)
    → IfSome (o >>= f) Q
IfSome-bind None f P Q p q = tt
IfSome-bind (Some a) f P Q p q = q a p

pub IfSome-test : {A : Type 0} (b : Bool) (o : Option A) (Q : A → Type 0) → (b ≡ true → IfSome o Q) → IfSome (cond b o None) Q
IfSome-test true o Q q = q refl
IfSome-test false o Q q = tt

-- the part that is read and what follows it are the tokens
pub record Took {A : Type 0} (written : A → List Token → List Token) (Fits : A → Type 0) (ts : List Token) (x : A × List Token) : Type 0 where
  pub parts : ts ≡ written x.0 x.1
  pub fits : Fits x.0

pub both : (a b : Bool) → (a && b) ≡ true → (a ≡ true) × (b ≡ true)
both true b e = (refl, e)
both false b e = absurd cc

pub IfSome-map : {A : Type 0} (o : Option A) (P Q : A → Type 0) → IfSome o P → ((a : A) → P a → Q a) → IfSome o Q
IfSome-map None P Q p q = tt
IfSome-map (Some a) P Q p q = q a p

pub IfSome-given : {A : Type 0} (b : Bool) (a : A) (Q : A → Type 0) → (b ≡ true → Q a) → IfSome (cond b (Some a) None) Q
IfSome-given true a Q q = q refl
IfSome-given false a Q q = tt

pub IfSome-known : {A B : Type 0} (o : Option A) (f : A → Option B) (Q : B → Type 0) → ((a : A) → o ≡ Some a → IfSome (f a) Q) → IfSome (o >>= f) Q
IfSome-known None f Q q = tt
IfSome-known (Some a) f Q q = q a refl
