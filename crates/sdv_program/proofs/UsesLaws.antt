-- The roles of a command, one after another.
use Rattle.std.proofs.Common.{◌≡◌, ◌∙◌, ◌+◌, ◌<◌, ◌≤◌, ◌⊎◌, ℕ, List, Option, None, Some, ap, arith, false, inl, inr, is_some, map, option_map, refl, slice_get, subst, sym, take}
use Rattle.std.proofs.lemmas.Bool.{cases_lt}
use Rattle.std.proofs.lemmas.Option.{slice_get-map}
use Rattle.std.specs.List.{take-map}
use Rattle.std.specs.Prelude.{IfSome}
use Rattle.clap.specs.Words.{Text}
use Rattle.sdv_program.specs.Files.{Files}
use Rattle.sdv_program.specs.Uses.{Clashes, IsWrittenOver, Role, StaysOff, seen_role}
use Rattle.sdv_program.specs.declared.uses.Role.{Role as CodeRole}

-- the role in a place, if there is one, stays off those before it
abbrev pub IsApartAt : Files → List Role → (place : ℕ) → Type 0
IsApartAt files roles place = (role : Role) → slice_get roles place ≡ Some role → StaysOff files (take place roles) role

abbrev pub AreApartTo : Files → List Role → (place : ℕ) → Type 0
AreApartTo files roles place = (i : ℕ) → i < place → IsApartAt files roles i

pub one_more : (files : Files) (roles : List Role) (place : ℕ) → AreApartTo files roles place → IsApartAt files roles place
    → AreApartTo files roles (place + 1)
one_more files roles place before last i less = go (cases_lt i place)
  where
    go : (i < place) ⊎ (place ≤ i) → IsApartAt files roles i
    go (inl earlier) = before i earlier
    go (inr later) = let same : place ≡ i = omega (arith, later, less) in subst (IsApartAt files roles) same last

-- THE CODE'S ROLES

module _ (files : Files) (roles : List CodeRole) (place : ℕ) (role : CodeRole) (here : slice_get roles place ≡ Some role) where
  seen_here : slice_get (map seen_role roles) place ≡ Some (seen_role role)
  seen_here = slice_get-map seen_role roles place ∙ ap (option_map seen_role) here

  pub apart_here : StaysOff files (map seen_role (take place roles)) (seen_role role) → IsApartAt files (map seen_role roles) place
  apart_here off found is =
      let same : seen_role role ≡ found = let both = sym seen_here ∙ is in cc in
      subst (StaysOff files (take place (map seen_role roles))) same
      (subst (λ before. StaysOff files before (seen_role role)) (sym (take-map seen_role place roles)) off)

  pub clashes_here : (file : Text) → IsWrittenOver files (map seen_role (take place roles)) (seen_role role) file
      → Clashes files (map seen_role roles) file
  clashes_here file over = record {
    place = place;
    role = seen_role role;
    is_role = seen_here;
    is_over = subst (λ before. IsWrittenOver files before (seen_role role) file) (sym (take-map seen_role place roles)) over;
  }

pub if_some : {T : Type 0} (P Q : T → Type 0) (o : Option T) → ((x : T) → P x → Q x) → IfSome o P → IfSome o Q
if_some P Q None step is = tt
if_some P Q (Some x) step is = step x is

pub not_some : {T : Type 0} (o : Option T) → is_some o ≡ false → o ≡ None
not_some None none = refl
not_some (Some x) none = cc
