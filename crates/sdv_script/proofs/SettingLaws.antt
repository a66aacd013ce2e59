-- What an argument of index 6 sets, and what number of data lines and of a partition is read.
use Rattle.std.proofs.Common.{◌≡◌, ℕ, Bool, true, false, List, [], ◌∷◌, refl, eqb-true, cond, Option, Some, None}
use Rattle.std.specs.Prelude.{IfSome, ◌==◌, find, is_some}
use Rattle.sdv_registers.specs.declared.kind.Kind.{Kind}
use Rattle.sdv_registers.specs.declared.kind.Kind.TheVariants.{Sd, Emmc}
use Rattle.sdv_card.specs.declared.state.Width.{Width}
use Rattle.sdv_card.specs.declared.state.Width.TheVariants.{One, Four, Eight}
use Rattle.sdv_card.specs.declared.state.Partition.{Partition}
use Rattle.sdv_card.specs.declared.state.Partition.TheVariants.{User, Boot1, Boot2}
use Rattle.sdv_card.specs.declared.command.Setting.{Setting}
use Rattle.sdv_card.specs.declared.command.Setting.TheVariants.{Lines, Access}
use Rattle.sdv_card.specs.Modes.{has_width, line_count, partition_number}
use Rattle.sdv_script.specs.Commands.{has_partitions, settings, setting_argument, setting_of, is_setting, width_with, partition_with}

-- the kind has the data lines, or the partition
abbrev pub has_setting : Kind → Setting → Bool
has_setting k (Lines width) = has_width k width
has_setting k (Access partition) = has_partitions k

-- what is set by its argument is found by it
pub of_argument : (k : Kind) (s : Setting) → has_setting k s ≡ true → setting_of k (setting_argument k s) ≡ Some s
of_argument Sd (Lines One) has = refl
of_argument Sd (Lines Four) has = refl
of_argument Sd (Lines Eight) has = absurd (cc)
of_argument Sd (Access partition) has = absurd (cc)
of_argument Emmc (Lines One) has = refl
of_argument Emmc (Lines Four) has = refl
of_argument Emmc (Lines Eight) has = refl
of_argument Emmc (Access User) has = refl
of_argument Emmc (Access Boot1) has = refl
of_argument Emmc (Access Boot2) has = refl

chosen : {A : Type 0} (P : A → Type 0) (b : Bool) (a : A) (others : Option A) → (b ≡ true → P a) → IfSome others P → IfSome (cond b (Some a) others) P
chosen P true a others p q = p refl
chosen P false a others p q = q

-- the argument sets it, and the kind has it
abbrev pub IsSet : Kind → ℕ → Setting → Type 0
IsSet k argument s = (argument ≡ setting_argument k s) × (has_setting k s ≡ true)

abbrev HasEach : Kind → List Setting → Type 0
HasEach k [] = Unit {0}
HasEach k (s ∷ ss) = (has_setting k s ≡ true) × HasEach k ss

has_each : (k : Kind) → HasEach k (settings k)
has_each Sd = (refl, (refl, tt))
has_each Emmc = (refl, (refl, (refl, (refl, (refl, (refl, tt))))))

found_among : (k : Kind) (n : ℕ) (ss : List Setting) → HasEach k ss → IfSome (find (λ s. n == setting_argument k s) ss) (IsSet k n)
found_among k n [] has = tt
found_among k n (s ∷ ss) has =
    chosen (IsSet k n) (n == setting_argument k s) s (find (λ s. n == setting_argument k s) ss) (λ e. (eqb-true n (setting_argument k s) e, has.0))
    (found_among k n ss has.1)

-- what an argument sets has that argument
pub argument_of : (k : Kind) (n : ℕ) → IfSome (setting_of k n) (IsSet k n)
argument_of k n = found_among k n (settings k) (has_each k)

-- an argument that sets something is that of a setting
found_by : (b : Bool) (k : Kind) (n : ℕ) (s : Setting) (others : Option Setting) → (n == setting_argument k s) ≡ b
    → ((is_some others ≡ true) → (t : Setting) × (n ≡ setting_argument k t)) → is_some (cond b (Some s) others) ≡ true
    → (t : Setting) × (n ≡ setting_argument k t)
found_by true k n s others e rest some = (s, eqb-true n (setting_argument k s) e)
found_by false k n s others e rest some = rest some

one_among : (k : Kind) (n : ℕ) (ss : List Setting) → is_some (find (λ s. n == setting_argument k s) ss) ≡ true
    → (t : Setting) × (n ≡ setting_argument k t)
one_among k n [] some = absurd (cc)
one_among k n (s ∷ ss) some =
    found_by (n == setting_argument k s) k n s (find (λ s. n == setting_argument k s) ss) refl (one_among k n ss) some

pub some_setting : (k : Kind) (n : ℕ) → is_setting k n ≡ true → (t : Setting) × (n ≡ setting_argument k t)
some_setting k n some = one_among k n (settings k) some

-- NUMBERS

pub lines_counted : (n : ℕ) → IfSome (width_with n) (λ w. n ≡ line_count w)
lines_counted n =
    let P : Width → Type 0 = λ w. n ≡ line_count w in
    chosen P (n == 1) One (cond (n == 4) (Some Four) (cond (n == 8) (Some Eight) None)) (λ e. eqb-true n 1 e) (
    chosen P (n == 4) Four (cond (n == 8) (Some Eight) None) (λ e. eqb-true n 4 e) (
    chosen P (n == 8) Eight None (λ e. eqb-true n 8 e) tt))

pub partition_numbered : (n : ℕ) → IfSome (partition_with n) (λ p. n ≡ partition_number p)
partition_numbered n =
    let P : Partition → Type 0 = λ p. n ≡ partition_number p in
    chosen P (n == 0) User (cond (n == 1) (Some Boot1) (cond (n == 2) (Some Boot2) None)) (λ e. eqb-true n 0 e) (
    chosen P (n == 1) Boot1 (cond (n == 2) (Some Boot2) None) (λ e. eqb-true n 1 e) (
    chosen P (n == 2) Boot2 None (λ e. eqb-true n 2 e) tt))
