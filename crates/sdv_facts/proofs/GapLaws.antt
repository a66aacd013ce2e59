-- Gaps of a number hold of numbers that are greater or less.
use Rattle.std.proofs.Common.{◌≡◌, ℕ, ◌+◌, ◌-◌, ◌≤◌, Bool, true, false, nat_le, Option, Some, None, refl, arith, if◌then◌else◌}
use Rattle.std.proofs.lemmas.Bool.{leb-true}
use Rattle.sdv_facts.specs.FactsHold.{GapHolds}
use Rattle.sdv_facts.specs.Gaps.{gap_less, gap_more}
use Rattle.sdv_facts.specs.Covers.{GapCovers}

less_at : (b : Bool) (g k x y capacity : ℕ) → nat_le k g ≡ b → x + k ≡ y → x + g ≤ capacity → GapHolds (if b then Some (g - k) else None) y capacity
less_at false g k x y capacity t e r = tt
less_at true g k x y capacity t e r = let le : k ≤ g = leb-true k g t in omega arith

pub less_holds : (g : Option ℕ) (k x y capacity : ℕ) → x + k ≡ y → GapHolds g x capacity → GapHolds (gap_less g k) y capacity
less_holds None k x y capacity e r = tt
less_holds (Some g) k x y capacity e r = less_at (nat_le k g) g k x y capacity refl e r

pub more_holds : (g : Option ℕ) (k x y capacity : ℕ) → y + k ≡ x → GapHolds g x capacity → GapHolds (gap_more g k) y capacity
more_holds None k x y capacity e r = tt
more_holds (Some g) k x y capacity e r = omega arith

pub weaker_gap : (t s : Option ℕ) (x capacity : ℕ) → GapCovers t s → GapHolds s x capacity → GapHolds t x capacity
weaker_gap None s x capacity g r = tt
weaker_gap (Some a) None x capacity g r = absurd g
weaker_gap (Some a) (Some b) x capacity g r = omega arith
