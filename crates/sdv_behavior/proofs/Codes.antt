-- The values from 0 to 7 are those of behaviors.
use Rattle.std.proofs.Common.{◌≡◌, ◌≤◌, true, ℕ, zero, suc, refl, arith}
use Rattle.std.specs.Prelude.{is_some}
use Rattle.sdv_behavior.specs.Schedules.{behavior_of_code}

pub digit_known : (n : ℕ) → n ≤ 7 → is_some (behavior_of_code n) ≡ true
digit_known zero h = refl
digit_known (suc zero) h = refl
digit_known (suc (suc zero)) h = refl
digit_known (suc (suc (suc zero))) h = refl
digit_known (suc (suc (suc (suc zero)))) h = refl
digit_known (suc (suc (suc (suc (suc zero))))) h = refl
digit_known (suc (suc (suc (suc (suc (suc zero)))))) h = refl
digit_known (suc (suc (suc (suc (suc (suc (suc zero))))))) h = refl
digit_known (suc (suc (suc (suc (suc (suc (suc (suc n)))))))) h = absurd (omega (arith, h))
