use Rattle.std.proofs.Common.{◌≡◌, All, map, take}
use Rattle.sdv_certify.specs.Forms.{full_form, FormInLimits}
use Rattle.sdv_certify.proofs.bounds.within_limits.Given as goal

abbrev pub invariant-loop-form : goal.invariant-loop-form
invariant-loop-form l = record { same : l.within.items ≡ map full_form (take l.form-index l.forms); limits : All FormInLimits l.within.items }
