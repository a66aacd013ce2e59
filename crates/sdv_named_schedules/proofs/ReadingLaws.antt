-- Mishaps before mishaps.
use Rattle.std.proofs.Common.{◌≡◌, refl, ap, append_assoc, List, ◌++◌, Result, Ok, Err}
use Rattle.sdv_named_schedules.specs.declared.fault.ScheduleFault.{ScheduleFault}
use Rattle.sdv_named_schedules.specs.declared.naming.NamedMishap.{NamedMishap}
use Rattle.sdv_named_schedules.specs.Reading.{with_front}

pub front_front : (xs ys : List NamedMishap) (more : Result (List NamedMishap) ScheduleFault)
    → with_front (xs ++ ys) more ≡ with_front xs (with_front ys more)
front_front xs ys (Ok ms) = ap Ok (append_assoc xs ys ms)
front_front xs ys (Err fault) = refl
