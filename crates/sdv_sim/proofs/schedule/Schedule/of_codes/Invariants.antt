use Rattle.std.proofs.Common.{◌≡◌, Some, take}
use Rattle.std.specs.Prelude.{map}
use Rattle.sdv_behavior.specs.Schedules.{behavior_of_code}
use Rattle.sdv_sim.proofs.schedule.Schedule.of_codes.Given as goal

-- the behaviors so far are those of the values so far
abbrev pub invariant-loop-code : goal.invariant-loop-code
invariant-loop-code l = map behavior_of_code (take l.code-index l.codes) ≡ map Some l.behaviors.items
