use Rattle.std.proofs.Common.{◌≡◌, drop}
use Rattle.sdv_named_schedules.specs.Naming.{named_place}
use Rattle.sdv_named_schedules.proofs.naming.named_place.Given as goal

-- the place is that among the events that are left
abbrev pub invariant-loop-place : goal.invariant-loop-place
invariant-loop-place l =
    named_place l.place l.left l.mishap.event (drop l.place l.events) ≡ named_place 0 l.mishap.ordinal l.mishap.event l.events
