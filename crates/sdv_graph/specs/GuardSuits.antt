-- When a GUARD says something of the answers to a command; an ask that is no line of the command table has no order.
use Rattle.std.specs.Prelude.{Bool, false, Option, Some, None}
use Rattle.sdv_card.specs.declared.guard.Guard.{Guard}
use Rattle.sdv_card.specs.declared.command.Order.{Order}
use Rattle.sdv_card.specs.Guards.{guard_fits}

abbrev pub fits_order : Guard → Option Order → Bool
fits_order guard None = false
fits_order guard (Some order) = guard_fits guard order
