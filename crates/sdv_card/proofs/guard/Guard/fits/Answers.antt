use Rattle.std.proofs.Common.{rules}
use Rattle.sdv_card.proofs.guard.Guard.fits.Goals as goal

pub returns-in-SendIfCond : goal.returns-in-SendIfCond
returns-in-SendIfCond c = search rules
