use Rattle.sdv_driver.proofs.LinesFound.{parts}
use Rattle.sdv_driver.proofs.reading.written_so.Goals as goal

pub returns-clause-written : goal.returns-clause-written
returns-clause-written c d is = (parts d is).0

pub returns-clause-fits : goal.returns-clause-fits
returns-clause-fits c d is = (parts d is).1
