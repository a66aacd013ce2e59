use Rattle.std.proofs.Common.{rules}
use Rattle.sdv_check.proofs.checker.check.Goals as goal

pub returns-in-Sd-clause-checked : goal.returns-in-Sd-clause-checked
returns-in-Sd-clause-checked c = search rules

pub returns-in-Sd-clause-promised : goal.returns-in-Sd-clause-promised
returns-in-Sd-clause-promised c = search rules

pub accept_by-requires-in-Emmc : goal.accept_by-requires-in-Emmc
accept_by-requires-in-Emmc c = search rules
