use Rattle.std.proofs.Common.{rules}
use Rattle.sdv_check.proofs.checker.fault_of.Goals as goal

pub returns-in-Illegal : goal.returns-in-Illegal
returns-in-Illegal c = search rules

pub returns-in-Address : goal.returns-in-Address
returns-in-Address c = search rules

pub returns-in-Shape : goal.returns-in-Shape
returns-in-Shape c = search rules

pub returns-in-Number : goal.returns-in-Number
returns-in-Number c = search rules

pub returns-in-EndState : goal.returns-in-EndState
returns-in-EndState c = search rules
