-- Why two texts are not accepted.
use Rattle.std.proofs.Common.{ℕ, List, Option, Some}
use Rattle.clap.specs.Words.{Text}
use Rattle.sdv_check.specs.declared.fault.VerifyFault.{VerifyFault}
use Rattle.sdv_check.specs.declared.fault.VerifyFault.TheVariants as verifies
use Rattle.sdv_program.specs.Fault.{fault_of_verify}
use Rattle.sdv_program.specs.Refused.{Refuses}
use Rattle.sdv_program.specs.Outcomes.{Prints}
use Rattle.sdv_program.proofs.StartLaws.{keeps_same}
use Rattle.sdv_commands.specs.Check.{IsBoundLine}

pub unaccepted : (script certificate : Text) (known : Option (List ℕ)) (fault : VerifyFault) → Refuses script certificate (fault_of_verify fault)
    → Prints (IsBoundLine script certificate) (Refuses script certificate) (Some (fault_of_verify fault)) known known
unaccepted script certificate known (verifies.Script fault) refuses = (refuses, keeps_same known)
unaccepted script certificate known (verifies.Certificate fault) refuses = (refuses, keeps_same known)
unaccepted script certificate known (verifies.Check fault) refuses = (refuses, keeps_same known)
unaccepted script certificate known verifies.Memory refuses = keeps_same known
