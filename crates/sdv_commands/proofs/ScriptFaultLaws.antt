-- A text that is no script.
use Rattle.std.proofs.Common.{◌≢◌, Option, Some}
use Rattle.sdv_script.specs.declared.fault.FaultKind.{FaultKind}
use Rattle.sdv_script.specs.declared.fault.FaultKind.TheVariants.{Memory as NoMemory}
use Rattle.sdv_script.specs.declared.fault.ScriptFault.{ScriptFault}
use Rattle.sdv_program.specs.Fault.{fault_of_script}
use Rattle.sdv_program.specs.declared.fault.Fault.{Fault}
use Rattle.sdv_program.specs.declared.fault.Fault.TheVariants.{Script, Memory}

-- the fault of a script is said, but want of memory
pub by_script : (P : Option Fault → Type 0) (kind : FaultKind) (fault : ScriptFault) → (kind ≢ NoMemory → P (Some (Script fault))) → P (Some Memory)
    → P (Some (fault_of_script kind fault))
by_script P NoMemory fault none memory = memory
by_script P _ fault none memory = none (λ e. cc)
