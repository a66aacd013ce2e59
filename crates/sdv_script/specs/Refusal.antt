-- The only refusal of a graph.
use Rattle.sdv_script.specs.declared.fault.ScriptFault.{ScriptFault}
use Rattle.sdv_script.specs.declared.fault.FaultKind.TheVariants.{Memory}

abbrev pub memory_fault : ScriptFault
memory_fault = record { kind = Memory; line = 0 }
