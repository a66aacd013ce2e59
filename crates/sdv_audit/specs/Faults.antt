-- Faults of one layer as those of the next.
use Rattle.sdv_audit.specs.declared.fault.AuditFault.{AuditFault}
use Rattle.sdv_audit.specs.declared.fault.AuditFault.TheVariants as audits
use Rattle.sdv_audit.specs.declared.fault.NoteFault.{NoteFault}
use Rattle.sdv_audit.specs.declared.fault.NoteFault.TheVariants as notes
use Rattle.sdv_audit.specs.declared.fault.TraceFault.{TraceFault}
use Rattle.sdv_audit.specs.declared.fault.TraceFault.TheVariants as faults

abbrev pub fault_of_audit : AuditFault → NoteFault
fault_of_audit audits.Memory = notes.Memory
fault_of_audit audits.Room = notes.Room

abbrev pub fault_of_note : NoteFault → TraceFault
fault_of_note notes.Write = faults.Write
fault_of_note notes.Memory = faults.Memory
fault_of_note notes.Room = faults.Room
