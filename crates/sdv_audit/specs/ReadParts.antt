-- What a reader of the code gives, seen by a view.
use Rattle.std.specs.Prelude.{Result, Ok, Err}
use Rattle.sdv_audit.specs.declared.fault.TraceLineFault.{TraceLineFault}

abbrev pub read_part : {A B : Type 0} → (A → B) → Result A TraceLineFault → Result B TraceLineFault
read_part view (Ok x) = Ok (view x)
read_part view (Err fault) = Err fault
