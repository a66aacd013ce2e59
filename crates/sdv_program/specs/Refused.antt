-- Why the checker does not accept a script with a certificate, by what the program says of it.
use Rattle.clap.specs.Words.{Text}
use Rattle.sdv_script.specs.Graph.{Graph}
use Rattle.sdv_check.specs.Verified.{Acceptance, IsAccepted, IsGraphOfText, IsNoCertificate, IsNoScript, IsOpen}
use Rattle.sdv_program.specs.declared.fault.Fault.{Fault}
use Rattle.sdv_program.specs.declared.fault.Fault.TheVariants.{Script, Certificate, Refused, Output, Memory}

-- what a fault says of the texts; want of memory says nothing
abbrev pub Refuses : (script certificate : Text) → Fault → Type 0
Refuses script certificate (Script fault) = IsNoScript script
Refuses script certificate (Certificate fault) = ((g : Graph) × IsGraphOfText script g) × IsNoCertificate certificate
Refuses script certificate (Refused fault) = IsOpen script certificate fault
Refuses script certificate Output = (a : Acceptance) × IsAccepted script certificate a
Refuses script certificate Memory = Unit {0}
Refuses script certificate fault = ⊥
