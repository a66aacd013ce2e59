-- What came of a table: why there is none, and what was printed of it.
use Rattle.std.proofs.Common.{◌≡◌, sym, subst, refl, ℕ, List, Option, Some, None, option_map}
use Rattle.std.specs.Borrow.{Bor}
use Rattle.clap.specs.Words.{Text}
use Rattle.sdv_program.specs.Requests.{EmitNames}
use Rattle.sdv_check.specs.declared.fault.VerifyFault.TheVariants as verifies
use Rattle.sdv_emit.specs.declared.emitting.Emitted.{Emitted}
use Rattle.sdv_emit.specs.declared.fault.EmitFault.{EmitFault}
use Rattle.sdv_emit.specs.declared.fault.EmitFault.TheVariants as emits
use Rattle.sdv_emit.specs.Emitted.{EmitFails, Emits}
use Rattle.sdv_program.specs.Fault.{fault_of_emit}
use Rattle.sdv_program.specs.declared.fault.Fault.{Fault}
use Rattle.sdv_program.specs.Files.{Files}
use Rattle.sdv_program.specs.Outcomes.{Ending, PrintsText}
use Rattle.sdv_program.proofs.OutcomeLaws.{prints}
use Rattle.sdv_program.proofs.StartLaws.{keeps_same}
use Rattle.sdv_program.specs.Left.{IsLeft, LeavesFault}
use Rattle.sdv_commands.specs.Emit.{IsTableText, TableEnds, Unemitted}

module _ (files : Files) (names : EmitNames) (script certificate : Text) where
  abbrev pub table_ends : Ending
  table_ends = TableEnds files names script certificate

  pub unemitted : (known : Option (List ℕ)) (fault : EmitFault) → EmitFails script certificate names.name fault
      → table_ends (Some (fault_of_emit fault)) known known
  unemitted known emits.Name fails = (fails, keeps_same known)
  unemitted known (emits.Verify (verifies.Script fault)) fails = (fails, keeps_same known)
  unemitted known (emits.Verify (verifies.Certificate fault)) fails = (fails, keeps_same known)
  unemitted known (emits.Verify (verifies.Check fault)) fails = (fails, keeps_same known)
  unemitted known (emits.Verify verifies.Memory) fails = keeps_same known
  unemitted known (emits.Wide part) fails = (fails, keeps_same known)
  unemitted known emits.Memory fails = keeps_same known

  module _ (e : Emitted) (is : Emits script certificate names.script names.name e) where
    pub unwritten : (binary : Option (Bor Text)) → names.binary ≡ option_map (λ (file : Bor Text). file.now) binary → (fault : Fault)
        → LeavesFault files binary e.binary.items fault → (known : Option (List ℕ)) → table_ends (Some fault) known known
    unwritten None same fault leaves known = absurd leaves
    unwritten (Some file) same fault leaves known =
        subst (λ (f : Fault). table_ends (Some f) known known) (sym leaves.0)
        (record { emitted = e; emits = is; named = same; lost = leaves.1 }, keeps_same known)

    pub table_printed : IsLeft files names.binary e.binary.items → (outcome : Option Fault) (before after : Option (List ℕ))
        → PrintsText e.text.items outcome before after → table_ends outcome before after
    table_printed left outcome before after printed =
        prints before after (IsTableText files names script certificate) (Unemitted files names script certificate) e.text.items outcome
        (record { emitted = e; emits = is; left = left; same = refl }) printed
