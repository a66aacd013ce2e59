-- Files that gave no bytes, and traces of which nothing is told.
use Rattle.std.proofs.Common.{◌≡◌, ◌⊎◌, inl, inr, refl, ap, sym, subst, ℕ, List, Option, Some, Result, IsErrAnd, None, ◌∙◌}
use Rattle.std.specs.Borrow.{Bor}
use Rattle.clap.specs.Words.{Text}
use Rattle.sdv_program.specs.declared.fault.Fault.{Fault}
use Rattle.sdv_program.specs.declared.fault.Fault.TheVariants.{File, Memory}
use Rattle.sdv_program.specs.Files.{Files}
use Rattle.sdv_program.specs.Outcomes.{Ending, outcome_of}
use Rattle.sdv_program.proofs.OutcomeLaws.{failed}
use Rattle.sdv_program.proofs.StartLaws.{keeps_same}
use Rattle.sdv_graph.specs.Graph.{Graph}
use Rattle.sdv_audit.specs.declared.fault.AuditFault.{AuditFault}
use Rattle.sdv_audit.specs.declared.fault.AuditFault.TheVariants as audits
use Rattle.sdv_decode.specs.Decoded.{Decodes, at_first}
use Rattle.sdv_decode.specs.Lines.{lines_in}
use Rattle.sdv_decode.specs.Room.{StopsByRoom}
use Rattle.sdv_decode.specs.declared.form.Form.{Form}
use Rattle.sdv_decode.specs.declared.fault.TraceOff.{TraceOff}
use Rattle.sdv_decode.specs.declared.fault.TraceOff.TheVariants as offs
use Rattle.sdv_commands.specs.Decode.{AuditsGraph, AuditsIn, IsUndecoded, audited, broken_off, fault_of_audit, told_off, undecoded}
use Rattle.sdv_commands.specs.Given.{NoBytes, OverGiven}
use Rattle.sdv_commands.specs.Report.{PrintsReport}

-- a file that gave no bytes
module _ {T : Type 0} (files : Files) (name : Bor Text) (Ends : Option (List ℕ) → Ending) (known : Option (List ℕ)) where
  pub no_bytes : (fault : Fault) → (fault ≡ File name) ⊎ (fault ≡ Memory) → (fault ≡ File name → files.unread name.now)
      → (r : Result T Fault) → IsErrAnd r (λ f. f ≡ fault) → OverGiven files (Some name.now) Ends (outcome_of r) known known
  no_bytes fault why unread r is =
      failed (λ outcome. OverGiven files (Some name.now) Ends outcome known known) fault r is (inl (none why, keeps_same known))
    where
      none : (fault ≡ File name) ⊎ (fault ≡ Memory) → NoBytes files name.now (Some fault)
      none (inl unusable) = subst (λ f. NoBytes files name.now (Some f)) (sym unusable) (refl, unread unusable)
      none (inr memory) = subst (λ f. NoBytes files name.now (Some f)) (sym memory) tt

-- nothing is told of a trace
undecoded_as : (form : Form) (g : Graph) (trace : Text) (given : Option (List ℕ)) (fault : AuditFault)
    → (fault ≡ audits.Room → StopsByRoom form (at_first g given) (lines_in trace)) → IsUndecoded form g trace given fault
undecoded_as form g trace given audits.Room room = room refl
undecoded_as form g trace given audits.Memory room = tt

pub undecoded_so : (form : Form) (g : Graph) (trace : Text) (given known : Option (List ℕ)) (fault : AuditFault)
    → (fault ≡ audits.Room → StopsByRoom form (at_first g given) (lines_in trace)) → (f : Fault) → f ≡ fault_of_audit fault
    → AuditsGraph form g trace given (Some f) known known
undecoded_so form g trace given known fault room f same =
    undecoded fault (undecoded_as form g trace given fault room) (ap Some same) (keeps_same known)

not_off : (off : Option TraceOff) → told_off off ≡ None → off ≡ None
not_off None is = refl
not_off (Some (offs.Line fault line)) is = cc
not_off (Some (offs.Script line)) is = cc

-- what was printed of a trace: a part of its lines, or those up to where it is off; or all of them, and then it was audited
module _ (form : Form) (g : Graph) (trace : Text) (given : Option (List ℕ)) (text : Text) (off : Option TraceOff)
    (decodes : Decodes g form given trace text off) (told : Option Fault) (same : told ≡ told_off off) where
  pub told_part : (fault : Fault) (before after : Option (List ℕ)) → PrintsReport text told (Some fault) before after
      → AuditsGraph form g trace given (Some fault) before after
  told_part fault before after was =
      broken_off text off decodes (λ none. cc) (subst (λ (t : Option Fault). PrintsReport text t (Some fault) before after) same was)

  pub told_all : (before mid after : Option (List ℕ)) (outcome : Option Fault) → PrintsReport text told None before mid
      → AuditsIn form g trace given outcome mid after → AuditsGraph form g trace given outcome before after
  told_all before mid after outcome (inl whole) audits =
      let none : off ≡ None = not_off off (sym same ∙ sym whole.0) in
      audited text (subst (λ (o : Option TraceOff). Decodes g form given trace text o) none decodes) mid whole.1 audits
  told_all before mid after outcome (inr part) audits = absurd (cc)
