use Rattle.std.proofs.Common.{◌≡◌, Err, Ok, Some, Result, Option, List, ℕ, inl, inr, option_map, refl, rules, subst}
use Rattle.sdv_audit.specs.AuditedTrace.{Audits}
use Rattle.sdv_audit.specs.Faults.{fault_of_audit, fault_of_note}
use Rattle.sdv_audit.specs.declared.fault.AuditFault.{AuditFault}
use Rattle.sdv_audit.specs.declared.fault.AuditFault.TheVariants as audits
use Rattle.sdv_audit.specs.declared.fault.TraceFault.{TraceFault}
use Rattle.sdv_audit.specs.declared.style.Style.{Style}
use Rattle.sdv_audit.specs.declared.style.Tally.{Tally}
use Rattle.sdv_graph.specs.Graph.{Graph}
use Rattle.sdv_registers.specs.declared.kind.Kind.{Kind}
use Rattle.sdv_telling.specs.Statements.{Text}
use Rattle.sdv_decode.specs.Beside.{IsUnlined, with_put_in}
use Rattle.sdv_decode.specs.Decoded.{at_first}
use Rattle.sdv_decode.specs.Lines.{lines_in}
use Rattle.sdv_decode.specs.Room.{StopsByRoom}
use Rattle.sdv_decode.specs.declared.form.Form.TheVariants.{Words}
use Rattle.sdv_decode.proofs.beside.audit_beside.Goals as goal

unlined : (g : Graph) (given : Option (List ℕ)) (trace : Text) (fault : AuditFault)
    → (fault ≡ audits.Room → StopsByRoom Words (at_first g given) (lines_in trace)) → IsUnlined g given trace (fault_of_note (fault_of_audit fault))
unlined g given trace audits.Memory room = tt
unlined g given trace audits.Room room = room refl

audits_as : (k k' : Kind) (style : Style) (text text' : Text) (left before after : Option (List ℕ)) (r r' : Result Tally TraceFault) → k ≡ k' → text ≡ text'
    → r ≡ r' → Audits k style (Some text) left before after r → Audits k' style (Some text') left before after r'
audits_as k k' style text text' left before after r r' kind same is audited =
    subst (λ (v : Kind). Audits v style (Some text') left before after r') kind
    (subst (λ (v : Text). Audits k style (Some v) left before after r') same
    (subst (λ (v : Result Tally TraceFault). Audits k style (Some text) left before after v) is audited))

pub returns-in_err-lined : goal.returns-in_err-lined
returns-in_err-lined g c =
    let is : c.from_residual.result ≡ Err (fault_of_note (fault_of_audit c.in_err-lined.field-0.0)) = search rules in
    rw is (
    inr (
      unlined c.args.graph.now (option_map (λ bytes. bytes.now) c.args.given) c.args.trace.now c.in_err-lined.field-0.0 c.in_err-lined.ensures.room,
      refl,
    )
    )

pub returns-in_err-tally : goal.returns-in_err-tally
returns-in_err-tally g c =
    let is : c.from_residual-in_err-tally.result ≡ Err c.in_err-tally.field-0.0 = search rules in
    rw is (
    inl (
      c.in_ok-lined.lined.off,
      record {
        text = c.in_ok-lined.lined.text.items;
        puts = c.in_ok-lined.ensures.puts;
        left = Some c.audit_trace.new.reader.now;
        audited = audits_as c.kind.result c.args.graph.now.kind (with_put_in c.args.style) c.as_slice-reader.result.now c.in_ok-lined.lined.text.items _ _ _
            c.audit_trace.result (Err c.in_err-tally.field-0.0) c.kind.ensures c.as_slice-reader.ensures.value c.in_err-tally.was c.audit_trace.ensures;
      },
    )
    )

pub returns : goal.returns
returns g c = record {
  text = c.in_ok-lined.lined.text.items;
  puts = c.in_ok-lined.ensures.puts;
  left = Some c.audit_trace.new.reader.now;
  audited = audits_as c.kind.result c.args.graph.now.kind (with_put_in c.args.style) c.as_slice-reader.result.now c.in_ok-lined.lined.text.items _ _ _
      c.audit_trace.result (Ok c.in_ok-tally.tally) c.kind.ensures c.as_slice-reader.ensures.value c.in_ok-tally.was c.audit_trace.ensures;
}
