use Rattle.sdv_audit.specs.AuditedTrace.{Goes}
use Rattle.sdv_audit.proofs.trace.audit_trace.Given as goal

abbrev pub invariant-loop : goal.invariant-loop
invariant-loop g l =
    Goes l.fn.kind l.fn.style l.pending (g.R.Read.remaining l.fn.reader) (g.R.Read.remaining l.reader) (g.W.Write.contents l.fn.out) (g.W.Write.contents l.out)
