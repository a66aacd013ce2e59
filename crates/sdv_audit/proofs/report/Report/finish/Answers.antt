use Rattle.std.proofs.Common.{◌∙◌, ◌++◌, ap, subst}
use Rattle.std.specs.Io.KnownBytes.{Appends}
use Rattle.sdv_audit.specs.Notes.{ending}
use Rattle.sdv_audit.proofs.report.Report.finish.Goals as goal

pub returns-in-Ok-clause-written : goal.returns-in-Ok-clause-written
returns-in-Ok-clause-written g c = (
  c.deref.result.now,
  subst (λ v. Appends (g.W.Write.contents c.args.out.now) (g.W.Write.contents c.write_text.new.out) v)
      (c.as_slice.ensures.value ∙ (c.in_ok-put_ending.ensures
      ∙ ap (λ v. v ++ ending c.args.self.now.style c.args.count c.args.self.now.tally c.deref.result.now) c.new-text.ensures.items))
      c.in-Ok.ensures,
)
