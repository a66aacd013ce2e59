use Rattle.std.proofs.Common.{◌≡◌, ◌∙◌, [], Err, Ok, ap, inl, rules, sym, subst}
use Rattle.sdv_audit.specs.Texts.{read_said, with_said}
use Rattle.sdv_audit.specs.declared.input.TextFault.TheVariants as text_faults
use Rattle.sdv_audit.specs.Faults.{fault_of_note}
use Rattle.sdv_audit.specs.Input.{ReadsText, is_over}
use Rattle.sdv_audit.proofs.TraceLaws.{audits_note, begins, no_lines, one_more_line, no_more, last_more, reading_stops, line_stops, all_ends}
use Rattle.sdv_audit.proofs.trace.audit_trace.Goals as goal

pub loop-init : goal.loop-init
loop-init g c = record {
  trace = _;
  lines_read = no_lines c.args.style (g.R.Read.remaining c.args.reader.now);
  waits = record {
    written = begins c.in_ok-new.field-0 c.args.kind c.args.style (g.W.Write.contents c.args.out.now) c.in_ok-new.ensures.kind c.in_ok-new.ensures.style
        c.in_ok-new.ensures.start;
    count = c.nothing.ensures;
  };
}

pub returns-in-Err : goal.returns-in-Err
returns-in-Err g c =
    reading_stops c.args.kind c.args.style c.loop.pending (g.R.Read.remaining c.args.reader.now) (g.R.Read.remaining c.loop.reader)
    (g.R.Read.remaining c.read_text.new.reader) (g.W.Write.contents c.args.out.now) (g.W.Write.contents c.loop.out)
    (g.W.Write.contents c.stop_reading.new.out) c.read_text.new.text.items c.in-Err.fault c.stop_reading.result c.loop.invariant c.in-Err.ensures
    (λ trace w. c.stop_reading.ensures c.args.kind c.args.style trace (g.W.Write.contents c.args.out.now) w)

pub returns-then-is_over : goal.returns-then-is_over
returns-then-is_over g c =
    all_ends c.args.kind c.args.style (g.R.Read.remaining c.args.reader.now) (g.R.Read.remaining c.read_text.new.reader)
    (g.W.Write.contents c.args.out.now) (g.W.Write.contents c.end_report.new.out) c.loop.invariant.trace c.end_report.result
    (no_more c.args.style (g.R.Read.remaining c.args.reader.now) (g.R.Read.remaining c.loop.reader) (g.R.Read.remaining c.read_text.new.reader)
    c.loop.invariant.trace c.read_text.new.text.items c.in-Ok.end c.loop.invariant.lines_read c.in-Ok.ensures
    (ap (is_over c.in-Ok.end) (sym c.as_slice.ensures.value) ∙ (sym c.is_over.ensures ∙ c.if-is_over.true)))
    (c.end_report.ensures c.args.kind c.args.style c.loop.invariant.trace (g.W.Write.contents c.args.out.now) c.loop.invariant.waits)

pub returns-in-Err-read_said : goal.returns-in-Err-read_said
returns-in-Err-read_said g c =
    line_stops c.args.kind c.args.style c.loop.pending (g.R.Read.remaining c.args.reader.now) (g.R.Read.remaining c.loop.reader)
    (g.R.Read.remaining c.read_text.new.reader) (g.W.Write.contents c.args.out.now) (g.W.Write.contents c.loop.out)
    (g.W.Write.contents c.stop_at.new.out) c.read_text.new.text.items c.in-Ok.end c.in-Err-read_said.fault c.stop_at.result c.loop.invariant c.in-Ok.ensures
    (ap read_said (sym c.as_slice-in-loop.ensures.value) ∙ (sym c.read_said.ensures ∙ c.in-Err-read_said.is))
    (λ trace w. c.stop_at.ensures c.args.kind c.args.style trace (g.W.Write.contents c.args.out.now) w)

pub returns-in-End : goal.returns-in-End
returns-in-End g c =
    all_ends c.args.kind c.args.style (g.R.Read.remaining c.args.reader.now) (g.R.Read.remaining c.read_text.new.reader)
    (g.W.Write.contents c.args.out.now) (g.W.Write.contents c.end_report-in-End.new.out)
    (with_said c.args.style c.in-Ok-read_said.told c.loop.invariant.trace) c.end_report-in-End.result
    (last_more c.args.style (g.R.Read.remaining c.args.reader.now) (g.R.Read.remaining c.loop.reader) (g.R.Read.remaining c.read_text.new.reader)
    c.loop.invariant.trace c.read_text.new.text.items c.in-Ok-read_said.told c.loop.invariant.lines_read
    (subst (λ e. ReadsText (g.R.Read.remaining c.loop.reader) (g.R.Read.remaining c.read_text.new.reader) c.read_text.new.text.items (Ok e)) c.in-End.is
    c.in-Ok.ensures)
    (ap (λ e. is_over e c.read_text.new.text.items) (sym c.in-End.is)
    ∙ (ap (is_over c.in-Ok.end) (sym c.as_slice.ensures.value) ∙ (sym c.is_over.ensures ∙ c.if-is_over.false)))
    (ap read_said (sym c.as_slice-in-loop.ensures.value) ∙ (sym c.read_said.ensures ∙ c.in-Ok-read_said.is)))
    (c.end_report-in-End.ensures c.args.kind c.args.style (with_said c.args.style c.in-Ok-read_said.told c.loop.invariant.trace)
    (g.W.Write.contents c.args.out.now)
    (c.in_ok-push-in-Ok-read_said.ensures.waits c.args.kind c.args.style c.loop.invariant.trace (g.W.Write.contents c.args.out.now) c.loop.invariant.waits))

pub loop-preserved : goal.loop-preserved
loop-preserved g c = record {
  trace = with_said c.args.style c.in-Ok-read_said.told c.loop.invariant.trace;
  lines_read = one_more_line c.args.style (g.R.Read.remaining c.args.reader.now) (g.R.Read.remaining c.loop.reader)
      (g.R.Read.remaining c.read_text.new.reader) c.loop.invariant.trace c.read_text.new.text.items c.in-Ok-read_said.told c.loop.invariant.lines_read
      (subst (λ e. ReadsText (g.R.Read.remaining c.loop.reader) (g.R.Read.remaining c.read_text.new.reader) c.read_text.new.text.items (Ok e)) c.in-Feed.is
      c.in-Ok.ensures)
      (ap read_said (sym c.as_slice-in-loop.ensures.value) ∙ (sym c.read_said.ensures ∙ c.in-Ok-read_said.is));
  waits = c.in_ok-push-in-Ok-read_said.ensures.waits c.args.kind c.args.style c.loop.invariant.trace (g.W.Write.contents c.args.out.now) c.loop.invariant.waits;
}

pub returns-in_err-push-in-Ok-read_said : goal.returns-in_err-push-in-Ok-read_said
returns-in_err-push-in-Ok-read_said g c =
    let fault = c.in_err-push-in-Ok-read_said.field-0.0 in
    let is : c.from_residual-in_err-push-in-Ok-read_said.result ≡ Err (fault_of_note fault) = search rules in
    rw is
    (audits_note fault c.args.kind c.args.style (g.R.Read.remaining c.args.reader.now) (g.R.Read.remaining c.read_text.new.reader)
    (g.W.Write.contents c.args.out.now) (g.W.Write.contents c.push.new.out)
    (λ e.
    let lacks = c.in_err-push-in-Ok-read_said.ensures.room e c.args.kind c.args.style c.loop.invariant.trace (g.W.Write.contents c.args.out.now)
    c.loop.invariant.waits in
    record {
      left = g.R.Read.remaining c.loop.reader;
      trace = c.loop.invariant.trace;
      read = inl c.loop.invariant.lines_read;
      next = lacks.0;
      no_room = lacks.1;
    }))

pub returns : goal.returns
returns g c =
    reading_stops c.args.kind c.args.style c.loop.pending (g.R.Read.remaining c.args.reader.now) (g.R.Read.remaining c.loop.reader)
    (g.R.Read.remaining c.loop.reader) (g.W.Write.contents c.args.out.now) (g.W.Write.contents c.loop.out)
    (g.W.Write.contents c.stop_reading-2.new.out) [] text_faults.Read c.stop_reading-2.result c.loop.invariant tt
    (λ trace w. c.stop_reading-2.ensures c.args.kind c.args.style trace (g.W.Write.contents c.args.out.now) w)
