use Rattle.std.proofs.Common.{◌≡◌, ◌∙◌, ap, subst, [], Some}
use Rattle.sdv_search.specs.Swept.{AreRows, RunsTo, events_in}
use Rattle.sdv_search.proofs.SweptLaws.{not_swept, passed}
use Rattle.sdv_search.proofs.sweeping.sweep.Goals as goal

pub returns-clause-swept : goal.returns-clause-swept
returns-clause-swept g c =
    let given = c.args.given.now in
    let trace = c.end.new.trace.items in
    let plain = c.in_ok-plain.plain in
    let events : c.events_in-events.result ≡ events_in trace plain = c.events_in-events.ensures ∙ ap (λ text. events_in text plain) c.deref.ensures.value in
    record {
      graph = c.in-Ok.graph;
      of_text = c.in-Ok.ensures.graph;
      desc = c.in-Ok-parse.desc;
      described = c.in-Ok-parse.ensures;
      trace = trace;
      plain = subst (λ none. RunsTo c.in-Ok.graph c.in-Ok-parse.desc given.image.now given.input.now [] (Some none) (Some trace) plain)
          c.new-trace.ensures.items c.in_ok-plain.ensures.end;
      rows = subst (λ n. AreRows c.in-Ok.graph c.in-Ok-parse.desc given.image.now given.input.now n c.in_ok-rows.rows.items) events c.in_ok-rows.ensures;
    }

pub returns-in_err-plain-clause-refused : goal.returns-in_err-plain-clause-refused
returns-in_err-plain-clause-refused g c =
    let given = c.args.given.now in
    passed given.script.now given.card.now given.image.now c.in_err-plain.field-0.0 c.from_residual.result c.from_residual.ensures.1
    (not_swept c.in-Ok.graph c.in-Ok-parse.desc given.script.now given.card.now given.image.now c.in-Ok.ensures.graph c.in-Ok-parse.ensures
    c.in_err-plain.field-0.0 c.in_err-plain.ensures.refused)
