use Rattle.std.proofs.Common.{◌≡◌, ◌∙◌, subst, List}
use Rattle.std.proofs.lemmas.Result.{err_from_is_err_and}
use Rattle.sdv_card.specs.Card.{Block}
use Rattle.sdv_check.specs.Verified.{IsGraphOfText}
use Rattle.sdv_run.specs.Step.{World}
use Rattle.sdv_block.specs.BatchText.{batch_script}
use Rattle.sdv_block.specs.Serves.{Uncertified}
use Rattle.sdv_block.proofs.ServeAnswers.{unserved, uncertified}
use Rattle.sdv_block.proofs.ServeTheorem.{ran_whole, ran_open}
use Rattle.sdv_block.proofs.running.serve.Goals as goal

pub returns-in_err-text : goal.returns-in_err-text
returns-in_err-text g c =
    let p = err_from_is_err_and c.from_residual.result c.from_residual.ensures.1 in
    let w : World _ = record {
      port = c.args.port.now;
      input = c.args.input.now;
      out = g.O.Write.contents c.args.out.now;
      trace =
          g.T.Write.contents c.args.trace.now;
    } in (
      c.args.input.now,
      rw (p.1, p.2)
          (unserved g.P.CardPort.steps g.P.CardPort.card c.args.kind c.args.requests.now w c.in_err-text.field-0.0 c.in_err-text.ensures.refused),
    )

pub returns-in_err-graph : goal.returns-in_err-graph
returns-in_err-graph g c =
    let p = err_from_is_err_and c.from_residual-in_err-graph.result c.from_residual-in_err-graph.ensures.1 in
    let w : World _ = record {
      port = c.args.port.now;
      input = c.args.input.now;
      out = g.O.Write.contents c.args.out.now;
      trace =
          g.T.Write.contents c.args.trace.now;
    } in
    let same : c.as_str.result.now ≡ (batch_script c.args.kind c.args.requests.now).text = c.as_str.ensures.value ∙ c.in_ok-text.ensures.text in (
      c.args.input.now,
      rw (p.1, p.2)
          (uncertified g.P.CardPort.steps g.P.CardPort.card c.args.kind c.args.requests.now w c.in_err-graph.field-0.0 c.in_ok-text.ensures.script
          (subst (λ t. Uncertified t c.in_err-graph.field-0.0) same c.in_err-graph.ensures.refused)),
    )

pub returns-in-Ok : goal.returns-in-Ok
returns-in-Ok g c =
    let w : World _ = record {
      port = c.args.port.now;
      input = c.args.input.now;
      out = g.O.Write.contents c.args.out.now;
      trace =
          g.T.Write.contents c.args.trace.now;
    } in
    let after = λ (left : List Block). let v : World _ =
    record { port = c.run_graph.new.port; input = left; out = g.O.Write.contents c.run_graph.new.out; trace = g.T.Write.contents c.run_graph.new.trace } in
    v in
    let port = g.met.P.CardPort in
    let same : c.as_str.result.now ≡ (batch_script c.args.kind c.args.requests.now).text = c.as_str.ensures.value ∙ c.in_ok-text.ensures.text in
    let of = subst (λ t. IsGraphOfText t c.in_ok-graph.graph) same c.in_ok-graph.ensures.graph in (
      c.in-Ok.ensures.0,
      ran_whole c.args.kind c.args.requests.now c.in_ok-graph.graph c.in_ok-text.ensures.script of g.P.CardPort.steps g.P.CardPort.card port.keeps_tables
          c.in_ok-graph.ensures.certified w (after c.in-Ok.ensures.0) c.in-Ok.end c.in-Ok.ensures.1,
    )

pub returns : goal.returns
returns g c =
    let w : World _ = record {
      port = c.args.port.now;
      input = c.args.input.now;
      out = g.O.Write.contents c.args.out.now;
      trace =
          g.T.Write.contents c.args.trace.now;
    } in
    let after = λ (left : List Block). let v : World _ =
    record { port = c.run_graph.new.port; input = left; out = g.O.Write.contents c.run_graph.new.out; trace = g.T.Write.contents c.run_graph.new.trace } in
    v in
    let port = g.met.P.CardPort in
    let same : c.as_str.result.now ≡ (batch_script c.args.kind c.args.requests.now).text = c.as_str.ensures.value ∙ c.in_ok-text.ensures.text in
    let of = subst (λ t. IsGraphOfText t c.in_ok-graph.graph) same c.in_ok-graph.ensures.graph in (
      c.in-Err.ensures.0,
      ran_open c.args.kind c.args.requests.now c.in_ok-graph.graph c.in_ok-text.ensures.script of g.P.CardPort.steps g.P.CardPort.card port.keeps_tables
          c.in_ok-graph.ensures.certified w (after c.in-Err.ensures.0) c.in-Err.fault c.in-Err.ensures.1,
    )
