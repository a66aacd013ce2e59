-- The certificate of an accepted script is known to be there, and so its run is beside the card that the port shows.
use Rattle.std.proofs.Common.{subst}
use Rattle.std.proofs.Math.Logic.{∥∥₁_map}
use Rattle.sdv_graph.specs.GraphOf.{IsSound}
use Rattle.sdv_run.specs.Ran.{Ran}
use Rattle.sdv_run.specs.Step.{World}
use Rattle.sdv_run.proofs.OnCard.{HasCertificate, ran_beside}
use Rattle.sdv_run.proofs.accepted.run.Goals as goal

pub returns : goal.returns
returns g c =
    let accepted = c.args.accepted.now in
    let port = g.met.P.CardPort in
    let left = c.run_graph.ensures.0 in
    let before : World _ = record {
      port = c.args.port.now;
      input = c.args.input.now;
      out = g.O.Write.contents c.args.out.now;
      trace =
          g.T.Write.contents c.args.trace.now;
    } in
    let after : World _ = record {
      port = c.run_graph.new.port;
      input = left;
      out = g.O.Write.contents c.run_graph.new.out;
      trace =
          g.T.Write.contents c.run_graph.new.trace;
    } in
    let has : ∥ HasCertificate accepted.graph accepted.bound ∥₁ =
    ∥∥₁_map c.graph-graph.ensures.accepted (λ t. record { points = t.accepted.facts.points; closed = t.accepted.closed; bound = t.accepted.bound }) in
    let sound : IsSound accepted.graph = subst (λ v. IsSound v) c.graph-graph.ensures.graph c.first.ensures.sound in
    let ran = subst (λ v. Ran g.P.CardPort.steps v before after c.run_graph.result) c.graph-graph.ensures.graph c.run_graph.ensures.1 in
    (left, ran_beside g.P.CardPort.steps g.P.CardPort.card port.keeps_tables accepted.graph accepted.bound sound has before after c.run_graph.result ran)
