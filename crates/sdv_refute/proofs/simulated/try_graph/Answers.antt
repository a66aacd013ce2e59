use Rattle.std.proofs.Common.{◌≡◌, ap, sym, ◌∙◌, rules, subst}
use Rattle.sdv_sim.specs.Made.{IsMade}
use Rattle.sdv_sim.specs.SimOf.{image_of, state_of}
use Rattle.sdv_controller.specs.Controlled.{wire_of}
use Rattle.sdv_refute.proofs.SimShown.{watched_of_sim}
use Rattle.sdv_refute.proofs.simulated.try_graph.Goals as goal

pub returns-clause-tried : goal.returns-clause-tried
returns-clause-tried g c =
    let beside = c.args.beside in
    let kind : c.args.graph.now.kind ≡ beside.desc.kind = search (rules, c.kind.ensures, c.ne.ensures, c.if-ne.false) in
    record {
      kind = kind;
      card = state_of (wire_of c.new-port.result);
      made = subst (λ s. IsMade beside.desc beside.schedule.now (g.I.Image.blocks c.args.image) (state_of s)) (sym c.new-port.ensures) c.in-Ok.ensures.made;
      card' = state_of (wire_of c.watch-result.new.port);
      shown = sym (ap g.I.Image.blocks c.into_image.ensures ∙ ap (λ s. g.I.Image.blocks (image_of s)) c.into_wire.ensures);
      left = c.watch-result.ensures.0;
      watched = watched_of_sim _ _ _ _ _ c.watch-result.ensures.1;
    }
