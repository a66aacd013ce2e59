use Rattle.sdv_sim.specs.Made.{IsUnread}
use Rattle.sdv_refute.specs.Tries.{NotTried, Tries, TriesText, TryRefuses}
use Rattle.sdv_refute.proofs.SimShown.{if_err_more, if_ok_more, refuses_text, refutes_text}
use Rattle.sdv_refute.proofs.simulated.try_text.Goals as goal

pub returns-clause-tried : goal.returns-clause-tried
returns-clause-tried g c =
    let given = c.args.given.now in
    let graph = c.in-Ok.graph in
    let desc = c.in-Ok-parse.desc in
    let blocks = g.I.Image.blocks c.args.image in
    let out = g.O.Write.contents c.args.out.now in
    let out' = g.O.Write.contents c.try_graph.new.out in
    let trace = g.T.Write.contents c.args.trace.now in
    let trace' = g.T.Write.contents c.try_graph.new.trace in
    if_ok_more c.try_graph.result
    (λ tried. Tries given.lines graph desc given.schedule.now given.input.now blocks (g.I.Image.blocks tried.image) out out' trace trace' tried.result)
    (λ tried. TriesText given.lines given.script.now given.card.now given.schedule.now given.input.now blocks (g.I.Image.blocks tried.image) out out' trace trace' tried.result)
    (λ tried tries. record {
      graph = graph;
      of_text = c.in-Ok.ensures.graph;
      desc = desc;
      described = c.in-Ok-parse.ensures;
      tries = tries;
      refutes = refutes_text given.lines given.script.now graph desc given.schedule.now given.input.now blocks (g.I.Image.blocks tried.image) out out' trace trace' tried.result
          c.in-Ok.ensures.graph tries;
    }) c.try_graph.ensures.tried

pub returns-clause-refused : goal.returns-clause-refused
returns-clause-refused g c =
    let given = c.args.given.now in
    let size = g.I.Image.size c.args.image in
    let unread : Type 0 = IsUnread g.I.Image.size g.I.Image.blocks g.I.Image.failed c.args.image in
    if_err_more c.try_graph.result (NotTried c.in-Ok.graph c.in-Ok-parse.desc given.schedule.now size unread)
    (TryRefuses given.script.now given.card.now given.schedule.now size unread)
    (refuses_text given.script.now given.card.now given.schedule.now size unread c.in-Ok.graph c.in-Ok-parse.desc c.in-Ok.ensures.graph c.in-Ok-parse.ensures)
    c.try_graph.ensures.refused
