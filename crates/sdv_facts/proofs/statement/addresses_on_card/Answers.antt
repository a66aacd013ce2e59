use Rattle.std.proofs.Common.{◌≢◌, length, sym, ◌∙◌}
use Rattle.std.proofs.lemmas.Bool.{eqb-false}
use Rattle.sdv_graph.specs.Graph.{seen_action}
use Rattle.sdv_facts.specs.Closed.{AddressAt}
use Rattle.sdv_facts.specs.Facts.{facts_with}
use Rattle.sdv_facts.proofs.StatementLaws.{of_some}
use Rattle.sdv_facts.proofs.statement.addresses_on_card.Goals as goal

pub returns : goal.returns
returns c =
    let facts = facts_with c.args.shapes.now c.args.numbers.now in
    let some : length c.args.shapes.now ≢ 0 = eqb-false _ _ (sym c.is_empty.ensures ∙ c.if-is_empty.false) in
    of_some (AddressAt facts (seen_action c.args.action.now)) c.args.shapes.now c.address_at.result some c.address_at.ensures
