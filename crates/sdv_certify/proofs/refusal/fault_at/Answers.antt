use Rattle.std.proofs.Common.{refl, subst}
use Rattle.sdv_graph.specs.Graph.{seen_action}
use Rattle.sdv_certify.specs.Refusal.{AllLegal, AllEnd}
use Rattle.sdv_certify.proofs.RefusalLaws.{refuted, address_on, address_holds}
use Rattle.sdv_certify.proofs.refusal.fault_at.Goals as goal

pub returns-then-not-addresses_on_card-clause-fails : goal.returns-then-not-addresses_on_card-clause-fails
returns-then-not-addresses_on_card-clause-fails g c =
    let action = seen_action c.args.action.now in (
      refl,
      subst (AllLegal g.T.CardTable.kind action) c.shapes.ensures.value c.in_default.ensures.legal,
      λ holds. refuted c.addresses_on_card.result c.addresses_on_card.ensures c.if-not-addresses_on_card.true
          (address_on action c.args.facts.now c.shapes-2.result.now c.numbers.result.now c.shapes-2.ensures.value c.numbers.ensures holds),
    )

pub returns-clause-fine : goal.returns-clause-fine
returns-clause-fine g c =
    let action = seen_action c.args.action.now in
    record {
      legal = subst (AllLegal g.T.CardTable.kind action) c.shapes.ensures.value c.in_default.ensures.legal;
      address = address_holds action c.args.facts.now c.shapes-2.result.now c.numbers.result.now c.shapes-2.ensures.value c.numbers.ensures
          (c.addresses_on_card.ensures.0 c.if-not-addresses_on_card.false);
      ends = subst (AllEnd action) c.shapes-3.ensures.value (c.all_end.ensures.0 c.if-not-all_end.false);
    }
