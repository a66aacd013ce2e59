use Rattle.std.proofs.Common.{◌≡◌, false, rules}
use Rattle.sdv_certify.proofs.RefusalLaws.{refuted}
use Rattle.sdv_explain.proofs.RefusedLaws.{one_there}
use Rattle.sdv_explain.proofs.refused.untaken.Goals as goal

pub returns-then-not-takes_address-clause-untaken : goal.returns-then-not-takes_address-clause-untaken
returns-then-not-takes_address-clause-untaken c =
    let f : c.takes_address.result ≡ false = search rules in
    record {
      one = one_there c.args.shapes.now c.loop-shape.shape-index _ c.loop-shape-test.true;
      takes_not = refuted c.takes_address.result c.takes_address.ensures f;
    }
