use Rattle.std.proofs.Common.{◌≡◌, false, rules}
use Rattle.sdv_certify.proofs.RefusalLaws.{refuted}
use Rattle.sdv_explain.proofs.RefusedLaws.{one_there}
use Rattle.sdv_explain.proofs.refused.other_end.Goals as goal

pub returns-then-not-ends_at-clause-other : goal.returns-then-not-ends_at-clause-other
returns-then-not-ends_at-clause-other c =
    let f : c.ends_at.result ≡ false = search rules in
    record {
      one = one_there c.args.shapes.now c.loop-shape.shape-index _ c.loop-shape-test.true;
      ends_not = refuted c.ends_at.result c.ends_at.ensures f;
    }
