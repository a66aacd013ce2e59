use Rattle.std.proofs.Common.{append_assoc, arith}
use Rattle.sdv_card.proofs.MoreMatches.{with_matches-more}
use Rattle.sdv_card.proofs.state_table.rows.with_matches.Goals as goal

pub loop-matched-preserved : goal.loop-matched-preserved
loop-matched-preserved c = record {
  items = rw (with_matches-more c.args.card c.args.matches.now c.args.presets.now c.loop-matched.matched-index c.loop-matched-test.true)
      (rw (← append_assoc) (cc));
  few = omega arith;
}
