use Rattle.std.proofs.Common.{ap, sym, ◌∙◌}
use Rattle.sdv_card.specs.Seen.{reply_seen}
use Rattle.sdv_card.proofs.seen.reply_seen.Goals as goal

pub returns-in-R1 : goal.returns-in-R1
returns-in-R1 c = c.status_seen.ensures c.args.kind ∙ ap (λ r. reply_seen c.args.kind c.args.pending r) (sym c.in-R1.is)

pub returns-in-R3 : goal.returns-in-R3
returns-in-R3 c = c.conditions_seen.ensures c.args.pending ∙ ap (λ r. reply_seen c.args.kind c.args.pending r) (sym c.in-R3.is)
