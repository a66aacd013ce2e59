use Rattle.std.proofs.Common.{◌≡◌, ◌*◌, ap, rules}
use Rattle.sdv_behavior.specs.Layout.{image_size}
use Rattle.sdv_commands.proofs.SweepLaws.{zeros_made}
use Rattle.sdv_commands.proofs.sweeping.zeros_for.Goals as goal

pub returns-in-Ok-try_from : goal.returns-in-Ok-try_from
returns-in-Ok-try_from c =
    let same : c.in-Ok-try_from.blocks ≡ image_size c.in-Ok.desc = search rules in
    zeros_made (λ bytes. bytes.items) c.zeros.result c.args.card.now c.in-Ok.desc _ c.in-Ok.ensures (ap (λ n. n * 512) same) c.zeros.ensures
