-- The last turn's way out is no longer than the body's.
use Rattle.std.proofs.Common.{◌≡◌, ◌*◌, ◌-◌, refl, ◌∙◌, arith}
use Rattle.sdv_certify.specs.Spans.{or_zero}
use Rattle.sdv_certify.proofs.SpanLaws.{each_at_most, fewer}
use Rattle.sdv_certify.proofs.spans.all_turns.Goals as goal

pub later-requires-2 : goal.later-requires-2
later-requires-2 c =
    let n = c.args.turns in
    let u = c.args.body in
    let m : c.from-but_last.result ≡ n - 1 = c.from-but_last.ensures ∙ c.saturating_sub.ensures in
    let product : c.from-but_last.result * c.or_zero-each.result ≡ (n - 1) * or_zero u.on = rw (c.or_zero-each.ensures, m) refl in
    omega (arith, product, fewer n (or_zero u.on), each_at_most n u, c.requires)
