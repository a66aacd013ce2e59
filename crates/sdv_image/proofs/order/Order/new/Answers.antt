use Rattle.std.proofs.Common.{◌<◌, ℕ, arith}
use Rattle.std.proofs.lemmas.List.Elements.{All-same, All-push}
use Rattle.sdv_image.proofs.OrderLaws.{once_more, none_more}
use Rattle.sdv_image.proofs.order.Order.new.Goals as goal

pub loop-index-preserved : goal.loop-index-preserved
loop-index-preserved c =
    let inv = c.loop-index.invariant in
    record {
      count = omega (arith, c.push.ensures.len, inv.count);
      known = All-same (λ (i : ℕ). i < 16) _ _ c.push.ensures.items (All-push (λ (i : ℕ). i < 16) _ _ inv.known (omega arith));
      once = once_more _ _ c.loop-index.index c.push.ensures.items inv.once inv.none;
      none = none_more _ _ c.loop-index.index c.push.ensures.items inv.none;
    }

pub invariant_of-result : goal.invariant_of-result
invariant_of-result c =
    let inv = c.loop-index.invariant in
    record { count = omega (arith, inv.count); known = inv.known; once = λ i h. inv.once i (omega (arith, h)) }

pub returns : goal.returns
returns c =
    let inv = c.loop-index.invariant in
    record { count = omega (arith, inv.count); known = inv.known; once = λ i h. inv.once i (omega (arith, h)) }
