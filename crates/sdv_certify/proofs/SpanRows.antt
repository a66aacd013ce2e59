-- The spans of the cases of a command, one block after the other.
use Rattle.std.proofs.Common.{◌≡◌, ℕ, max, Option, Some, None, refl, ap, arith}
use Rattle.sdv_certify.specs.declared.spans.Spans.{Spans}
use Rattle.sdv_certify.specs.Spans.{most, spans, either}

most_assoc : (o p q : Option ℕ) → most (most o p) q ≡ most o (most p q)
most_assoc None p q = refl
most_assoc (Some l) None q = refl
most_assoc (Some l) (Some m) None = refl
most_assoc (Some l) (Some m) (Some n) = let e : max (max l m) n ≡ max l (max m n) = omega arith in ap Some e

spans_same : (a b c d e f : Option ℕ) → a ≡ d → b ≡ e → c ≡ f → spans a b c ≡ spans d e f
spans_same a b c d e f x y z = cc

pub spans_assoc : (u v w : Spans) → either (either u v) w ≡ either u (either v w)
spans_assoc u v w =
    spans_same (most (most u.on v.on) w.on) (most (most u.leave v.leave) w.leave) (most (most u.stop v.stop) w.stop) (most u.on (most v.on w.on))
    (most u.leave (most v.leave w.leave)) (most u.stop (most v.stop w.stop))
    (most_assoc u.on v.on w.on) (most_assoc u.leave v.leave w.leave) (most_assoc u.stop v.stop w.stop)
