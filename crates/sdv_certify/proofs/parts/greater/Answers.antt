use Rattle.std.proofs.Common.{◌≡◌, max, get_or, rules, refl}
use Rattle.sdv_certify.proofs.FormLaws.{full_greater}
use Rattle.sdv_certify.proofs.parts.greater.Goals as goal

pub returns : goal.returns
returns c =
    let a = c.args.a in
    let b = c.args.b in
    let base : c.max.result ≡ max a.base b.base = search rules in
    let one : c.max-2.result ≡ max (get_or a.each 0 0) (get_or b.each 0 0) = search rules in
    let two : c.max-3.result ≡ max (get_or a.each 1 0) (get_or b.each 1 0) = search rules in
    let three : c.max-4.result ≡ max (get_or a.each 2 0) (get_or b.each 2 0) = search rules in
    let four : c.max-5.result ≡ max (get_or a.each 3 0) (get_or b.each 3 0) = search rules in
    rw (base, one, two, three, four, full_greater a b) refl
