use Rattle.std.proofs.Common.{◌<◌, ◌∙◌, ap, length, subst, sym}
use Rattle.sdv_facts.specs.SharedSets.{members}
use Rattle.sdv_facts.proofs.SharedLaws.{named_there}
use Rattle.sdv_explain.proofs.KnownLaws.{item_there, known_there, none_there, nothing_there}
use Rattle.sdv_explain.proofs.known.known_at.Goals as goal

pub members-requires : goal.members-requires
members-requires c =
    let sets = c.shown.result.0.now in
    let qs = c.shown.result.1.now in
    let there = item_there qs c.args.point c.get.result c.in-Some.found c.get.ensures.lookup c.in-Some.is in
    let named = named_there sets qs c.args.point c.in-Some.found.now c.shown.ensures.shared.named there in
    record { within = subst (λ n. n < length sets) (sym c.set.ensures) named }

pub returns-clause-known : goal.returns-clause-known
returns-clause-known c =
    let sets = c.shown.result.0.now in
    let qs = c.shown.result.1.now in
    let there = item_there qs c.args.point c.get.result c.in-Some.found c.get.ensures.lookup c.in-Some.is in
    known_there sets qs c.args.known.now.points c.args.point c.in-Some.found.now _ c.shown.ensures.value there
    (c.members.ensures.value ∙ ap (members sets) c.set.ensures) c.numbers.ensures

pub returns-in_default-clause-none : goal.returns-in_default-clause-none
returns-in_default-clause-none c =
    let qs = c.shown.result.1.now in
    nothing_there c.shown.result.0.now qs c.args.known.now.points c.args.point c.shown.ensures.value
    (none_there qs c.args.point c.get.result c.get.ensures.lookup c.in_default.is)
