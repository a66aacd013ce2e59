use Rattle.std.proofs.Common.{arith, ap, sym, ◌∙◌}
use Rattle.std.proofs.lemmas.Grind.{common_steps}
use Rattle.sdv_card.specs.Takes.{taken_as_of}
use Rattle.sdv_card.specs.Room.{way_room}
use Rattle.sdv_card.proofs.RoomLaws.{both_fit}
use Rattle.sdv_card.proofs.state_table.by_rows.order_branches.Goals as goal

pub returns-in-Some-clause-few : goal.returns-in-Some-clause-few
returns-in-Some-clause-few c w =
    let fields = w.args.fields.now in
    let fit =
    both_fit (taken_as_of w.args.order fields.app fields.matched) fields.state fields.transfer w.in-Some.state (sym w.own_target.ensures ∙ w.in-Some.is) in
    let same = ap (λ f. way_room (taken_as_of w.args.order f.app f.matched) f.state) w.own_step.ensures in
    omega (arith, fit, same, w.requires, w.settled_branches.ensures.few, w.settled_branches-in-Some.ensures.few)

pub settled_branches-requires-in-Some : goal.settled_branches-requires-in-Some
settled_branches-requires-in-Some c w =
    let fields = w.args.fields.now in
    let fit =
    both_fit (taken_as_of w.args.order fields.app fields.matched) fields.state fields.transfer w.in-Some.state (sym w.own_target.ensures ∙ w.in-Some.is) in
    let same = ap (λ f. way_room (taken_as_of w.args.order f.app f.matched) f.state) w.own_step.ensures in
    omega (arith, fit, same, w.requires, w.settled_branches.ensures.few)

pub returns-in-Some-clause-items : goal.returns-in-Some-clause-items
returns-in-Some-clause-items g c = grind (arith, common_steps)
