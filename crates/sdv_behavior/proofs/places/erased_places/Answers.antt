use Rattle.std.proofs.Common.{arith}
use Rattle.sdv_behavior.proofs.LayoutLaws.{partition_inside, image_small}
use Rattle.sdv_behavior.proofs.places.erased_places.Goals as goal
use Rattle.sdv_behavior.proofs.places.erased_places.Goals.{then-s-size, else-s-size}

pub overflow_add-end : goal.overflow_add-end
overflow_add-end c =
    let inside = partition_inside c.args.desc.now c.args.s.now.mode.partition in
    let small = image_small c.args.desc.now in
    let place = c.partition_place-place.ensures.place in
    let size = c.partition_size-size.ensures in
    elim c.if-s-size.branch [
      | then-s-size w ↦ omega (arith, inside, small, place, size)
      | else-s-size w ↦ omega (arith, inside, small, place, size)
    ]

pub returns-clause-start : goal.returns-clause-start
returns-clause-start c =
    let inside = partition_inside c.args.desc.now c.args.s.now.mode.partition in
    let small = image_small c.args.desc.now in
    let place = c.partition_place-place.ensures.place in
    let size = c.partition_size-size.ensures in
    let far = c.saturating_add.ensures in
    let least = c.min-start.ensures in
    elim c.if-s-size.branch [
      | then-s-size w ↦ omega (arith, inside, small, place, size, far, least)
      | else-s-size w ↦ omega (arith, inside, small, place, size, far, least)
    ]
