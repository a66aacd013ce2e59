use Rattle.std.proofs.Common.{◌≤◌, ◌+◌, arith}
use Rattle.sdv_behavior.specs.Layout.{image_size}
use Rattle.sdv_behavior.proofs.LayoutLaws.{partition_inside, image_small}
use Rattle.sdv_behavior.specs.SimSteps.{next_place}
use Rattle.sdv_behavior.proofs.phases.length_fits.Goals as goal

pub returns-then-is_open-clause-narrow : goal.returns-then-is_open-clause-narrow
returns-then-is_open-clause-narrow c = λ is.
    let inside = partition_inside c.args.desc.now c.args.s.now.mode.partition in
    let room : next_place c.args.desc.now c.args.s.now + c.args.count ≤ image_size c.args.desc.now = grind (arith, inside) in
    omega (arith, room, image_small c.args.desc.now)

pub returns-else-is_open-clause-narrow : goal.returns-else-is_open-clause-narrow
returns-else-is_open-clause-narrow c = λ is.
    let inside = partition_inside c.args.desc.now c.args.s.now.mode.partition in
    let room : next_place c.args.desc.now c.args.s.now + c.args.count ≤ image_size c.args.desc.now = grind (arith, inside) in
    omega (arith, room, image_small c.args.desc.now)
