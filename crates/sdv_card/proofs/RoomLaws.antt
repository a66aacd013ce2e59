-- The branches of both settled cards have room for 32.
use Rattle.std.proofs.Common.{◌≡◌, ◌≤◌, ◌+◌, Some, arith}
use Rattle.sdv_card.specs.declared.state.State.{State}
use Rattle.sdv_card.specs.declared.state.State.TheVariants.{Tran}
use Rattle.sdv_card.specs.declared.state.Transfer.{Transfer}
use Rattle.sdv_card.specs.declared.command.Setting.{Setting}
use Rattle.sdv_card.specs.declared.command.Row.TheVariants.{Cmd6}
use Rattle.sdv_card.specs.declared.command.TakenAs.{TakenAs}
use Rattle.sdv_card.specs.declared.command.TakenAs.TheVariants.{Forbidden, Ignored, By}
use Rattle.sdv_card.specs.States.{own_target}
use Rattle.sdv_card.specs.Room.{row_room, way_room}

switch_fits : (setting : Setting) (s : State) → row_room (Cmd6 setting) s ≤ 21
switch_fits setting Tran = omega arith
switch_fits setting s = omega arith

-- those of one
pub one_fits : (way : TakenAs) (s : State) → way_room way s ≤ 32
one_fits Forbidden s = omega arith
one_fits Ignored s = omega arith
one_fits (By (Cmd6 setting)) s = omega (arith, switch_fits setting s)
one_fits (By row) s = omega arith

-- those of both: transfer state has no step of its own
pub both_fit : (way : TakenAs) (s : State) (x : Transfer) (after : State) → own_target s x ≡ Some after → way_room way s + way_room way after ≤ 32
both_fit Forbidden s x after e = omega arith
both_fit Ignored s x after e = omega arith
both_fit (By (Cmd6 setting)) Tran x after e = absurd (cc)
both_fit (By (Cmd6 setting)) s x after e = omega (arith, switch_fits setting after)
both_fit (By row) s x after e = omega arith
