use Rattle.std.proofs.Common.{◌≡◌, ◌≤◌, ◌*◌, take, map}
use Rattle.arrayvec.specs.ArrayVec.{array_vec_len}
use Rattle.std.specs.List.{join_with_byte}
use Rattle.sdv_commands.specs.Frame.{two_digits}
use Rattle.sdv_commands.proofs.frame.line_of.Given as goal

-- the bytes so far are there
abbrev pub invariant-loop-place : goal.invariant-loop-place
invariant-loop-place l = record {
  items : l.line.items ≡ join_with_byte 32 (map two_digits (take l.place l.frame));
  len : array_vec_len l.line ≤ 3 * l.place;
}
