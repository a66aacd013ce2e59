use Rattle.std.proofs.Common.{◌≡◌, ◌+◌, ◌*◌, ◌≤◌, ◌++◌, take, flat_map}
use Rattle.arrayvec.specs.ArrayVec.{array_vec_len}
use Rattle.sdv_certify.specs.Pieces.{number_text}
use Rattle.sdv_certify.proofs.writing.push_bound.Given as goal

-- the coefficients so far
abbrev pub invariant-loop-turn : goal.invariant-loop-turn
invariant-loop-turn l = record {
  items : l.line.items ≡ l.initial.line.items ++ flat_map number_text (take l.turn-index l.turns);
  len : array_vec_len l.line ≤ array_vec_len l.initial.line + 21 * l.turn-index;
}
