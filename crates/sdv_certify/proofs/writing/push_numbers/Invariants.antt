use Rattle.std.proofs.Common.{◌≡◌, ◌+◌, ◌*◌, ◌≤◌, ◌++◌, take, flat_map}
use Rattle.arrayvec.specs.ArrayVec.{array_vec_len}
use Rattle.sdv_certify.specs.Pieces.{var_text}
use Rattle.sdv_certify.proofs.writing.push_numbers.Given as goal

-- the variables so far
abbrev pub invariant-loop-known : goal.invariant-loop-known
invariant-loop-known l = record {
  items : l.line.items ≡ l.initial.line.items ++ flat_map (var_text l.version) (take l.known-index l.vars);
  len : array_vec_len l.line ≤ array_vec_len l.initial.line + 86 * l.known-index;
}
