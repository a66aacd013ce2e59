use Rattle.std.proofs.Common.{take}
use Rattle.sdv_lines.specs.Reading.{BlocksRead}
use Rattle.sdv_lines.proofs.digits.read_blocks.Given as goal

-- the blocks before this one are read
abbrev pub invariant-loop-i : goal.invariant-loop-i
invariant-loop-i g l = record {
  read : BlocksRead (g.R.Read.remaining l.fn.reader) (g.R.Read.remaining l.reader) (take l.i l.blocks);
}
