use Rattle.std.proofs.Common.{take}
use Rattle.std.specs.Io.KnownBytes.{Appends}
use Rattle.sdv_lines.specs.Requests.{block_texts}
use Rattle.sdv_lines.specs.Texts.{lines_of}
use Rattle.sdv_lines.proofs.digits.put_blocks.Given as goal

-- the blocks before this one are written
abbrev pub invariant-loop-block : goal.invariant-loop-block
invariant-loop-block g l =
    Appends (g.W.Write.contents l.fn.writer) (g.W.Write.contents l.writer) (lines_of (block_texts (take l.block-index l.blocks)))
