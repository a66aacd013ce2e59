use Rattle.std.proofs.Common.{rules, arith, length}
use Rattle.sdv_lines.proofs.DigitLaws.{one_read, no_more}
use Rattle.sdv_lines.proofs.digits.read_blocks.Goals as goal

pub loop-i-preserved : goal.loop-i-preserved
loop-i-preserved g c = record {
  read = one_read _ _ _ c.loop-i.blocks c.loop-i.i c.read_block.new.block (omega arith) c.loop-i.invariant.read c.in_ok-read_block.ensures;
}

pub returns-in_err-read_block : goal.returns-in_err-read_block
returns-in_err-read_block g c =
    let none = no_more (length c.args.blocks.now) (g.R.Read.remaining c.args.reader.now) (g.R.Read.remaining c.loop-i.reader)
    (g.R.Read.remaining c.read_block.new.reader) c.loop-i.blocks c.loop-i.i c.in_err-read_block.field-0.0 (omega arith) (omega arith)
    c.loop-i.invariant.read c.in_err-read_block.ensures in
    search rules
