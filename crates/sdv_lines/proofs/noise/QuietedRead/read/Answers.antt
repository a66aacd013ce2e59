use Rattle.std.proofs.Common.{◌∙◌, sym, arith}
use Rattle.sdv_lines.proofs.NoiseLaws.{read_held, read_on}
use Rattle.sdv_lines.proofs.noise.QuietedRead.read.Goals as goal

pub returns-then-is_empty-2-clause-bytes : goal.returns-then-is_empty-2-clause-bytes
returns-then-is_empty-2-clause-bytes g c =
    let remaining = g.R.Read.remaining in
    read_on _ c.seek.new.self.front.most c.seek.new.self.front.held.items (remaining c.seek.new.self.reader) (remaining c.read.new.self) c.read.result
    c.read.new.buf c.in_ok-seek.ensures.same c.in_ok-seek.ensures.found (sym c.is_empty-2.ensures ∙ c.if-is_empty-2.true) c.read.ensures.bytes

pub returns-clause-bytes : goal.returns-clause-bytes
returns-clause-bytes g c =
    let remaining = g.R.Read.remaining in (
      read_held _ c.seek.new.self.front.most c.give.new.self.most c.seek.new.self.front.held.items c.give.new.self.held.items c.give.result
          (remaining c.seek.new.self.reader) c.args.buf.now c.in_ok-seek.ensures.same c.in_ok-seek.ensures.found c.give.ensures.most c.give.ensures.held
          (sym c.is_empty.ensures ∙ c.if-is_empty.false),
      λ none some. absurd (omega (arith, none)),
    )
