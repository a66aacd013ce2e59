use Rattle.std.proofs.Common.{◌≡◌, ◌+◌, ◌-◌, ◌^◌, min, List}
use Rattle.sdv_lines.specs.Serving.{Turn, ServedAll, lines_read}
use Rattle.sdv_lines.proofs.card_side.serve.Given as goal

-- all requests before this one were served
abbrev pub invariant-loop : goal.invariant-loop
invariant-loop g l =
    (turns : List Turn)
    × ServedAll g.P.CardPort.steps turns l.fn.port l.port (g.R.Read.remaining l.fn.reader) (g.R.Read.remaining l.reader)
    (g.W.Write.contents l.fn.writer) (g.W.Write.contents l.writer)
    × (l.line ≡ min (1 + lines_read turns) (2 ^ 64 - 1))
