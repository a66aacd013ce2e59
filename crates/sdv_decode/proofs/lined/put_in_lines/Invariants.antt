use Rattle.std.proofs.Common.{◌≡◌, drop, map, option_map}
use Rattle.sdv_decode.specs.Decoded.{at_first}
use Rattle.sdv_decode.specs.declared.form.Form.TheVariants.{Words}
use Rattle.sdv_decode.proofs.LinedLaws.{PutSoFar}
use Rattle.sdv_decode.proofs.lined.put_in_lines.Given as goal

-- the lines so far were read, and put behind the changes before them
abbrev pub invariant-loop-place : goal.invariant-loop-place
invariant-loop-place l = record {
  form : l.reading.form ≡ Words;
  so_far : PutSoFar (at_first l.graph (option_map (λ bytes. bytes.now) l.given)) (map (λ line. line.items) l.lines)
      (map (λ line. line.items) (drop l.place l.lines)) l.text.items l.reading;
}
