use Rattle.std.proofs.Common.{◌≡◌, drop, map, option_map}
use Rattle.sdv_decode.specs.Decoded.{at_first}
use Rattle.sdv_decode.proofs.ReadLaws.{SoFar}
use Rattle.sdv_decode.proofs.decoding.decode_lines.Given as goal

-- the lines so far were read, and their words added
abbrev pub invariant-loop-place : goal.invariant-loop-place
invariant-loop-place l = record {
  form : l.reading.form ≡ l.fn.form;
  so_far : SoFar l.fn.form (at_first l.graph (option_map (λ bytes. bytes.now) l.given)) (map (λ line. line.items) l.lines)
      (map (λ line. line.items) (drop l.place l.lines)) l.text.items l.reading;
}
