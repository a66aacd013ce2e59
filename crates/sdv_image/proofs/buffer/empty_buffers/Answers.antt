use Rattle.std.proofs.Common.{◌∙◌, ◌++◌, ◌∷◌, [], ap, List, arith}
use Rattle.std.proofs.lemmas.List.{replicate_more}
use Rattle.sdv_image.specs.declared.buffer.Buffer.{Buffer}
use Rattle.sdv_image.specs.Buffers.{no_buffer}
use Rattle.sdv_image.proofs.buffer.empty_buffers.Goals as goal

pub loop-index-preserved : goal.loop-index-preserved
loop-index-preserved c = record {
  count = omega (arith, c.in_ok-push.ensures.len, c.loop-index.invariant.count);
  empty = c.in_ok-push.ensures.items ∙ (ap (λ (l : List Buffer). l ++ no_buffer ∷ []) c.loop-index.invariant.empty
      ∙ replicate_more c.loop-index._index no_buffer);
}
