use Rattle.std.proofs.Common.{◌≡◌, replicate, vec_len}
use Rattle.sdv_image.specs.Buffers.{no_buffer}
use Rattle.sdv_image.proofs.buffer.empty_buffers.Given as goal

abbrev pub invariant-loop-index : goal.invariant-loop-index
invariant-loop-index l = record { count : vec_len l.buffers ≡ l._index; empty : l.buffers.items ≡ replicate l._index no_buffer }
