use Rattle.std.proofs.Common.{◌≡◌, ◌<◌, ℕ}
use Rattle.sdv_image.specs.declared.buffer.Held.TheVariants.{Changed}
use Rattle.sdv_image.specs.Buffers.{buffer_at}
use Rattle.sdv_image.specs.FileImages.{file_of, buffers_of, bytes_of, shown_of, failed_of, IsWritten, NoMoreUnwritten}
use Rattle.sdv_image.proofs.file_image.FileImage.write_all_back.Given as goal

-- the first buffers are not changed
abbrev pub invariant-loop-index : goal.invariant-loop-index
invariant-loop-index g l = record {
  bytes : bytes_of l.self ≡ bytes_of l.fn.self;
  shown : shown_of l.self ≡ shown_of l.fn.self;
  failed : failed_of l.self ≡ failed_of l.fn.self;
  unchanged : IsWritten l.fn.self → file_of l.self ≡ file_of l.fn.self;
  unwritten : NoMoreUnwritten l.fn.self l.self;
  written : (i place : ℕ) → i < l.index → (buffer_at (buffers_of l.self) i).held ≡ Changed place → ⊥;
}
