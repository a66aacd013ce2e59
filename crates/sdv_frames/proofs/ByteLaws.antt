-- The bits of the bytes that the code writes and reads.
use Rattle.std.proofs.Common.{◌≡◌, Bool, true, ℕ, ◌*◌, ◌/◌, ◌%◌, ◌^◌, ◌<◌, [], ◌∷◌, ◌++◌, refl, sym, ◌∙◌, ap, bit_or, append-nil}
use Rattle.sdv_frames.specs.Bits.{bits, bits_of}
use Rattle.sdv_frames.proofs.BitLaws.{bits-append, bits-mod, bits_of-append, bits_of-one}
use Rattle.sdv_frames.proofs.Tried.{holds_below, tried, same_bits, same_bits_are}

-- the bits of a word are those of its four bytes, the highest first
pub bits_of-word : (word : ℕ) → bits_of (word / 16777216 % 256 ∷ word / 65536 % 256 ∷ word / 256 % 256 ∷ word % 256 ∷ []) ≡ bits 32 word
unfolding bits_of
bits_of-word word =
    rw (bits-mod 8 (word / 16777216), bits-mod 8 (word / 65536), bits-mod 8 (word / 256), bits-mod 8 word, append-nil (bits 8 word))
    (sym (bits-append 8 24 word ∙ (ap (λ rest. bits 8 (word / 16777216) ++ rest) (bits-append 8 16 word)
    ∙ ap (λ rest. bits 8 (word / 16777216) ++ (bits 8 (word / 65536) ++ rest)) (bits-append 8 8 word))))

abbrev is_last : ℕ → Bool
is_last crc = same_bits (bits 8 (bit_or (crc * 2 % 256) 1)) (bits 7 crc ++ true ∷ [])

all_last : holds_below is_last 128 ≡ true
unfolding bits
all_last = refl

-- the last byte of a frame: the CRC7 and the end bit
pub bits-last : (crc : ℕ) → crc < 2 ^ 7 → bits 8 (bit_or (crc * 2 % 256) 1) ≡ bits 7 crc ++ true ∷ []
bits-last crc h = same_bits_are (bits 8 (bit_or (crc * 2 % 256) 1)) (bits 7 crc ++ true ∷ []) (tried is_last 128 crc all_last h)

-- the bits of a byte and a word
pub bits_of-front : (first word : ℕ) → bits_of (first ∷ word / 16777216 % 256 ∷ word / 65536 % 256 ∷ word / 256 % 256 ∷ word % 256 ∷ [])
    ≡ bits 8 first ++ bits 32 word
unfolding bits_of
bits_of-front first word = ap (λ rest. bits 8 first ++ rest) (bits_of-word word)

-- and of one more byte behind them
pub bits_of-frame : (first word last : ℕ) → bits_of (first ∷ word / 16777216 % 256 ∷ word / 65536 % 256 ∷ word / 256 % 256 ∷ word % 256 ∷ last ∷ [])
    ≡ (bits 8 first ++ bits 32 word) ++ bits 8 last
bits_of-frame first word last =
    bits_of-append (first ∷ word / 16777216 % 256 ∷ word / 65536 % 256 ∷ word / 256 % 256 ∷ word % 256 ∷ []) (last ∷ [])
    ∙ rw (bits_of-front first word, bits_of-one last) refl
