-- The text of a frame, byte by byte.
use Rattle.std.proofs.Common.{◌≡◌, ◌≢◌, ◌<◌, ◌+◌, ◌∙◌, ℕ, zero, suc, refl, sym, ap, append_assoc, arith, List, [], ◌∷◌, ◌++◌, length, map, take, get_or}
use Rattle.std.specs.List.{join_with_byte}
use Rattle.std.proofs.lemmas.List.{take_more}
use Rattle.sdv_commands.specs.Frame.{two_digits}

abbrev pub shown : List ℕ → List ℕ
shown bytes = join_with_byte 32 (map two_digits bytes)

-- one more byte after others is shown after a space
module _ (digits : ℕ → List ℕ) where
  more : (x : ℕ) (xs : List ℕ) (byte : ℕ)
      → join_with_byte 32 (map digits (x ∷ xs ++ byte ∷ [])) ≡ join_with_byte 32 (map digits (x ∷ xs)) ++ (32 ∷ [] ++ digits byte)
  more x [] byte = refl
  more x (y ∷ xs) byte = ap (λ text. digits x ++ (32 ∷ text)) (more y xs byte)
      ∙ sym (append_assoc (digits x) (32 ∷ join_with_byte 32 (map digits (y ∷ xs))) (32 ∷ [] ++ digits byte))

shown_more : (x : ℕ) (xs : List ℕ) (byte : ℕ) → shown (x ∷ xs ++ byte ∷ []) ≡ shown (x ∷ xs) ++ (32 ∷ [] ++ two_digits byte)
shown_more = more two_digits

-- the byte at i is shown after those before it, and after a space where there are any
pub shown_take : (bytes : List ℕ) (i : ℕ) (separator : List ℕ) → i < length bytes → (i ≡ 0 → separator ≡ []) → (i ≢ 0 → separator ≡ 32 ∷ [])
    → shown (take (i + 1) bytes) ≡ shown (take i bytes) ++ (separator ++ two_digits (get_or bytes i 0))
shown_take bytes zero separator below first other = rw (take_more bytes 0 0 below, first refl) refl
shown_take [] (suc i) separator below first other = absurd (omega arith)
shown_take (x ∷ bytes) (suc i) separator below first other =
    rw (take_more (x ∷ bytes) (suc i) 0 below, other (λ h. omega arith)) (shown_more x (take i bytes) (get_or bytes i 0))
