-- Texts without a line feed, and lines at the front of what a reader has left.
use Rattle.std.proofs.Common.{◌≡◌, ℕ, ◌<◌, List, [], ◌∷◌, ◌++◌, length, Option, Some, None, refl, sym, ap, ◌∙◌, subst, append_assoc, arith, length-append}
use Rattle.std.proofs.lemmas.List.{append-nil}
use Rattle.std.specs.Prelude.{IfSome}
use Rattle.std.specs.Io.KnownBytes.{Consumes}
use Rattle.sdv_audit.specs.Input.{IsText, BeginsLong}

pub consumes_none : (known : Option (List ℕ)) → Consumes known known []
consumes_none None = tt
consumes_none (Some xs) = refl

pub consumes_more : (old mid new : Option (List ℕ)) (a b : List ℕ) → Consumes old mid a → Consumes mid new b → Consumes old new (a ++ b)
consumes_more None mid new a b p q = tt
consumes_more (Some xs) None new a b p q = absurd p
consumes_more (Some xs) (Some ys) None a b p q = absurd q
consumes_more (Some xs) (Some ys) (Some zs) a b p q = p ∙ ap (λ l. a ++ l) q ∙ sym (append_assoc a b zs)

pub text_more : (text : List ℕ) (byte : ℕ) → IsText text → (byte ≡ 10 → ⊥) → IsText (text ++ byte ∷ [])
text_more [] byte t n = (n, tt)
text_more (x ∷ text) byte t n = (t.0, text_more text byte t.1 n)

-- nothing more was read
pub still_ended : (old mid new : Option (List ℕ)) (text : List ℕ) → Consumes old mid text → Consumes mid new [] → Consumes old new text
still_ended old mid new text c d = subst (λ v. Consumes old new v) (append-nil text) (consumes_more old mid new text [] c d)

-- a text that is too long
pub too_long : (old mid new : Option (List ℕ)) (text : List ℕ) (byte : ℕ) → IsText text → length text ≡ 1024 → (byte ≡ 10 → ⊥)
    → Consumes old mid text → Consumes mid new (byte ∷ []) → IfSome old BeginsLong
too_long None mid new text byte t n other c d = tt
too_long (Some xs) None new text byte t n other c d = absurd c
too_long (Some xs) (Some ys) None text byte t n other c d = absurd d
too_long (Some xs) (Some ys) (Some zs) text byte t n other c d =
    let longer : 1024 < length (text ++ byte ∷ []) = omega (arith, length-append text (byte ∷ []), n) in
    (text ++ byte ∷ [], zs, c ∙ ap (λ l. text ++ l) d ∙ sym (append_assoc text (byte ∷ []) zs), text_more text byte t other, longer)
