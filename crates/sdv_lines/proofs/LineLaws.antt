-- Texts without a line feed, and lines at the front of what a reader has left.
use Rattle.std.proofs.Common.{◌≡◌, ℕ, ◌<◌, ◌≤◌, ◌-◌, List, [], ◌∷◌, ◌++◌, length, Option, Some, None, Err, refl, sym, ap, ◌∙◌, subst, append_assoc, arith, length-append, length-take-le}
use Rattle.std.specs.Char.{is_ascii_whitespace}
use Rattle.std.specs.List.{suffix_len}
use Rattle.std.proofs.lemmas.List.{append-nil}
use Rattle.std.specs.Prelude.{IfSome}
use Rattle.std.specs.Io.KnownBytes.{Consumes, IsAtEnd}
use Rattle.sdv_lines.specs.declared.line.TheConstants.{LONGEST}
use Rattle.sdv_lines.specs.declared.fault.ProtocolFault.{ProtocolFault}
use Rattle.sdv_lines.specs.declared.fault.ProtocolFault.TheVariants as faults
use Rattle.sdv_lines.specs.Texts.{IsText, trimmed}
use Rattle.sdv_lines.specs.Reading.{ReadsByte, BeginsLong, ReadsNone}

-- WHAT A READER LOSES

pub consumes_none : (known : Option (List ℕ)) → Consumes known known []
consumes_none None = tt
consumes_none (Some xs) = refl

pub consumes_more : (old mid new : Option (List ℕ)) (a b : List ℕ) → Consumes old mid a → Consumes mid new b → Consumes old new (a ++ b)
consumes_more None mid new a b p q = tt
consumes_more (Some xs) None new a b p q = absurd p
consumes_more (Some xs) (Some ys) None a b p q = absurd q
consumes_more (Some xs) (Some ys) (Some zs) a b p q = p ∙ ap (λ l. a ++ l) q ∙ sym (append_assoc a b zs)

-- TEXTS

pub trimmed_fits : (text : List ℕ) → length (trimmed text) ≤ length text
trimmed_fits text =
    let front : length text - suffix_len is_ascii_whitespace text ≤ length text = omega arith in
    let all = length-take-le (length text - suffix_len is_ascii_whitespace text) text front in
    omega (arith, front, all)

pub text_more : (text : List ℕ) (byte : ℕ) → IsText text → (byte ≡ 10 → ⊥) → IsText (text ++ byte ∷ [])
text_more [] byte t n = (n, tt)
text_more (x ∷ text) byte t n = (t.0, text_more text byte t.1 n)

-- bytes that end with a text
pub ended : (old mid new : Option (List ℕ)) (text : List ℕ) → IsText text → Consumes old mid text → IsAtEnd mid × IsAtEnd new → IfSome old IsText × IsAtEnd new
ended None mid new text t c e = (tt, e.1)
ended (Some xs) None new text t c e = absurd c
ended (Some xs) (Some ys) new text t c e = (subst (λ (l : List ℕ). IsText l) (sym (c ∙ ap (λ l. text ++ l) e.0 ∙ append-nil text)) t, e.1)

-- a text that was read up to the end is all of them
all_read : (old mid : Option (List ℕ)) (text : List ℕ) → Consumes old mid text → IsAtEnd mid → IfSome old (λ bytes. bytes ≡ text)
all_read None mid text c e = tt
all_read (Some xs) None text c e = absurd c
all_read (Some xs) (Some ys) text c e = c ∙ ap (λ l. text ++ l) e ∙ append-nil text

-- a line that did not end within the bytes that were read
pub byte_failed : (old mid new : Option (List ℕ)) (text : List ℕ) (fault : ProtocolFault) → IsText text → Consumes old mid text
    → ReadsByte mid new (Err fault) → ReadsNone fault old new text
byte_failed old mid new text faults.Closed t c r = (ended old mid new text t c r, λ closed. all_read old mid text c r.0)
byte_failed old mid new text faults.Read t c r = (tt, λ closed. absurd (cc closed))
byte_failed old mid new text faults.Write t c r = absurd r
byte_failed old mid new text faults.Line t c r = absurd r

-- a line that is longer than any of the protocol
pub too_long : (old mid new : Option (List ℕ)) (text : List ℕ) (byte : ℕ) → IsText text → length text ≡ LONGEST → (byte ≡ 10 → ⊥)
    → Consumes old mid text → Consumes mid new (byte ∷ []) → IfSome old BeginsLong
too_long None mid new text byte t n other c d = tt
too_long (Some xs) None new text byte t n other c d = absurd c
too_long (Some xs) (Some ys) None text byte t n other c d = absurd d
too_long (Some xs) (Some ys) (Some zs) text byte t n other c d =
    let longer : LONGEST < length (text ++ byte ∷ []) = omega (arith, length-append text (byte ∷ []), n) in
    (text ++ byte ∷ [], zs, c ∙ ap (λ l. text ++ l) d ∙ sym (append_assoc text (byte ∷ []) zs), text_more text byte t other, longer)
