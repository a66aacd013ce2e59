-- What reading a byte, a line, and lines of digits does to the bytes that a reader has left.
use Rattle.std.specs.Prelude.{◌≡◌, ◌<◌, ◌≤◌, ℕ, List, [], ◌∷◌, ◌++◌, length, Option, Result, Ok, Err, MatchResult, IfSome}
use Rattle.std.specs.List.{AllByRecursion}
use Rattle.std.specs.Io.KnownBytes.{Consumes, IsAtEnd}
use Rattle.sdv_lines.specs.declared.fault.ProtocolFault.{ProtocolFault}
use Rattle.sdv_lines.specs.declared.fault.ProtocolFault.TheVariants as faults
use Rattle.sdv_lines.specs.declared.line.TheConstants.{LONGEST}
use Rattle.sdv_trace.specs.Trace.{line_feed}
use Rattle.sdv_card.specs.Card.{Block}
use Rattle.sdv_lines.specs.Texts.{IsText, IsLine, AreDigits, AreBlocks, lines_of, trimmed, trims}

-- a byte was read, or none is left, or the reader failed
abbrev pub ReadsByte : Option (List ℕ) → Option (List ℕ) → Result ℕ ProtocolFault → Type 0
ReadsByte old new (Ok byte) = Consumes old new (byte ∷ [])
ReadsByte old new (Err faults.Closed) = IsAtEnd old × IsAtEnd new
ReadsByte old new (Err faults.Read) = Unit {0}
ReadsByte old new (Err fault) = ⊥

-- bytes begin with a text that is longer than any line
abbrev pub BeginsLong : List ℕ → Type 0
BeginsLong bytes = (front back : List ℕ) × (bytes ≡ front ++ back) × IsText front × (LONGEST < length front)

-- no line was read: the bytes end before a line feed, or a line is too long, or the reader failed
abbrev pub ReadsNoLine : ProtocolFault → Option (List ℕ) → Option (List ℕ) → Type 0
ReadsNoLine faults.Closed old new = IfSome old IsText × IsAtEnd new
ReadsNoLine faults.Line old new = IfSome old BeginsLong
ReadsNoLine faults.Read old new = Unit {0}
ReadsNoLine fault old new = ⊥

-- the same, with the text that was read of the line: where the bytes ended, all of them
abbrev pub ReadsNone : ProtocolFault → (old new : Option (List ℕ)) → (text : List ℕ) → Type 0
ReadsNone fault old new text =
    ReadsNoLine fault old new × (fault ≡ faults.Closed → IfSome old (λ bytes. bytes ≡ text))

-- a line was read, without its line feed, or none was
abbrev pub ReadsLine : {A : Type 0} → (old new : Option (List ℕ)) → (text : List ℕ) → Result A ProtocolFault → Type 0
ReadsLine old new text result =
    MatchResult result (λ _. IsLine text × Consumes old new (text ++ line_feed))
    (λ fault. ReadsNone fault old new text)

-- DIGITS: a line of digits of so many bytes, 512 at most

-- bytes begin with no such line
abbrev pub HasNoDigits : ℕ → List ℕ → Type 0
HasNoDigits count xs =
    (text bytes rest : List ℕ) → count ≤ 512 → IsLine text → AreDigits (trimmed text) bytes → length bytes ≡ count →
    xs ≡ text ++ 10 ∷ rest → ⊥

abbrev pub ReadsNoDigits : ProtocolFault → ℕ → Option (List ℕ) → Option (List ℕ) → Type 0
ReadsNoDigits faults.Closed count old new = IfSome old (HasNoDigits count) × IsAtEnd new
ReadsNoDigits faults.Line count old new = IfSome old (HasNoDigits count)
ReadsNoDigits faults.Read count old new = Unit {0}
ReadsNoDigits fault count old new = ⊥

-- a line of the digits of these bytes
pub record DigitsRead (old new : Option (List ℕ)) (bytes : List ℕ) : Type 0 where
  pub text : List ℕ
  pub line : IsLine text
  pub are : AreDigits (trimmed text) bytes
  pub short : length bytes ≤ 512
  pub read : Consumes old new (text ++ line_feed)

abbrev pub ReadsDigits : {A : Type 0} → (old new : Option (List ℕ)) → (count : ℕ) → (bytes : List ℕ) →
    Result A ProtocolFault → Type 0
ReadsDigits old new count bytes result =
    MatchResult result (λ _. DigitsRead old new bytes × (length bytes ≡ count))
    (λ fault. ReadsNoDigits fault count old new)

-- BLOCKS: a line of digits for each

-- bytes begin with no such lines
abbrev pub HasNoBlocks : ℕ → List ℕ → Type 0
HasNoBlocks count xs =
    (texts : List (List ℕ)) (blocks : List Block) (rest : List ℕ) → AllByRecursion IsLine texts →
    AreBlocks (trims texts) blocks →
    length blocks ≡ count → xs ≡ lines_of texts ++ rest → ⊥

abbrev pub ReadsNoBlocks : ProtocolFault → ℕ → Option (List ℕ) → Option (List ℕ) → Type 0
ReadsNoBlocks faults.Closed count old new = IfSome old (HasNoBlocks count) × IsAtEnd new
ReadsNoBlocks faults.Line count old new = IfSome old (HasNoBlocks count)
ReadsNoBlocks faults.Read count old new = Unit {0}
ReadsNoBlocks fault count old new = ⊥

-- lines of the digits of these blocks
pub record BlocksRead (old new : Option (List ℕ)) (blocks : List Block) : Type 0 where
  pub texts : List (List ℕ)
  pub lines : AllByRecursion IsLine texts
  pub are : AreBlocks (trims texts) blocks
  pub read : Consumes old new (lines_of texts)

abbrev pub ReadsBlocks : {A : Type 0} → (old new : Option (List ℕ)) → (count : ℕ) → (blocks : List Block) →
    Result A ProtocolFault → Type 0
ReadsBlocks old new count blocks result =
    MatchResult result (λ _. BlocksRead old new blocks × (length blocks ≡ count))
    (λ fault. ReadsNoBlocks fault count old new)
