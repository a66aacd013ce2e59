-- READING the lines of a trace: texts between line feeds.
use Rattle.std.specs.Prelude.{◌≡◌, ◌<◌, ℕ, Bool, false, List, [], ◌∷◌, ◌++◌, length, Option, Some, None, Result, Ok, Err, IfSome}
use Rattle.std.specs.List.{AllByRecursion}
use Rattle.std.specs.Io.KnownBytes.{Consumes, IsAtEnd}
use Rattle.sdv_audit.specs.declared.style.Style.{Style}
use Rattle.sdv_audit.specs.declared.texts.Said.{Said}
use Rattle.sdv_audit.specs.Texts.{Trace, no_trace, read_said, with_said}
use Rattle.sdv_text.specs.Fronts.{is_end}
use Rattle.sdv_audit.specs.declared.input.TextEnd.{TextEnd}
use Rattle.sdv_audit.specs.declared.input.TextEnd.TheVariants as ends
use Rattle.sdv_audit.specs.declared.input.TextFault.{TextFault}
use Rattle.sdv_audit.specs.declared.input.TextFault.TheVariants as faults

abbrev pub line_feed : List ℕ
line_feed = 10 ∷ []

-- a text has no line feed
abbrev pub IsText : List ℕ → Type 0
IsText text = AllByRecursion (λ byte. byte ≡ 10 → ⊥) text

-- the lines of texts, one after another
abbrev pub lines_of : List (List ℕ) → List ℕ
lines_of [] = []
lines_of (text ∷ texts) = text ++ (line_feed ++ lines_of texts)

-- a byte was read, or none is left, or the reader failed
abbrev pub ReadsByte : Option (List ℕ) → Option (List ℕ) → Result (Option ℕ) TextFault → Type 0
ReadsByte old new (Ok (Some byte)) = Consumes old new (byte ∷ [])
ReadsByte old new (Ok None) = Consumes old new [] × IsAtEnd new
ReadsByte old new (Err faults.Read) = Unit {0}
ReadsByte old new (Err fault) = ⊥

-- bytes begin with a text of more than 1,024 bytes
abbrev pub BeginsLong : List ℕ → Type 0
BeginsLong bytes = (front back : List ℕ) × (bytes ≡ front ++ back) × IsText front × (1024 < length front)

-- a text was read, up to its line feed or to the end of the bytes
abbrev pub ReadsText : Option (List ℕ) → Option (List ℕ) → (text : List ℕ) → Result TextEnd TextFault → Type 0
ReadsText old new text (Ok ends.Feed) = IsText text × Consumes old new (text ++ line_feed)
ReadsText old new text (Ok ends.End) = IsText text × Consumes old new text × IsAtEnd new
ReadsText old new text (Err faults.Long) = IfSome old BeginsLong
ReadsText old new text (Err faults.Read) = Unit {0}

-- each text is none of a fault, and together they tell this, from a trace on
abbrev pub AreRead : Style → (before : Trace) → List (List ℕ) → (after : Trace) → Type 0
AreRead style before [] after = before ≡ after
AreRead style before (text ∷ texts) after =
    (s : Said) × IsText text × (read_said text ≡ Ok s) × AreRead style (with_said style s before) texts after

-- this was read, each text with its line feed
pub record LinesRead (style : Style) (old new : Option (List ℕ)) (trace : Trace) : Type 0 where
  pub texts : List (List ℕ)
  pub are : AreRead style no_trace texts trace
  pub read : Consumes old new (lines_of texts)

-- what stands behind the last line feed is a text too, if it is not empty
abbrev pub last_texts : List ℕ → List (List ℕ)
last_texts [] = []
last_texts text = text ∷ []

-- nothing stands there
abbrev pub is_over : TextEnd → (text : List ℕ) → Bool
is_over ends.Feed text = false
is_over ends.End text = is_end text

-- all was read, up to the end
pub record TraceRead (style : Style) (old new : Option (List ℕ)) (trace : Trace) : Type 0 where
  pub texts : List (List ℕ)
  pub last : List ℕ
  pub are : AreRead style no_trace (texts ++ last_texts last) trace
  pub read : Consumes old new (lines_of texts ++ last)
  pub end : IsAtEnd new
