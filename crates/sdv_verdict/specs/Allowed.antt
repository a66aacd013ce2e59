-- WHICH FINDINGS COUNT: those of data and of the boot configuration that neither a word nor a comment allows.
-- This project's own.
use Rattle.std.specs.Prelude.{◌-◌, ◌||◌, ◌&&◌, ℕ, Bool, true, false, not, List, Option, Some, None, codes, drop, length, slice_get, take}
use Rattle.std.specs.Str.{bytes_eq}
use Rattle.std.specs.List.{list_any, list_all}
use Rattle.sdv_graph.specs.Graph.{Graph}
use Rattle.sdv_review.specs.declared.finding.Finding.{Finding}
use Rattle.sdv_review.specs.declared.finding.Matter.{Matter}
use Rattle.sdv_review.specs.declared.finding.Matter.TheVariants as matters
use Rattle.sdv_explain.specs.Lines.{line_at, without_return}
use Rattle.sdv_review.specs.Kinds.{kind_word}
use Rattle.sdv_telling.specs.Statements.{Text}
use Rattle.sdv_verdict.specs.declared.judging.Verdict.{Verdict}
use Rattle.sdv_verdict.specs.declared.judging.Verdict.TheVariants.{Accepted}

-- a finding of these is a warning, and any other one a note
abbrev pub is_warning : Matter → Bool
is_warning (matters.Partition index reach) = true
is_warning matters.BootEnable = true
is_warning (matters.Misplaced index) = true
is_warning (matters.Unstored status) = true
is_warning matter = false

-- WHAT IS ALLOWED: kinds, by their words, and what a comment at the end of a line says

abbrev pub ends_in : (tail line : Text) → Bool
ends_in tail line = bytes_eq (drop (length line - length tail) line) tail

abbrev pub before : (tail line : Text) → Text
before tail line = take (length line - length tail) line

-- `# allow: KIND`
abbrev pub allows : (kind line : Text) → Bool
allows kind line = ends_in kind line && ends_in (codes "# allow: ") (before kind line)

-- on the line with this number
abbrev pub allowed_on : (text kind : Text) → (line : Option ℕ) → Bool
allowed_on text kind None = false
allowed_on text kind (Some line) = allows kind (without_return (line_at line text))

-- on that of the statement
abbrev pub allowed_there : (text kind : Text) → Graph → (point : Option ℕ) → Bool
allowed_there text kind g None = false
allowed_there text kind g (Some point) = allowed_on text kind (slice_get g.lines point)

abbrev pub is_allowed : (text : Text) (kinds : List Text) → Graph → Finding → Bool
is_allowed text kinds g f =
    list_any (λ kind. bytes_eq kind (kind_word f.matter)) kinds || allowed_there text (kind_word f.matter) g f.point

-- a note of a kind at a statement
abbrev pub is_note_allowed : (text : Text) (kinds : List Text) (kind : Text) → Graph → (point : ℕ) → Bool
is_note_allowed text kinds kind g point =
    list_any (λ other. bytes_eq other kind) kinds || allowed_there text kind g (Some point)

-- WHAT COUNTS

-- it is a note, or allowed
abbrev pub is_quiet : (text : Text) (kinds : List Text) → Graph → Finding → Bool
is_quiet text kinds g f = not (is_warning f.matter) || is_allowed text kinds g f

abbrev pub are_quiet : (text : Text) (kinds : List Text) → Graph → List Finding → Bool
are_quiet text kinds g found = list_all (is_quiet text kinds g) found

-- the script is accepted, and nothing of its review counts
abbrev pub is_clear : (text : Text) (kinds : List Text) → Graph → Verdict → Bool
is_clear text kinds g (Accepted bound given found writes) =
    are_quiet text kinds g found.items && are_quiet text kinds g writes.items
is_clear text kinds g verdict = false
