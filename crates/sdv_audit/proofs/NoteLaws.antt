-- Texts that have notes, one behind another.
use Rattle.std.proofs.Common.{◌≡◌, ℕ, List, [], ◌∷◌, ◌++◌, Option, refl, sym, ap, subst, ◌∙◌, append_assoc, ◌+◌, ◌<◌, length, drop, get_or, add-one, drop-cons}
use Rattle.std.proofs.lemmas.List.{append-nil}
use Rattle.sdv_text.proofs.WrittenLaws.{appends_more, appends_none}
use Rattle.sdv_registers.specs.declared.kind.Kind.{Kind}
use Rattle.sdv_telling.specs.Statements.{Text}
use Rattle.sdv_audit.specs.declared.audit.Findings.{Findings}
use Rattle.sdv_audit.specs.declared.line.TraceLine.{TraceLine}
use Rattle.sdv_audit.specs.declared.notes.Topic.{Topic}
use Rattle.sdv_audit.specs.declared.style.Premises.{Premises}
use Rattle.sdv_audit.specs.declared.style.Style.{Style}
use Rattle.sdv_audit.specs.Notes.{HasNotes, Note, ending, is_noted, note_if, note_text, notes_at}
use Rattle.sdv_audit.specs.Texts.{Trace}
use Rattle.sdv_audit.specs.Report.{AddsEnding, AddsNotes, AddsReport, at_start, notes, tally_of}

pub notes_more : (style : Style) (a b : List Note) (x y : Text) → HasNotes style a x → HasNotes style b y → HasNotes style (a ++ b) (x ++ y)
notes_more style [] b x y e h = subst (λ (v : Text). HasNotes style b (v ++ y)) (sym e) h
notes_more style (n ∷ a) b x y (words, rest, e, h) k =
    (words, rest ++ y, ap (λ (v : Text). v ++ y) e ∙ append_assoc (note_text style n words) rest y, notes_more style a b rest y h k)

-- THE NOTES ON A LINE, topic by topic

-- the list from a place on
pub from_place : (xs : List Topic) (i : ℕ) (d : Topic) → i < length xs → drop i xs ≡ get_or xs i d ∷ drop (i + 1) xs
from_place xs i d lt = drop-cons xs i d lt ∙ ap (λ n. get_or xs i d ∷ drop n xs) (sym (add-one i))

-- the text has the notes on all topics but those that are left
module _ (style : Style) (number : ℕ) (line : TraceLine) (premises : Premises) (found : Findings) (all : List Topic) where
  abbrev pub NotesBefore : (left : List Topic) → Text → Type 0
  NotesBefore left text =
      (rest : Text) → HasNotes style (notes_at style number line premises found left) rest → HasNotes style (notes_at style number line premises found all) (text ++ rest)

  pub one_noted : (left : List Topic) (topic : Topic) (text new more : Text) → new ≡ text ++ more
      → HasNotes style (note_if (is_noted style found topic) (record { number = number; line = line; topic = topic; premises = premises })) more
      → NotesBefore (topic ∷ left) text → NotesBefore left new
  one_noted left topic text new more added notes before rest told =
      subst (λ (t : Text). HasNotes style (notes_at style number line premises found all) t)
      (sym (ap (λ (t : Text). t ++ rest) added ∙ append_assoc text more rest))
      (before (more ++ rest) (notes_more style _ _ more rest notes told))

  pub all_noted : (text : Text) → NotesBefore [] text → HasNotes style (notes_at style number line premises found all) text
  all_noted text before = subst (λ (t : Text). HasNotes style (notes_at style number line premises found all) t) (append-nil text) (before [] refl)

-- WRITTEN

pub adds_none : (style : Style) (now : Option (List ℕ)) → AddsNotes style [] now now
adds_none style now = ([], refl, appends_none now)

pub adds_more : (style : Style) (a b : List Note) (old mid new : Option (List ℕ)) → AddsNotes style a old mid → AddsNotes style b mid new → AddsNotes style (a ++ b) old new
adds_more style a b old mid new (x, h, p) (y, k, q) = (x ++ y, notes_more style a b x y h k, appends_more old mid new x y p q)

-- the whole report
pub adds_ending : (k : Kind) (style : Style) (trace : Trace) (old mid new : Option (List ℕ)) → AddsNotes style (notes k style (at_start style) trace.lines) old mid
    → AddsEnding style trace.count (tally_of k style trace.lines) mid new → AddsReport k style trace old new
adds_ending k style trace old mid new (text, h, p) (words, q) =
    (text, words, h, appends_more old mid new text (ending style trace.count (tally_of k style trace.lines) words) p q)
