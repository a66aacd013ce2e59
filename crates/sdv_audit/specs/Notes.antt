-- The NOTES on the lines of a trace: which there are, and how each is printed. Of the words behind those with which a note
-- begins nothing is said here.
use Rattle.std.specs.Prelude.{◌≡◌, ℕ, List, [], ◌∷◌, ◌++◌, ◌+◌, ◌-◌, ◌^◌, ◌==◌, ◌||◌, ◌&&◌, not, min, Bool, true, false, Option, Some, None, codes, decimal, flat_map, if◌then◌else◌}
use Rattle.sdv_card.specs.declared.shape.Shape.{Shape}
use Rattle.sdv_telling.specs.Quoted.{quoted}
use Rattle.sdv_telling.specs.Statements.{Text}
use Rattle.sdv_audit.specs.declared.audit.Findings.{Findings}
use Rattle.sdv_audit.specs.declared.line.TraceLine.{TraceLine}
use Rattle.sdv_audit.specs.declared.line.TraceLine.TheVariants.{Lines}
use Rattle.sdv_audit.specs.declared.notes.TheConstants.{BEGINS_ANEW, ANY_STATE, IS_OUTSIDE, MAY_BE_IN, NO_CARD, NO_HOST, BEYOND_THE, NOT_FOLLOWED}
use Rattle.sdv_audit.specs.declared.notes.Topic.{Topic}
use Rattle.sdv_audit.specs.declared.notes.Topic.TheVariants as topics
use Rattle.sdv_audit.specs.declared.style.Premises.{Premises}
use Rattle.sdv_audit.specs.declared.style.Style.{Style}
use Rattle.sdv_audit.specs.declared.style.Tally.{Tally}
use Rattle.sdv_audit.specs.declared.texts.Count.{Count}
use Rattle.sdv_audit.specs.declared.turn.Turn.{Turn}
use Rattle.sdv_audit.specs.declared.turn.Turn.TheVariants.{Outside, OtherLength}
use Rattle.sdv_audit.specs.Spelling.{line_text, told_text}

-- WHICH NOTES a line has

abbrev pub is_outside : Turn → Bool
is_outside Outside = true
is_outside turn = false

abbrev pub is_other_length : Turn → Bool
is_other_length (OtherLength due) = true
is_other_length turn = false

abbrev pub is_reckless : Option Shape → Bool
is_reckless None = false
is_reckless (Some s) = true

-- a note on the topic is due
abbrev pub is_noted : Style → Findings → Topic → Bool
is_noted style found topics.States = style.annotate
is_noted style found topics.Anew = found.restarted
is_noted style found topics.Resumed = found.resumed
is_noted style found topics.Outside = is_outside found.turn
is_noted style found topics.Reckless = is_reckless found.reckless
is_noted style found topics.Unanswered = found.unanswered && not (is_other_length found.turn)
is_noted style found topics.Length = found.unanswered && is_other_length found.turn
is_noted style found topics.Beyond = found.beyond

pub record Note : Type 0 where
  -- the number of the line, from 1
  pub number : ℕ
  pub line : TraceLine
  pub topic : Topic
  pub premises : Premises

-- what is said of a line rests on these, at which the audit and the lines outside the tables before it were
abbrev pub premises_of : (running bounded : Bool) → (outside : ℕ) → Findings → Premises
premises_of running bounded outside found = record {
  any_state = found.resumed || (running && not found.restarted);
  bounded = found.restarted || (bounded && not found.resumed);
  outside_before = not (outside == 0);
}

abbrev pub note_if : Bool → Note → List Note
note_if due note = if due then note ∷ [] else []

-- those of these topics that are due
abbrev pub notes_at : Style → (number : ℕ) → TraceLine → Premises → Findings → List Topic → List Note
notes_at style number line premises found all =
    flat_map (λ topic. note_if (is_noted style found topic)
    (record { number = number; line = line; topic = topic; premises = premises })) all

-- HOW A NOTE IS PRINTED: the number of its line, the line, and words; or an object of JSON with these and with a name

abbrev pub name : Topic → Text
name topics.States = codes "states"
name topics.Anew = codes "anew"
name topics.Resumed = codes "any_state"
name topics.Outside = codes "outside"
name topics.Reckless = codes "reckless"
name topics.Unanswered = codes "unanswered"
name topics.Length = codes "length"
name topics.Beyond = codes "beyond"

-- the words with which it begins
abbrev pub lead : Topic → Text
lead topics.States = []
lead topics.Anew = BEGINS_ANEW.now
lead topics.Resumed = ANY_STATE.now
lead topics.Outside = IS_OUTSIDE.now
lead topics.Reckless = MAY_BE_IN.now
lead topics.Unanswered = NO_CARD.now
lead topics.Length = NO_HOST.now
lead topics.Beyond = BEYOND_THE.now

-- the line as it stands in the trace, or without its answer
abbrev pub shown : Topic → TraceLine → Text
shown topics.States line = line_text line
shown topic line = told_text line

abbrev pub json_lead : (number : ℕ) → (told name : Text) → Text
json_lead number told name =
    codes "{\"line\":" ++ (decimal number ++ (codes ",\"told\":\"" ++ (told
    ++ (codes "\",\"finding\":\"" ++ (name ++ codes "\"")))))

abbrev pub json_bool : Bool → Text
json_bool b = if b then codes "true" else codes "false"

abbrev pub json_member : (front : Text) → Bool → Text
json_member front b = front ++ json_bool b

abbrev pub json_premises : Premises → Text
json_premises p =
    json_member (codes ",\"any_state\":") p.any_state ++ (json_member (codes ",\"bounded\":") p.bounded
    ++ json_member (codes ",\"outside_before\":") p.outside_before)

abbrev pub json_front : (number : ℕ) → (told name : Text) → Text
json_front number told name =
    codes "{\"line\":" ++ (decimal number ++ (codes ",\"told\":\"" ++ (told
    ++ (codes "\",\"finding\":\"" ++ (name ++ codes "\",\"text\":\"")))))

abbrev pub note_front : Style → Note → Text
note_front style n =
    if style.json then json_lead n.number (shown n.topic n.line) (name n.topic)
    ++ (json_premises n.premises ++ codes ",\"text\":\"")
    else codes "line " ++ (decimal n.number ++ (codes ": " ++ (shown n.topic n.line ++ codes ": ")))

abbrev pub note_end : Style → Text
note_end style = if style.json then codes "\"}\n" else codes "\n"

abbrev pub note_text : Style → Note → (words : Text) → Text
note_text style n words = note_front style n ++ (lead n.topic ++ (quoted words ++ note_end style))

-- the text has these notes, each with some words
abbrev pub HasNotes : Style → List Note → (text : Text) → Type 0
HasNotes style [] text = text ≡ []
HasNotes style (n ∷ ns) text = (words rest : Text) × (text ≡ note_text style n words ++ rest) × HasNotes style ns rest

-- THE TALLY: how many lines there were, and how often each thing was found; no count passes 2^64 - 1. A line is not followed
-- where no shape is left, unless the audit begins anew there, or goes on from any state.

abbrev pub counted : Bool → ℕ → ℕ
counted more n = if more then min (n + 1) (2 ^ 64 - 1) else n

-- a line `LINES n` that was put in has no number of its own
abbrev pub has_number : Style → TraceLine → Bool
has_number style (Lines width) = not style.put_in
has_number style line = true

-- the lines of a stretch that is not followed: it ends where a line is
abbrev pub stretch_after : (lost numbered : Bool) → ℕ → ℕ
stretch_after lost numbered stretch = if lost then counted numbered stretch else 0

abbrev pub is_lost : (waits : Bool) → Findings → Bool
is_lost waits found = waits && not (found.restarted || found.resumed)

abbrev pub tally_after : (numbered waits : Bool) → Findings → Tally → Tally
tally_after numbered waits found t = record {
  lines = counted numbered t.lines;
  reckless = counted (is_reckless found.reckless) t.reckless;
  unanswered = counted (found.unanswered && not (is_other_length found.turn)) t.unanswered;
  lengths = counted (found.unanswered && is_other_length found.turn) t.lengths;
  beyond = counted found.beyond t.beyond;
  outside = counted (is_outside found.turn) t.outside;
  lost = counted (is_lost waits found && numbered) t.lost;
  stretch = stretch_after (is_lost waits found) numbered t.stretch;
}

abbrev pub no_tally : Tally
no_tally = record {
  lines = 0;
  reckless = 0;
  unanswered = 0;
  lengths = 0;
  beyond = 0;
  outside = 0;
  lost = 0;
  stretch = 0;
}

-- the host or the card left the rules
abbrev pub has_findings : Tally → Bool
has_findings t =
    not (t.reckless == 0) || (not (t.unanswered == 0) || (not (t.lengths == 0) || not (t.beyond == 0)))

-- THE SUMMARY

abbrev pub count_and : ℕ → Text → Text
count_and number words = decimal number ++ words

abbrev pub plain_findings : Tally → Text
plain_findings t =
    count_and t.lines (codes " lines, ") ++ (count_and t.reckless (codes " reckless, ") ++ (
    count_and t.unanswered (codes " that no card answers, ") ++ (count_and t.lengths (codes " of another length, ") ++
    count_and t.beyond (codes " beyond the capacity, "))))

abbrev pub plain_rest : Tally → (left_out : ℕ) → Text
plain_rest t left_out =
    count_and t.outside (codes " outside, ") ++ (
    count_and t.lost (codes " not followed, ") ++ count_and left_out (codes " left out\n"))

abbrev pub plain_summary : Tally → (left_out : ℕ) → Text
plain_summary t left_out = plain_findings t ++ plain_rest t left_out

abbrev pub json_findings : Tally → Text
json_findings t =
    codes "{\"lines\":" ++ (count_and t.lines (codes ",\"reckless\":") ++ (
    count_and t.reckless (codes ",\"unanswered\":") ++ (count_and t.unanswered (codes ",\"lengths\":") ++ (
    count_and t.lengths (codes ",\"beyond\":") ++ count_and t.beyond (codes ",\"outside\":")))))

abbrev pub json_rest : Tally → (left_out : ℕ) → Text
json_rest t left_out =
    count_and t.outside (codes ",\"not_followed\":") ++ (
    count_and t.lost (codes ",\"left_out\":") ++ count_and left_out (codes "}\n"))

abbrev pub json_summary : Tally → (left_out : ℕ) → Text
json_summary t left_out = json_findings t ++ json_rest t left_out

abbrev pub summary : Style → Tally → (left_out : ℕ) → Text
summary style t left_out = if style.json then json_summary t left_out else plain_summary t left_out

-- BEHIND THE LAST LINE, with the number of the last text

abbrev pub end_front : Style → (name : Text) → (last : ℕ) → Text
end_front style name last = if style.json then json_front last [] name else codes "at the end: "

-- the states, where they are asked for
abbrev pub end_note : Style → (last : ℕ) → (words : Text) → Text
end_note style last words =
    if style.annotate then end_front style (codes "end") last ++ (quoted words ++ note_end style) else []

-- how many lines before the end are not followed, where there is one
abbrev pub lost_note : Style → (last stretch : ℕ) → Text
lost_note style last stretch =
    if stretch == 0 then []
    else end_front style (codes "not_followed") last ++ (NOT_FOLLOWED.now ++ (decimal stretch ++ note_end style))

-- all that stands behind the notes on the lines
abbrev pub ending : Style → Count → Tally → (words : Text) → Text
ending style c t words =
    end_note style c.last words ++ (lost_note style c.last t.stretch ++ summary style t c.left_out)
