-- The LINE that is printed of a line of a trace: its number, the line of the script, what the trace says there, and words
-- on what that means, of which nothing is said here; as a line of text, as an object of JSON, or as a row of a picture.
use Rattle.std.specs.Prelude.{◌≡◌, ℕ, [], ◌++◌, ◌==◌, ◌&&◌, ◌||◌, Bool, codes, decimal, false, if◌then◌else◌}
use Rattle.sdv_graph.specs.Graph.{Graph}
use Rattle.sdv_registers.specs.Status.{is_app_cmd}
use Rattle.sdv_frames.specs.declared.reply.Reply.TheVariants.{R1}
use Rattle.sdv_card.specs.declared.answer.Answer.TheVariants.{Reply as Replied}
use Rattle.sdv_telling.specs.Places.{line_at}
use Rattle.sdv_telling.specs.Quoted.{quoted}
use Rattle.sdv_telling.specs.Statements.{Text}
use Rattle.sdv_audit.specs.declared.line.TraceLine.{TraceLine}
use Rattle.sdv_audit.specs.declared.line.TraceLine.TheVariants.{Exchange, End}
use Rattle.sdv_audit.specs.Spelling.{line_text}
use Rattle.sdv_trace.specs.declared.end.End.{End as RunEnd}
use Rattle.sdv_trace.specs.declared.end.End.TheVariants.{Done, Fault}
use Rattle.sdv_decode.specs.declared.form.Form.{Form}
use Rattle.sdv_decode.specs.declared.form.Form.TheVariants.{Json, Picture, Words}
use Rattle.sdv_decode.specs.declared.line_words.Spot.{Spot as CodeSpot}

-- APPLICATION COMMANDS

-- the card says that it takes the next command as an application command
abbrev pub announces : TraceLine → Bool
announces (Exchange command (Replied (R1 index status))) = (command.index == 55) && is_app_cmd status
announces line = false

-- the commands that have another meaning then
abbrev pub has_other_meaning : (index : ℕ) → Bool
has_other_meaning index = (index == 6) || ((index == 13) || ((index == 41) || (index == 51)))

abbrev pub mark : (app : Bool) → TraceLine → Text
mark app (Exchange command answer) = if app && has_other_meaning command.index then codes "A" else []
mark app line = []

-- WHAT THE TRACE SAYS; the end of a run without its name

abbrev pub told : (app : Bool) → TraceLine → Text
told app End = codes "the end"
told app line = mark app line ++ line_text line

abbrev pub end_told : RunEnd → Text
end_told Done = codes "done"
end_told (Fault name) = codes "fault " ++ name.bytes

-- A LINE

abbrev pub plain : (number script_line : ℕ) → (told words : Text) → Text
plain number script_line told words =
    codes "line " ++ (decimal number ++ (codes ", script line " ++ (decimal script_line ++ (codes ": " ++ (told
    ++ (codes ": " ++ (quoted words ++ codes "\n")))))))

abbrev pub object : (number script_line : ℕ) → (told words : Text) → Text
object number script_line told words =
    codes "{\"line\":" ++ (decimal number ++ (codes ",\"script\":" ++ (decimal script_line ++ (codes ",\"told\":\"" ++ (told
    ++ (codes "\",\"text\":\"" ++ (quoted words ++ codes "\"}\n")))))))

-- a row is 10 millimetres high, and begins n0 from the top
abbrev pub row : (number script_line : ℕ) → (drawn : Text) → Text
row number script_line drawn =
    codes "<g transform=\"translate(0 " ++ (decimal number ++ (codes "0)\">\n"
    ++ (codes "<text x=\"4\" y=\"3.4\" font-size=\"2.4\">script line " ++ (decimal script_line ++ (codes "</text>"
    ++ (codes "<text x=\"4\" y=\"7\" font-size=\"2\" fill=\"gray\">trace line " ++ (decimal number ++ (codes "</text>\n"
    ++ (drawn ++ codes "</g>\n")))))))))

-- where it stands
pub record Spot : Type 0 where
  pub graph : Graph
  pub form : Form
  -- the number of the line, from 1
  pub number : ℕ
  -- the point of the script
  pub point : ℕ

-- the code's spot, without where it lies in memory
abbrev pub spot_seen : CodeSpot → Spot
spot_seen at = record { graph = at.graph.now; form = at.form; number = at.number; point = at.point }

abbrev pub printed_in : Form → (number script_line : ℕ) → (told words : Text) → Text
printed_in Words number script_line told words = plain number script_line told words
printed_in Json number script_line told words = object number script_line told words
printed_in Picture number script_line told words = row number script_line words

abbrev pub printed : Spot → (told words : Text) → Text
printed at told words = printed_in at.form at.number (line_at at.graph at.point) told words

-- the text is that line, with some words
abbrev pub IsLine : Spot → (told text : Text) → Type 0
IsLine at told text = (words : Text) × (text ≡ printed at told words)

-- and was added
abbrev pub AddsLine : Spot → (told old new : Text) → Type 0
AddsLine at told old new = (words : Text) × (new ≡ old ++ printed at told words)
