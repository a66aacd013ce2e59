-- THE PAGE of a fault of what is no script: it begins with the line as it stands in the text, and a caret under the place
-- where the parser stops.
use Rattle.std.specs.Prelude.{◌≡◌, ℕ, ◌++◌, codes, decimal}
use Rattle.sdv_script.specs.declared.fault.ScriptFault.{ScriptFault}
use Rattle.sdv_telling.specs.Statements.{Text}
use Rattle.sdv_explain.specs.Lines.{line_at, shown_front, shown_back, without_return, blanks}
use Rattle.sdv_explain.specs.Places.{IsPlaceIn}
use Rattle.sdv_explain.specs.declared.hints.place.Place.{Place}

unfoldable pub top_words : (number : ℕ) → Text
top_words number = codes "line " ++ (decimal number ++ codes "\n    ")

unfoldable pub caret_words : (shown : Text) → Text
caret_words shown = codes "\n    " ++ (blanks shown ++ codes "^\n")

abbrev pub shown_words : (number : ℕ) → (front rest : Text) → Text
shown_words number front rest = top_words number ++ (front ++ (shown_back (without_return rest) ++ caret_words front))

abbrev pub line_words : ℕ → Place → Text
line_words number place = shown_words number (shown_front place.front.now) place.rest.now

-- the place is on the line of the fault, and the page shows it
pub record Tells (text : Text) (fault : ScriptFault) (page : Text) : Type 0 where
  pub place : Place
  pub line : IsPlaceIn (line_at fault.line text) place
  pub behind : Text
  pub shown : page ≡ line_words fault.line place ++ behind
