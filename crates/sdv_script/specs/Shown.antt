-- What contracts see of a script.
use Rattle.sdv_script.specs.declared.script.Script.{Script}
use Rattle.sdv_script.specs.Place.{parsed_of}
use Rattle.sdv_script.specs.Script.{Parsed}

-- its text, with the names and the statements of its tree
abbrev pub shown : Script → Parsed
shown s = parsed_of s.text.now s.names s.body
