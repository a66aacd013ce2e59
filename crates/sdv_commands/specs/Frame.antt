-- `frame INDEX ARG`: the frame of a command is printed, two lower-case hexadecimal digits for each byte, a space between
-- bytes, and a line feed at the end.
use Rattle.std.specs.Prelude.{◌≡◌, ℕ, List, [], ◌∷◌, ◌++◌, map}
use Rattle.std.specs.List.{join_with_byte}
use Rattle.clap.specs.Words.{Text}
use Rattle.hex.specs.Hex.{encode_lower}
use Rattle.sdv_frames.specs.Frame.{IsCommand, IsCommandFrame}
use Rattle.sdv_frames.specs.declared.command.Command.{Command}
use Rattle.sdv_text.specs.Number.{IsNumber, value_of}
use Rattle.sdv_program.specs.Outcomes.{Ending, Prints}
use Rattle.sdv_program.specs.declared.fault.Fault.{Fault}
use Rattle.sdv_program.specs.declared.fault.Fault.TheVariants.{Usage}

-- the texts write the index and the argument of a command, which are in their ranges
pub record Writes (index argument : List ℕ) (c : Command) : Type 0 where
  pub index_is_number : IsNumber index
  pub index_is : value_of index ≡ c.index
  pub argument_is_number : IsNumber argument
  pub argument_is : value_of argument ≡ c.argument
  pub in_range : IsCommand c

abbrev pub two_digits : ℕ → List ℕ
two_digits byte = encode_lower (byte ∷ [])

abbrev pub frame_text : List ℕ → List ℕ
frame_text bytes = join_with_byte 32 (map two_digits bytes) ++ 10 ∷ []

-- the text is that of the frame of the command
abbrev pub IsFrameOf : Command → (text : Text) → Type 0
IsFrameOf c text = (bytes : List ℕ) × IsCommandFrame c bytes × (text ≡ frame_text bytes)

-- of the command that the words write
abbrev pub IsFrameText : (index argument text : Text) → Type 0
IsFrameText index argument text = (c : Command) × Writes index argument c × IsFrameOf c text

-- why there is none: they write no command
abbrev pub WriteNone : (index argument : Text) → Fault → Type 0
WriteNone index argument Usage = (c : Command) → ¬ Writes index argument c
WriteNone index argument fault = ⊥

abbrev pub FrameEnds : (index argument : Text) → Ending
FrameEnds index argument = Prints (IsFrameText index argument) (WriteNone index argument)
