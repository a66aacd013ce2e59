-- What the words of a call of the program mean: clap reads them by the table of commands.
use Rattle.std.specs.Prelude.{List, [], ◌∷◌, Option, Some, None, codes, fold, true, option_and_then}
use Rattle.clap.specs.Lexer.{usize_max}
use Rattle.clap.specs.Words.{App, Kinds, Row, Rule, Shape, Text, fault_of, new_app}
use Rattle.clap.specs.Words.{new_rule, subcommand_of, with_rule, with_subcommand}
use Rattle.clap.specs.declared.builder.action.ArgAction.TheVariants.{Append, SetTrue}
use Rattle.clap.specs.declared.error.kind.ErrorKind.{ErrorKind}
use Rattle.clap.specs.declared.error.kind.ErrorKind.TheVariants.{OutOfMemory}
use Rattle.sdv_program.specs.Commands.{Command, Word, commands, required, optional, several, with_value, repeated, flag}
use Rattle.sdv_program.specs.Lines.{Line, line_in}
use Rattle.sdv_program.specs.Requests.{Request}
use Rattle.sdv_program.specs.Together.{request_of}
use Rattle.sdv_program.specs.declared.line.LineFault.{LineFault}
use Rattle.sdv_program.specs.declared.line.LineFault.TheVariants.{Usage, Memory}

-- what clap is told of a word
abbrev pub rule_for : Word → Rule
rule_for (required name) = record (new_rule name) { required = true }
rule_for (optional name) = new_rule name
rule_for (several name) =
    record (new_rule name) { required = true; range = Some (record { start_inclusive = 1; end_inclusive = usize_max }) }
rule_for (with_value name) = record (new_rule name) { long = Some name }
rule_for (repeated name) = record (new_rule name) { long = Some name; action = Some Append }
rule_for (flag name) = record (new_rule name) { long = Some name; action = Some SetTrue }

abbrev pub with_word : App → Word → App
with_word app word = with_rule app (rule_for word)

-- of a command
abbrev pub app_for : Command → App
app_for command = fold with_word (new_app command.name) command.words

abbrev pub with_command : App → Command → App
with_command line command = with_subcommand line (app_for command).top

-- the program's own settings: its words leave out its name, and name one of its commands; help is
-- asked for by `-h` and `--help` alone
abbrev pub program_shape : Shape
program_shape = record (new_app (codes "sdv")).top {
  no_binary_name = true;
  subcommand_required = true;
  disable_help_subcommand = true;
}

-- and of the program
abbrev pub command_line : App
command_line = fold with_command (record { top = program_shape; subs = [] }) commands

-- the line in what clap matched, by the kinds of fault that it finds in the words: there is none where there are
abbrev pub line_without : Kinds → Option (Text × List Row) → Option Line
line_without [] used = option_and_then line_in used
line_without (kind ∷ kinds) used = None

-- the line that words mean
abbrev pub meaning_of : List Text → Option Line
meaning_of words = line_without (fault_of command_line words) (subcommand_of command_line words)

-- what they ask for
abbrev pub request_of_words : List Text → Option Request
request_of_words words = option_and_then request_of (meaning_of words)

-- why the words are no line, by the kind of clap's error
abbrev pub fault_of_clap : ErrorKind → LineFault
fault_of_clap OutOfMemory = Memory
fault_of_clap kind = Usage
