use Rattle.std.proofs.Common.{◌≡◌, fold, take}
use Rattle.clap.specs.Words.{App, app_of, new_app}
use Rattle.sdv_program.specs.Commands.{seen_word}
use Rattle.sdv_program.specs.CommandLine.{with_word}
use Rattle.sdv_program.proofs.clap_command.command_of.Given as goal

-- the command has the words before this one
abbrev pub invariant-loop-word : goal.invariant-loop-word
invariant-loop-word l = app_of l.command
    ≡ fold (λ (app : App) word. with_word app (seen_word word)) (new_app l.fn.entry.name.now) (take l.word-index l.fn.entry.words.now)
