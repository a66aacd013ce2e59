use Rattle.std.proofs.Common.{◌≡◌, fold, take}
use Rattle.clap.specs.Words.{App, app_of}
use Rattle.sdv_program.specs.Commands.{seen_command}
use Rattle.sdv_program.specs.CommandLine.{with_command}
use Rattle.sdv_program.proofs.clap_command.with_commands.Given as goal

-- the program has the commands before this one
abbrev pub invariant-loop-entry : goal.invariant-loop-entry
invariant-loop-entry l = app_of l.program
    ≡ fold (λ (app : App) entry. with_command app (seen_command entry)) (app_of l.fn.program) (take l.entry-index l.fn.entries)
