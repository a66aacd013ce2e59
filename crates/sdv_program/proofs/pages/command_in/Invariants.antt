use Rattle.std.proofs.Common.{◌≡◌, drop, map}
use Rattle.sdv_program.specs.Commands.{command_in, seen_command}
use Rattle.sdv_program.proofs.pages.command_in.Given as goal

-- none of the entries before has the name
abbrev pub invariant-loop-entry : goal.invariant-loop-entry
invariant-loop-entry l =
    command_in (map seen_command (drop l.entry-index l.entries)) l.name ≡ command_in (map seen_command l.entries) l.name
