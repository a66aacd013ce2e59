use Rattle.std.proofs.Common.{◌≤◌, ◌∙◌, ap, ap₂, arith, fold, length, refl, sym, take_all}
use Rattle.std.proofs.lemmas.List.Sums.{fold_more}
use Rattle.clap.specs.Words.{App, app_of, with_subcommand}
use Rattle.sdv_program.specs.Commands.{seen_command}
use Rattle.sdv_program.specs.CommandLine.{with_command}
use Rattle.sdv_program.specs.declared.table.CommandEntry.{CommandEntry}
use Rattle.sdv_program.proofs.CommandLineLaws.{no_globals}
use Rattle.sdv_program.proofs.clap_command.with_commands.Goals as goal

abbrev with_entry : App → CommandEntry → App
with_entry app entry = with_command app (seen_command entry)

pub loop-entry-preserved : goal.loop-entry-preserved
loop-entry-preserved c =
    let entries = c.args.entries.now in
    c.in_ok-program.ensures.shape (no_globals c.in_ok-command_of.field-0 _ refl c.in_ok-command_of.ensures.plain)
    ∙ ap₂ (λ (line app : App). with_subcommand line app.top) c.loop-entry.invariant c.in_ok-command_of.ensures.app
    ∙ sym (fold_more with_entry (app_of c.args.program) entries c.loop-entry.entry-index _ c.loop-entry-test.true)

pub returns : goal.returns
returns c =
    let entries = c.args.entries.now in
    let end : length entries ≤ c.loop-entry.entry-index = omega (arith, c.loop-entry-test.false) in
    c.loop-entry.invariant ∙ ap (fold with_entry (app_of c.args.program)) (take_all c.loop-entry.entry-index entries end)
