use Rattle.std.proofs.Common.{◌≤◌, ◌∙◌, ap, ap₂, arith, fold, length, sym, take_all}
use Rattle.std.proofs.lemmas.List.Sums.{fold_more}
use Rattle.clap.specs.Words.{App, new_app, with_rule}
use Rattle.sdv_program.specs.Commands.{seen_command, seen_word}
use Rattle.sdv_program.specs.CommandLine.{with_word}
use Rattle.sdv_program.specs.declared.table.Word.{Word as CodeWord}
use Rattle.sdv_program.proofs.CommandLineLaws.{app_for-plain, fold_map}
use Rattle.sdv_program.proofs.clap_command.command_of.Goals as goal

abbrev with_code : App → CodeWord → App
with_code app word = with_word app (seen_word word)

pub loop-word-preserved : goal.loop-word-preserved
loop-word-preserved c =
    let name = c.args.entry.now.name.now in
    let words = c.args.entry.now.words.now in
    c.in_ok-command.ensures.shape c.arg_of.ensures.local
    ∙ ap₂ with_rule c.loop-word.invariant c.arg_of.ensures.rule
    ∙ sym (fold_more with_code (new_app name) words c.loop-word.word-index _ c.loop-word-test.true)

pub returns-clause-app : goal.returns-clause-app
returns-clause-app c =
    let words = c.args.entry.now.words.now in
    let name = c.args.entry.now.name.now in
    let end : length words ≤ c.loop-word.word-index = omega (arith, c.loop-word-test.false) in
    c.loop-word.invariant ∙ ap (fold with_code (new_app name)) (take_all c.loop-word.word-index words end)
    ∙ fold_map with_word seen_word (new_app name) words

pub returns-clause-plain : goal.returns-clause-plain
returns-clause-plain c = ap (λ (app : App). app.top.is_plain) (returns-clause-app c) ∙ app_for-plain (seen_command c.args.entry.now)
