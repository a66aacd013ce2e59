use Rattle.std.proofs.Common.{◌≡◌, ◌∙◌, [], Err, Ok, Result, IfErr, IsErrAnd, ap, option_map, sym}
use Rattle.clap.specs.Words.{app_of, fault_of, found_of, kind_of, rows_of, subcommand_rows_of}
use Rattle.clap.specs.Walk.{texts}
use Rattle.clap.specs.declared.error.kind.ErrorKind.TheVariants.{OutOfMemory}
use Rattle.sdv_program.specs.CommandLine.{command_line, fault_of_clap, meaning_of}
use Rattle.sdv_program.specs.Lines.{seen_line}
use Rattle.sdv_program.specs.declared.line.Line.{Line}
use Rattle.sdv_program.specs.declared.line.LineFault.{LineFault}
use Rattle.sdv_program.specs.declared.line.LineFault.TheVariants.{Memory, Usage}
use Rattle.sdv_program.proofs.CommandLineLaws.{request_given, line_of_meaning, meaning-parsed, no_fault-parsed, taken-parsed, usage-parsed}
use Rattle.sdv_program.proofs.line.line_of.Goals as goal

refused_as : (r : Result Line LineFault) (P Q : LineFault → Type 0) → IsErrAnd r P → ((fault : LineFault) → P fault → Q fault) → IfErr r Q
refused_as (Ok request) P Q is step = absurd is
refused_as (Err fault) P Q is step = step fault is

pub returns-in_err-matches-clause-taken : goal.returns-in_err-matches-clause-taken
returns-in_err-matches-clause-taken c = λ taken.
    let error = c.in_err-matches.field-0.0 in
    let memory = taken-parsed (app_of c.in_ok-program_command.field-0) (texts c.args.words.now) (kind_of error ≡ OutOfMemory)
    c.in_ok-program_command.ensures c.in_err-matches.ensures.passes taken in
    refused_as c.from_residual-in_err-matches.result (λ fault. fault ≡ fault_of_clap (kind_of error)) (λ fault. fault ≡ Memory)
    c.from_residual-in_err-matches.ensures.1 (λ fault becomes. becomes ∙ ap fault_of_clap memory)

pub returns-in_err-matches-clause-usage : goal.returns-in_err-matches-clause-usage
returns-in_err-matches-clause-usage c = λ refused.
    let error = c.in_err-matches.field-0.0 in
    let becomes : Usage ≡ fault_of_clap (kind_of error) =
    rw refused at c.from_residual-in_err-matches.ensures.1 in
    usage-parsed (app_of c.in_ok-program_command.field-0) (texts c.args.words.now) error c.in_ok-program_command.ensures
    c.in_err-matches.ensures.kinds becomes

-- clap finds no fault, and the line in the matches is what the words mean
no_fault : (c : goal.Joined-matches-2) → fault_of command_line (texts c.args.words.now) ≡ []
no_fault c = no_fault-parsed (app_of c.in_ok-program_command.field-0) (texts c.args.words.now) c.in_ok-program_command.ensures c.in_ok-matches.ensures.kinds

meaning : (c : goal.Joined-matches-2) → meaning_of (texts c.args.words.now) ≡ option_map seen_line c.in_ok-line.line
meaning c =
    let matches = c.in_ok-matches.matches in
    meaning-parsed (app_of c.in_ok-program_command.field-0) (texts c.args.words.now) (rows_of (found_of matches)) (subcommand_rows_of matches)
    c.in_ok-program_command.ensures (no_fault c) c.in_ok-matches.ensures.matches ∙ sym c.in_ok-line.ensures

line : (c : goal.Joined-matches-2) → (l : Line) × (c.ok_or.result ≡ Ok l)
line c = request_given (texts c.args.words.now) c.in_ok-line.line _ c.ok_or.result (no_fault c) (meaning c) c.ok_or.ensures.value

pub returns-clause-ok : goal.returns-clause-ok
returns-clause-ok c = line_of_meaning (texts c.args.words.now) c.in_ok-line.line _ c.ok_or.result (meaning c) c.ok_or.ensures.value

pub returns-clause-usage : goal.returns-clause-usage
returns-clause-usage c = λ refused. let l = line c in let both = sym l.1 ∙ refused in cc

pub returns-clause-taken : goal.returns-clause-taken
returns-clause-taken c = λ taken. rw (line c).1 tt
