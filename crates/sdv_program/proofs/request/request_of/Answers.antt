use Rattle.std.proofs.Common.{◌≡◌, Err, ap, option_and_then, sym}
use Rattle.clap.specs.Walk.{texts}
use Rattle.sdv_program.specs.Together.{request_of}
use Rattle.sdv_program.specs.declared.line.LineFault.TheVariants.{Usage}
use Rattle.sdv_program.proofs.CommandLineLaws.{meaning-fault}
use Rattle.sdv_program.proofs.request.request_of.Goals as goal

pub returns-in_err-line_of-clause-usage : goal.returns-in_err-line_of-clause-usage
returns-in_err-line_of-clause-usage c = λ refused.
    let same : Usage ≡ c.in_err-line_of.field-0.0 = rw refused at c.from_residual.ensures.1 in
    ap (option_and_then request_of) (meaning-fault (texts c.args.words.now) (c.in_err-line_of.ensures.usage (ap Err (sym same))))
