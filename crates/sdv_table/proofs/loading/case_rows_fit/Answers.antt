use Rattle.std.proofs.Common.{arith}
use Rattle.sdv_table.proofs.Lengths.{length-cases_of}
use Rattle.sdv_table.proofs.loading.case_rows_fit.Goals as goal

pub returns-then-from-ge-TOO_MANY_CASES-clause-no : goal.returns-then-from-ge-TOO_MANY_CASES-clause-no
returns-then-from-ge-TOO_MANY_CASES-clause-no c = λ fits few.
    let l = length-cases_of c.args.cases.count c.args.cases.words.now in
    absurd (omega arith)

pub returns-clause-few : goal.returns-clause-few
returns-clause-few c = λ e. let l = length-cases_of c.args.cases.count c.args.cases.words.now in omega arith
