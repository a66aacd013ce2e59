use Rattle.std.proofs.Common.{arith}
use Rattle.sdv_table.proofs.Lengths.{length-cases_of}
use Rattle.sdv_table.proofs.loading.cases_size.Goals as goal

pub returns-clause-size : goal.returns-clause-size
returns-clause-size c = let l = length-cases_of c.args.cases.count c.args.cases.words.now in omega arith
