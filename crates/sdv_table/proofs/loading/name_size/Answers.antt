use Rattle.std.proofs.Common.{arith}
use Rattle.sdv_table.proofs.Lengths.{length-name_of}
use Rattle.sdv_table.proofs.loading.name_size.Goals as goal

pub returns-clause-size : goal.returns-clause-size
returns-clause-size c = let l = length-name_of c.args.name.length c.args.name.words.now in omega arith
