use Rattle.std.proofs.Common.{◌≤◌, arith}
use Rattle.std.proofs.lemmas.Bool.{leb-true, le-leb}
use Rattle.sdv_table.proofs.Lengths.{length-name_of, name_bytes}
use Rattle.sdv_table.proofs.loading.name_fits.Goals as goal

pub returns-clause-yes : goal.returns-clause-yes
returns-clause-yes c = λ e.
    let l = length-name_of c.args.name.length c.args.name.words.now in
    let few : c.args.name.length ≤ 16 = leb-true c.args.name.length 16 e in
    (omega arith, name_bytes c.args.name.length c.args.name.words.now)

pub returns-clause-no : goal.returns-clause-no
returns-clause-no c = λ fits.
    let l = length-name_of c.args.name.length c.args.name.words.now in
    let few = fits.0 in
    le-leb c.args.name.length 16 (omega arith)
