use Rattle.std.proofs.Common.{◌≤◌, length, arith}
use Rattle.std.proofs.lemmas.Bool.{leb-true}
use Rattle.sdv_table.proofs.Small.{are_bytes}
use Rattle.sdv_table.proofs.fits.bytes_fit.Goals as goal

pub returns-clause-yes : goal.returns-clause-yes
returns-clause-yes c = λ e.
    let few : length c.args.bytes.now ≤ 16 = leb-true (length c.args.bytes.now) 16 e in
    (omega arith, are_bytes c.args.bytes.now (λ i. omega (arith, c.type_inv.bytes i)))
