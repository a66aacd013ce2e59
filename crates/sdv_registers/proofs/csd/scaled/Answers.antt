use Rattle.std.proofs.Common.{◌≡◌, ℕ, ◌+◌, ◌-◌, ◌*◌, ◌%◌, ◌^◌, ◌≤◌, arith}
use Rattle.std.proofs.Math.Nat.{mod-eq_of_lt, mul-le-mul, pow-le-pow_right}
use Rattle.sdv_registers.proofs.csd.scaled.Goals as goal

-- sizes of which the product fits 64 bits
product_fits : (size first second : ℕ) → size ≤ 2 ^ 32 → first ≤ 512 → second ≤ 4 → size * first % 2 ^ 64 * second % 2 ^ 64 ≡ size * first * second
product_fits size first second h f s =
    let one : size * first ≤ 2 ^ 32 * 512 = mul-le-mul h f in
    let two : size * first * second ≤ 2 ^ 32 * 512 * 4 = mul-le-mul one s in
    let first_fits : size * first % 2 ^ 64 ≡ size * first = mod-eq_of_lt (omega arith) in
    rw first_fits (mod-eq_of_lt (omega arith))

pub returns : goal.returns
returns c =
    let first : 2 ^ (c.args.c_size_mult + 2) ≤ 2 ^ 9 = pow-le-pow_right {n = 2} (omega arith) {i = c.args.c_size_mult + 2} {j = 9} (omega arith) in
    let second : 2 ^ (c.args.read_bl_len - 9) ≤ 2 ^ 2 = pow-le-pow_right {n = 2} (omega arith) {i = c.args.read_bl_len - 9} {j = 2} (omega arith) in
    rw c.from.ensures
    (product_fits (c.args.c_size + 1) (2 ^ (c.args.c_size_mult + 2)) (2 ^ (c.args.read_bl_len - 9)) (omega (arith, c.ranges.c_size.fits)) first second)
