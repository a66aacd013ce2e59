use Rattle.std.proofs.Common.{◌≡◌, ◌/◌, ◌∙◌, sym, arith}
use Rattle.std.proofs.lemmas.Nat.{and_mask}
use Rattle.sdv_registers.proofs.FieldLaws.{field-bits}
use Rattle.sdv_registers.proofs.ext_csd.ExtCsd.partition_access.Goals as goal

pub returns : goal.returns
returns c =
    let low : c.partition_config.result / 1 ≡ c.partition_config.result = omega arith in
    let bits = rw low at (field-bits 7 2 0 c.partition_config.result (omega arith) (omega arith)) in
    rw (← c.partition_config.ensures) (and_mask c.partition_config.result 3 ∙ sym bits)
