use Rattle.sdv_registers.proofs.sd_cid.SdCid.prv.Goals as goal

pub returns : goal.returns
returns c = c.register_field.ensures.value
