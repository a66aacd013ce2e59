use Rattle.sdv_registers.proofs.csd.Csd.layout.Goals as goal

pub returns : goal.returns
returns c = c.layout_of.ensures
