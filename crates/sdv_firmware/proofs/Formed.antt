-- Words with something wrong are not well formed.
use Rattle.std.proofs.Common.{ℕ, List}
use Rattle.sdv_table.specs.declared.fault.NoTable.{NoTable}
use Rattle.sdv_table.specs.declared.fault.NoTable.TheVariants as faults
use Rattle.sdv_table.specs.Loading.{IsWellFormed, IsWrong}

pub not_formed : (ws : List ℕ) (fault : NoTable) → IsWrong ws fault → IsWellFormed ws → ⊥
not_formed ws faults.Magic wrong formed = wrong formed.has_magic
not_formed ws faults.Version wrong formed = wrong formed.has_version
not_formed ws faults.Size wrong formed = wrong formed.has_size
not_formed ws faults.Counts wrong formed = wrong formed.has_counts
not_formed ws faults.First wrong formed = wrong formed.first
not_formed ws (faults.Row i) wrong formed = wrong.bad (formed.points i wrong.there)
