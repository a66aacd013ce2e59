use Rattle.std.proofs.Common.{map}
use Rattle.sdv_program.specs.Uses.{seen_role}
use Rattle.sdv_program.proofs.UsesLaws.{AreApartTo}
use Rattle.sdv_program.proofs.uses.clash.Given as goal

-- the roles before this one stay off those before them
abbrev pub invariant-loop-place : goal.invariant-loop-place
invariant-loop-place g l = AreApartTo (g.S.Store.known l.files) (map seen_role l.roles) l.place
