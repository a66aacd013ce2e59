-- Which call a fuse fails, what it leaves, and how many calls failed in all.
use Rattle.std.specs.Prelude.{◌≡◌, ◌+◌, ◌-◌, ◌^◌, ℕ, zero, suc, min, Option, Some, None}
use Rattle.sdv_fuse.specs.declared.fuse.Call.{Call}
use Rattle.sdv_fuse.specs.declared.fuse.Call.TheVariants.{Read, Write}
use Rattle.sdv_fuse.specs.declared.fuse.Fuse.{Fuse}

-- the call fails: it is of the fuse's sort, and none of that sort is to go well before
abbrev pub IsDue : Call → Fuse → Type 0
IsDue call fuse = (fuse.call ≡ call) × (fuse.good ≡ Some 0)

-- one call fewer is to go well, and after the one that fails none fails
abbrev pub one_fewer : Option ℕ → Option ℕ
one_fewer None = None
one_fewer (Some zero) = None
one_fewer (Some (suc good)) = Some good

abbrev pub after_call : Call → Call → Option ℕ → Option ℕ
after_call Read Read good = one_fewer good
after_call Write Write good = one_fewer good
after_call call other good = good

-- the fuse after a call
abbrev pub after : Call → Fuse → Fuse
after call fuse = record { call = fuse.call; good = after_call fuse.call call fuse.good }

-- how many calls it failed
abbrev pub failed_by : Option ℕ → ℕ
failed_by None = 1
failed_by (Some good) = 0

-- how many calls failed, with those of what is wrapped: a count that stays at its greatest
abbrev pub failed_in_all : (wrapped : ℕ) → Fuse → ℕ
failed_in_all wrapped fuse = min (wrapped + failed_by fuse.good) (2 ^ 64 - 1)
