-- What is SEEN of the state of a player: where a run stands, and what its host knows.
use Rattle.std.specs.Prelude.{◌≡◌, ◌==◌, ◌≤◌, ℕ, zero, suc, List, [], ◌∷◌, length, take, slice_index, Option, Some, None, option_map, if◌then◌else◌}
use Rattle.sdv_frames.specs.Bits.{bits_of}
use Rattle.sdv_registers.specs.declared.kind.Kind.{Kind}
use Rattle.sdv_registers.specs.declared.kind.Kind.TheVariants.{Sd, Emmc}
use Rattle.sdv_registers.specs.Csd.{blocks}
use Rattle.sdv_registers.specs.ExtCsd.{sec_count, boot_blocks}
use Rattle.sdv_card.specs.declared.state.Width.{Width}
use Rattle.sdv_card.specs.declared.state.Width.TheVariants.{One, Four, Eight}
use Rattle.sdv_card.specs.Host.{Host}
use Rattle.sdv_graph.specs.declared.graph.Target.{Target}
use Rattle.sdv_graph.specs.Path.{Stand, turns_at}
use Rattle.sdv_player.specs.declared.host.HostNumbers.{HostNumbers}
use Rattle.sdv_player.specs.declared.place.Place.{Place}
use Rattle.sdv_player.specs.declared.state.State.{State}

-- WHERE A RUN STANDS

-- the first n numbers, the last of them first
abbrev pub backward : ℕ → List ℕ → List ℕ
backward zero xs = []
backward (suc n) xs = slice_index xs n ∷ backward n xs

-- the turns left of the loops round the point, the innermost first
abbrev pub turns_of : Place → List ℕ
turns_of p = backward p.depth p.turns

-- the number of no point, since a table counts its points in 16 bits
abbrev pub nowhere : ℕ
nowhere = 65535

-- WHAT THE HOST KNOWS

abbrev pub kind_of : HostNumbers → Kind
kind_of s = if s.kind == 0 then Sd else Emmc

abbrev pub lines_of : ℕ → Width
lines_of n = if n == 4 then Four else (if n == 8 then Eight else One)

-- the variables that the script declares
abbrev pub variables_of : HostNumbers → List ℕ
variables_of s = take s.declared s.variables

-- the last CSD and EXT_CSD that the host read
pub record Registers : Type 0 where
  pub csd : Option (List ℕ)
  pub ext_csd : Option (List ℕ)

-- the host, with the registers that it read
abbrev pub host_of : HostNumbers → Registers → Host
host_of s r = record {
  numbers = variables_of s;
  flags = s.flags;
  rca = s.rca;
  lines = lines_of s.lines;
  csd = r.csd;
  ext_csd = r.ext_csd;
  announced = s.announced;
  register_length = s.register_length;
}

-- a number of a register, if that was read
abbrev pub if_read : (read number : ℕ) → Option ℕ
if_read read number = if read == 0 then None else Some number

-- of the registers the state has what a script can ask for
pub record Remembers (s : HostNumbers) (r : Registers) : Type 0 where
  pub csd : option_map (λ bytes. blocks (kind_of s) (bits_of bytes)) r.csd ≡ if_read s.csd_read s.csd_blocks
  pub ext_blocks : option_map sec_count r.ext_csd ≡ if_read s.ext_read s.ext_blocks
  pub ext_boot : option_map boot_blocks r.ext_csd ≡ if_read s.ext_read s.ext_boot

-- where the run stands, and what its host knows
abbrev pub stand_of : State → Registers → Stand
stand_of s r = record { point = s.place.point; turns = turns_of s.place; host = host_of s.host r }

-- before the first command it read none
abbrev pub no_registers : Registers
no_registers = record { csd = None; ext_csd = None }

-- a place is where a target leads from another one, where at most four loops stand round it
pub record Gone (t : Target) (p p' : Place) : Type 0 where
  pub point : length (turns_at t (turns_of p)) ≤ 4 → p'.point ≡ t.to
  pub turns : length (turns_at t (turns_of p)) ≤ 4 → turns_of p' ≡ turns_at t (turns_of p)
