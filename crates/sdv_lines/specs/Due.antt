-- The data phase that the request of a command announces, by the command table: SD Physical Layer Simplified Specification,
-- section 4.7.4; JESD84-B51, section 6.10.4.
use Rattle.std.specs.Prelude.{◌≡◌, ◌==◌, ◌&&◌, Bool, ℕ, Option, Some, None, if◌then◌else◌}
use Rattle.sdv_frames.specs.declared.command.Command.{Command}
use Rattle.sdv_frames.specs.declared.reply.Expect.{Expect}
use Rattle.sdv_frames.specs.declared.reply.Expect.TheVariants as expects
use Rattle.sdv_card.specs.Port.{Call, Exchange}
use Rattle.sdv_lines.specs.declared.due.Due.{Due}
use Rattle.sdv_lines.specs.declared.due.Announcement.{Announcement}
use Rattle.sdv_lines.specs.declared.due.Load.TheVariants as loads

abbrev pub in_blocks : (count lines : ℕ) → Due
in_blocks count lines = record { load = loads.BlocksIn; count = count; lines = lines }

abbrev pub in_bytes : (count lines : ℕ) → Due
in_bytes count lines = record { load = loads.BytesIn; count = count; lines = lines }

abbrev pub out_blocks : (count lines : ℕ) → Due
out_blocks count lines = record { load = loads.BlocksOut; count = count; lines = lines }

-- by the index of a command that is answered by an R1
abbrev pub due_behind : (index : ℕ) → (application : Bool) → (blocks lines : ℕ) → Option Due
due_behind index application blocks lines =
    if index == 8 then Some (in_bytes 512 lines)
    else if (index == 13) && application then Some (in_bytes 64 lines)
    else if index == 17 then Some (in_blocks 1 lines)
    else if index == 18 then Some (in_blocks blocks lines)
    else if index == 24 then Some (out_blocks 1 lines)
    else if index == 25 then Some (out_blocks blocks lines)
    else if index == 51 then Some (in_bytes 8 lines)
    else None

unfoldable pub due_of : Command → Expect → (application : Bool) → Announcement → Option Due
due_of command (expects.R1 index) application announced =
    if index == command.index then due_behind command.index application announced.blocks announced.lines else None
due_of command expect application announced = None

-- What the request of a call announces: nothing, or the phase that follows the command. How many blocks CMD18 and CMD25 move
-- and over how many data lines the host says.
abbrev pub Announces : Call → Option Due → Type 0
Announces (Exchange command expect) None = Unit {0}
Announces (Exchange command expect) (Some due) =
    (application : Bool) × (announced : Announcement) × (due_of command expect application announced ≡ Some due)
Announces call due = due ≡ None
