-- What the player says, as C sees it.
use Rattle.std.specs.Prelude.{◌≡◌, ◌<◌, ◌==◌, ℕ, zero, suc, List, codes, get_or, length, min, if◌then◌else◌}
use Rattle.sdv_run.specs.declared.next_event.NextEvent.{NextEvent}
use Rattle.sdv_run.specs.declared.next_event.NextEvent.TheVariants as events
use Rattle.sdv_table.specs.declared.sending.Data.{Data}
use Rattle.sdv_table.specs.declared.sending.Data.TheVariants as uses
use Rattle.sdv_table.specs.declared.sending.Sending.{Sending}
use Rattle.sdv_table.specs.Reading.{name_of, sending_at}
use Rattle.sdv_table.specs.Row.{expect_code}
use Rattle.sdv_player.specs.declared.next_step.Next.{Next}
use Rattle.sdv_player.specs.declared.next_step.Next.TheVariants as nexts
use Rattle.sdv_player.specs.declared.state.State.{State}
use Rattle.sdv_firmware.specs.declared.event.Event.{Event}

-- what follows a command on the data lines, and how much of it: blocks, or bytes of a register. After a command that
-- was taken as CMD55, a CMD13 has the SD status behind it.
pub record Follows : Type 0 where
  pub what : ℕ
  pub count : ℕ

abbrev pub follows_by : Data → (blocks app : ℕ) → Follows
follows_by uses.Nothing blocks app = record { what = 0; count = 0 }
follows_by uses.Busy blocks app = record { what = 1; count = 0 }
follows_by uses.BlocksIn blocks app = record { what = 2; count = blocks }
follows_by uses.BlocksOut blocks app = record { what = 3; count = blocks }
follows_by uses.Scr blocks app = record { what = 4; count = 8 }
follows_by uses.SdStatus blocks app =
    if app == 0 then record { what = 0; count = 0 } else record { what = 4; count = 64 }
follows_by uses.ExtCsd blocks app = record { what = 4; count = 512 }

-- a command, as its row says how it is sent
pub record ShowsCommand (e : Event) (index argument blocks app : ℕ) (sending : Sending) : Type 0 where
  pub what_is : e.what ≡ 1
  pub index_is : e.index ≡ index
  pub argument_is : e.argument ≡ argument
  pub expect_is : e.expect ≡ expect_code sending.expect
  pub data_is : e.«data» ≡ (follows_by sending.follows blocks app).what
  pub count_is : e.count ≡ (follows_by sending.follows blocks app).count

-- a phase of so many blocks or bytes
pub record ShowsPhase (e : Event) (what count : ℕ) : Type 0 where
  pub what_is : e.what ≡ what
  pub count_is : e.count ≡ count

-- what a word is divided by for each of its bytes, the lowest one first
abbrev pub below : (place : ℕ) → ℕ
below zero = 1
below (suc zero) = 256
below (suc (suc zero)) = 65536
below place = 16777216

-- the end in the fault of a name: as many of its bytes as there is room for
pub record ShowsFault (e : Event) (name : List ℕ) : Type 0 where
  pub what_is : e.what ≡ 7
  pub count_is : e.count ≡ min (length name) 16
  pub bytes_are : (k : ℕ) → k < e.count → get_or e.name k 0 ≡ get_or name k 0

abbrev pub ShowsEvent : List ℕ → State → Event → NextEvent → Type 0
ShowsEvent table s e (events.Send ask position argument) =
    s.place.point < 65536 → ShowsCommand e ask.index argument ask.count s.app (sending_at table s.place.point)
ShowsEvent table s e (events.ReceiveBlocks lines count) = ShowsPhase e 2 count
ShowsEvent table s e (events.ReceiveRegister lines count) = ShowsPhase e 3 count
ShowsEvent table s e (events.GiveBlocks lines count) = ShowsPhase e 4 count
ShowsEvent table s e events.Wait = e.what ≡ 5

abbrev pub ShowsNext : List ℕ → State → Event → Next → Type 0
ShowsNext table s e (nexts.Event event) = ShowsEvent table s e event
ShowsNext table s e nexts.Done = e.what ≡ 6
ShowsNext table s e (nexts.Fault name) = ShowsFault e (name_of name.length name.words.now)
ShowsNext table s e nexts.Number = ShowsFault e (codes "number")
ShowsNext table s e nexts.Stopped = e.what ≡ 8

-- with the data lines of the host, and the point where it stands
pub record Shows (table : List ℕ) (s : State) (e : Event) (said : Next) : Type 0 where
  pub shown : ShowsNext table s e said
  pub lines : e.lines ≡ s.host.lines
  pub point : s.place.point < 4294967296 → e.point ≡ s.place.point
