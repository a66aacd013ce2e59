-- What a player makes of an answer to a command, by the command's row.
use Rattle.std.specs.Prelude.{◌==◌, ◌&&◌, ℕ, List, Bool, true, false, Option, Some, None, is_none, option_map, if◌then◌else◌}
use Rattle.std.specs.Borrow.{Bor}
use Rattle.sdv_frames.specs.Bits.{bits_of}
use Rattle.sdv_frames.specs.declared.reply.Reply.TheVariants.{R1, R2}
use Rattle.sdv_registers.specs.declared.kind.Kind.{Kind}
use Rattle.sdv_registers.specs.Csd.{fault}
use Rattle.sdv_registers.specs.Status.{is_app_cmd}
use Rattle.sdv_card.specs.declared.event.Ask.{Ask}
use Rattle.sdv_card.specs.declared.answer.Answer.{Answer}
use Rattle.sdv_card.specs.declared.answer.Answer.TheVariants.{TimeOut, Reply, Damaged}
use Rattle.sdv_card.specs.Expected.{is_of_kind}
use Rattle.sdv_graph.specs.declared.tree.Phase.{Phase}
use Rattle.sdv_graph.specs.declared.tree.Phase.TheVariants as phases
use Rattle.sdv_graph.specs.Path.{Action, sends}
use Rattle.sdv_table.specs.declared.sending.Sending.{Sending}
use Rattle.sdv_table.specs.Sending.{csd_by}
use Rattle.sdv_player.specs.Seen.{Registers}

-- A DAMAGED ANSWER IS A LOST ONE: bytes that are no response of the format that was waited for are none in time
abbrev pub heard : Answer → Answer
heard (Damaged fault) = TimeOut
heard answer = answer

-- an R2 to CMD9 has a CSD that can be read
abbrev pub is_csd : Kind → Answer → Bool
is_csd k (Reply (R2 register)) = is_none (fault k (bits_of register))
is_csd k answer = true

abbrev pub is_readable : Kind → (index : ℕ) → Answer → Bool
is_readable k index answer = if index == 9 then is_csd k answer else true

-- a run goes on with the answer
abbrev pub is_heard : Kind → Ask → Sending → Answer → Bool
is_heard k ask sending answer = is_of_kind sending.expect answer && is_readable k ask.index answer

-- the registers that the host then read
abbrev pub registers_after : (index : ℕ) → Answer → Registers → Registers
registers_after index answer r = record r { csd = csd_by index answer r.csd }

-- the bytes that came, if they did
abbrev pub bytes_of : Option (Bor (List ℕ)) → Option (List ℕ)
bytes_of register = option_map (λ bytes. bytes.now) register

-- the registers that the host read, after a register phase of so many bytes that ended well
abbrev pub registers_kept : (count : ℕ) → (came : Option (List ℕ)) → Registers → Registers
registers_kept count None r = r
registers_kept count (Some bytes) r = if count == 512 then record r { ext_csd = Some bytes } else r

-- and after any phase, or a wait
abbrev pub registers_ended : Phase → (well : Bool) → (count : ℕ) → (came : Option (List ℕ)) → Registers → Registers
registers_ended phases.ReceiveRegister true count came r = registers_kept count came r
registers_ended phase well count came r = r

-- APPLICATION COMMANDS: SD Physical Layer Simplified Specification, sections 4.3.9 and 4.10.1

-- the answer is an R1 with APP_CMD: the card takes the next command as an application command
abbrev pub has_app : Answer → Bool
has_app (Reply (R1 index status)) = is_app_cmd status
has_app answer = false

-- the command of a statement was taken as CMD55
abbrev pub is_app_taken : Option Action → Answer → Bool
is_app_taken (Some (sends c cases other)) answer = (c.ask.index == 55) && has_app answer
is_app_taken action answer = false
