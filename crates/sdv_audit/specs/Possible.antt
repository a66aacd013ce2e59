-- Answers that no card gives, in any state: what the tables do not see of an answer.
-- SD Physical Layer Simplified Specification, sections 4.3.13 (CMD8), 4.2.3.1 (ACMD41), 4.2.2.3 (CMD3) and 5.3 (CSD);
-- JESD84-B51, sections 6.4 and 7.3.
use Rattle.std.specs.Prelude.{ℕ, ◌%◌, ◌==◌, ◌||◌, ◌&&◌, not, Bool, true, false, List, Option, Some, None, is_none}
use Rattle.sdv_frames.specs.Bits.{Bits, bits_of}
use Rattle.sdv_frames.specs.declared.reply.Reply.{Reply}
use Rattle.sdv_frames.specs.declared.reply.Reply.TheVariants.{R2, R3, R6, R7}
use Rattle.sdv_registers.specs.declared.kind.Kind.{Kind}
use Rattle.sdv_registers.specs.Csd.{csd_structure, read_bl_len, c_size, c_size_mult_of, layout, fault}
use Rattle.sdv_registers.specs.Ocr.{voltage_windows}
use Rattle.sdv_registers.specs.Status.{rca}
use Rattle.sdv_card.specs.declared.answer.Answer.TheVariants.{Reply as Replied}
use Rattle.sdv_card.specs.declared.command.Order.{Order}
use Rattle.sdv_card.specs.declared.command.Order.TheVariants.{SendIfCond, SendOpCond, SdSendOpCond, SendRelativeAddress, SendCsd}
use Rattle.sdv_card.specs.ResponseStatus.{in_doubt}
use Rattle.sdv_audit.specs.declared.line.TraceLine.{TraceLine}
use Rattle.sdv_audit.specs.declared.line.TraceLine.TheVariants.{Exchange}

-- C_SIZE_MULT, where the layout has it
abbrev pub same_mult : Option ℕ → Option ℕ → Bool
same_mult None None = true
same_mult (Some a) (Some b) = a == b
same_mult a b = false

-- the fields by which the capacity is computed are the same
abbrev pub same_capacity : Kind → (a b : Bits) → Bool
same_capacity k a b =
    (csd_structure a == csd_structure b) && (read_bl_len a == read_bl_len b)
    && (c_size (layout k a) a == c_size (layout k b) b)
    && same_mult (c_size_mult_of (layout k a) a) (c_size_mult_of (layout k b) b)

-- A card has one capacity. The rest of its CSD may change: some bits can be written, and a switch of the bus speed
-- changes TRAN_SPEED.
abbrev pub agrees : Kind → (known : Option (List ℕ)) → Bits → Bool
agrees k None csd = true
agrees k (Some known) csd = is_none (fault k (bits_of known)) && same_capacity k (bits_of known) csd

abbrev pub is_possible_csd : Kind → (known : Option (List ℕ)) → (bytes : List ℕ) → Bool
is_possible_csd k known bytes = is_none (fault k (bits_of bytes)) && agrees k known (bits_of bytes)

-- Some card may respond so: with the pattern that the host sent, with all voltage windows, with a relative card address
-- other than 0 unless an error leaves a doubt, and with a CSD that tells a capacity, the one that the host knows.
abbrev pub is_possible_reply : Kind → (csd : Option (List ℕ)) → Order → Reply → Bool
is_possible_reply k csd SendIfCond (R7 word) = word % 4096 == 0x1aa
is_possible_reply k csd SendOpCond (R3 word) = voltage_windows word == 511
is_possible_reply k csd (SdSendOpCond high) (R3 word) = voltage_windows word == 511
is_possible_reply k csd SendRelativeAddress (R6 word) = in_doubt (R6 word) || not (rca word == 0)
is_possible_reply k csd SendCsd (R2 bytes) = is_possible_csd k csd bytes
is_possible_reply k csd order reply = true

abbrev pub is_possible : Kind → (csd : Option (List ℕ)) → Option Order → TraceLine → Bool
is_possible k csd (Some order) (Exchange command (Replied reply)) = is_possible_reply k csd order reply
is_possible k csd order line = true
