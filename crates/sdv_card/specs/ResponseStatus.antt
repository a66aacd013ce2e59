-- What a response tells of the card that gave it: the state, a doubt, an error.
-- SD Physical Layer Simplified Specification, sections 4.9.1 (R1), 4.9.5 (R6) and 4.10.1 (card status);
-- JESD84-B51, sections 6.12 (responses) and 6.13 (device status). What is a doubt is this project's own.
use Rattle.std.specs.Prelude.{Bool, false}
use Rattle.sdv_registers.specs.declared.kind.Kind.{Kind}
use Rattle.sdv_registers.specs.Status.{has_doubt, has_doubt_r6, is_clean as status_is_clean, is_clean_r6}
use Rattle.sdv_frames.specs.declared.reply.Reply.{Reply}
use Rattle.sdv_frames.specs.declared.reply.Reply.TheVariants.{R1, R6}

-- the response leaves it open whether the card took the command or stayed as it was
abbrev pub in_doubt : Reply → Bool
in_doubt (R1 index word) = has_doubt word
in_doubt (R6 word) = has_doubt_r6 word
in_doubt reply = false

-- the response is a status without an error
abbrev pub is_clean : Kind → Reply → Bool
is_clean k (R1 index word) = status_is_clean k word
is_clean k (R6 word) = is_clean_r6 word
is_clean k reply = false
