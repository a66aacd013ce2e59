-- The course behind a line, as an audit has it.
use Rattle.sdv_registers.specs.declared.kind.Kind.{Kind}
use Rattle.sdv_card.specs.Lists.{May}
use Rattle.sdv_audit.specs.declared.audit.Audit.{Audit}
use Rattle.sdv_audit.specs.declared.turn.Told.{Told}
use Rattle.sdv_audit.specs.Course.{Course, IsAt, course_after}
use Rattle.sdv_audit.specs.Room.{AreMany}
use Rattle.sdv_decode.specs.Decoded.{course_behind}

pub at_behind : (audit : Audit) (k : Kind) (told : Told) (c : Course) → IsAt audit (course_after k told c) → IsAt audit (course_behind k told c)
unfolding course_behind
at_behind audit k told c at = at

pub many_behind : (k : Kind) (told : Told) (c : Course) → AreMany (May (course_after k told c).shapes) → AreMany (May (course_behind k told c).shapes)
unfolding course_behind
many_behind k told c many = many
