-- How a line of a trace is understood, by what is known of the host and by the line behind it.
use Rattle.std.specs.Prelude.{ℕ, List, ◌==◌, ◌||◌, ◌&&◌, nat_lt, nat_le, Bool, true, false, Option, Some, None, is_none, if◌then◌else◌}
use Rattle.sdv_registers.specs.declared.kind.Kind.{Kind}
use Rattle.sdv_frames.specs.declared.command.Command.{Command}
use Rattle.sdv_frames.specs.declared.reply.Expect.{Expect}
use Rattle.sdv_card.specs.declared.command.Order.{Order}
use Rattle.sdv_card.specs.declared.event.Aim.{Aim}
use Rattle.sdv_card.specs.declared.event.Aim.TheVariants.{Rca, Plain}
use Rattle.sdv_card.specs.declared.event.Ask.{Ask}
use Rattle.sdv_card.specs.declared.event.Event.{Event}
use Rattle.sdv_card.specs.declared.event.Event.TheVariants.{Send, RecvBlocks, RecvReg, Give, Wait as Waits}
use Rattle.sdv_card.specs.declared.event.Seen.{Seen}
use Rattle.sdv_card.specs.declared.event.Seen.TheVariants.{Sent as SeenSent}
use Rattle.sdv_card.specs.declared.answer.Answer.{Answer}
use Rattle.sdv_card.specs.declared.answer.Answer.TheVariants.{Sent}
use Rattle.sdv_card.specs.CommandTable.{order_of, order_argument, expect_of}
use Rattle.sdv_card.specs.Expected.{is_of_kind}
use Rattle.sdv_card.specs.Code.{digits}
use Rattle.sdv_card.specs.Modes.{has_width}
use Rattle.sdv_card.specs.Outcomes.{phase_seen, wait_seen}
use Rattle.sdv_card.specs.Seen.{answer_seen}
use Rattle.sdv_audit.specs.declared.line.TraceLine.{TraceLine}
use Rattle.sdv_audit.specs.declared.line.TraceLine.TheVariants.{Exchange, BlocksIn, RegisterIn, BlocksOut, Wait, Lines, Running, End}
use Rattle.sdv_audit.specs.declared.known.HostKnown.{HostKnown}
use Rattle.sdv_audit.specs.declared.turn.Told.{Told}
use Rattle.sdv_audit.specs.declared.turn.Deed.{Deed}
use Rattle.sdv_audit.specs.declared.turn.Deed.TheVariants.{Known, Begins}
use Rattle.sdv_audit.specs.declared.turn.Turn.{Turn}
use Rattle.sdv_audit.specs.declared.turn.Turn.TheVariants.{Ends, Outside, Uses, Resumes, OtherLength, Does}
use Rattle.sdv_audit.specs.Known.{known_after_order, known_running}
use Rattle.sdv_audit.specs.Possible.{is_possible}

-- THE BLOCKS THAT A COMMAND ANNOUNCES. No frame of CMD18 and CMD25 carries them: they are those of the data phase right
-- behind it. Where none stands there, the next data phase tells them, however far it is, or nothing does.

-- the blocks of a data phase
abbrev pub phase_count : Option TraceLine → Option ℕ
phase_count (Some (BlocksIn count end)) = Some count
phase_count (Some (BlocksOut count end)) = Some count
phase_count next = None

abbrev pub count_or_one : Option ℕ → ℕ
count_or_one None = 1
count_or_one (Some count) = count

-- CMD18 and CMD25
abbrev pub is_counted : ℕ → Bool
is_counted index = (index == 18) || (index == 25)

abbrev pub count_told : (index argument : ℕ) → Option TraceLine → ℕ
count_told index argument next =
    if (index == 17) || (index == 24) then 1
    else (if is_counted index then count_or_one (phase_count next)
    else (if (index == 23) && nat_lt argument 65536 then argument else 0))

-- the command announces blocks, and no line tells yet how many
abbrev pub begins : (index : ℕ) → Option TraceLine → Bool
begins index next = is_counted index && is_none (phase_count next)

-- as many as a command can announce
abbrev pub is_count : ℕ → Bool
is_count n = nat_le 1 n && nat_le n 65535

-- THE ASK: the line of the command table that the host sends so

-- the command table has the order, and the host sends this argument with it
abbrev pub sends : Option Order → (own rca argument : ℕ) → Bool
sends None own rca argument = false
sends (Some order) own rca argument = order_argument order own rca argument == argument

abbrev pub is_sent : Kind → (rca argument : ℕ) → Ask → Bool
is_sent k rca argument ask = sends (order_of k ask) ask.argument rca argument

abbrev pub ask_with : (index : ℕ) → Aim → (argument count : ℕ) → Ask
ask_with index aim argument count = record { index = index; aim = aim; argument = argument; count = count }

abbrev pub ask_if : Bool → Ask → Option Ask → Option Ask
ask_if is ask other = if is then Some ask else other

-- the host waits for an answer, be there one or not
abbrev pub is_awaited : Answer → Bool
is_awaited Sent = false
is_awaited answer = true

-- A command with the host's relative card address; without an argument of its own; or with one. A host whose address
-- is 0 sends the same bits by two asks: one CMD7 addresses the card, the other one addresses none. What came of it tells
-- which one it was, as the host waits for an answer where it addresses a card.
abbrev pub ask_told : Kind → (rca : ℕ) → Command → Answer → Option TraceLine → Option Ask
ask_told k rca c answer next =
    let counted : Ask = ask_with c.index Plain 0 (count_told c.index c.argument next) in
    let own : Ask = ask_with c.index Plain c.argument 0 in
    let addressed : Ask = ask_with c.index Rca 0 0 in
    ask_if (is_sent k rca c.argument addressed && is_awaited answer) addressed (
    ask_if (is_sent k rca c.argument counted) counted (
    ask_if (is_sent k rca c.argument own) own (
    ask_if (is_sent k rca c.argument addressed) addressed None)))

-- WHAT THE HOST DOES. Where no line tells how many blocks a command announces, it does so with any number.

abbrev pub transfer_index : (write : Bool) → ℕ
transfer_index write = if write then 25 else 18

abbrev pub transfer_ask : (write : Bool) → (count : ℕ) → Ask
transfer_ask write count = ask_with (transfer_index write) Plain 0 count

-- the only count that is legal at a code with a preset count; else any is as good as one
abbrev pub count_at : (code : ℕ) → ℕ
count_at code = if (digits code).preset == 0 then 1 else (digits code).preset

-- the event at a code; of those with an untold count, the one that is legal if any is
abbrev pub event_at : Deed → (code : ℕ) → Event
event_at (Known event) code = event
event_at (Begins write) code = Send (transfer_ask write (count_at code))

-- THE TURN

abbrev pub turn_of_ask : (untold write : Bool) → Option Ask → Turn
turn_of_ask untold write None = Outside
turn_of_ask true write (Some ask) = Does (Begins write)
turn_of_ask false write (Some ask) = Does (Known (Send ask))

-- a data phase is as long as was announced, or asked for, last
abbrev pub turn_of_phase : Event → (count : ℕ) → (due : Option ℕ) → Turn
turn_of_phase event count None = if is_count count then Does (Known event) else Outside
turn_of_phase event count (Some due) = if count == due then Does (Known event) else OtherLength due

abbrev pub turn_of_line : Kind → HostKnown → TraceLine → Option TraceLine → Turn
turn_of_line k known (Exchange command answer) next =
    turn_of_ask (begins command.index next) (command.index == 25) (ask_told k known.rca command answer next)
turn_of_line k known (BlocksIn count end) next = turn_of_phase RecvBlocks count known.announced
turn_of_line k known (RegisterIn count end) next = turn_of_phase RecvReg count (Some known.register_length)
turn_of_line k known (BlocksOut count end) next = turn_of_phase Give count known.announced
turn_of_line k known (Wait end) next = Does (Known Waits)
turn_of_line k known (Lines width) next = if has_width k width then Uses width else Outside
turn_of_line k known (Running rca lines) next = Resumes rca lines
turn_of_line k known End next = Ends

abbrev pub turn_of : Kind → HostKnown → Told → Turn
turn_of k known told = turn_of_line k known told.line told.next

-- WHAT IS KNOWN OF THE HOST after a line

abbrev pub known_after_send : Option Order → TraceLine → HostKnown → HostKnown
known_after_send order (Exchange command answer) known = known_after_order order answer known
known_after_send order line known = known

-- a data phase tells how many blocks were announced
abbrev pub known_after_phase : TraceLine → HostKnown → HostKnown
known_after_phase (BlocksIn count end) known = record known { announced = Some count }
known_after_phase (BlocksOut count end) known = record known { announced = Some count }
known_after_phase line known = known

abbrev pub known_after_deed : Kind → Deed → TraceLine → HostKnown → HostKnown
known_after_deed k (Known (Send ask)) line known = known_after_send (order_of k ask) line known
known_after_deed k (Known event) line known = known_after_phase line known
known_after_deed k (Begins write) line known = record known { announced = None }

abbrev pub known_after : Kind → Turn → TraceLine → HostKnown → HostKnown
known_after k (Does deed) line known = known_after_deed k deed line known
known_after k (Uses width) line known = record known { lines = width }
known_after k (Resumes rca lines) line known = known_running rca lines
known_after k turn line known = known

-- WHAT THE TABLES SEE of a line, at a card with or without a pending switch error

abbrev pub line_seen : Kind → (pending : Bool) → TraceLine → Seen
line_seen k pending (Exchange command answer) = answer_seen k pending answer
line_seen k pending (BlocksIn count end) = phase_seen end
line_seen k pending (RegisterIn count end) = phase_seen end
line_seen k pending (BlocksOut count end) = phase_seen end
line_seen k pending (Wait end) = wait_seen end
line_seen k pending line = SeenSent

-- THE FORMAT of a response is the one that the host waits for, and some card may give it

abbrev pub is_expected_answer : Expect → TraceLine → Bool
is_expected_answer expect (Exchange command answer) = is_of_kind expect answer
is_expected_answer expect line = true

abbrev pub is_expected : Kind → (csd : Option (List ℕ)) → Deed → TraceLine → Bool
is_expected k csd (Known (Send ask)) line =
    is_expected_answer (expect_of k ask) line && is_possible k csd (order_of k ask) line
is_expected k csd (Known event) line = true
is_expected k csd (Begins write) line = is_expected_answer (expect_of k (transfer_ask write 1)) line
