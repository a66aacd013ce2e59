-- THE STATUS OF WRITES AND ERASES at a point of a script: whether the blocks of every write command on the way there are
-- known to be stored, and every erase to be done. An error of a write is shown by a later status, at the latest in transfer
-- state.
-- SD Physical Layer Simplified Specification, sections 4.3.4 (data write) and 4.10.1 (card status); JESD84-B51, sections
-- 6.6.9 and 6.13. What a lost answer takes with it is this project's profile.
use Rattle.std.specs.Prelude.{ℕ, List, Bool, true, false, ◌==◌, ◌||◌, ◌&&◌, not, Option, Some, None, slice_get, if◌then◌else◌}
use Rattle.sdv_card.specs.declared.event.Ask.{Ask}
use Rattle.sdv_card.specs.declared.event.Seen.{Seen}
use Rattle.sdv_card.specs.declared.event.Seen.TheVariants as seens
use Rattle.sdv_graph.specs.declared.tree.Phase.{Phase}
use Rattle.sdv_graph.specs.declared.tree.Phase.TheVariants.{GiveBlocks}
use Rattle.sdv_graph.specs.Path.{Action, Point, sends, phases}
use Rattle.sdv_review.specs.declared.finding.Name.TheVariants.{Number}
use Rattle.sdv_review.specs.declared.status.Erase.{Erase}
use Rattle.sdv_review.specs.declared.status.ErasePart.{ErasePart}
use Rattle.sdv_review.specs.declared.status.ErasePart.TheVariants.{First, Last, Cmd38}
use Rattle.sdv_review.specs.declared.status.Status.{Status}
use Rattle.sdv_review.specs.declared.status.Status.TheVariants.{Quiet, Open, Failed, Left, EraseOpen, EraseFailed, EraseLeft, Unknown}
use Rattle.sdv_review.specs.Moves.{moves}
use Rattle.sdv_review.specs.Names.{address_reads}

-- WHAT AN ANSWER TELLS OF AN EARLIER WRITE

-- a status in transfer state, which has the number 4, without a doubt: no error is left to be shown
abbrev pub confirms : Ask → Seen → Bool
confirms ask (seens.Status state false app switch) = (state == 4) && not (ask.index == 3)
confirms ask seen = false

-- an answer without a doubt that was heard: an error that is still to be shown stays so; CMD0 ends it
abbrev pub keeps : Ask → Seen → Bool
keeps ask (seens.Status state false app switch) = not (ask.index == 0)
keeps ask (seens.Ocr ready block) = not (ask.index == 0)
keeps ask seens.Bare = not (ask.index == 0)
keeps ask seens.Sent = not (ask.index == 0)
keeps ask seen = false

abbrev pub told : (point : ℕ) (confirmed kept : Bool) → Status
told point true kept = Quiet
told point false true = Open point
told point false false = Failed point

abbrev pub erase_told : Erase → (confirmed kept : Bool) → Status
erase_told e true kept = Quiet
erase_told e false true = EraseOpen e
erase_told e false false = EraseFailed e

abbrev pub answered : Ask → Seen → Status → Status
answered ask seen (Open point) = told point (confirms ask seen) (keeps ask seen)
answered ask seen (EraseOpen e) = erase_told e (confirms ask seen) (keeps ask seen)
answered ask seen status = status

-- WHAT A COMMAND BEGINS

-- CMD24 and CMD25
abbrev pub is_write : Ask → Bool
is_write ask = (ask.index == 24) || (ask.index == 25)

-- the same write again, whose blocks are still to come; or it is left, by the statement at the next point
abbrev pub again : (same : Bool) → (write next : ℕ) → Status
again true write next = Failed write
again false write next = Left write next

-- A write that has begun counts as failed until a phase of its blocks ends well.
abbrev pub begun : (point : ℕ) → Status → Status
begun point Quiet = Failed point
begun point (Open other) = again (other == point) other point
begun point (Failed other) = again (other == point) other point
begun point (EraseOpen e) = EraseLeft e.first point
begun point (EraseFailed e) = EraseLeft e.first point
begun point status = status

-- AN ERASE is its first block, its last block and CMD38 together.

-- CMD32 and CMD35
abbrev pub is_first : Ask → Bool
is_first ask = (ask.index == 32) || (ask.index == 35)

-- CMD33 and CMD36
abbrev pub is_last : Ask → Bool
is_last ask = (ask.index == 33) || (ask.index == 36)

-- CMD38
abbrev pub is_erase : Ask → Bool
is_erase ask = ask.index == 38

-- a write or an erase begins with it
abbrev pub begins : Ask → Bool
begins ask = is_write ask || is_first ask

abbrev pub part_of : Ask → Option ErasePart
part_of ask =
    if is_first ask then Some First else (if is_last ask then Some Last else (if is_erase ask then Some Cmd38 else None))

-- the erase has no such command yet, or the one at the point
abbrev pub is_or_lacks : Option ℕ → (point : ℕ) → Bool
is_or_lacks None point = true
is_or_lacks (Some other) point = other == point

-- the command at the point is one of this erase
abbrev pub suits : ErasePart → (point : ℕ) → Erase → Bool
suits First point e = e.first == point
suits Last point e = is_or_lacks e.last point
suits Cmd38 point e = is_or_lacks e.cmd38 point

-- the erase with it
abbrev pub with_part : ErasePart → (point : ℕ) → Erase → Erase
with_part First point e = e
with_part Last point e = record { first = e.first; last = Some point; cmd38 = e.cmd38 }
with_part Cmd38 point e = record { first = e.first; last = e.last; cmd38 = Some point }

-- An erase counts as failed until its CMD38 is answered without a doubt.
abbrev pub erase_sent : ErasePart → (kept : Bool) → Erase → Status
erase_sent Cmd38 true e = EraseOpen e
erase_sent part kept e = EraseFailed e

-- the same erase goes on, or it is left
abbrev pub erase_on : (same : Bool) → ErasePart → (point : ℕ) → (kept : Bool) → Erase → Status
erase_on true part point kept e = erase_sent part kept (with_part part point e)
erase_on false part point kept e = EraseLeft e.first point

-- an erase begins with its first block
abbrev pub erase_begun : ErasePart → (point : ℕ) → Status
erase_begun First point = EraseFailed (record { first = point; last = None; cmd38 = None })
erase_begun part point = Unknown

abbrev pub erased : ErasePart → (point : ℕ) → (kept : Bool) → Status → Status
erased part point kept Quiet = erase_begun part point
erased part point kept (Open write) = Left write point
erased part point kept (Failed write) = Left write point
erased part point kept (EraseOpen e) = erase_on (suits part point e) part point kept e
erased part point kept (EraseFailed e) = erase_on (suits part point e) part point kept e
erased part point kept status = status

-- the blocks that the commands of a write or an erase name may be others from the statement at a point on
abbrev pub moved : (point : ℕ) → Status → Status
moved point (Open write) = Left write point
moved point (Failed write) = Left write point
moved point (EraseOpen e) = EraseLeft e.first point
moved point (EraseFailed e) = EraseLeft e.first point
moved point status = status

-- a command that is no write
abbrev pub sent_on : Option ErasePart → (point : ℕ) → (kept move : Bool) → Status → Status
sent_on (Some part) point kept move status = erased part point kept status
sent_on None point kept move status = if move then moved point status else status

abbrev pub sent : (point : ℕ) → Ask → Seen → Status → Status
sent point ask seen status =
    if is_write ask then begun point (answered ask seen status)
    else sent_on (part_of ask) point (keeps ask seen) (moves ask) (answered ask seen status)

-- A WRITE PHASE: it ended well, or it was cut

abbrev pub after_write : (well : Bool) → (point : ℕ) → Status
after_write true point = Open point
after_write false point = Failed point

abbrev pub ends_well : Seen → Bool
ends_well seens.Ok = true
ends_well seen = false

abbrev pub given : Seen → Status → Status
given seen (Open point) = after_write (ends_well seen) point
given seen (Failed point) = after_write (ends_well seen) point
given seen (Left write next) = Left write next
given seen (EraseLeft erase next) = EraseLeft erase next
given seen status = Unknown

abbrev pub after_phase : Phase → Seen → Status → Status
after_phase GiveBlocks seen status = given seen status
after_phase phase seen status = status

-- an event of the statement at a point
abbrev pub after_event : (point : ℕ) → Action → Seen → Status → Status
after_event point (sends c ways other) seen status = sent point c.ask seen status
after_event point (phases p well other) seen status = after_phase p seen status
after_event point action seen status = status

-- A `let`

-- the address of the command is by the variable, or there is no command
abbrev pub action_reads : Action → (variable : ℕ) → Bool
action_reads (sends c ways other) variable = address_reads (Number variable) c.address
action_reads action variable = true

abbrev pub place_reads : Option Point → (variable : ℕ) → Bool
place_reads (Some place) variable = action_reads place.action variable
place_reads None variable = true

-- so is that of the last block of an erase, if it has one yet
abbrev pub last_reads : List Point → (last : Option ℕ) → (variable : ℕ) → Bool
last_reads points (Some point) variable = place_reads (slice_get points point) variable
last_reads points None variable = false

abbrev pub erase_reads : List Point → Erase → (variable : ℕ) → Bool
erase_reads points e variable = place_reads (slice_get points e.first) variable || last_reads points e.last variable

abbrev pub is_moved : List Point → (variable : ℕ) → Status → Bool
is_moved points variable (Open point) = place_reads (slice_get points point) variable
is_moved points variable (Failed point) = place_reads (slice_get points point) variable
is_moved points variable (EraseOpen e) = erase_reads points e variable
is_moved points variable (EraseFailed e) = erase_reads points e variable
is_moved points variable status = false

abbrev pub after_let : List Point → (point variable : ℕ) → Status → Status
after_let points point variable status = if is_moved points variable status then moved point status else status
