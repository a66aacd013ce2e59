-- What a player makes of an answer to a command is what the run makes of it.
use Rattle.std.proofs.Common.{◌≡◌, ◌&&◌, ℕ, zero, suc, List, [], ◌∷◌, true, false, Option, Some, None, Ok, Err, refl, sym, ap, ◌∙◌, subst}
use Rattle.sdv_registers.specs.declared.kind.Kind.{Kind}
use Rattle.sdv_frames.specs.declared.reply.Reply.TheVariants.{R1, R2, R3, R6, R7}
use Rattle.sdv_card.specs.declared.answer.Answer.{Answer}
use Rattle.sdv_card.specs.declared.answer.Answer.TheVariants.{Sent, TimeOut, Reply as Replied, Damaged}
use Rattle.sdv_card.specs.declared.command.Order.{Order}
use Rattle.sdv_card.specs.declared.command.Order.TheVariants.{SendCsd}
use Rattle.sdv_card.specs.declared.event.Ask.{Ask}
use Rattle.sdv_card.specs.Card.{Block}
use Rattle.sdv_card.specs.CommandTable.{order_of, expect_of, argument_of}
use Rattle.sdv_card.specs.Expected.{is_of_kind}
use Rattle.sdv_card.specs.Host.{Host, host_after, host_after_order}
use Rattle.sdv_card.specs.ScriptEvent.{ScriptEvent, SendCommand, ReceiveBlocks, ReceiveRegister, GiveBlocks, AwaitReady, Return, Answered, BlocksIn, RegisterIn, BlocksOut, Waited, MayReturn}
use Rattle.sdv_card.proofs.RowsOfOrders.{order_index}
use Rattle.sdv_card.proofs.OrdersOfAsks.{line_of}
use Rattle.sdv_graph.specs.declared.graph.Target.{Target}
use Rattle.sdv_graph.specs.declared.tree.ScriptCommand.{ScriptCommand}
use Rattle.sdv_graph.specs.declared.tree.Phase.{Phase}
use Rattle.sdv_graph.specs.declared.tree.Phase.TheVariants as kinds
use Rattle.sdv_graph.specs.AddressSent.{position_of_command, address_of_command}
use Rattle.sdv_graph.specs.ValueOfLet.{value_of_let, with_number}
use Rattle.sdv_graph.specs.Walk.{exactly, command_deed, phase_deed}
use Rattle.sdv_graph.specs.Path.{Case, Action, sends, phases, lets, tests, flags, widths, heads, jumps, stops, Stand, Move, Goes, Does, arrive, way_of, move_with, action_move}
use Rattle.sdv_run.specs.declared.fault.RunFault.TheVariants.{Reply}
use Rattle.sdv_run.specs.declared.returned.Returned.TheVariants as told
use Rattle.sdv_run.specs.Answers.{has_readable_csd, is_taken}
use Rattle.sdv_run.specs.Takes.{Told, goes_on_with, Took, IsLedTo, IsEvent}
use Rattle.sdv_table.specs.declared.sending.Sending.{Sending}
use Rattle.sdv_table.specs.Fits.{HasOrder}
use Rattle.sdv_table.specs.Sending.{sending_of, host_by}
use Rattle.sdv_table.proofs.Enough.{enough}
use Rattle.sdv_player.specs.Rows.{IsNoCommand}
use Rattle.sdv_player.specs.Hearing.{is_csd, is_readable, is_heard}

-- WHICH ANSWERS

csd_same : (k : Kind) (answer : Answer) → is_csd k answer ≡ has_readable_csd k (Some SendCsd) answer
csd_same k (Replied (R2 register)) = refl
csd_same k (Replied (R1 i w)) = refl
csd_same k (Replied (R3 w)) = refl
csd_same k (Replied (R6 w)) = refl
csd_same k (Replied (R7 w)) = refl
csd_same k Sent = refl
csd_same k TimeOut = refl
csd_same k (Damaged f) = refl

readable_by : (k : Kind) (order : Order) (answer : Answer) → is_readable k (order_index order) answer ≡ has_readable_csd k (Some order) answer
readable_by k SendCsd answer = csd_same k answer
readable_by k order answer = refl

-- the row says which answers the run takes
pub heard_is_taken : (k : Kind) (ask : Ask) (sending : Sending) (answer : Answer) → sending ≡ sending_of k ask → HasOrder k ask →
    is_heard k ask sending answer ≡ is_taken k ask answer
heard_is_taken k ask sending answer same has =
    let line = line_of k ask has.0 has.1.line in
    let readable : is_readable k ask.index answer ≡ has_readable_csd k (order_of k ask) answer =
    ap (λ i. is_readable k i answer) line.index ∙ readable_by k has.0 answer ∙ ap (λ o. has_readable_csd k o answer) (sym has.1.line) in
    ap (λ s. is_heard k ask s answer) same ∙ ap (λ b. is_of_kind (expect_of k ask) answer && b) readable

-- A COMMAND

module _ (k : Kind) (c : ScriptCommand) (cases : List Case) (other : Target) (ts : List ℕ) (h : Host) (sending : Sending) (a : Answer)
    (same : sending ≡ sending_of k c.ask) (has : HasOrder k c.ask) where
  abbrev at_position : ℕ → Move
  at_position position = Does (command_deed k c h position) h (λ returned h'. arrive (way_of k cases other returned) ts h')

  -- the host after it
  host_same : host_by c.ask sending a h ≡ host_after_order (order_of k c.ask) a h
  host_same = ap (λ s. host_by c.ask s a h) same ∙ (enough k c.ask has).host a h

  abbrev Arrives : ScriptEvent → Return → Type 0
  Arrives event seen =
      (goes_on_with k event seen ≡ true)
      × (arrive (way_of k cases other (Answered a)) ts (host_by c.ask sending a h) ≡ arrive (way_of k cases other seen) ts (host_after k event seen h))

  took_one : (position argument : ℕ) (held : List Block) (event : ScriptEvent) (seen : Return) → is_taken k c.ask a ≡ true →
      Told (exactly (SendCommand c.ask position argument)) (told.Answered a) held event seen → Arrives event seen
  took_one position argument held event (Answered answer) taken t =
      subst (λ e. Arrives e (Answered answer)) (sym t.is)
      (subst (λ v. Arrives (SendCommand c.ask position argument) (Answered v)) (sym t.tells)
      (taken, ap (λ v. arrive (way_of k cases other (Answered a)) ts v) host_same))
  took_one position argument held event (BlocksIn end blocks) taken t = absurd t.tells
  took_one position argument held event (RegisterIn end bytes) taken t = absurd t.tells
  took_one position argument held event (BlocksOut end) taken t = absurd t.tells
  took_one position argument held event (Waited end) taken t = absurd t.tells

  took_at : (o : Option ℕ) → is_taken k c.ask a ≡ true →
      Took k (move_with o at_position) (told.Answered a) (arrive (way_of k cases other (Answered a)) ts (host_by c.ask sending a h)) (Ok tt)
  took_at None taken = tt
  took_at (Some position) taken = λ held event seen t.
      took_one position (argument_of k c.ask h.rca (address_of_command h c.address position)) held event seen taken t

  -- an answer that is heard is taken, and leads on
  pub took_answer : is_heard k c.ask sending a ≡ true →
      Took k (action_move k (sends c cases other) ts h) (told.Answered a) (arrive (way_of k cases other (Answered a)) ts (host_by c.ask sending a h)) (Ok tt)
  took_answer heard = took_at (position_of_command h c.address) (sym (heard_is_taken k c.ask sending a same has) ∙ heard)

  led_at : (o : Option ℕ) (h' : Host) → IsEvent (move_with o at_position) →
      IsLedTo (move_with o at_position) (arrive (way_of k cases other (Answered a)) ts h')
  led_at None h' event = absurd event
  led_at (Some position) h' event = (Answered a, h', refl)

  pub led_answer : (h' : Host) → IsEvent (action_move k (sends c cases other) ts h) →
      IsLedTo (action_move k (sends c cases other) ts h) (arrive (way_of k cases other (Answered a)) ts h')
  led_answer h' event = led_at (position_of_command h c.address) h' event

  -- AN ANSWER THAT IS REFUSED

  refused_one : (position argument : ℕ) (held : List Block) (event : ScriptEvent) (seen : Return) → is_taken k c.ask a ≡ false →
      Told (exactly (SendCommand c.ask position argument)) (told.Answered a) held event seen → goes_on_with k event seen ≡ false
  refused_one position argument held event (Answered answer) refused t =
      subst (λ e. goes_on_with k e (Answered answer) ≡ false) (sym t.is) (ap (λ v. is_taken k c.ask v) t.tells ∙ refused)
  refused_one position argument held event (BlocksIn end blocks) refused t = absurd t.tells
  refused_one position argument held event (RegisterIn end bytes) refused t = absurd t.tells
  refused_one position argument held event (BlocksOut end) refused t = absurd t.tells
  refused_one position argument held event (Waited end) refused t = absurd t.tells

  refused_at : (o : Option ℕ) (stand : Stand) → is_taken k c.ask a ≡ false → Took k (move_with o at_position) (told.Answered a) stand (Err Reply)
  refused_at None stand refused = tt
  refused_at (Some position) stand refused = λ held event seen t. (
    refl,
    refused_one position (argument_of k c.ask h.rca (address_of_command h c.address position)) held event seen refused t,
  )

  pub refused_answer : (stand : Stand) → is_heard k c.ask sending a ≡ false →
      Took k (action_move k (sends c cases other) ts h) (told.Answered a) stand (Err Reply)
  refused_answer stand refused =
      refused_at (position_of_command h c.address) stand (sym (heard_is_taken k c.ask sending a same has) ∙ refused)

-- WHERE NO COMMAND STANDS

module _ (k : Kind) (a : Answer) (h : Host) (stand : Stand) (held : List Block) (event : ScriptEvent) where
  no_answer : (wanted : ScriptEvent) (seen : Return) → event ≡ wanted → MayReturn event seen → ((answer : Answer) → MayReturn wanted (Answered answer) → ⊥) →
      Told (exactly wanted) (told.Answered a) held event seen → ⊥
  no_answer wanted (Answered answer) is fits none t = none answer (subst (λ e. MayReturn e (Answered answer)) is fits)
  no_answer wanted (BlocksIn end blocks) is fits none t = t.tells
  no_answer wanted (RegisterIn end bytes) is fits none t = t.tells
  no_answer wanted (BlocksOut end) is fits none t = t.tells
  no_answer wanted (Waited end) is fits none t = t.tells

  no_given : (seen : Return) (blocks : List Block) → event ≡ GiveBlocks h.lines blocks →
      Told (phase_deed kinds.GiveBlocks h) (told.Answered a) held event seen → ⊥
  no_given (Answered answer) blocks is t = subst (λ e. MayReturn e (Answered answer)) is t.fits
  no_given (BlocksIn end bs) blocks is t = t.tells
  no_given (RegisterIn end bytes) blocks is t = t.tells
  no_given (BlocksOut end) blocks is t = t.tells
  no_given (Waited end) blocks is t = t.tells

  no_phase : (p : Phase) (seen : Return) → Told (phase_deed p h) (told.Answered a) held event seen → ⊥
  no_phase kinds.ReceiveBlocks seen t = no_answer (ReceiveBlocks h.lines h.announced) seen t.is t.fits (λ answer f. f) t
  no_phase kinds.ReceiveRegister seen t = no_answer (ReceiveRegister h.lines h.register_length) seen t.is t.fits (λ answer f. f) t
  no_phase kinds.GiveBlocks seen t = no_given seen t.is.0 t.is.2 t
  no_phase kinds.Wait seen t = no_answer AwaitReady seen t.is t.fits (λ answer f. f) t

took_nothing : (k : Kind) (o : Option ℕ) (on : ℕ → Stand) (a : Answer) (stand : Stand) →
    Took k (move_with o (λ n. Goes (on n))) (told.Answered a) stand (Err Reply)
took_nothing k None on a stand = tt
took_nothing k (Some n) on a stand = tt

-- no answer is taken there
pub no_command : (k : Kind) (action : Action) (ts : List ℕ) (h : Host) (a : Answer) (stand : Stand) → IsNoCommand (Some action) →
    Took k (action_move k action ts h) (told.Answered a) stand (Err Reply)
no_command k (sends c cases other) ts h a stand none = absurd none
no_command k (phases p well other) ts h a stand none = λ held event seen t. absurd (no_phase k a h stand held event p seen t)
no_command k (lets l t) ts h a stand none = took_nothing k (value_of_let k h l) (λ n. arrive t ts (with_number h l.target n)) a stand
no_command k (tests c holds other) ts h a stand none = tt
no_command k (flags f on t) ts h a stand none = tt
no_command k (widths width t) ts h a stand none = tt
no_command k (heads n body other) [] h a stand none = tt
no_command k (heads n body other) (zero ∷ ts) h a stand none = tt
no_command k (heads n body other) (suc t ∷ ts) h a stand none = tt
no_command k (jumps t) ts h a stand none = tt
no_command k (stops last) ts h a stand none = tt
