-- No phase of blocks is longer than the most that a command of the graph announces.
use Rattle.std.proofs.Common.{◌≡◌, ℕ, zero, suc, ◌≤◌, List, [], ◌∷◌, Option, Some, None, refl, sym, subst}
use Rattle.std.specs.Prelude.{if◌then◌else◌}
use Rattle.sdv_registers.specs.declared.kind.Kind.{Kind}
use Rattle.sdv_card.specs.declared.answer.Answer.{Answer}
use Rattle.sdv_card.specs.declared.command.Order.{Order}
use Rattle.sdv_card.specs.declared.command.Order.TheVariants.{ReadSingleBlock, ReadMultipleBlock, WriteBlock, WriteMultipleBlock}
use Rattle.sdv_card.specs.declared.event.Ask.{Ask}
use Rattle.sdv_card.specs.declared.guard.Guard.TheVariants.{Ok as WentWell}
use Rattle.sdv_card.specs.Guards.{passes}
use Rattle.sdv_card.specs.CommandTable.{order_of, argument_of}
use Rattle.sdv_card.specs.declared.state.Width.{Width}
use Rattle.sdv_card.specs.Host.{Host, announced_by, host_after_order, host_after}
use Rattle.sdv_card.proofs.OrdersOfAsks.{WritesCount, line_of}
use Rattle.sdv_card.specs.ScriptEvent.{ScriptEvent, SendCommand, ReceiveBlocks, ReceiveRegister, GiveBlocks, AwaitReady, Return, Answered, BlocksIn, RegisterIn, BlocksOut, Waited}
use Rattle.sdv_graph.specs.declared.graph.Target.{Target}
use Rattle.sdv_graph.specs.declared.tree.Phase.TheVariants as kinds
use Rattle.sdv_graph.specs.AddressSent.{position_of_command, address_of_command}
use Rattle.sdv_graph.specs.Conditions.{condition_holds, with_flag, with_lines}
use Rattle.sdv_graph.specs.ValueOfLet.{value_of_let, with_number}
use Rattle.sdv_graph.specs.Walk.{exactly, giving, command_deed}
use Rattle.sdv_graph.specs.Path.{Action, sends, phases, lets, tests, flags, widths, heads, jumps, stops, Stand, arrive, Move, Goes, Does, way_of, move_with, action_move}
use Rattle.sdv_run.specs.Announced.{announced_at}
use Rattle.sdv_run.specs.Run.{Steps}
use Rattle.sdv_run.specs.Step.{World, Leads}

-- what is announced after an order, by the count that stands in its line
announced_fits : (order : Order) (room before count : ℕ) → WritesCount order count → count ≤ room → before ≤ room → announced_by order before ≤ room
announced_fits ReadSingleBlock room before count is fits few = subst (λ n. n ≤ room) is fits
announced_fits WriteBlock room before count is fits few = subst (λ n. n ≤ room) is fits
announced_fits (ReadMultipleBlock n) room before count is fits few = subst (λ n. n ≤ room) is.same fits
announced_fits (WriteMultipleBlock n) room before count is fits few = subst (λ n. n ≤ room) is.same fits
announced_fits order room before count is fits few = few

-- an ask announces at most so many blocks, or leaves what was announced
announced_of : (k : Kind) (ask : Ask) (o : Option Order) (room : ℕ) → order_of k ask ≡ o → ask.count ≤ room → (answer : Answer) (h : Host) →
    h.announced ≤ room →
    (host_after_order o answer h).announced ≤ room
announced_of k ask None room e fits answer h few = few
announced_of k ask (Some order) room e fits answer h few = announced_fits order room h.announced ask.count (line_of k ask order e).count fits few

pub order_announces : (k : Kind) (ask : Ask) (room : ℕ) → ask.count ≤ room → (answer : Answer) (h : Host) → h.announced ≤ room →
    (host_after_order (order_of k ask) answer h).announced ≤ room
order_announces k ask room = announced_of k ask (order_of k ask) room refl

-- AFTER A MOVE

abbrev Within : ℕ → Host → Type 0
Within room h = h.announced ≤ room

-- a command of this event announces at most so many blocks
abbrev EventWithin : ℕ → ScriptEvent → Type 0
EventWithin room (SendCommand ask position argument) = ask.count ≤ room
EventWithin room event = Unit {0}

after_event : (k : Kind) (room : ℕ) (event : ScriptEvent) (returned : Return) (h : Host) → EventWithin room event → Within room h →
    Within room (host_after k event returned h)
after_event k room (SendCommand ask position argument) (Answered answer) h few in_room = order_announces k ask room few answer h in_room
after_event k room (SendCommand ask position argument) (BlocksIn end blocks) h few in_room = in_room
after_event k room (SendCommand ask position argument) (RegisterIn end bytes) h few in_room = in_room
after_event k room (SendCommand ask position argument) (BlocksOut end) h few in_room = in_room
after_event k room (SendCommand ask position argument) (Waited end) h few in_room = in_room
after_event k room (ReceiveRegister width count) (RegisterIn end bytes) h few in_room = in_room
after_event k room (ReceiveRegister width count) (Answered answer) h few in_room = in_room
after_event k room (ReceiveRegister width count) (BlocksIn end blocks) h few in_room = in_room
after_event k room (ReceiveRegister width count) (BlocksOut end) h few in_room = in_room
after_event k room (ReceiveRegister width count) (Waited end) h few in_room = in_room
after_event k room (ReceiveBlocks width count) returned h few in_room = in_room
after_event k room (GiveBlocks width blocks) returned h few in_room = in_room
after_event k room AwaitReady returned h few in_room = in_room

deed_within : (room : ℕ) (wanted event : ScriptEvent) → EventWithin room wanted → event ≡ wanted → EventWithin room event
deed_within room wanted event few e = subst (EventWithin room) (sym e) few

module _ {S : Type 0} (k : Kind) (steps : Steps S) (room : ℕ) where
  -- where this move leads, phases are no longer
  abbrev Kept : Move → Type 0
  Kept m = (w w' : World S) (stand : Stand) → Leads k steps m w w' stand → stand.host.announced ≤ room

  goes_within : (next : Stand) → Within room next.host → Kept (Goes next)
  goes_within next few = λ w w' stand p. subst (λ s. s.host.announced ≤ room) (sym p.1) few

  does_within : (event : ScriptEvent) (h : Host) (target : Return → Target) (ts : List ℕ) → EventWithin room event → Within room h →
      Kept (Does (exactly event) h (λ returned after. arrive (target returned) ts after))
  does_within event h target ts few in_room w w' stand p =
      subst (λ s. s.host.announced ≤ room) (sym p.4) (after_event k room p.0 p.1 h (deed_within room event p.0 few p.2) in_room)

  gives_within : (width : Width) (count : ℕ) (h : Host) (target : Return → Target) (ts : List ℕ) → Within room h → Kept (Does (giving width count) h (λ returned after. arrive (target returned) ts after))
  gives_within width count h target ts in_room w w' stand p =
      subst (λ s. s.host.announced ≤ room) (sym p.4) (after_event k room p.0 p.1 h (deed_within room (GiveBlocks width p.2.0) p.0 tt p.2.2) in_room)

  with_within : (o : Option ℕ) (on : ℕ → Move) → ((n : ℕ) → Kept (on n)) → Kept (move_with o on)
  with_within None on f = λ w w' stand p. absurd p
  with_within (Some n) on f = f n

  pub announced_after : (action : Action) (ts : List ℕ) (h : Host) → announced_at action ≤ room → Within room h → Kept (action_move k action ts h)
  announced_after (sends c ways other) ts h few in_room =
      with_within (position_of_command h c.address)
      (λ position. Does (command_deed k c h position) h (λ returned h'. arrive (way_of k ways other returned) ts h'))
      (λ position. does_within (SendCommand c.ask position (argument_of k c.ask h.rca (address_of_command h c.address position))) h
      (way_of k ways other) ts few in_room)
  announced_after (phases kinds.ReceiveBlocks well other) ts h few in_room =
      does_within (ReceiveBlocks h.lines h.announced) h (λ returned. if passes k WentWell returned then well else other) ts tt in_room
  announced_after (phases kinds.ReceiveRegister well other) ts h few in_room =
      does_within (ReceiveRegister h.lines h.register_length) h (λ returned. if passes k WentWell returned then well else other) ts tt in_room
  announced_after (phases kinds.GiveBlocks well other) ts h few in_room =
      gives_within h.lines h.announced h (λ returned. if passes k WentWell returned then well else other) ts in_room
  announced_after (phases kinds.Wait well other) ts h few in_room =
      does_within AwaitReady h (λ returned. if passes k WentWell returned then well else other) ts tt in_room
  announced_after (lets l t) ts h few in_room =
      with_within (value_of_let k h l) (λ n. Goes (arrive t ts (with_number h l.target n))) (λ n. goes_within (arrive t ts (with_number h l.target n)) in_room)
  announced_after (tests c holds other) ts h few in_room = goes_within (arrive (if condition_holds h c then holds else other) ts h) in_room
  announced_after (flags f on t) ts h few in_room = goes_within (arrive t ts (with_flag h f on)) in_room
  announced_after (widths width t) ts h few in_room = goes_within (arrive t ts (with_lines h width)) in_room
  announced_after (heads n body other) [] h few in_room = λ w w' stand p. absurd p
  announced_after (heads n body other) (zero ∷ ts) h few in_room = goes_within (arrive other (zero ∷ ts) h) in_room
  announced_after (heads n body other) (suc t ∷ ts) h few in_room = goes_within (arrive body (t ∷ ts) h) in_room
  announced_after (jumps t) ts h few in_room = goes_within (arrive t ts h) in_room
  announced_after (stops last) ts h few in_room = λ w w' stand p. absurd p
