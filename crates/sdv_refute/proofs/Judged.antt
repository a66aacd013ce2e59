-- What is computed of what comes next at a card says whether it is allowed there.
use Rattle.std.proofs.Common.{◌≡◌, ℕ, ◌+◌, ◌*◌, ◌<◌, length, refl, sym, ap, ◌∙◌, subst, Bool, true, false, List, [], ◌∷◌, zero, suc, Option, Some, None}
use Rattle.std.proofs.lemmas.Bool.{eqb-true, eq-eqb, leb-true, le-leb}
use Rattle.std.specs.Prelude.{◌≢◌, ◌&&◌, ◌==◌, nat_le, option_map, if◌then◌else◌}
use Rattle.sdv_registers.specs.declared.kind.Kind.{Kind}
use Rattle.sdv_card.specs.declared.state.State.{State}
use Rattle.sdv_card.specs.declared.state.State.TheVariants as states
use Rattle.sdv_card.specs.declared.state.Transfer.{Transfer}
use Rattle.sdv_card.specs.declared.state.Transfer.TheVariants.{ReadDue, OpenReadDue, ScrDue, SdStatusDue, ExtCsdDue, WriteDue, OpenWriteDue}
use Rattle.sdv_card.specs.declared.event.Event.TheVariants.{Send}
use Rattle.sdv_card.specs.Card.{Card, accessed_capacity}
use Rattle.sdv_card.specs.CommandTable.{addressed_blocks, argument_of}
use Rattle.sdv_card.specs.Host.{Host}
use Rattle.sdv_card.specs.HostEvents.{Makes}
use Rattle.sdv_card.specs.Legal.{EventLegal, InBounds, BlocksWithin, recv_legal, recv_reg_legal, give_legal}
use Rattle.sdv_card.specs.LegalShapes.{legal_code}
use Rattle.sdv_card.specs.Phases.{blocks_due, register_due}
use Rattle.sdv_card.specs.Shapes.{IsPair, pair_code}
use Rattle.sdv_card.specs.ScriptEvent.{ScriptEvent, SendCommand, ReceiveBlocks, ReceiveRegister, GiveBlocks, AwaitReady, Return, event_of}
use Rattle.sdv_card.specs.Guards.{passes}
use Rattle.sdv_card.specs.declared.guard.Guard.TheVariants.{Ok as WentWell}
use Rattle.sdv_graph.specs.declared.graph.Target.{Target}
use Rattle.sdv_graph.specs.declared.tree.Phase.{Phase}
use Rattle.sdv_graph.specs.declared.tree.Phase.TheVariants as kinds
use Rattle.sdv_graph.specs.declared.tree.ScriptCommand.{ScriptCommand}
use Rattle.sdv_graph.specs.AddressSent.{position_of_command, address_of_command}
use Rattle.sdv_graph.specs.Conditions.{with_flag, with_lines}
use Rattle.sdv_graph.specs.ValueOfLet.{value_of_let, with_number}
use Rattle.sdv_graph.specs.Path.{Action, sends, phases, lets, tests, flags, widths, heads, jumps, stops, Stand, arrive, way_of, Move, Goes, Does, Halts, move_with, move_at_head, action_move}
use Rattle.sdv_graph.specs.Walk.{Deed, Finished, Failed, Fell, Broke, Open, IsDeed, command_deed, phase_deed}
use Rattle.sdv_facts.specs.Beside.{IsAllowed}
use Rattle.sdv_facts.specs.Edges.{event_of_phase}
use Rattle.sdv_facts.specs.Keeps.{IsHonest}
use Rattle.sdv_facts.specs.Stands.{ActionSuits}
use Rattle.sdv_facts.proofs.FlagLaws.{flags_kept}
use Rattle.sdv_facts.proofs.StepLaws.{Laws}
use Rattle.sdv_facts.proofs.UnitLaws.{both}
use Rattle.sdv_refute.specs.Sight.{sight_of}
use Rattle.sdv_refute.specs.Next.{next_of, send_at}
use Rattle.sdv_refute.specs.Allows.{in_bounds, is_tran, allows_next}

-- WHAT IT SAYS: of a move with an event, whether each event that it may make is allowed at the card; of `done`, whether
-- the card is in the transfer state
abbrev pub MayMove : Bool → Move → Card → Type 0
MayMove true (Does deed h next) c = (event : ScriptEvent) → IsDeed deed event → IsAllowed event c
MayMove false (Does deed h next) c = (event : ScriptEvent) → IsDeed deed event → IsAllowed event c → ⊥
MayMove true (Goes next) c = Unit {0}
MayMove false (Goes next) c = ⊥
MayMove true (Halts Finished) c = c.state ≡ states.Tran
MayMove true (Halts last) c = Unit {0}
MayMove false (Halts Finished) c = c.state ≢ states.Tran
MayMove false (Halts last) c = ⊥

-- a test decides it
abbrev Says : Bool → Type 0 → Type 0
Says true x = x
Says false x = x → ⊥

says_by : (b : Bool) (x : Type 0) → (b ≡ true → x) → (x → b ≡ true) → Says b x
says_by true x f g = f refl
says_by false x f g = λ v. (let e = g v in absurd (cc))

read_blocks : (s : State) (t : Transfer) → recv_legal s t ≡ true → blocks_due t ≡ true
read_blocks states.Data ReadDue e = refl
read_blocks states.Data OpenReadDue e = refl
read_blocks s t e = absurd (cc)

give_blocks : (s : State) (t : Transfer) → give_legal s t ≡ true → blocks_due t ≡ true
give_blocks states.Rcv WriteDue e = refl
give_blocks states.Rcv OpenWriteDue e = refl
give_blocks s t e = absurd (cc)

register_blocks : (s : State) (t : Transfer) → recv_reg_legal s t ≡ true → register_due t ≡ true
register_blocks states.Data ScrDue e = refl
register_blocks states.Data SdStatusDue e = refl
register_blocks states.Data ExtCsdDue e = refl
register_blocks s t e = absurd (cc)

and_both : (a b : Bool) → a ≡ true → b ≡ true → a && b ≡ true
and_both true b e f = f
and_both false b e f = absurd (cc)

tran_is : (s : State) → is_tran s ≡ true → s ≡ states.Tran
tran_is states.Tran e = refl
tran_is s e = absurd (cc)

is_tran_of : (s : State) → s ≡ states.Tran → is_tran s ≡ true
is_tran_of s e = ap is_tran e

module _ (k : Kind) (laws : Laws k) (c : Card) (h : Host) (honest : IsHonest k c h) where
  -- an event that is in bounds exactly where the second test says so, if it is legal
  judged : (event : ScriptEvent) (b : Bool) → Makes k event h → (EventLegal event c → b ≡ true → InBounds event c) →
      (EventLegal event c → InBounds event c → b ≡ true) → Says (legal_code k (pair_code c h) (event_of event) && b) (IsAllowed event c)
  judged event b made to from =
      let exact = laws.legal_is_exact event c h honest.pair made in
      let l = legal_code k (pair_code c h) (event_of event) in
      says_by (l && b) (IsAllowed event c)
      (λ e. (
      let p = both l b e in
      let legal = exact.1 p.0 in
      record { legal = legal; bounds = to legal p.1 }))
      (λ a. and_both l b (exact.0 a.legal) (from a.legal a.bounds))

  with_true : (b : Bool) (x : Type 0) → Says (b && true) x → Says b x
  with_true true x s = s
  with_true false x s = s

  in_bounds_is : (o : Option ℕ) (position argument : ℕ) → in_bounds o position argument (sight_of c) ≡ true → BlocksWithin o c position argument
  in_bounds_is None position argument e = tt
  in_bounds_is (Some n) position argument e =
      let unit = if c.block_unit then position else 512 * position in
      let p = both (argument == unit) (nat_le (position + n) (accessed_capacity c)) e in
      record { unit = eqb-true argument unit p.0; room = leb-true (position + n) (accessed_capacity c) p.1 }

  is_in_bounds : (o : Option ℕ) (position argument : ℕ) → BlocksWithin o c position argument → in_bounds o position argument (sight_of c) ≡ true
  is_in_bounds None position argument w = refl
  is_in_bounds (Some n) position argument w =
      let unit = if c.block_unit then position else 512 * position in
      and_both (argument == unit) (nat_le (position + n) (accessed_capacity c))
      (eq-eqb argument unit w.unit) (le-leb (position + n) (accessed_capacity c) w.room)

  each_event : (deed : Deed) (next : Return → Host → Stand) (b : Bool) → ((event : ScriptEvent) → IsDeed deed event → Says b (IsAllowed event c)) →
      MayMove b (Does deed h next) c
  each_event deed next true s = s
  each_event deed next false s = s

  legal_alone : (event : ScriptEvent) → Makes k event h → (EventLegal event c → InBounds event c) → Says (legal_code k (pair_code c h) (event_of event)) (IsAllowed event c)
  legal_alone event made bounds =
      with_true (legal_code k (pair_code c h) (event_of event)) (IsAllowed event c) (judged event true made (λ legal e. bounds legal) (λ legal w. refl))

  may_send : (command : ScriptCommand) (next : ℕ → Return → Host → Stand) (o : Option ℕ) →
      MayMove (allows_next k h (sight_of c) (option_map (send_at k command h) o)) (move_with o (λ position. Does (command_deed k command h position) h (next position))) c
  may_send command next None = tt
  may_send command next (Some position) =
      let ask = command.ask in
      let address = address_of_command h command.address position in
      let argument = argument_of k ask h.rca address in
      let e = SendCommand ask position argument in
      let bounds = in_bounds (addressed_blocks ask) position argument (sight_of c) in
      let b = legal_code k (pair_code c h) (Send ask) && bounds in
      let says = judged e bounds (record { address = address; same = refl })
      (λ legal b. in_bounds_is (addressed_blocks ask) position argument b) (λ legal w. is_in_bounds (addressed_blocks ask) position argument w) in
      each_event (command_deed k command h position) (next position) b (λ event is. subst (λ e. Says b (IsAllowed e c)) (sym is) says)

  may_phase : (p : Phase) (next : Return → Host → Stand) → MayMove (legal_code k (pair_code c h) (event_of_phase p)) (Does (phase_deed p h) h next) c
  may_phase kinds.ReceiveBlocks next = each_event (phase_deed kinds.ReceiveBlocks h) next (legal_code k (pair_code c h) (event_of_phase kinds.ReceiveBlocks)) (λ event is.
      subst (λ e. Says (legal_code k (pair_code c h) (event_of_phase kinds.ReceiveBlocks)) (IsAllowed e c)) (sym is)
      (legal_alone (ReceiveBlocks h.lines h.announced) (record { lines_are = refl; size = refl })
      (λ l. honest.sound.blocks (read_blocks c.state c.transfer (both (recv_legal c.state c.transfer) _ l).0))))
  may_phase kinds.ReceiveRegister next = each_event (phase_deed kinds.ReceiveRegister h) next (legal_code k (pair_code c h) (event_of_phase kinds.ReceiveRegister)) (λ event is.
      subst (λ e. Says (legal_code k (pair_code c h) (event_of_phase kinds.ReceiveRegister)) (IsAllowed e c)) (sym is)
      (legal_alone (ReceiveRegister h.lines h.register_length) (record { lines_are = refl; size = refl })
      (λ l. honest.sound.register (register_blocks c.state c.transfer (both (recv_reg_legal c.state c.transfer) _ l).0))))
  may_phase kinds.GiveBlocks next = each_event (phase_deed kinds.GiveBlocks h) next (legal_code k (pair_code c h) (event_of_phase kinds.GiveBlocks)) (λ event is.
      subst (λ e. Says (legal_code k (pair_code c h) (event_of_phase kinds.GiveBlocks)) (IsAllowed e c)) (sym is.2)
      (legal_alone (GiveBlocks h.lines is.0) (record { lines_are = refl; size = is.1 })
      (λ l. is.1 ∙ honest.sound.blocks (give_blocks c.state c.transfer (both (give_legal c.state c.transfer) _ l).0))))
  may_phase kinds.Wait next = each_event (phase_deed kinds.Wait h) next (legal_code k (pair_code c h) (event_of_phase kinds.Wait)) (λ event is.
      subst (λ e. Says (legal_code k (pair_code c h) (event_of_phase kinds.Wait)) (IsAllowed e c)) (sym is)
      (legal_alone AwaitReady tt (λ l. tt)))

  may_done : (b : Bool) → is_tran c.state ≡ b → MayMove b (Halts Finished) c
  may_done true e = tran_is c.state e
  may_done false e = λ is. (let f = is_tran_of c.state is in absurd (cc))

  goes_with : (o : Option ℕ) (next : ℕ → Stand) → MayMove true (move_with o (λ n. Goes (next n))) c
  goes_with None next = tt
  goes_with (Some n) next = tt

  goes_head : (ts : List ℕ) (body other : Target) → MayMove true (move_at_head ts body other h) c
  goes_head [] body other = tt
  goes_head (zero ∷ ts) body other = tt
  goes_head (suc t ∷ ts) body other = tt

  -- WHAT IS COMPUTED IS WHAT IS SO
  pub allows_exactly : (action : Action) (ts : List ℕ) → MayMove (allows_next k h (sight_of c) (next_of k action h)) (action_move k action ts h) c
  allows_exactly (sends command ways other) ts =
      may_send command (λ position returned h'. arrive (way_of k ways other returned) ts h') (position_of_command h command.address)
  allows_exactly (phases kinds.ReceiveBlocks well other) ts = may_phase kinds.ReceiveBlocks (λ returned h'. arrive (if passes k WentWell returned then well else other) ts h')
  allows_exactly (phases kinds.ReceiveRegister well other) ts = may_phase kinds.ReceiveRegister (λ returned h'. arrive (if passes k WentWell returned then well else other) ts h')
  allows_exactly (phases kinds.GiveBlocks well other) ts = may_phase kinds.GiveBlocks (λ returned h'. arrive (if passes k WentWell returned then well else other) ts h')
  allows_exactly (phases kinds.Wait well other) ts = may_phase kinds.Wait (λ returned h'. arrive (if passes k WentWell returned then well else other) ts h')
  allows_exactly (lets l t) ts = goes_with (value_of_let k h l) (λ n. arrive t ts (with_number h l.target n))
  allows_exactly (tests x met unmet) ts = tt
  allows_exactly (flags flag on t) ts = tt
  allows_exactly (widths width t) ts = tt
  allows_exactly (heads n body other) ts = goes_head ts body other
  allows_exactly (jumps t) ts = tt
  allows_exactly (stops Finished) ts = may_done (is_tran c.state) refl
  allows_exactly (stops (Failed name)) ts = tt
  allows_exactly (stops Fell) ts = tt
  allows_exactly (stops Broke) ts = tt
  allows_exactly (stops Open) ts = tt

  -- WHAT A HOST KNOWS THERE, AND AFTER A MOVE WITHOUT AN EVENT
  abbrev pub Moves : Move → Type 0
  Moves (Goes next) = IsHonest k c next.host
  Moves (Does deed before next) =
      (before ≡ h) × ((event : ScriptEvent) → IsDeed deed event → Makes k event h) × ((returned : Return) (after : Host) → (next returned after).host ≡ after)
  Moves (Halts last) = Unit {0}

  same_known : (h' : Host) → h'.csd ≡ h.csd → h'.ext_csd ≡ h.ext_csd → h'.announced ≡ h.announced → h'.register_length ≡ h.register_length → IsPair k c h' → IsHonest k c h'
  same_known h' csd ext announced length pair = record {
    pair = pair;
    profile = honest.profile;
    sound = record {
      csd = λ bytes is. honest.sound.csd bytes (sym csd ∙ is);
      ext_csd = λ bytes emmc is. honest.sound.ext_csd bytes emmc (sym ext ∙ is);
      blocks = λ due. announced ∙ honest.sound.blocks due;
      register = λ due. subst (λ n. 0 < n) (sym length) (honest.sound.register due);
    };
  }

  moves_with : (o : Option ℕ) (next : ℕ → Move) → ((n : ℕ) → Moves (next n)) → Moves (move_with o next)
  moves_with None next f = tt
  moves_with (Some n) next f = f n

  moves_head : (ts : List ℕ) (body other : Target) → Moves (move_at_head ts body other h)
  moves_head [] body other = tt
  moves_head (zero ∷ ts) body other = honest
  moves_head (suc t ∷ ts) body other = honest

  makes_phase : (p : Phase) (event : ScriptEvent) → IsDeed (phase_deed p h) event → Makes k event h
  makes_phase kinds.ReceiveBlocks event is = subst (λ e. Makes k e h) (sym is) (record { lines_are = refl; size = refl })
  makes_phase kinds.ReceiveRegister event is = subst (λ e. Makes k e h) (sym is) (record { lines_are = refl; size = refl })
  makes_phase kinds.GiveBlocks event is = subst (λ e. Makes k e h) (sym is.2) (record { lines_are = refl; size = is.1 })
  makes_phase kinds.Wait event is = subst (λ e. Makes k e h) (sym is) tt

  pub moves : (action : Action) (ts : List ℕ) → ActionSuits k action → Moves (action_move k action ts h)
  moves (sends command ways other) ts suits =
      moves_with (position_of_command h command.address)
      (λ position. Does (command_deed k command h position) h (λ returned h'. arrive (way_of k ways other returned) ts h'))
      (λ position. (
        refl,
        (λ event is. subst (λ e. Makes k e h) (sym is) (record { address = address_of_command h command.address position; same = refl })),
        λ returned after. refl,
      ))
  moves (phases p well other) ts suits = (refl, makes_phase p, λ returned after. refl)
  moves (lets l t) ts suits =
      moves_with (value_of_let k h l) (λ n. Goes (arrive t ts (with_number h l.target n)))
      (λ n. same_known (with_number h l.target n) refl refl refl refl
      (record { kind = honest.pair.kind; card = honest.pair.card; lines = honest.pair.lines; flags = honest.pair.flags; rca = honest.pair.rca }))
  moves (tests x met unmet) ts suits = honest
  moves (flags flag on t) ts suits =
      same_known (with_flag h flag on) refl refl refl refl
      (record {
        kind = honest.pair.kind;
        card = honest.pair.card;
        lines = honest.pair.lines;
        flags = flags_kept h flag on honest.pair.flags suits;
        rca = honest.pair.rca;
      })
  moves (widths width t) ts suits =
      same_known (with_lines h width) refl refl refl refl
      (record { kind = honest.pair.kind; card = honest.pair.card; lines = suits; flags = honest.pair.flags; rca = honest.pair.rca })
  moves (heads n body other) ts suits = moves_head ts body other
  moves (jumps t) ts suits = honest
  moves (stops last) ts suits = tt
