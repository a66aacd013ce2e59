-- Where the facts of a closed certificate hold, each event is legal and in bounds, and after it the facts of the target hold.
use Rattle.std.proofs.Common.{◌≡◌, ℕ, zero, suc, ◌<◌, ◌≤◌, refl, sym, ap, ◌∙◌, subst, arith, Bool, true, false, not, List, [], ◌∷◌, Option, Some, None, length}
use Rattle.std.specs.Prelude.{slice_get, IfSome, if◌then◌else◌, ◌&&◌, nat_lt, nat_le, slice_index}
use Rattle.std.proofs.lemmas.List.{length-set}
use Rattle.std.proofs.lemmas.Option.{slice_get_within}
use Rattle.std.proofs.lemmas.Bool.{ltb-true, ltb-false, leb-true, leb-false}
use mathlib.Core.Bool.{beq}
use Rattle.sdv_registers.specs.declared.kind.Kind.{Kind}
use Rattle.sdv_card.specs.declared.answer.Answer.{Answer}
use Rattle.sdv_card.specs.declared.command.Order.{Order}
use Rattle.sdv_card.specs.declared.command.Order.TheVariants.{ReadSingleBlock, ReadMultipleBlock, WriteBlock, WriteMultipleBlock, EraseBlockStart, EraseBlockEnd, EraseGroupStart, EraseGroupEnd}
use Rattle.sdv_card.specs.declared.event.Ask.{Ask}
use Rattle.sdv_card.specs.declared.event.Event.TheVariants.{Send}
use Rattle.sdv_card.specs.declared.event.Outcome.{Outcome}
use Rattle.sdv_card.specs.declared.guard.Guard.{Guard}
use Rattle.sdv_card.specs.declared.guard.Guard.TheVariants.{Ok as WentWell}
use Rattle.sdv_card.specs.declared.shape.Shape.{Shape}
use Rattle.sdv_card.specs.declared.state.State.{State}
use Rattle.sdv_card.specs.declared.state.State.TheVariants.{Tran, Data, Rcv}
use Rattle.sdv_card.specs.declared.state.Transfer.{Transfer}
use Rattle.sdv_card.specs.declared.state.Transfer.TheVariants.{ReadDue, OpenReadDue, ScrDue, SdStatusDue, ExtCsdDue, WriteDue, OpenWriteDue}
use Rattle.sdv_card.specs.Card.{Card}
use Rattle.sdv_card.specs.Code.{digits}
use Rattle.sdv_card.specs.CommandTable.{order_of, argument_of, argument_or_none, order_argument, addressed_blocks}
use Rattle.sdv_card.specs.Guards.{passes}
use Rattle.sdv_card.specs.Host.{Host, host_after, host_after_order}
use Rattle.sdv_card.specs.HostEvents.{Makes}
use Rattle.sdv_card.specs.Laws.{LegalIsExact, HasStep, StepsAreOutcomes, StepsAreExpected, StepsKeepPairs, StepsKeepSame, StepsKeepSound, StepsKeepOnCard, AsksAddress, StartsHold, VerdictsHold, FitsEvent, order_blocks}
use Rattle.sdv_card.specs.Legal.{EventLegal, InBounds, BlocksWithin, Within, TransferOnCard, recv_legal, recv_reg_legal, give_legal}
use Rattle.sdv_card.specs.LegalShapes.{legal_code}
use Rattle.sdv_card.specs.Lists.{May}
use Rattle.sdv_card.specs.Outcomes.{branch, outcome_of}
use Rattle.sdv_card.specs.Phases.{blocks_due, register_due}
use Rattle.sdv_card.specs.Port.{IsFine}
use Rattle.sdv_card.specs.Profile.{IsOfProfile}
use Rattle.sdv_card.specs.ScriptEvent.{ScriptEvent, SendCommand, ReceiveBlocks, ReceiveRegister, GiveBlocks, AwaitReady, event_of, Return, Answered, BlocksIn, RegisterIn, BlocksOut, Waited}
use Rattle.sdv_card.specs.Seen.{seen_of}
use Rattle.sdv_card.specs.Shapes.{view, pair_code, IsPair}
use Rattle.sdv_card.specs.Step.{Step}
use Rattle.sdv_card.specs.Taken.{SameCard}
use Rattle.sdv_card.proofs.Digits.{digits_law}
use Rattle.sdv_card.proofs.Members.{here}
use Rattle.sdv_card.proofs.PortLaws.{phase_on_card}
use Rattle.sdv_card.proofs.TableLaws.{legal_is_exact, has_step, steps_are_outcomes, steps_are_expected, steps_keep_pairs, steps_keep_same, steps_keep_sound, steps_keep_on_card, asks_address, starts_hold, verdicts_hold}
use Rattle.sdv_graph.specs.declared.graph.Target.{Target}
use Rattle.sdv_graph.specs.declared.tree.Address.{Address}
use Rattle.sdv_graph.specs.declared.tree.ScriptCommand.{ScriptCommand}
use Rattle.sdv_graph.specs.declared.tree.Condition.{Condition}
use Rattle.sdv_graph.specs.declared.tree.Condition.TheVariants as conditions
use Rattle.sdv_graph.specs.declared.tree.Let.{Let}
use Rattle.sdv_graph.specs.declared.tree.Phase.{Phase}
use Rattle.sdv_graph.specs.declared.tree.Phase.TheVariants as kinds
use Rattle.sdv_graph.specs.declared.tree.Unit.{Unit as AddressUnit}
use Rattle.sdv_graph.specs.declared.tree.Unit.TheVariants.{Block, Byte, By}
use Rattle.sdv_graph.specs.AddressSent.{position_of_command, address_of_command, address_sent, position_of}
use Rattle.sdv_card.specs.ShapeBits.{has_block_addresses, has_flag, is_flag_set, partition_shown, with_flag_shown, with_lines_shown}
use Rattle.sdv_graph.specs.Conditions.{condition_holds, with_flag, with_lines}
use Rattle.sdv_graph.specs.Graph.{Graph}
use Rattle.sdv_graph.specs.Nested.{Pass, Same, Again, Over, InBox, Turned, Nested}
use Rattle.sdv_graph.specs.Path.{Case, Action, sends, phases, lets, tests, flags, widths, heads, jumps, stops, Point, arrive, way_of, Goes, Does, move_with, move_at_head, action_move, move}
use Rattle.sdv_graph.specs.Counts.{max_number}
use Rattle.sdv_graph.specs.ValueOfLet.{value_of_let, with_number, number}
use Rattle.sdv_graph.specs.Walk.{command_deed, phase_deed, Fell, Broke, Finished, Failed, Open, Ending}
use Rattle.sdv_facts.specs.declared.numbers.VarFacts.{VarFacts}
use Rattle.sdv_facts.specs.declared.numbers.Numbers.{Numbers}
use Rattle.sdv_facts.specs.declared.test.Test.{Test}
use Rattle.sdv_facts.specs.declared.test.Test.TheVariants.{AtLeast, Below}
use Rattle.sdv_facts.specs.AddressFits.{unit_fits, position_fits, each_fits, address_fits}
use Rattle.sdv_facts.specs.Facts.{Facts, var, PointFacts}
use Rattle.sdv_facts.specs.AfterLet.{after_let}
use Rattle.sdv_facts.specs.AfterTest.{after_test, TestHolds}
use Rattle.sdv_facts.specs.Beside.{commands_in}
use Rattle.sdv_facts.specs.Bounds.{bound, commands_of}
use Rattle.sdv_facts.specs.Closed.{PointsMatch, PointClosed, Closed, ClosedAt, AddressAt, AddressKnown, EndsAt, known_of_shape}
use Rattle.sdv_facts.specs.Edges.{EachOutcome, EachTest, EachCondition, EachEdge, event_of_phase, well_or}
use Rattle.sdv_facts.specs.FactsHold.{GapHolds, VarHolds, NumbersHold, FactsHold, Carries}
use Rattle.sdv_facts.specs.Keeps.{MayStandIn, IsHonest}
use Rattle.sdv_facts.specs.Stands.{GuardsSuit, CasesSuit, ActionSuits, EachActionSuits, Arrived, HaltsWell, MovesWell, PointsStepWell, StepsWell}
use Rattle.sdv_facts.proofs.AddressLaws.{on_card}
use Rattle.sdv_facts.proofs.EdgeLaws.{Reaches, edges}
use Rattle.sdv_card.proofs.ShapeLines.{pair_with_lines}
use Rattle.sdv_facts.proofs.FlagLaws.{pair_with_flag, flags_kept}
use Rattle.sdv_facts.proofs.LetLaws.{let_keeps}
use Rattle.sdv_facts.proofs.TestLaws.{test_keeps, target_holds}
use Rattle.sdv_facts.proofs.UnitLaws.{all-member, both, flag_shown}
use Rattle.sdv_facts.proofs.WayLaws.{AllHold, CasesHold, way_taken}

-- THE LAWS OF A TABLE, and nothing else of it
pub record Laws (k : Kind) : Type 0 where
  pub legal_is_exact : LegalIsExact k
  pub has_step : HasStep k
  pub steps_are_outcomes : StepsAreOutcomes k
  pub steps_are_expected : StepsAreExpected k
  pub steps_keep_pairs : StepsKeepPairs k
  pub steps_keep_same : StepsKeepSame k
  pub steps_keep_sound : StepsKeepSound k
  pub steps_keep_on_card : StepsKeepOnCard k
  pub asks_address : AsksAddress k
  pub starts_hold : StartsHold k
  pub verdicts_hold : VerdictsHold k

-- each kind keeps them
pub laws_of : (k : Kind) → Laws k
laws_of k = record {
  legal_is_exact = legal_is_exact k;
  has_step = has_step k;
  steps_are_outcomes = steps_are_outcomes k;
  steps_are_expected = steps_are_expected k;
  steps_keep_pairs = steps_keep_pairs k;
  steps_keep_same = steps_keep_same k;
  steps_keep_sound = steps_keep_sound k;
  steps_keep_on_card = steps_keep_on_card k;
  asks_address = asks_address k;
  starts_hold = starts_hold k;
  verdicts_hold = verdicts_hold k;
}

pub has_point : (places : List Point) (i : ℕ) → i < length places → (p : Point) × (slice_get places i ≡ Some p)
has_point [] i lt = absurd (omega arith)
has_point (x ∷ xs) zero lt = (x, refl)
has_point (x ∷ xs) (suc i) lt = has_point xs i (omega arith)

-- THE HOST

-- no event changes the script's variables and flags
pub order_numbers : (o : Option Order) (answer : Answer) (h : Host) → (host_after_order o answer h).numbers ≡ h.numbers
order_numbers None answer h = refl
order_numbers (Some order) answer h = refl

pub numbers_same : (k : Kind) (event : ScriptEvent) (returned : Return) (h : Host) → (host_after k event returned h).numbers ≡ h.numbers
numbers_same k (SendCommand ask position argument) (Answered answer) h = order_numbers (order_of k ask) answer h
numbers_same k (SendCommand ask position argument) (BlocksIn end blocks) h = refl
numbers_same k (SendCommand ask position argument) (RegisterIn end bytes) h = refl
numbers_same k (SendCommand ask position argument) (BlocksOut end) h = refl
numbers_same k (SendCommand ask position argument) (Waited end) h = refl
numbers_same k (ReceiveRegister lines count) (RegisterIn end bytes) h = refl
numbers_same k (ReceiveRegister lines count) (Answered answer) h = refl
numbers_same k (ReceiveRegister lines count) (BlocksIn end blocks) h = refl
numbers_same k (ReceiveRegister lines count) (BlocksOut end) h = refl
numbers_same k (ReceiveRegister lines count) (Waited end) h = refl
numbers_same k (ReceiveBlocks lines count) returned h = refl
numbers_same k (GiveBlocks lines blocks) returned h = refl
numbers_same k AwaitReady returned h = refl

-- A CARD AFTER A STEP

profile_kept : (c u : Card) (k : Kind) (h : Host) → IsPair k u h → SameCard c u → IsOfProfile c → IsOfProfile u
profile_kept c u k h pair same of = record {
  card = pair.card;
  version = rw (sym same.kind, sym same.version, sym same.block_unit) of.version;
  least = rw (sym same.capacity) of.least;
  most = rw (sym same.capacity, sym same.kind, sym same.block_unit) of.most;
  readable = rw (sym same.kind, sym same.csd) of.readable;
  told = rw (sym same.kind, sym same.block_unit, sym same.csd, sym same.ext_csd, sym same.capacity) of.told;
  told_boot = rw (sym same.kind, sym same.ext_csd, sym same.boot_capacity) of.told_boot;
}

-- what the host knows stays true
pub honest_after : (k : Kind) → Laws k → (e : ScriptEvent) (c : Card) (h : Host) (returned : Return) (u : Card) → IsFine k e c h → IsHonest k c h
    → Step e c returned u → IsHonest k u (host_after k e returned h)
honest_after k laws e c h returned u fine honest step =
    let pair : IsPair k u (host_after k e returned h) = laws.steps_keep_pairs e c h returned u fine.pair fine.made step in
    record {
      pair = pair;
      profile = profile_kept c u k (host_after k e returned h) pair (laws.steps_keep_same e c returned u fine.pair.kind step) honest.profile;
      sound = laws.steps_keep_sound e c h returned u fine.pair fine.made fine.legal step honest.sound;
    }

var_kept : (c u : Card) (v : VarFacts) (x : ℕ) → c.capacity ≡ u.capacity → c.boot_capacity ≡ u.boot_capacity → VarHolds c v x → VarHolds u v x
var_kept c u v x size boot h =
    record { low = h.low; high = h.high; gap = subst (λ n. GapHolds v.gap x n) size h.gap; bgap = subst (λ n. GapHolds v.bgap x n) boot h.bgap }

numbers_kept : (ns : Numbers) (c u : Card) (h h' : Host) → c.capacity ≡ u.capacity → c.boot_capacity ≡ u.boot_capacity → h'.numbers ≡ h.numbers
    → NumbersHold ns c h → NumbersHold ns u h'
numbers_kept ns c u h h' size boot same holds = record {
  least = subst (λ n. ns.m ≤ n) size holds.least;
  least_boot = subst (λ n. ns.mb ≤ n) boot holds.least_boot;
  many = ap length same ∙ holds.many;
  each = λ x. var_kept c u (var ns x) (number h' x) size boot (subst (λ l. VarHolds c (var ns x) (slice_index l x)) (sym same) (holds.each x));
}

-- ADDRESSES

-- the argument of a command that addresses blocks is the address
argument_is : (order : Order) (n argument rca address : ℕ) → order_blocks order ≡ Some n → order_argument order argument rca address ≡ address
argument_is ReadSingleBlock n argument rca address e = refl
argument_is (ReadMultipleBlock m) n argument rca address e = refl
argument_is WriteBlock n argument rca address e = refl
argument_is (WriteMultipleBlock m) n argument rca address e = refl
argument_is EraseBlockStart n argument rca address e = refl
argument_is EraseBlockEnd n argument rca address e = refl
argument_is EraseGroupStart n argument rca address e = refl
argument_is EraseGroupEnd n argument rca address e = refl
argument_is order n argument rca address e = absurd (cc)

position_at : (b : Bool) (position given : ℕ) → (if b then Some position else None) ≡ Some given → position ≡ given
position_at true position given e = cc
position_at false position given e = absurd (cc)

-- PHASES

read_blocks : (s : State) (t : Transfer) → recv_legal s t ≡ true → blocks_due t ≡ true
read_blocks Data ReadDue e = refl
read_blocks Data OpenReadDue e = refl
read_blocks s t e = absurd (cc)

give_blocks : (s : State) (t : Transfer) → give_legal s t ≡ true → blocks_due t ≡ true
give_blocks Rcv WriteDue e = refl
give_blocks Rcv OpenWriteDue e = refl
give_blocks s t e = absurd (cc)

register_blocks : (s : State) (t : Transfer) → recv_reg_legal s t ≡ true → register_due t ≡ true
register_blocks Data ScrDue e = refl
register_blocks Data SdStatusDue e = refl
register_blocks Data ExtCsdDue e = refl
register_blocks s t e = absurd (cc)

-- THE TRANSFER STATE

in_tran : (k : Kind) (c : Card) (h : Host) → IsPair k c h → (digits (pair_code c h)).state ≡ Tran → c.state ≡ Tran
in_tran k c h pair e = sym (ap (λ f. f.state) (digits_law (view c h) pair.flags pair.card.preset)) ∙ e

and_last : (b : Bool) → b && true ≡ b
and_last true = refl
and_last false = refl

-- ONE MOVE

module _ (g : Graph) (ps : List PointFacts) (laws : Laws g.kind) (points : PointsMatch g ps) where
  abbrev shape : Card → Host → Shape
  shape c h = record { 0 = pair_code c h }

  -- what is so before a move
  record Here (place : Point) (p : PointFacts) (ts : List ℕ) (c : Card) (h : Host) : Type 0 where
    box : InBox ts place.most
    holds : FactsHold p.facts c h
    honest : IsHonest g.kind c h
    on_card : TransferOnCard c
    variables : length p.facts.numbers.vars.items ≡ g.numbers

  many_of : (place : Point) (p : PointFacts) (ts : List ℕ) (c : Card) (h : Host) → Here place p ts c h → length h.numbers ≡ g.numbers
  many_of place p ts c h at = at.holds.numbers.many ∙ at.variables

  -- along an edge, with facts that hold of the card and the host after it
  arrives : (place : Point) (p : PointFacts) (pass : Pass) (t : Target) (s : Shape) (ns : Numbers) → Reaches g.points ps place p pass t s ns →
      (ts us : List ℕ) → InBox ts place.most → Turned pass ts us → (u : Card) (h : Host) → s ≡ shape u h → length h.numbers ≡ g.numbers → NumbersHold ns u h
      → IsHonest g.kind u h → TransferOnCard u →
      Arrived g ps (bound p ts) (commands_of place.action) (arrive t us h) u
  arrives place p pass t s ns r ts us box turned u h is many holds honest on_card =
      let within : t.to < length g.points = subst (λ n. t.to < n) points.count (slice_get_within ps t.to r.facts r.known) in
      let there = has_point g.points t.to within in
      let matches = points.each t.to there.0 r.facts there.1 r.known in
      record {
        stands = record {
          place = there.0;
          here = there.1;
          facts = r.facts;
          known = r.known;
          box = r.lands there.0 there.1 ts us box turned;
          holds = record {
            shape = subst (λ v. May r.facts.facts.shapes v) is r.shape;
            numbers = target_holds r.facts.facts.numbers ns (matches.variables ∙ sym many ∙ holds.many) r.numbers u h holds;
          };
          honest = honest;
          on_card = on_card;
        };
        falls = r.bounds ts us box turned;
      }

  -- AN EVENT

  -- an event and what follows each step of it
  abbrev Goes-well : PointFacts → List ℕ → List Case → Target → ScriptEvent → Card → Host → Type 0
  Goes-well p ts ways other e c h =
      IsFine g.kind e c h × ((returned : Return) (u : Card) → Step e c returned u
      → Arrived g ps (bound p ts) (commands_in e) (arrive (way_of g.kind ways other returned) ts (host_after g.kind e returned h)) u)

  does : (place : Point) (p : PointFacts) (ts : List ℕ) (e : ScriptEvent) (ways : List Case) (other : Target) (c : Card) (h : Host) → Here place p ts c h
      → commands_of place.action ≡ commands_in e →
      Makes g.kind e h → legal_code g.kind (pair_code c h) (event_of e) ≡ true → (EventLegal e c → InBounds e c)
      → ((returned : Return) (u : Card) → Step e c returned u → CasesHold g.kind c.mode.error returned ways) →
      EachOutcome g.kind (event_of e) ways other p.facts.numbers (shape c h) (Reaches g.points ps place p) → Goes-well p ts ways other e c h
  does place p ts e ways other c h at cost made legal bounds holds edge =
      let k = g.kind in
      let pair : IsPair k c h = at.honest.pair in
      let fine : EventLegal e c = (laws.legal_is_exact e c h pair made).1 legal in
      let within : InBounds e c = bounds fine in (
        record { pair = pair; made = made; legal = fine; bounds = within; on_card = phase_on_card e c at.on_card },
        λ returned u step.
            let h' : Host = host_after k e returned h in
            let after : IsPair k u h' = laws.steps_keep_pairs e c h returned u pair made step in
            let same : SameCard c u = laws.steps_keep_same e c returned u pair.kind step in
            let o : Outcome = outcome_of (branch (view u h') (seen_of k c.mode.error returned)) in
            let r : Reaches g.points ps place p Same (way_of k ways other returned) (shape u h') p.facts.numbers =
            way_taken k c.mode.error returned ways other (λ t. Reaches g.points ps place p Same t (shape u h') p.facts.numbers) (holds returned u step)
            (edge legal o (laws.steps_are_outcomes e c h returned u pair made fine step)) in
            subst (λ n. Arrived g ps (bound p ts) n (arrive (way_of k ways other returned) ts h') u) cost
            (arrives place p Same (way_of k ways other returned) (shape u h') p.facts.numbers r ts ts at.box refl u h' refl
            (ap length (numbers_same k e returned h) ∙ many_of place p ts c h at)
            (numbers_kept p.facts.numbers c u h h' same.capacity same.boot_capacity (numbers_same k e returned h) at.holds.numbers)
            (record {
              pair = after;
              profile = profile_kept c u k h' after same at.honest.profile;
              sound = laws.steps_keep_sound e c h returned u pair made fine step at.honest.sound;
            })
            (laws.steps_keep_on_card e c h returned u pair fine within step at.on_card)),
      )

  -- COMMANDS

  pub cases_hold : (e : ScriptEvent) (c : Card) (h : Host) (returned : Return) (u : Card) (ask : Ask) (position argument : ℕ) (ways : List Case)
      → e ≡ SendCommand ask position argument → IsPair g.kind c h → Step e c returned u → CasesSuit g.kind ask ways
      → CasesHold g.kind c.mode.error returned ways
  cases_hold e c h returned u ask position argument [] is pair step suit = tt
  cases_hold e c h returned u ask position argument (w ∷ ws) is pair step suit =
      (guards w.guards suit.0, cases_hold e c h returned u ask position argument ws is pair step suit.1)
    where
      guards : (gs : List Guard) → GuardsSuit g.kind ask gs → AllHold g.kind c.mode.error returned gs
      guards [] s = tt
      guards (x ∷ xs) s = (laws.verdicts_hold x e c h returned u pair (subst (λ e. FitsEvent g.kind x e) (sym is) s.0) step, guards xs s.1)

  -- a legal command has a line in the command table
  command_in_bounds : (known : Facts) (command : ScriptCommand) (c : Card) (h : Host) (position argument : ℕ) (a : Option Address) → FactsHold known c h
      → IsPair g.kind c h →
      argument ≡ argument_of g.kind command.ask h.rca (address_of_command h a position) →
      (o : Option ℕ) → addressed_blocks command.ask ≡ o → position_of_command h a ≡ Some position → IfSome o (λ blocks. AddressKnown known a blocks) →
      EventLegal (SendCommand command.ask position argument) c → BlocksWithin o c position argument
  command_in_bounds known command c h position argument a holds pair made None is at fits legal = tt
  command_in_bounds known command c h position argument None holds pair made (Some n) is at fits legal = absurd fits
  command_in_bounds known command c h position argument (Some a) holds pair made (Some n) is at fits legal =
      let line : order_of g.kind command.ask ≡ Some legal.order = subst (λ k. order_of k command.ask ≡ Some legal.order) (sym pair.kind) legal.asks.line in
      let blocks : order_blocks legal.order ≡ Some n = laws.asks_address command.ask legal.order line ∙ is in
      let address = address_sent h a.unit position in
      let same : argument ≡ address = made ∙ ap (λ o. argument_or_none o command.ask.argument h.rca address) line
      ∙ argument_is legal.order n command.ask.argument h.rca address blocks in
      let here : position_of h a.position ≡ position = position_at (nat_le (position_of h a.position) max_number) (position_of h a.position) position at in
      subst (λ v. Within c position v n) (sym same) (subst (λ v. Within c v (address_sent h a.unit v) n) here (on_card known a n fits g.kind c h pair holds))

  sends_well : (place : Point) (p : PointFacts) (ts : List ℕ) (command : ScriptCommand) (ways : List Case) (other : Target) (c : Card) (h : Host)
      → Here place p ts c h → commands_of place.action ≡ 1 → CasesSuit g.kind command.ask ways →
      legal_code g.kind (pair_code c h) (Send command.ask) ≡ true
      → AddressAt (known_of_shape p.facts (shape c h)) (sends command ways other) →
      EachOutcome g.kind (Send command.ask) ways other p.facts.numbers (shape c h) (Reaches g.points ps place p) →
      (o : Option ℕ) → position_of_command h command.address ≡ o →
      MovesWell g ps (bound p ts) (move_with o (λ position. Does (command_deed g.kind command h position) h
      (λ returned h'. arrive (way_of g.kind ways other returned) ts h'))) c
  sends_well place p ts command ways other c h at cost suit legal known edge None is = tt
  sends_well place p ts command ways other c h at cost suit legal known edge (Some position) is =
      let address = address_of_command h command.address position in
      let argument = argument_of g.kind command.ask h.rca address in
      let e = SendCommand command.ask position argument in
      λ event deed. subst (λ e. Goes-well p ts ways other e c h) (sym deed)
      (does place p ts e ways other c h at cost (record { address = address; same = refl }) legal
      (command_in_bounds (known_of_shape p.facts (shape c h)) command c h position argument command.address
      (record { shape = here refl; numbers = at.holds.numbers }) at.honest.pair refl (addressed_blocks command.ask) refl is known)
      (λ returned u step. cases_hold e c h returned u command.ask position argument ways refl at.honest.pair step suit) edge)

  -- PHASES

  -- what follows a phase
  well_way : (p : PointFacts) (ts : List ℕ) (well other : Target) (e : ScriptEvent) (c : Card) (h : Host) → Goes-well p ts (well_or well) other e c h →
      IsFine g.kind e c h × ((returned : Return) (u : Card) → Step e c returned u
      → Arrived g ps (bound p ts) (commands_in e) (arrive (if passes g.kind WentWell returned then well else other) ts (host_after g.kind e returned h)) u)
  well_way p ts well other e c h goes = (
    goes.0,
    λ returned u step. subst (λ b. Arrived g ps (bound p ts) (commands_in e)
        (arrive (if b then well else other) ts (host_after g.kind e returned h)) u) (and_last (passes g.kind WentWell returned)) (goes.1 returned u step),
  )

  pub phase_holds : (well : Target) (e : ScriptEvent) (c : Card) (h : Host) (returned : Return) (u : Card) → FitsEvent g.kind WentWell e → IsPair g.kind c h
      → Step e c returned u → CasesHold g.kind c.mode.error returned (well_or well)
  phase_holds well e c h returned u fits pair step = ((laws.verdicts_hold WentWell e c h returned u pair fits step, tt), tt)

  phases_well : (phase : Phase) (place : Point) (p : PointFacts) (ts : List ℕ) (well other : Target) (c : Card) (h : Host) → Here place p ts c h
      → commands_of place.action ≡ 0 →
      legal_code g.kind (pair_code c h) (event_of_phase phase) ≡ true
      → EachOutcome g.kind (event_of_phase phase) (well_or well) other p.facts.numbers (shape c h) (Reaches g.points ps place p) →
      MovesWell g ps (bound p ts) (Does (phase_deed phase h) h (λ returned h'. arrive (if passes g.kind WentWell returned then well else other) ts h')) c
  phases_well kinds.ReceiveBlocks place p ts well other c h at cost legal edge = λ event deed.
      subst (λ e. IsFine g.kind e c h × ((returned : Return) (u : Card) → Step e c returned u
      → Arrived g ps (bound p ts) (commands_in e) (arrive (if passes g.kind WentWell returned then well else other) ts (host_after g.kind e returned h)) u))
      (sym deed)
      (well_way p ts well other (ReceiveBlocks h.lines h.announced) c h
      (does place p ts (ReceiveBlocks h.lines h.announced) (well_or well) other c h at cost (record { lines_are = refl; size = refl }) legal
      (λ l. at.honest.sound.blocks (read_blocks c.state c.transfer (both (recv_legal c.state c.transfer) _ l).0))
      (λ returned u step. phase_holds well (ReceiveBlocks h.lines h.announced) c h returned u refl at.honest.pair step) edge))
  phases_well kinds.ReceiveRegister place p ts well other c h at cost legal edge = λ event deed.
      subst (λ e. IsFine g.kind e c h × ((returned : Return) (u : Card) → Step e c returned u
      → Arrived g ps (bound p ts) (commands_in e) (arrive (if passes g.kind WentWell returned then well else other) ts (host_after g.kind e returned h)) u))
      (sym deed)
      (well_way p ts well other (ReceiveRegister h.lines h.register_length) c h
      (does place p ts (ReceiveRegister h.lines h.register_length) (well_or well) other c h at cost (record { lines_are = refl; size = refl }) legal
      (λ l. at.honest.sound.register (register_blocks c.state c.transfer (both (recv_reg_legal c.state c.transfer) _ l).0))
      (λ returned u step. phase_holds well (ReceiveRegister h.lines h.register_length) c h returned u refl at.honest.pair step) edge))
  phases_well kinds.GiveBlocks place p ts well other c h at cost legal edge = λ event deed.
      subst (λ e. IsFine g.kind e c h × ((returned : Return) (u : Card) → Step e c returned u
      → Arrived g ps (bound p ts) (commands_in e) (arrive (if passes g.kind WentWell returned then well else other) ts (host_after g.kind e returned h)) u))
      (sym deed.2)
      (well_way p ts well other (GiveBlocks h.lines deed.0) c h
      (does place p ts (GiveBlocks h.lines deed.0) (well_or well) other c h at cost (record { lines_are = refl; size = deed.1 }) legal
      (λ l. deed.1 ∙ at.honest.sound.blocks (give_blocks c.state c.transfer (both (give_legal c.state c.transfer) _ l).0))
      (λ returned u step. phase_holds well (GiveBlocks h.lines deed.0) c h returned u refl at.honest.pair step) edge))
  phases_well kinds.Wait place p ts well other c h at cost legal edge = λ event deed.
      subst (λ e. IsFine g.kind e c h × ((returned : Return) (u : Card) → Step e c returned u
      → Arrived g ps (bound p ts) (commands_in e) (arrive (if passes g.kind WentWell returned then well else other) ts (host_after g.kind e returned h)) u))
      (sym deed)
      (well_way p ts well other AwaitReady c h (does place p ts AwaitReady (well_or well) other c h at cost tt legal
      (λ l. tt) (λ returned u step. phase_holds well AwaitReady c h returned u refl at.honest.pair step) edge))

  -- WITHOUT AN EVENT

  -- facts that an edge carries hold at its target
  carried_on : (place : Point) (p : PointFacts) (ts : List ℕ) (t : Target) (c : Card) (h : Host) → Here place p ts c h → commands_of place.action ≡ 0
      → (h' : Host) → shape c h ≡ shape c h' → length h'.numbers ≡ g.numbers → IsHonest g.kind c h' →
      (o : Option Numbers) → IfSome o (λ after. Reaches g.points ps place p Same t (shape c h) after) → Carries p.facts o c h'
      → Arrived g ps (bound p ts) 0 (arrive t ts h') c
  carried_on place p ts t c h at cost h' is many honest None edge carries = absurd carries
  carried_on place p ts t c h at cost h' is many honest (Some after) edge carries =
      subst (λ n. Arrived g ps (bound p ts) n (arrive t ts h') c) cost
      (arrives place p Same t (shape c h) after edge ts ts at.box refl c h' is many carries.numbers honest at.on_card)

  lets_well : (place : Point) (p : PointFacts) (ts : List ℕ) (l : Let) (t : Target) (c : Card) (h : Host) → Here place p ts c h → commands_of place.action ≡ 0
      → MayStandIn g.kind l.atom →
      IfSome (after_let g.kind p.facts l) (λ after. Reaches g.points ps place p Same t (shape c h) after) → (o : Option ℕ) → value_of_let g.kind h l ≡ o →
      MovesWell g ps (bound p ts) (move_with o (λ n. Goes (arrive t ts (with_number h l.target n)))) c
  lets_well place p ts l t c h at cost stand edge None is = tt
  lets_well place p ts l t c h at cost stand edge (Some n) is =
      carried_on place p ts t c h at cost (with_number h l.target n) refl (length-set h.numbers l.target n ∙ many_of place p ts c h at)
      (record {
        pair = record {
          kind = at.honest.pair.kind;
          card = at.honest.pair.card;
          lines = at.honest.pair.lines;
          flags = at.honest.pair.flags;
          rca = at.honest.pair.rca;
        };
        profile = at.honest.profile;
        sound = record { csd = at.honest.sound.csd; ext_csd = at.honest.sound.ext_csd; blocks = at.honest.sound.blocks; register = at.honest.sound.register };
      })
      (after_let g.kind p.facts l) edge (let_keeps g.kind p.facts l c h n stand at.honest at.holds is)

  tests_well : (b : Bool) (place : Point) (p : PointFacts) (ts : List ℕ) (holds fails : Test) (met unmet : Target) (c : Card) (h : Host) → Here place p ts c h
      → commands_of place.action ≡ 0 → (b ≡ true → TestHolds holds h) → (b ≡ false → TestHolds fails h) →
      EachTest p.facts.numbers holds fails met unmet (shape c h) (Reaches g.points ps place p)
      → Arrived g ps (bound p ts) 0 (arrive (if b then met else unmet) ts h) c
  tests_well true place p ts holds fails met unmet c h at cost yes-it no-it edge =
      carried_on place p ts met c h at cost h refl (many_of place p ts c h at) at.honest (after_test p.facts.numbers holds) edge.0
      (test_keeps p.facts holds c h at.holds (yes-it refl))
  tests_well false place p ts holds fails met unmet c h at cost yes-it no-it edge =
      carried_on place p ts unmet c h at cost h refl (many_of place p ts c h at) at.honest (after_test p.facts.numbers fails) edge.1
      (test_keeps p.facts fails c h at.holds (no-it refl))

  -- with the same facts, at the target
  plainly : (place : Point) (p : PointFacts) (ts us : List ℕ) (pass : Pass) (t : Target) (c : Card) (h : Host) → Here place p ts c h
      → commands_of place.action ≡ 0 → Turned pass ts us → Reaches g.points ps place p pass t (shape c h) p.facts.numbers →
      Arrived g ps (bound p ts) 0 (arrive t us h) c
  plainly place p ts us pass t c h at cost turned edge =
      subst (λ n. Arrived g ps (bound p ts) n (arrive t us h) c) cost
      (arrives place p pass t (shape c h) p.facts.numbers edge ts us at.box turned c h refl (many_of place p ts c h at) at.holds.numbers at.honest at.on_card)

  condition_well : (x : Condition) (place : Point) (p : PointFacts) (ts : List ℕ) (met unmet : Target) (c : Card) (h : Host) → Here place p ts c h
      → commands_of place.action ≡ 0 →
      EachCondition x met unmet p.facts.numbers (shape c h) (Reaches g.points ps place p)
      → Arrived g ps (bound p ts) 0 (arrive (if condition_holds h x then met else unmet) ts h) c
  condition_well (conditions.Flag flag) place p ts met unmet c h at cost edge =
      plainly place p ts ts Same (if is_flag_set h.flags flag then met else unmet) c h at cost refl
      (subst (λ b. Reaches g.points ps place p Same (if b then met else unmet) (shape c h) p.facts.numbers) (flag_shown g.kind c h at.honest.pair flag) edge)
  condition_well (conditions.AtLeast x n) place p ts met unmet c h at cost edge =
      tests_well (nat_le n (number h x)) place p ts (AtLeast x n) (Below x n) met unmet c h at cost (λ e. leb-true n (number h x) e)
      (λ e. leb-false n (number h x) e) edge
  condition_well (conditions.Below x n) place p ts met unmet c h at cost edge =
      tests_well (nat_lt (number h x) n) place p ts (Below x n) (AtLeast x n) met unmet c h at cost (λ e. ltb-true (number h x) n e)
      (λ e. ltb-false (number h x) n e) edge

  head_well : (place : Point) (p : PointFacts) (ts : List ℕ) (body other : Target) (c : Card) (h : Host) → Here place p ts c h → commands_of place.action ≡ 0 →
      Reaches g.points ps place p Again body (shape c h) p.facts.numbers × Reaches g.points ps place p Over other (shape c h) p.facts.numbers →
      MovesWell g ps (bound p ts) (move_at_head ts body other h) c
  head_well place p [] body other c h at cost edge = tt
  head_well place p (zero ∷ ts) body other c h at cost edge = plainly place p (zero ∷ ts) (zero ∷ ts) Over other c h at cost refl edge.1
  head_well place p (suc t ∷ ts) body other c h at cost edge = plainly place p (suc t ∷ ts) (t ∷ ts) Again body c h at cost refl edge.0

  halts_well : (last : Ending) (place : Point) (p : PointFacts) (c : Card) (h : Host) → place.action ≡ stops last
      → ClosedAt g.kind ps place p (shape c h) → IsPair g.kind c h → HaltsWell last c
  halts_well Finished place p c h is closed pair = in_tran g.kind c h pair (subst (λ n. EndsAt n (shape c h)) is closed.end_state)
  halts_well Fell place p c h is closed pair = tt
  halts_well Broke place p c h is closed pair = tt
  halts_well (Failed name) place p c h is closed pair = tt
  halts_well Open place p c h is closed pair = tt

  action_well : (action : Action) (most : List ℕ) (p : PointFacts) (ts : List ℕ) (c : Card) (h : Host)
      → ClosedAt g.kind ps (record { action = action; most = most }) p (shape c h)
      → ActionSuits g.kind action → Here (record { action = action; most = most }) p ts c h →
      EachEdge g.kind p.facts action (shape c h) (Reaches g.points ps (record { action = action; most = most }) p)
      → MovesWell g ps (bound p ts) (action_move g.kind action ts h) c
  action_well (sends command ways other) most p ts c h closed suit at edge =
      sends_well (record { action = sends command ways other; most = most }) p ts command ways other c h at refl suit closed.legal
      closed.address edge (position_of_command h command.address) refl
  action_well (phases phase well other) most p ts c h closed suit at edge =
      phases_well phase (record { action = phases phase well other; most = most }) p ts well other c h at refl closed.legal edge
  action_well (lets l t) most p ts c h closed suit at edge =
      lets_well (record { action = lets l t; most = most }) p ts l t c h at refl suit edge (value_of_let g.kind h l) refl
  action_well (tests x met unmet) most p ts c h closed suit at edge =
      condition_well x (record { action = tests x met unmet; most = most }) p ts met unmet c h at refl edge
  action_well (flags flag on t) most p ts c h closed suit at edge =
      let place : Point = record { action = flags flag on t; most = most } in
      let h' : Host = with_flag h flag on in
      let same = pair_with_flag g.kind c h flag on at.honest.pair suit in
      arrives place p Same t (with_flag_shown (shape c h) flag on) p.facts.numbers edge ts ts at.box refl c h' same (many_of place p ts c h at)
      (record { least = at.holds.numbers.least; least_boot = at.holds.numbers.least_boot; many = at.holds.numbers.many; each = at.holds.numbers.each })
      (record {
        pair = record {
          kind = at.honest.pair.kind;
          card = at.honest.pair.card;
          lines = at.honest.pair.lines;
          flags = flags_kept h flag on at.honest.pair.flags suit;
          rca = at.honest.pair.rca;
        };
        profile = at.honest.profile;
        sound = record { csd = at.honest.sound.csd; ext_csd = at.honest.sound.ext_csd; blocks = at.honest.sound.blocks; register = at.honest.sound.register };
      })
      at.on_card
  action_well (widths width t) most p ts c h closed suit at edge =
      let place : Point = record { action = widths width t; most = most } in
      let h' : Host = with_lines h width in
      let same = pair_with_lines g.kind c h width at.honest.pair in
      arrives place p Same t (with_lines_shown (shape c h) width) p.facts.numbers edge ts ts at.box refl c h' same (many_of place p ts c h at)
      (record { least = at.holds.numbers.least; least_boot = at.holds.numbers.least_boot; many = at.holds.numbers.many; each = at.holds.numbers.each })
      (record {
        pair = record {
          kind = at.honest.pair.kind;
          card = at.honest.pair.card;
          lines = suit;
          flags = at.honest.pair.flags;
          rca = at.honest.pair.rca;
        };
        profile = at.honest.profile;
        sound = record { csd = at.honest.sound.csd; ext_csd = at.honest.sound.ext_csd; blocks = at.honest.sound.blocks; register = at.honest.sound.register };
      })
      at.on_card
  action_well (heads n body other) most p ts c h closed suit at edge =
      head_well (record { action = heads n body other; most = most }) p ts body other c h at refl edge
  action_well (jumps t) most p ts c h closed suit at edge = plainly (record { action = jumps t; most = most }) p ts ts Same t c h at refl refl edge
  action_well (stops last) most p ts c h closed suit at edge =
      halts_well last (record { action = stops last; most = most }) p c h refl closed at.honest.pair

-- THE STEP: each move from where the facts of a point hold is as it should be, if the point's clauses hold at the shape
pub points_step_well : (g : Graph) (ps : List PointFacts) → Laws g.kind → Nested g → EachActionSuits g → PointsMatch g ps → PointsStepWell g ps
points_step_well g ps laws nested suits points s c at pc =
    let variables = (points.each s.point at.place at.facts at.here at.known).variables in
    subst (λ o. MovesWell g ps (bound at.facts s.turns) (move g.kind o s.turns s.host) c) (sym at.here)
    (action_well g ps laws points at.place.action at.place.most at.facts s.turns c s.host pc (suits s.point at.place at.here)
    (record { box = at.box; holds = at.holds; honest = at.honest; on_card = at.on_card; variables = variables })
    (edges g.kind g.points ps at.place at.facts (record { 0 = pair_code c s.host }) pc (nested.lands s.point at.place at.here)))

-- AT ONE SHAPE

unit_one : (shapes : List Shape) (s : Shape) (unit : AddressUnit) → May shapes s → unit_fits shapes unit ≡ true → unit_fits (s ∷ []) unit ≡ true
unit_one shapes s Block m e = rw (all-member has_block_addresses shapes s e m) refl
unit_one shapes s Byte m e = rw (all-member (λ s. not (has_block_addresses s)) shapes s e m) refl
unit_one shapes s (By flag) m e = rw (all-member (λ s. beq (has_flag s flag) (has_block_addresses s)) shapes s e m) refl

address_one : (known : Facts) (s : Shape) (a : Address) (n : ℕ) → May known.shapes s → address_fits known a n ≡ true
    → address_fits (known_of_shape known s) a n ≡ true
address_one known s a n m e =
    let parts = both (unit_fits known.shapes a.unit) (each_fits known a.position n) e in
    rw (
      unit_one known.shapes s a.unit m parts.0,
      all-member (λ s. position_fits (partition_shown s) known.numbers a.position n) known.shapes s parts.1 m,
    ) refl

known_one : (known : Facts) (s : Shape) (a : Option Address) (o : Option ℕ) → May known.shapes s → IfSome o (λ blocks. AddressKnown known a blocks)
    → IfSome o (λ blocks. AddressKnown (known_of_shape known s) a blocks)
known_one known s a None m k = tt
known_one known s None (Some n) m k = absurd k
known_one known s (Some a) (Some n) m k = address_one known s a n m k

-- an address that fits at each shape of a point fits at one of them
at_one : (known : Facts) (action : Action) (s : Shape) → May known.shapes s → AddressAt known action → AddressAt (known_of_shape known s) action
at_one known (sends c ways other) s m k = known_one known s c.address (addressed_blocks c.ask) m k
at_one known (phases phase well other) s m k = tt
at_one known (lets l t) s m k = tt
at_one known (tests x met unmet) s m k = tt
at_one known (flags flag on t) s m k = tt
at_one known (widths width t) s m k = tt
at_one known (heads n body other) s m k = tt
at_one known (jumps t) s m k = tt
at_one known (stops last) s m k = tt

-- the clauses of a point, at one of its shapes
closed_at : (k : Kind) (ps : List PointFacts) (place : Point) (p : PointFacts) (s : Shape) → PointClosed k ps place p → May p.facts.shapes s
    → ClosedAt k ps place p s
closed_at k ps place p s closed m = record {
  legal = closed.legal s m;
  address = at_one p.facts place.action s m (closed.address s m);
  shape = closed.shape s m;
  number = closed.number s m;
  bound = closed.bound s m;
  end_state = closed.end_state s m;
}

-- so they do where the certificate is closed
pub steps_well : (g : Graph) (ps : List PointFacts) → Laws g.kind → Nested g → EachActionSuits g → Closed g ps → StepsWell g ps
steps_well g ps laws nested suits closed s c at =
    points_step_well g ps laws nested suits closed.points s c at
    (closed_at g.kind ps at.place at.facts (record { 0 = pair_code c s.host }) (closed.each s.point at.place at.facts at.here at.known) at.holds.shape)
