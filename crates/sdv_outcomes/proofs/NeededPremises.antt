-- Each premise of a representative card is needed, and so is the exception: cards with an outcome that is of no step.
use Rattle.std.proofs.Common.{◌≡◌, ℕ, ◌==◌, ◌||◌, inl, inr, refl, ap, subst, sym, ◌∙◌, true, false, List, Some, None, lit<}
use Rattle.sdv_frames.specs.declared.reply.Reply.TheVariants.{R1, R2, R3, R6, R7}
use Rattle.sdv_registers.specs.declared.kind.Kind.TheVariants.{Sd, Emmc}
use Rattle.sdv_card.specs.declared.state.Partition.TheVariants.{Boot1}
use Rattle.sdv_card.specs.declared.fields.Fields.{Fields}
use Rattle.sdv_card.specs.declared.event.Aim.TheVariants.{Rca, Plain}
use Rattle.sdv_card.specs.declared.event.Ask.{Ask}
use Rattle.sdv_card.specs.declared.event.Seen.TheVariants.{TimeOut as SeenTimeOut, Bare, Status}
use Rattle.sdv_card.specs.declared.event.Outcome.{Outcome}
use Rattle.sdv_card.specs.declared.answer.Answer.{Answer}
use Rattle.sdv_card.specs.declared.answer.Answer.TheVariants.{Sent, TimeOut, Reply as Replied, Damaged}
use Rattle.sdv_card.specs.declared.command.Order.{Order}
use Rattle.sdv_card.specs.declared.command.Order.TheVariants.{SendIfCond, SendStatus, Switch}
use Rattle.sdv_card.specs.declared.command.Row.TheVariants.{Cmd6, Cmd8Sd, Cmd13}
use Rattle.sdv_card.specs.declared.command.Setting.TheVariants.{Access}
use Rattle.sdv_card.specs.declared.command.Response.TheVariants.{CardStatus, Contents}
use Rattle.sdv_card.specs.States.{own_target}
use Rattle.sdv_card.specs.ResponseStatus.{in_doubt}
use Rattle.sdv_card.specs.Modes.{has_partition}
use Rattle.sdv_card.specs.CommandTable.{order_of}
use Rattle.sdv_card.specs.ScriptEvent.{ScriptEvent, SendCommand, Return, Answered}
use Rattle.sdv_card.specs.Card.{Card, IsCard, Block, AreBlocks}
use Rattle.sdv_card.specs.Host.{Host, host_after}
use Rattle.sdv_card.specs.Settled.{Settled}
use Rattle.sdv_card.specs.Exchange.{card_takes, RowAnswer, SettledAnswer}
use Rattle.sdv_card.specs.Step.{Step, Sends}
use Rattle.sdv_card.specs.Seen.{answer_seen}
use Rattle.sdv_card.specs.Code.{code_of, digits, fields_of}
use Rattle.sdv_card.specs.Shapes.{view, is_shape, IsPair}
use Rattle.sdv_card.specs.Profile.{host_at_start}
use Rattle.sdv_card.specs.BringUp.{example_card}
use Rattle.sdv_card.specs.EmmcBringUp.{example_device}
use Rattle.sdv_card.proofs.Digits.{fields_law}
use Rattle.sdv_card.proofs.Steps.{bring_up_happens, made}
use Rattle.sdv_card.proofs.DeviceSteps.{device_bring_up_happens}
use Rattle.sdv_card.proofs.TableLaws.{legal_is_exact, steps_keep_pairs}
use Rattle.sdv_outcomes.specs.OutcomeSteps.{step_outcome, IsImpossibleMatch}
use Rattle.sdv_outcomes.specs.Needed.{AlwaysHasOther, card_with_error, card_of_version_1, device_without_boot_blocks, identified_card, PremisesAreNeeded}
use Rattle.sdv_outcomes.proofs.ImpossibleMatches.{impossible_matches_are_no_steps}

-- A COMMAND at a card that has no step of its own

settled_same : (c t : Card) → own_target c.state c.transfer ≡ None → Settled c t → c ≡ t
settled_same c t e (inl same) = same
settled_same c t e (inr own) = absurd (let f : None ≡ Some own.0 = sym e ∙ own.1 in cc)

answer_at : (ask : Ask) (argument : ℕ) (order : Order) (c : Card) (answer : Answer) (u : Card) → own_target c.state c.transfer ≡ None →
    order_of c.kind ask ≡ Some order → Sends ask argument c answer u → SettledAnswer (card_takes c order argument) order argument c answer u
answer_at ask argument order c answer u own line s =
    let t : Card = s.exchange.settled_card in
    let same : c ≡ t = settled_same c t own s.exchange.settled in
    let is : Some s.order ≡ Some order = sym s.asks.line ∙ line in
    let order_is : s.order ≡ order = cc in
    subst (λ o. SettledAnswer (card_takes c o argument) o argument c answer u) order_is
    (subst (λ v. SettledAnswer (card_takes v s.order argument) s.order argument v answer u) (sym same) s.exchange.answered)

-- THE CARDS

abbrev host : ℕ → Host
host rca = record (host_at_start 0) { rca = rca }

error_card : (contents : List Block) → AreBlocks 1024 contents → IsCard (card_with_error contents)
error_card contents blocks =
    let c : IsCard (example_card contents) = (bring_up_happens.start contents blocks).profile.card in
    record {
      csd = c.csd;
      cid = c.cid;
      registers = record { scr = c.registers.scr; sd_status = c.registers.sd_status };
      address = (0x1234, refl, lit< tt, lit< tt);
      transfer = refl;
      kind_rules = refl;
      block_length = refl;
      mode = refl;
      preset = c.preset;
      announced = c.announced;
      contents = c.contents;
    }

idle_card : (contents : List Block) → AreBlocks 1024 contents → IsCard (card_of_version_1 contents)
idle_card contents blocks =
    let c : IsCard (example_card contents) = (bring_up_happens.start contents blocks).profile.card in
    record {
      csd = c.csd;
      cid = c.cid;
      registers = record { scr = c.registers.scr; sd_status = c.registers.sd_status };
      address = refl;
      transfer = refl;
      kind_rules = refl;
      block_length = refl;
      mode = refl;
      preset = c.preset;
      announced = c.announced;
      contents = c.contents;
    }

ident_card : (contents : List Block) → AreBlocks 1024 contents → IsCard (identified_card contents)
ident_card contents blocks =
    let c : IsCard (example_card contents) = (bring_up_happens.start contents blocks).profile.card in
    record {
      csd = c.csd;
      cid = c.cid;
      registers = record { scr = c.registers.scr; sd_status = c.registers.sd_status };
      address = refl;
      transfer = refl;
      kind_rules = refl;
      block_length = refl;
      mode = refl;
      preset = c.preset;
      announced = c.announced;
      contents = c.contents;
    }

boot_device : (contents : List Block) → AreBlocks 1024 contents → IsCard (device_without_boot_blocks contents)
boot_device contents blocks =
    let c : IsCard (example_device contents) = (device_bring_up_happens.start contents blocks).profile.card in
    record {
      csd = c.csd;
      cid = c.cid;
      registers = c.registers;
      address = (1, refl, lit< tt, lit< tt);
      transfer = refl;
      kind_rules = refl;
      block_length = refl;
      mode = refl;
      preset = c.preset;
      announced = c.announced;
      contents = c.contents;
    }

-- AN ERROR OF AN EARLIER WRITE: CMD13 does not answer without a doubt

ask_status : Ask
ask_status = record { index = 13; aim = Rca; argument = 0; count = 0 }

shows_doubt : (contents : List Block) (argument : ℕ) (answer : Answer) (u : Card) →
    RowAnswer CardStatus SendStatus Cmd13 argument (card_with_error contents) answer u → answer_seen Sd false answer ≡ Status 4 false None None → ⊥
shows_doubt contents argument Sent u a e = a
shows_doubt contents argument TimeOut u a e = let f : SeenTimeOut ≡ Status 4 false None None = e in cc
shows_doubt contents argument (Damaged fault) u a e = a
shows_doubt contents argument (Replied (R1 index word)) u a e =
    let shown : in_doubt (R1 index word) ≡ true = a.error.must refl refl in
    let none : in_doubt (R1 index word) ≡ false = cc in
    let bad : true ≡ false = sym shown ∙ none in
    cc
shows_doubt contents argument (Replied (R2 bytes)) u a e = a
shows_doubt contents argument (Replied (R3 word)) u a e = a
shows_doubt contents argument (Replied (R6 word)) u a e = a
shows_doubt contents argument (Replied (R7 word)) u a e = a

error_none : (contents : List Block) (returned : Return) (u : Card) →
    Step (SendCommand ask_status 0 0x12340000) (card_with_error contents) returned u →
    record { shape = record { 0 = 0x2c04 }; seen = Status 4 false None None }
    ≡ step_outcome Sd (SendCommand ask_status 0 0x12340000) (card_with_error contents) (host 0x1234) returned u → ⊥
unfolding ask_status order_of
error_none contents (Answered answer) u s same =
    shows_doubt contents 0x12340000 answer u (answer_at ask_status 0x12340000 SendStatus (card_with_error contents) answer u refl refl s)
    (sym (ap (λ (o : Outcome). o.seen) same))
error_none contents returned u s same = absurd s

error_pair : (contents : List Block) → AreBlocks 1024 contents → IsPair Sd (card_with_error contents) (host 0x1234)
error_pair contents blocks =
    record { kind = refl; card = error_card contents blocks; lines = refl; flags = lit< tt; rca = lit< tt }

error_is_needed : AlwaysHasOther Sd card_with_error 0x1234
unfolding ask_status order_of code_of digits fields_of is_shape
error_is_needed contents blocks =
    let c : Card = card_with_error contents in
    let pair : IsPair Sd c (host 0x1234) = error_pair contents blocks in
    record {
      event = SendCommand ask_status 0 0x12340000;
      outcome = record { shape = record { 0 = 0x2c04 }; seen = Status 4 false None None };
      pair = pair;
      made = made refl;
      legal = (legal_is_exact Sd (SendCommand ask_status 0 0x12340000) c (host 0x1234) pair (made refl)).1 refl;
      bounds = tt;
      on_card = λ e. absurd (cc);
      gives = tt;
      may = record { one = inr (inr (inl refl)) };
      none = error_none contents;
    }

-- VERSION 1: CMD8 has no response

ask_condition : Ask
ask_condition = record { index = 8; aim = Plain; argument = 0; count = 0 }

no_response : (contents : List Block) (argument : ℕ) (answer : Answer) (u : Card) →
    RowAnswer Contents SendIfCond Cmd8Sd argument (card_of_version_1 contents) answer u → answer_seen Sd false answer ≡ Bare → ⊥
no_response contents argument Sent u a e = a
no_response contents argument TimeOut u a e = let f : SeenTimeOut ≡ Bare = e in cc
no_response contents argument (Damaged fault) u a e = a
no_response contents argument (Replied (R1 index word)) u a e = a.shown
no_response contents argument (Replied (R2 bytes)) u a e = a.shown
no_response contents argument (Replied (R3 word)) u a e = a.shown
no_response contents argument (Replied (R6 word)) u a e = a.shown
no_response contents argument (Replied (R7 word)) u a e = let bad : true ≡ false = ap (λ n. n == 1) a.shown.version in cc

version_none : (contents : List Block) (returned : Return) (u : Card) →
    Step (SendCommand ask_condition 0 0x1aa) (card_of_version_1 contents) returned u →
    record { shape = record { 0 = 0x2800 }; seen = Bare }
    ≡ step_outcome Sd (SendCommand ask_condition 0 0x1aa) (card_of_version_1 contents) (host 0x1234) returned u → ⊥
unfolding ask_condition order_of
version_none contents (Answered answer) u s same =
    no_response contents 0x1aa answer u (answer_at ask_condition 0x1aa SendIfCond (card_of_version_1 contents) answer u refl refl s)
    (sym (ap (λ (o : Outcome). o.seen) same))
version_none contents returned u s same = absurd s

version_pair : (contents : List Block) → AreBlocks 1024 contents → IsPair Sd (card_of_version_1 contents) (host 0x1234)
version_pair contents blocks =
    record { kind = refl; card = idle_card contents blocks; lines = refl; flags = lit< tt; rca = lit< tt }

version_is_needed : AlwaysHasOther Sd card_of_version_1 0x1234
unfolding ask_condition order_of code_of digits fields_of is_shape
version_is_needed contents blocks =
    let c : Card = card_of_version_1 contents in
    let pair : IsPair Sd c (host 0x1234) = version_pair contents blocks in
    record {
      event = SendCommand ask_condition 0 0x1aa;
      outcome = record { shape = record { 0 = 0x2800 }; seen = Bare };
      pair = pair;
      made = made refl;
      legal = (legal_is_exact Sd (SendCommand ask_condition 0 0x1aa) c (host 0x1234) pair (made refl)).1 refl;
      bounds = tt;
      on_card = λ e. absurd (cc);
      gives = tt;
      may = record { one = inr (inr (inl refl)) };
      none = version_none contents;
    }

-- NO BOOT BLOCKS: a CMD6 that asks for access to a boot partition fails

ask_access : Ask
ask_access = record { index = 6; aim = Plain; argument = 0x03b30100; count = 0 }

no_access : (contents : List Block) (argument : ℕ) (answer : Answer) (u : Card) →
    RowAnswer CardStatus (Switch (Access Boot1)) (Cmd6 (Access Boot1)) argument (device_without_boot_blocks contents) answer u →
    answer_seen Emmc false answer ≡ Status 4 false None None → u.mode.error ≡ false → ⊥
no_access contents argument Sent u a e f = a
no_access contents argument TimeOut u a e f = let g : SeenTimeOut ≡ Status 4 false None None = e in cc
no_access contents argument (Damaged fault) u a e f = a
no_access contents argument (Replied (R1 index word)) u a e f =
    let none : in_doubt (R1 index word) ≡ false = cc in
    elim a.card [
      | inl taken ↦
          let fails : (u.mode.error || has_partition Boot1 0) ≡ true = taken.switched in
          let bad : false ≡ true = subst (λ b. (b || false) ≡ true) f fails in
          cc
      | inr stay ↦ let bad : true ≡ false = sym stay.0 ∙ none in cc
    ]
no_access contents argument (Replied (R2 bytes)) u a e f = a
no_access contents argument (Replied (R3 word)) u a e f = a
no_access contents argument (Replied (R6 word)) u a e f = a
no_access contents argument (Replied (R7 word)) u a e f = a

access_pair : (contents : List Block) → AreBlocks 1024 contents → IsPair Emmc (device_without_boot_blocks contents) (host 1)
access_pair contents blocks =
    record { kind = refl; card = boot_device contents blocks; lines = refl; flags = lit< tt; rca = lit< tt }

access_shown : Outcome
access_shown = record { shape = record { 0 = 0x01002c07 }; seen = Status 4 false None None }

-- by its code, the card has no switch error after it
no_error_in : (u : Card) (h : Host) → IsPair Emmc u h → access_shown.shape.0 ≡ code_of (view u h) → u.mode.error ≡ false
unfolding access_shown code_of digits fields_of
no_error_in u h pair same =
    let both : fields_of 0x01002c07 ≡ Some (view u h) = ap fields_of same ∙ fields_law (view u h) pair.flags pair.card.preset in
    let fields : digits 0x01002c07 ≡ view u h = cc in
    sym (ap (λ (f : Fields). f.mode.error) fields)

access_none : (contents : List Block) → AreBlocks 1024 contents → (returned : Return) (u : Card) →
    Step (SendCommand ask_access 0 0x03b30100) (device_without_boot_blocks contents) returned u →
    access_shown ≡ step_outcome Emmc (SendCommand ask_access 0 0x03b30100) (device_without_boot_blocks contents) (host 1) returned u → ⊥
unfolding ask_access access_shown order_of
access_none contents blocks (Answered answer) u s same =
    let c : Card = device_without_boot_blocks contents in
    let event : ScriptEvent = SendCommand ask_access 0 0x03b30100 in
    let after : IsPair Emmc u (host_after Emmc event (Answered answer) (host 1)) =
    steps_keep_pairs Emmc event c (host 1) (Answered answer) u (access_pair contents blocks) (made refl) s in
    no_access contents 0x03b30100 answer u (answer_at ask_access 0x03b30100 (Switch (Access Boot1)) c answer u refl refl s)
    (sym (ap (λ (o : Outcome). o.seen) same)) (no_error_in u (host_after Emmc event (Answered answer) (host 1)) after (ap (λ (o : Outcome). o.shape.0) same))
access_none contents blocks returned u s same = absurd s

boot_blocks_are_needed : AlwaysHasOther Emmc device_without_boot_blocks 1
unfolding ask_access access_shown order_of code_of digits fields_of is_shape
boot_blocks_are_needed contents blocks =
    let c : Card = device_without_boot_blocks contents in
    let pair : IsPair Emmc c (host 1) = access_pair contents blocks in
    record {
      event = SendCommand ask_access 0 0x03b30100;
      outcome = access_shown;
      pair = pair;
      made = made refl;
      legal = (legal_is_exact Emmc (SendCommand ask_access 0 0x03b30100) c (host 1) pair (made refl)).1 refl;
      bounds = tt;
      on_card = λ e. absurd (cc);
      gives = tt;
      may = record { one = inr (inr (inr (inr (inr (inr (inr (inr (inr (inl refl))))))))) };
      none = access_none contents blocks;
    }

-- THE EXCEPTION: CMD3 of SD, unheard, beside a host that holds no address

ask_address : Ask
ask_address = record { index = 3; aim = Plain; argument = 0; count = 0 }

match_shown : Outcome
match_shown = record { shape = record { 0 = 0x2c03 }; seen = SeenTimeOut }

ident_pair : (contents : List Block) → AreBlocks 1024 contents → IsPair Sd (identified_card contents) (host 0)
ident_pair contents blocks =
    record { kind = refl; card = ident_card contents blocks; lines = refl; flags = lit< tt; rca = lit< tt }

exception_is_needed : AlwaysHasOther Sd identified_card 0
unfolding ask_address match_shown order_of code_of digits fields_of is_shape
exception_is_needed contents blocks =
    let c : Card = identified_card contents in
    let event : ScriptEvent = SendCommand ask_address 0 0 in
    let pair : IsPair Sd c (host 0) = ident_pair contents blocks in
    let impossible : IsImpossibleMatch Sd event (host 0) match_shown =
    record { asks = refl; none = refl; seen = refl; fields = digits 0x2c03; shown = refl; state = refl; matched = refl } in
    record {
      event = event;
      outcome = match_shown;
      pair = pair;
      made = made refl;
      legal = (legal_is_exact Sd event c (host 0) pair (made refl)).1 refl;
      bounds = tt;
      on_card = λ e. absurd (cc);
      gives = tt;
      may = record { one = inr (inr (inl refl)) };
      none = λ returned u s same. impossible_matches_are_no_steps Sd event c (host 0) match_shown returned u pair (made refl) impossible s same;
    }

pub premises_are_needed : PremisesAreNeeded
premises_are_needed = record {
  all_shown = error_is_needed;
  version = version_is_needed;
  boot_blocks = boot_blocks_are_needed;
  exception = exception_is_needed;
  representative = λ contents. record { all_shown = refl; version = λ e. refl; boot_blocks = λ e. absurd (cc) };
}
