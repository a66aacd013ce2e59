-- The commands of a simulator are exchanges of the card that it shows.
use Rattle.std.proofs.Common.{◌≡◌, ℕ, ◌≤◌, ◌+◌, ◌-◌, min, arith, inl, refl, sym, ap, subst, ◌∙◌, Bool, true, false, List, Option, Some, None, if◌then◌else◌}
use Rattle.sdv_registers.specs.declared.kind.Kind.{Kind}
use Rattle.sdv_card.specs.declared.event.Ask.{Ask}
use Rattle.sdv_card.specs.declared.command.Order.{Order}
use Rattle.sdv_card.specs.declared.command.Order.TheVariants.{DeselectCards, ReadMultipleBlock, WriteMultipleBlock}
use Rattle.sdv_card.specs.declared.state.Partition.{Partition}
use Rattle.sdv_card.specs.Card.{Card, Block, Partitions, AreBlocks, blocks_of, put}
use Rattle.sdv_card.specs.CommandTable.{order_argument, argument_or_none, expect_of}
use Rattle.sdv_card.specs.Host.{Host}
use Rattle.sdv_card.specs.Laws.{order_blocks}
use Rattle.sdv_card.specs.Legal.{SendLegal, BlocksWithin}
use Rattle.sdv_card.specs.Port.{IsFine, command_of}
use Rattle.sdv_card.specs.ScriptEvent.{SendCommand, Answered}
use Rattle.sdv_card.specs.Settled.{Settled}
use Rattle.sdv_card.specs.Step.{Sends}
use Rattle.sdv_card.proofs.OrdersOfAsks.{of_ask, OfAsk}
use Rattle.sdv_card.proofs.SettledCard.{settled_is_card}
use Rattle.sdv_card.proofs.TableLaws.{asks_address, steps_are_expected}
use Rattle.sdv_controller.specs.declared.wire.WireEnd.{WireEnd}
use Rattle.sdv_controller.specs.Wire.{Heard as HeardBy}
use Rattle.sdv_behavior.specs.declared.behavior.Behavior.{Behavior}
use Rattle.sdv_behavior.specs.declared.heard.Heard.{Heard}
use Rattle.sdv_behavior.specs.Accepts.{accepts}
use Rattle.sdv_behavior.specs.CardOf.{card_of, card_with}
use Rattle.sdv_behavior.specs.Commands.{order_read}
use Rattle.sdv_behavior.proofs.Described.{IsDescribed}
use Rattle.sdv_behavior.specs.Heard.{settled_by, hear, unheard}
use Rattle.sdv_behavior.specs.declared.card_desc.CardDesc.{CardDesc}
use Rattle.sdv_behavior.specs.Layout.{partition_size, partition_place, image_size, contents_of}
use Rattle.sdv_behavior.proofs.LayoutLaws.{only_there, contents_sized, whole_sized}
use Rattle.sdv_image.specs.Images.{OnlyThese, OnlyAt, AreSized}
use Rattle.sdv_behavior.specs.SimSteps.{SimState, behavior_of, card_shown, shown_card, heard_order, heard_of, erase_start, erase_end, BlocksLeft, Transfers}
use Rattle.sdv_behavior.proofs.Told.{LeavesBlocks}
use Rattle.sdv_behavior.proofs.AcceptLaws.{SentTo, accepts_law, hears_same}
use Rattle.sdv_behavior.proofs.AnswerShown.{shows_law}
use Rattle.sdv_behavior.specs.LinesRead.{read_as}
use Rattle.sdv_behavior.proofs.CommandLaws.{read_law}
use Rattle.sdv_behavior.proofs.CountLaw.{Knows, SomeCount, count_fits, settled_count, done_count}
use Rattle.sdv_behavior.proofs.HearLaw.{way_of, announced_as, settled_law, hear_law}

-- WHAT A HOST SENDS

sent_to : (order : Order) (argument own rca address : ℕ) → argument ≡ order_argument order own rca address → SentTo order argument
sent_to DeselectCards argument own rca address same = same
sent_to order argument own rca address same = tt

some_count : (k : Kind) (ask : Ask) (order : Order) → OfAsk k ask order → SomeCount order
some_count k ask (ReadMultipleBlock n) o = o.some n refl
some_count k ask (WriteMultipleBlock n) o = o.some n refl
some_count k ask order o = tt

-- BLOCKS that a command leaves

-- what an erase of a partition changes of an image
erased_there : (d : CardDesc) (partition : Partition) (first last : ℕ) (old new : List Block) →
    OnlyThese (min (partition_place d partition + first) (partition_place d partition + min (last + 1) (partition_size d partition)))
    (partition_place d partition + min (last + 1) (partition_size d partition)
    - min (partition_place d partition + first) (partition_place d partition + min (last + 1) (partition_size d partition))) old new →
    put partition (blocks_of partition (contents_of d new)) (contents_of d old) ≡ contents_of d new
erased_there d partition first last old new o =
    let place : ℕ = partition_place d partition in
    let size : ℕ = partition_size d partition in
    let end : ℕ = place + min (last + 1) size in
    let start : ℕ = min (place + first) end in
    let at : start ≡ place + (start - place) = omega arith in
    let room : (start - place) + (end - start) ≤ size = omega arith in
    (only_there d partition (start - place) (end - start) old new room (subst (λ (n : ℕ). OnlyThese n (end - start) old new) at o)).others

record Left (erases : Bool) (s : SimState) (all : List Block) (blocks : Option (List Block)) : Type 0 where
  all' : List Block
  shown : Some all' ≡ blocks
  leaves : LeavesBlocks erases s.desc s.card.mode.partition (contents_of s.desc all) (contents_of s.desc all')

left_of : (erases : Bool) (s s' : SimState) (all : List Block) → s.blocks ≡ Some all → AreBlocks (image_size s.desc) all → BlocksLeft erases s s' →
    Left erases s all s'.blocks
left_of false s s' all e fit same = record { all' = all; shown = sym e ∙ same.blocks; leaves = refl }
left_of true s s' all e fit erased = go s.blocks e erased.others
  where
    sized : (left : List Block) → Some left ≡ s'.blocks → AreBlocks (image_size s.desc) left
    sized left shown =
        subst (λ b. AreSized (image_size s.desc) b) (sym shown) (erased.fit (subst (λ b. AreSized (image_size s.desc) b) (sym e) fit))

    go : (b : Option (List Block)) → b ≡ Some all →
        OnlyAt (erase_start s.desc s.card) (erase_end s.desc s.card - erase_start s.desc s.card) b s'.blocks → Left true s all s'.blocks
    go None f o = absurd (cc)
    go (Some old) f o =
        let same : old ≡ all = cc in
        record {
          all' = o.0;
          shown = o.1;
          leaves = record {
            others =
                erased_there s.desc s.card.mode.partition s.card.erase_first s.card.erase_last all o.0
                (subst (λ (v : List Block). OnlyThese (erase_start s.desc s.card) (erase_end s.desc s.card - erase_start s.desc s.card) v o.0) same o.2);
            blocks = contents_sized s.desc o.0 (sized o.0 o.1) s.card.mode.partition;
          };
        }

-- ONE COMMAND

module _ (s s' : SimState) (is : IsDescribed s.desc) (all : List Block) (shows : s.blocks ≡ Some all) (announced : ℕ)
    (knows : Knows s.card announced) where
  -- what the card holds
  abbrev contents : Partitions
  contents = contents_of s.desc all

  abbrev before : Card
  before = card_with s.desc s.card announced contents

  module _ (ask : Ask) (position argument : ℕ) (h : Host) (fine : IsFine s.desc.kind (SendCommand ask position argument) before h) where
    abbrev legal : SendLegal ask argument before
    legal = fine.legal

    abbrev order : Order
    order = fine.legal.order

    argument_is : argument ≡ order_argument order ask.argument h.rca fine.made.address
    argument_is = fine.made.same ∙ ap (λ o. argument_or_none o ask.argument h.rca fine.made.address) fine.legal.asks.line

    sent : SentTo order argument
    sent = sent_to order argument ask.argument h.rca fine.made.address argument_is

    read : order_read s.desc.kind s.card.preset ask.index argument ≡ Some (read_as s.card.preset order)
    read = ap (λ a. order_read s.desc.kind s.card.preset ask.index a) argument_is
        ∙ read_law s.desc.kind ask order s.card.preset h.rca fine.made.address fine.legal.asks.line

    within : BlocksWithin (order_blocks order) before position argument
    within = subst (λ o. BlocksWithin o before position argument) (sym (asks_address s.desc.kind ask order fine.legal.asks.line)) fine.bounds

    accepted : accepts s.desc (read_as s.card.preset order) argument s.card ≡ true
    accepted = accepts_law s.desc order position argument announced s.card contents sent
        (count_fits order s.card.app _ before (some_count s.desc.kind ask order (of_ask s.desc.kind ask order fine.legal.asks.line))
        (fine.legal.settled before (inl refl)))
        fine.pair.card fine.legal.settled within

    -- the card that the command meets
    abbrev behavior : Behavior
    behavior = behavior_of s

    abbrev met : Card
    met = card_with s.desc (settled_by behavior.settles s.card) announced contents

    settles : Settled before met
    settles = settled_law s.desc is fine.pair.card.csd behavior order argument announced contents contents behavior.settles s.card

    abbrev outcome : Heard
    outcome = hear s.desc behavior order argument s.card

    heard_is : heard_of s (command_of ask argument) ≡ outcome
    heard_is =
        ap (λ o. heard_order s.desc behavior o argument s.card) read
        ∙ (ap (λ b. if b then hear s.desc behavior (read_as s.card.preset order) argument s.card else unheard s.card) accepted
        ∙ hears_same s.desc behavior order s.card.preset argument announced (settled_by behavior.settles s.card) contents sent
        (settled_is_card before met fine.pair.card settles).address (fine.legal.settled met settles))

    abbrev after : Partitions → Card
    after contents' = card_with s.desc outcome.after (announced_as behavior (way_of behavior order argument s.card) announced) contents'

    knows_after : Knows outcome.after (announced_as behavior (way_of behavior order argument s.card) announced)
    knows_after =
        done_count s.desc behavior (way_of behavior order argument s.card) argument (settled_by behavior.settles s.card) announced contents
        (fine.legal.settled met settles)
        (settled_count behavior.settles s.card announced knows)

    shown_after : (all' : List Block) → Some all' ≡ s'.blocks → s.desc ≡ s'.desc → outcome.after ≡ s'.card →
        Some (card_of s.desc outcome.after all') ≡ card_shown s'
    shown_after all' e desc card =
        ap (λ b. shown_card s.desc outcome.after b) e ∙ (ap (λ d. shown_card d outcome.after s'.blocks) desc ∙ ap (λ c. shown_card s'.desc c s'.blocks) card)

    transferred : (end : WireEnd) (response : List ℕ) → Transfers outcome end response s s' →
        HeardBy card_shown s.desc.kind ask position argument before end response s'
    transferred end response t =
        let left = left_of outcome.erases s s' all shows (whole_sized s.desc all fine.pair.card.contents) t.blocks in
        let contents' : Partitions = contents_of s.desc left.all' in
        let told = hear_law s.desc is fine.pair.card.csd behavior order argument announced s.card contents contents' fine.legal.settled left.leaves in
        let step : Sends ask argument before told.answer (after contents') = record { order = order; asks = fine.legal.asks; exchange = told.exchange } in
        record {
          answer = told.answer;
          kept = record {
            after = after contents';
            step = step;
            shown = record {
              shown = card_of s.desc outcome.after left.all';
              shows = sym (shown_after left.all' left.shown t.goes.desc t.goes.state);
              same = refl;
              count = knows_after;
            };
          };
          shown = shows_law (expect_of s.desc.kind ask) outcome.reply end response told.answer
              (steps_are_expected s.desc.kind (SendCommand ask position argument) before (Answered told.answer) (after contents') refl step)
              told.told told.is_reply t.gives;
        }

    pub send_law : (end : WireEnd) (response : List ℕ) → Transfers (heard_of s (command_of ask argument)) end response s s' →
        HeardBy card_shown s.desc.kind ask position argument before end response s'
    send_law end response t = transferred end response (subst (λ v. Transfers v end response s s') heard_is t)
