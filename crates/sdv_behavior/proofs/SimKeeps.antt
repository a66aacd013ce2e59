-- A simulator keeps the tables of the card that it shows, for every schedule.
use Rattle.std.proofs.Common.{◌≡◌, ℕ, refl, sym, ap, subst, ◌∙◌, Bool, true, false, IsTrue, List, length, Option, Some, None}
use Rattle.std.specs.Prelude.{MatchBool}
use Rattle.sdv_card.specs.declared.state.Width.{Width}
use Rattle.sdv_card.specs.Card.{Card, Block}
use Rattle.sdv_card.specs.Legal.{recv_legal, recv_reg_legal, give_legal}
use Rattle.sdv_card.specs.Modes.{line_count, same_width}
use Rattle.sdv_card.specs.Host.{Host}
use Rattle.sdv_card.specs.Port.{IsFine, Kept, command_of, DataIn, DataInRegister, DataOut, WaitWhileBusy, count_known}
use Rattle.sdv_card.specs.ScriptEvent.{ScriptEvent, SendCommand, ReceiveBlocks, ReceiveRegister, GiveBlocks, AwaitReady, Return, Answered, BlocksIn, RegisterIn, BlocksOut, Waited}
use Rattle.sdv_card.proofs.Members.{and_left}
use Rattle.sdv_controller.specs.Wire.{WireCall, WireReturn, OtherCall, OtherReturn, WireKeepsTables, KeepsAt}
use Rattle.sdv_behavior.specs.declared.card_desc.CardDesc.{CardDesc}
use Rattle.sdv_behavior.specs.declared.card_state.CardState.{CardState}
use Rattle.sdv_behavior.specs.Layout.{contents_of}
use Rattle.sdv_behavior.specs.CardOf.{card_of, card_with}
use Rattle.sdv_behavior.proofs.Described.{IsDescribed}
use Rattle.sdv_behavior.specs.SimSteps.{SimState, SimSteps, card_shown, shown_card, receives, receives_register, takes_blocks}
use Rattle.sdv_behavior.proofs.CountLaw.{Knows}
use Rattle.sdv_behavior.proofs.PhaseLaws.{receive_law, receives_law, register_law, receives_register_law, give_law, takes_law, wait_law}
use Rattle.sdv_behavior.proofs.SendLaw.{send_law}

-- a card is shown where the image shows its blocks
blocks_of : (d : CardDesc) (s : CardState) (b : Option (List Block)) (c : Card) → shown_card d s b ≡ Some c →
    (all : List Block) × (b ≡ Some all) × (card_of d s all ≡ c)
blocks_of d s None c e = absurd (cc)
blocks_of d s (Some all) c e = (all, refl, (cc))

chosen : (b : Bool) (P Q : Type 0) → b ≡ true → MatchBool b P Q → P
chosen true P Q e m = m
chosen false P Q e m = absurd (let f : false ≡ true = e in cc)

-- where a card knows the count, it is this one
abbrev Known : Card → ℕ → Type 0
Known c announced = IsTrue (count_known c.transfer) → c.announced ≡ announced

-- what holds of a state of the simulator holds of what has that state
kept_by : {S : Type 0} (state : S → SimState) (s' : S) (event : ScriptEvent) (c : Card) (returned : Return) → Kept card_shown event c returned (state s') →
    Kept (λ s. card_shown (state s)) event c returned s'
kept_by state s' event c returned k = record {
  after = k.after;
  step = k.step;
  shown = record { shown = k.shown.shown; shows = k.shown.shows; same = k.shown.same; count = k.shown.count };
}

module _ {S : Type 0} (state : S → SimState) (is : (s : S) → IsDescribed (state s).desc) where
  abbrev steps : S → WireCall → WireReturn → S → Type 0
  steps s call returned s' = SimSteps (state s) call returned (state s')

  abbrev shown : S → Option Card
  shown s = card_shown (state s)

  -- at the card that is shown, with the count that the host announced
  module _ (s s' : S) (all : List Block) (announced : ℕ) (h : Host) (blocks : (state s).blocks ≡ Some all)
      (knows : Knows (state s).card announced) where
    abbrev before : Card
    before = card_with (state s).desc (state s).card announced (contents_of (state s).desc all)

    -- the data lines that the card uses
    abbrev width : Width
    width = (state s).card.mode.width

    receive_at : (lines : Width) (count : ℕ) → IsFine (state s).desc.kind (ReceiveBlocks lines count) before h → (returned : Return) →
        steps s (OtherCall (DataIn (line_count lines) count)) (OtherReturn returned) s' → Kept shown (ReceiveBlocks lines count) before returned s'
    receive_at lines count fine (BlocksIn end moved) (size, step) =
        kept_by state s' (ReceiveBlocks lines count) before (BlocksIn end moved)
        (receive_law (state s) (state s') all blocks announced knows lines count end moved
        (and_left (recv_legal (state s).card.state (state s).card.transfer) (same_width lines width) fine.legal) fine.on_card fine.bounds size
        (chosen (receives (state s) (line_count lines) count) _ _
        (receives_law (state s) (state s') all blocks announced knows lines count fine.legal fine.on_card fine.bounds) step))
    receive_at lines count fine returned step = absurd step

    register_at : (lines : Width) (count : ℕ) → IsFine (state s).desc.kind (ReceiveRegister lines count) before h → (returned : Return) →
        steps s (OtherCall (DataInRegister (line_count lines) count)) (OtherReturn returned) s' → Kept shown (ReceiveRegister lines count) before returned s'
    register_at lines count fine (RegisterIn end bytes) (size, step) =
        kept_by state s' (ReceiveRegister lines count) before (RegisterIn end bytes)
        (register_law (state s) (state s') all blocks announced knows lines count end bytes
        (and_left (recv_reg_legal (state s).card.state (state s).card.transfer) (same_width lines width) fine.legal) size
        (chosen (receives_register (state s) (line_count lines) count) _ _
        (receives_register_law (state s) (state s') all blocks announced knows lines count fine.legal fine.bounds) step))
    register_at lines count fine returned step = absurd step

    give_at : (lines : Width) (moved : List Block) → IsFine (state s).desc.kind (GiveBlocks lines moved) before h → (returned : Return) →
        steps s (OtherCall (DataOut (line_count lines) moved)) (OtherReturn returned) s' → Kept shown (GiveBlocks lines moved) before returned s'
    give_at lines moved fine (BlocksOut end) step =
        kept_by state s' (GiveBlocks lines moved) before (BlocksOut end)
        (give_law (state s) (state s') all blocks announced knows lines end moved fine.pair.card.contents
        (and_left (give_legal (state s).card.state (state s).card.transfer) (same_width lines width) fine.legal) fine.on_card fine.bounds
        (chosen (takes_blocks (state s) (line_count lines) (length moved)) _ _
        (takes_law (state s) (state s') all blocks announced knows lines (length moved) fine.legal fine.on_card fine.bounds) step))
    give_at lines moved fine returned step = absurd step

    wait_at : IsFine (state s).desc.kind AwaitReady before h → (returned : Return) → steps s (OtherCall WaitWhileBusy) (OtherReturn returned) s' →
        Kept shown AwaitReady before returned s'
    wait_at fine (Waited end) step =
        kept_by state s' AwaitReady before (Waited end) (wait_law (state s) (state s') all blocks announced knows end fine.legal step)
    wait_at fine returned step = absurd step

    keeps_at : (event : ScriptEvent) → IsFine (state s).desc.kind event before h → KeepsAt steps shown s s' (state s).desc.kind event before
    keeps_at (SendCommand ask position argument) fine = λ frame response end is_command framed step.
        let heard = send_law (state s) (state s') (is s) all blocks announced knows ask position argument h fine end response
        (step.0 (command_of ask argument) is_command framed) in
        record {
          answer = heard.answer;
          kept = kept_by state s' (SendCommand ask position argument) before (Answered heard.answer) heard.kept;
          shown = heard.shown;
        }
    keeps_at (ReceiveBlocks lines count) fine = receive_at lines count fine
    keeps_at (ReceiveRegister lines count) fine = register_at lines count fine
    keeps_at (GiveBlocks lines moved) fine = give_at lines moved fine
    keeps_at AwaitReady fine = wait_at fine

  pub sim_keeps : WireKeepsTables steps shown
  sim_keeps s s' k event c h shows fine =
      let b = blocks_of (state s).desc (state s).card (state s).blocks shows.shown shows.shows in
      let now : Card = card_with (state s).desc (state s).card c.announced (contents_of (state s).desc b.0) in
      let same : card_with (state s).desc (state s).card c.announced (contents_of (state s).desc b.0) ≡ c =
      ap (λ (v : Card). record v { announced = c.announced }) b.2 ∙ shows.same in
      let kind : k ≡ (state s).desc.kind = fine.pair.kind ∙ sym (ap (λ v. v.kind) same) in
      let moves : shows.shown.transfer ≡ c.transfer = ap (λ v. v.transfer) shows.same in
      let known : Known shows.shown c.announced = λ k. shows.count (subst (λ t. IsTrue (count_known t)) moves k) in
      let knows : Knows (state s).card c.announced = subst (λ v. Known v c.announced) (sym b.2) known in
      let here : IsFine (state s).desc.kind event now h =
      subst (λ v. IsFine v event now h) kind (subst (λ v. IsFine k event v h) (sym same) fine) in
      subst (λ v. KeepsAt steps shown s s' k event v) same
      (subst (λ v. KeepsAt steps shown s s' v event now) (sym kind)
      (keeps_at s s' b.0 c.announced h b.1 knows event here))
