-- What a guard says of an answer is among what it makes of what is seen there.
use Rattle.std.proofs.Common.{◌≡◌, ℕ, ◌/◌, refl, ap, subst, sym, ◌∙◌, Bool, true, false, not, ◌==◌, ◌&&◌, ◌^◌, arith, eq-eqb, eqb-true, Option, Some, None, if◌then◌else◌}
use Rattle.std.specs.Prelude.{bit_and}
use Rattle.std.proofs.lemmas.Nat.{and_assoc}
use Rattle.std.specs.Int.Bits.{and_zero_l}
use Rattle.sdv_registers.specs.declared.kind.Kind.{Kind}
use Rattle.sdv_registers.specs.declared.kind.Kind.TheVariants.{Sd, Emmc}
use Rattle.sdv_frames.specs.declared.reply.Reply.TheVariants.{R1, R2, R3, R6, R7}
use Rattle.sdv_registers.specs.Status.{state as state_field, is_app_cmd, is_switch_error, doubt_mask, clean_mask, doubt_mask_r6, clean_mask_r6}
use Rattle.sdv_registers.specs.Ocr.{is_powered_up, is_block_addressed}
use Rattle.sdv_card.specs.declared.guard.Guard.{Guard}
use Rattle.sdv_card.specs.declared.guard.Guard.TheVariants.{Clean, Ready as ReadyForData, App, Echo, OcrReady, OcrBlock, State as InState, Ok as WentWell}
use Rattle.sdv_card.specs.declared.event.Seen.TheVariants.{Status}
use Rattle.sdv_card.specs.declared.answer.Answer.{Answer}
use Rattle.sdv_card.specs.declared.answer.Answer.TheVariants.{Reply as Replied, Damaged}
use Rattle.sdv_card.specs.declared.answer.DataEnd.TheVariants.{Ok, Cut}
use Rattle.sdv_card.specs.declared.answer.WaitEnd.TheVariants.{Ok as Over, Late}
use Rattle.sdv_card.specs.declared.command.Order.{Order}
use Rattle.sdv_card.specs.declared.command.Order.TheVariants.{SendIfCond, AppCommand}
use Rattle.sdv_card.specs.States.{state_number}
use Rattle.sdv_card.specs.ResponseStatus.{in_doubt, is_clean}
use Rattle.sdv_card.specs.Takes.{matches}
use Rattle.sdv_card.specs.CommandTable.{order_of}
use Rattle.sdv_card.specs.ScriptEvent.{SendCommand, ReceiveBlocks, ReceiveRegister, GiveBlocks, AwaitReady, Return, Answered, BlocksIn, RegisterIn, BlocksOut, Waited}
use Rattle.sdv_card.specs.Exchange.{card_takes}
use Rattle.sdv_card.specs.Seen.{seen_of, answer_seen, app_of, switch_of}
use Rattle.sdv_card.specs.Guards.{Verdict, Holds, Fails, Open, guard_fits, answer_passes, passes, exactly, exactly_if_shown, is_set, verdict, may_hold, may_fail}
use Rattle.sdv_card.specs.Laws.{VerdictHolds, VerdictsHold, fits_order}
use Rattle.sdv_registers.proofs.FlagLaws.{contains-flag}
use Rattle.sdv_card.specs.declared.state.Mode.{Mode}
use Rattle.sdv_card.specs.Modes.{has_width, partition_number, mode_fits}
use Rattle.sdv_card.proofs.Members.{and_right}
use Rattle.sdv_card.proofs.RowsOfOrders.{says}
use Rattle.sdv_card.proofs.AnswerFits.{AnswerFits, answer_fits}

-- a test and a verdict on it agree
abbrev Agree : Bool → Verdict → Type 0
Agree b Holds = b ≡ true
Agree b Fails = b ≡ false
Agree b Open = Unit {0}

agree_held : (b : Bool) (v : Verdict) → Agree b v → b ≡ true → may_hold v ≡ true
agree_held b Holds a e = refl
agree_held b Open a e = refl
agree_held b Fails a e = absurd (let f : true ≡ false = sym e ∙ a in cc)

agree_failed : (b : Bool) (v : Verdict) → Agree b v → b ≡ false → may_fail v ≡ true
agree_failed b Fails a e = refl
agree_failed b Open a e = refl
agree_failed b Holds a e = absurd (let f : true ≡ false = sym a ∙ e in cc)

exactly_agrees : (b : Bool) → Agree b (exactly b)
exactly_agrees true = refl
exactly_agrees false = refl

-- MASKS: a doubt is no clean status

met_zero : (word wide narrow : ℕ) → bit_and wide narrow ≡ narrow → bit_and word wide ≡ 0 → bit_and word narrow ≡ 0
met_zero word wide narrow part none =
    ap (λ m. bit_and word m) (sym part) ∙ (sym (and_assoc narrow word wide) ∙ (ap (λ m. bit_and m narrow) none ∙ and_zero_l narrow))

-- a word that has a bit of a part of a mask has a bit of the mask
met_wider : (word wide narrow : ℕ) → bit_and wide narrow ≡ narrow → not (bit_and word narrow == 0) ≡ true → (bit_and word wide == 0) ≡ false
met_wider word wide narrow part met = go (bit_and word wide == 0) refl
  where
    go : (b : Bool) → (bit_and word wide == 0) ≡ b → b ≡ false
    go false e = refl
    go true e =
        let f : not (bit_and word narrow == 0) ≡ false = ap not (eq-eqb _ _ (met_zero word wide narrow part (eqb-true _ _ e))) in
        absurd (let g : false ≡ true = sym f ∙ met in cc)

part_of_clean : (k : Kind) → bit_and (clean_mask k) doubt_mask ≡ doubt_mask
part_of_clean Sd = refl
part_of_clean Emmc = refl

clean_agrees : (doubt clean : Bool) (state : ℕ) (app switch : Option Bool) → (doubt ≡ true → clean ≡ false) → (switch ≡ Some true → clean ≡ false) →
    Agree clean (verdict Clean (Status state doubt app switch))
clean_agrees true clean state app switch f g = f refl
clean_agrees false clean state app (Some true) f g = g refl
clean_agrees false clean state app (Some false) f g = tt
clean_agrees false clean state app None f g = tt

-- a switch error is no clean status of an e.MMC device, the only one that has a pending one
some_bit : (a b : Bool) → (if a then Some b else None) ≡ Some true → (a ≡ true) × (b ≡ true)
some_bit true b e = (refl, let f : b ≡ true = cc in f)
some_bit false b e = absurd (let f : None ≡ Some true = e in cc)

bit_set : (n : ℕ) → n ≡ 128 → not (n == 0) ≡ true
bit_set n e = rw e refl

switch_met : (word : ℕ) → is_switch_error word ≡ true → not (bit_and word (2 ^ 7) == 0) ≡ true
switch_met word e =
    bit_set (bit_and word (2 ^ 7)) (eqb-true (bit_and word (2 ^ 7)) (2 ^ 7) (contains-flag word 7 (omega arith) ∙ e))

unclean : (k : Kind) (word : ℕ) → k ≡ Emmc → is_switch_error word ≡ true → (bit_and word (clean_mask k) == 0) ≡ false
unclean k word e s = subst (λ v. (bit_and word (clean_mask v) == 0) ≡ false) (sym e) (met_wider word (clean_mask Emmc) (2 ^ 7) refl (switch_met word s))

switch_unclean : (k : Kind) (pending : Bool) (index word : ℕ) → (pending ≡ true → k ≡ Emmc) → switch_of index pending word ≡ Some true →
    (bit_and word (clean_mask k) == 0) ≡ false
switch_unclean k pending index word only e =
    let p : ((index == 13) && pending ≡ true) × (is_switch_error word ≡ true) = some_bit ((index == 13) && pending) (is_switch_error word) e in
    unclean k word (only (and_right (index == 13) pending p.0)) p.1

-- PARTS THAT ARE SHOWN

app_agrees : (index word : ℕ) → index ≡ 55 → Agree (is_app_cmd word) (exactly (is_set (app_of index word)))
app_agrees index word e = subst (λ n. Agree (is_app_cmd word) (exactly (is_set (app_of n word)))) (sym e) (exactly_agrees (is_app_cmd word))

block_agrees : (ready block : Bool) → Agree block (exactly_if_shown (if ready then Some block else None))
block_agrees true block = exactly_agrees block
block_agrees false block = tt

-- AN ANSWER

answer_agrees : (k : Kind) (pending : Bool) (guard : Guard) (order : Order) (answer : Answer) → (pending ≡ true → k ≡ Emmc) →
    guard_fits guard order ≡ true → AnswerFits order answer → Agree (answer_passes k guard answer) (verdict guard (answer_seen k pending answer))
answer_agrees k pending guard order (Damaged fault) only fit f = absurd f
answer_agrees k pending WentWell order answer only fit f = absurd (let g : false ≡ true = fit in cc)
answer_agrees k pending Clean order (Replied (R1 index word)) only fit f =
    clean_agrees (in_doubt (R1 index word)) (is_clean k (R1 index word)) (state_field word) (app_of index word)
    (switch_of index pending word)
    (λ d. met_wider word (clean_mask k) doubt_mask (part_of_clean k) d) (λ e. switch_unclean k pending index word only e)
answer_agrees k pending Clean order (Replied (R6 word)) only fit f =
    clean_agrees (in_doubt (R6 word)) (is_clean k (R6 word)) (state_field word) None None (λ d. met_wider word clean_mask_r6 doubt_mask_r6 refl d)
    (λ e. absurd (let g : None ≡ Some true = e in cc))
answer_agrees k pending ReadyForData order (Replied (R1 index word)) only fit f = tt
answer_agrees k pending ReadyForData order (Replied (R6 word)) only fit f = tt
answer_agrees k pending App AppCommand (Replied (R1 index word)) only fit f = app_agrees index word f.0
answer_agrees k pending App order (Replied (R1 index word)) only fit f = absurd (let g : false ≡ true = fit in cc)
answer_agrees k pending Echo SendIfCond (Replied (R7 word)) only fit f = eq-eqb _ _ f.1
answer_agrees k pending Echo SendIfCond (Replied (R2 bytes)) only fit f = absurd f.1
answer_agrees k pending Echo order (Replied (R7 word)) only fit f = absurd (let g : false ≡ true = fit in cc)
answer_agrees k pending Echo order (Replied (R2 bytes)) only fit f = absurd (let g : false ≡ true = fit in cc)
answer_agrees k pending OcrReady order (Replied (R3 word)) only fit f = exactly_agrees (is_powered_up word)
answer_agrees k pending OcrBlock order (Replied (R3 word)) only fit f = block_agrees (is_powered_up word) (is_block_addressed k word)
answer_agrees k pending (InState s) order (Replied (R1 index word)) only fit f = exactly_agrees (state_field word == state_number s)
answer_agrees k pending (InState s) order (Replied (R6 word)) only fit f = exactly_agrees (state_field word == state_number s)
answer_agrees k pending guard order (Replied (R1 index word)) only fit f = refl
answer_agrees k pending guard order (Replied (R2 bytes)) only fit f = refl
answer_agrees k pending guard order (Replied (R3 word)) only fit f = refl
answer_agrees k pending guard order (Replied (R6 word)) only fit f = refl
answer_agrees k pending guard order (Replied (R7 word)) only fit f = refl
answer_agrees k pending guard order answer only fit f = refl

answer_holds : (k : Kind) (pending : Bool) (guard : Guard) (order : Order) (answer : Answer) → (pending ≡ true → k ≡ Emmc) →
    guard_fits guard order ≡ true → AnswerFits order answer → VerdictHolds k guard pending (Answered answer)
answer_holds k pending guard order answer only fit f =
    let agree : Agree (answer_passes k guard answer) (verdict guard (answer_seen k pending answer)) = answer_agrees k pending guard order answer only fit f in
    record { held = λ e. agree_held _ _ agree e; failed = λ e. agree_failed _ _ agree e }

-- A PHASE AND A WAIT

went_well : (k : Kind) (pending : Bool) (returned : Return) → Agree (passes k WentWell returned) (verdict WentWell (seen_of k pending returned)) →
    VerdictHolds k WentWell pending returned
went_well k pending returned agree = record { held = λ e. agree_held _ _ agree e; failed = λ e. agree_failed _ _ agree e }

phase_holds : (k : Kind) (pending : Bool) (returned : Return) → Agree (passes k WentWell returned) (verdict WentWell (seen_of k pending returned)) →
    (guard : Guard) → guard ≡ WentWell → VerdictHolds k guard pending returned
phase_holds k pending returned agree guard e = subst (λ g. VerdictHolds k g pending returned) (sym e) (went_well k pending returned agree)

-- an SD card has no switch error
pending_only : (k : Kind) (mode : Mode) → mode_fits k mode ≡ true → mode.error ≡ true → k ≡ Emmc
pending_only Sd mode fits e =
    absurd (let f : not mode.error ≡ true = and_right (has_width Sd mode.width && (partition_number mode.partition == 0)) _ fits in
    let g : not mode.error ≡ false = ap not e in cc)
pending_only Emmc mode fits e = refl

pub verdicts_hold : (k : Kind) → VerdictsHold k
verdicts_hold k guard (SendCommand ask position argument) c h (Answered answer) u pair fit s =
    let e : order_of k ask ≡ Some s.order = subst (λ v. order_of v ask ≡ Some s.order) (sym pair.kind) s.asks.line in
    answer_holds k c.mode.error guard s.order answer
    (λ pending. pending_only k c.mode (subst (λ v. mode_fits v c.mode ≡ true) (sym pair.kind) pair.card.mode) pending)
    (subst (λ o. fits_order guard o ≡ true) e fit)
    (answer_fits (card_takes s.exchange.settled_card s.order argument) s.order argument s.exchange.settled_card u answer
    (λ row by. says s.order s.exchange.settled_card.app (matches s.exchange.settled_card.rca (argument / 65536)) row by) s.exchange.answered)
verdicts_hold k guard (ReceiveBlocks lines count) c h (BlocksIn Ok blocks) u pair fit s = phase_holds k c.mode.error (BlocksIn Ok blocks) refl guard fit
verdicts_hold k guard (ReceiveBlocks lines count) c h (BlocksIn Cut blocks) u pair fit s = phase_holds k c.mode.error (BlocksIn Cut blocks) refl guard fit
verdicts_hold k guard (ReceiveRegister lines count) c h (RegisterIn Ok bytes) u pair fit s = phase_holds k c.mode.error (RegisterIn Ok bytes) refl guard fit
verdicts_hold k guard (ReceiveRegister lines count) c h (RegisterIn Cut bytes) u pair fit s = phase_holds k c.mode.error (RegisterIn Cut bytes) refl guard fit
verdicts_hold k guard (GiveBlocks lines blocks) c h (BlocksOut Ok) u pair fit s = phase_holds k c.mode.error (BlocksOut Ok) refl guard fit
verdicts_hold k guard (GiveBlocks lines blocks) c h (BlocksOut Cut) u pair fit s = phase_holds k c.mode.error (BlocksOut Cut) refl guard fit
verdicts_hold k guard AwaitReady c h (Waited Over) u pair fit s = phase_holds k c.mode.error (Waited Over) refl guard fit
verdicts_hold k guard AwaitReady c h (Waited Late) u pair fit s = phase_holds k c.mode.error (Waited Late) refl guard fit
verdicts_hold k guard event c h returned u pair fit s = absurd s
