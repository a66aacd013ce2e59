-- A card that chose an address does not match a host that holds 0.
use Rattle.std.proofs.Common.{◌≡◌, ℕ, ◌<◌, zero, suc, refl, ap, subst, sym, ◌∙◌, Bool, true, false, ◌==◌, Option, Some, arith}
use Rattle.std.proofs.lemmas.Bool.Decides.{nat_tests}
use Rattle.sdv_registers.specs.declared.kind.Kind.{Kind}
use Rattle.sdv_frames.specs.declared.reply.Reply.TheVariants.{R1, R2, R3, R6, R7}
use Rattle.sdv_card.specs.declared.state.State.TheVariants.{Stby}
use Rattle.sdv_card.specs.declared.event.Seen.TheVariants.{TimeOut as SeenTimeOut}
use Rattle.sdv_card.specs.declared.answer.Answer.{Answer}
use Rattle.sdv_card.specs.declared.answer.Answer.TheVariants.{Sent, TimeOut, Reply as Replied, Damaged}
use Rattle.sdv_card.specs.declared.command.Order.TheVariants.{SendRelativeAddress}
use Rattle.sdv_card.specs.Takes.{matches}
use Rattle.sdv_card.specs.ScriptEvent.{ScriptEvent, SendCommand, ReceiveBlocks, ReceiveRegister, GiveBlocks, AwaitReady, Return, Answered}
use Rattle.sdv_card.specs.Card.{Card, AddressFits}
use Rattle.sdv_card.specs.Host.{Host, host_after, host_after_order, rca_known}
use Rattle.sdv_card.specs.Step.{Step}
use Rattle.sdv_card.specs.Shapes.{view, IsPair}
use Rattle.sdv_card.specs.Code.{fields_of}
use Rattle.sdv_card.specs.Seen.{seen_of, answer_seen}
use Rattle.sdv_card.proofs.Digits.{fields_law}
use Rattle.sdv_card.proofs.KeepPairs.{steps_keep_pairs}
use Rattle.sdv_outcomes.specs.OutcomeSteps.{AsksRelativeAddress, ImpossibleMatchesAreNoSteps}

-- a host that heard nothing keeps its address
unheard : (k : Kind) (pending : Bool) (answer : Answer) (n : ℕ) → answer_seen k pending answer ≡ SeenTimeOut → rca_known SendRelativeAddress answer n ≡ n
unheard k pending Sent n e = refl
unheard k pending TimeOut n e = refl
unheard k pending (Damaged fault) n e = refl
unheard k pending (Replied (R1 index word)) n e = refl
unheard k pending (Replied (R2 bytes)) n e = refl
unheard k pending (Replied (R3 word)) n e = refl
unheard k pending (Replied (R6 word)) n e = absurd (cc)
unheard k pending (Replied (R7 word)) n e = refl

still_none : (k : Kind) (event : ScriptEvent) (c u : Card) (h : Host) (returned : Return) → AsksRelativeAddress k event → Step event c returned u →
    seen_of k c.mode.error returned ≡ SeenTimeOut → (host_after k event returned h).rca ≡ h.rca
still_none k (SendCommand ask position argument) c u h (Answered answer) asks s e =
    ap (λ o. (host_after_order o answer h).rca) asks ∙ unheard k c.mode.error answer h.rca e
still_none k (SendCommand ask position argument) c u h returned asks s e = absurd s
still_none k (ReceiveBlocks lines count) c u h returned asks s e = absurd asks
still_none k (ReceiveRegister lines count) c u h returned asks s e = absurd asks
still_none k (GiveBlocks lines blocks) c u h returned asks s e = absurd asks
still_none k AwaitReady c u h returned asks s e = absurd asks

positive_not_zero : (n : ℕ) → 0 < n → (n == 0) ≡ false
positive_not_zero zero h = absurd (omega arith)
positive_not_zero (suc n) h = grind (arith, nat_tests)

no_match : (a : Option ℕ) (n : ℕ) → AddressFits Stby a → n ≡ 0 → matches a n ≡ false
no_match a n fits e = rw e (subst (λ v. matches v 0 ≡ false) fits.1 (positive_not_zero fits.0 fits.2))

pub impossible_matches_are_no_steps : (k : Kind) → ImpossibleMatchesAreNoSteps k
impossible_matches_are_no_steps k event c h o returned u pair made impossible s same =
    let h' : Host = host_after k event returned h in
    let after : IsPair k u h' = steps_keep_pairs k event c h returned u pair made s in
    let shown : Some impossible.fields ≡ Some (view u h') =
    sym impossible.shown ∙ (ap (λ z. fields_of z.shape.0) same ∙ fields_law (view u h') after.flags after.card.preset) in
    let fields : impossible.fields ≡ view u h' = cc in
    let state : u.state ≡ Stby = sym (ap (λ f. f.state) fields) ∙ impossible.state in
    let matched : matches u.rca h'.rca ≡ true = sym (ap (λ f. f.matched) fields) ∙ impossible.matched in
    let seen : seen_of k c.mode.error returned ≡ SeenTimeOut = sym (ap (λ z. z.seen) same) ∙ impossible.seen in
    let none : h'.rca ≡ 0 = still_none k event c u h returned impossible.asks s seen ∙ impossible.none in
    let other : matches u.rca h'.rca ≡ false = no_match u.rca h'.rca (subst (λ v. AddressFits v u.rca) state after.card.address) none in
    let bad : true ≡ false = sym matched ∙ other in
    cc
