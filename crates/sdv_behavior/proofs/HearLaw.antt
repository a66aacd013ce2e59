-- What comes of an order at a simulated card is an exchange of the tables.
use Rattle.std.proofs.Common.{◌≡◌, ℕ, ◌/◌, Bool, true, false, inl, inr, refl, ap, subst, Option, Some, None}
use Rattle.std.specs.Prelude.{IfSome}
use Rattle.sdv_frames.specs.Frame.{IsReply}
use Rattle.sdv_frames.specs.declared.reply.Reply.{Reply}
use Rattle.sdv_card.specs.declared.answer.Answer.{Answer}
use Rattle.sdv_card.specs.declared.answer.Answer.TheVariants.{TimeOut}
use Rattle.sdv_card.specs.declared.state.State.{State}
use Rattle.sdv_card.specs.declared.state.Mode.{Mode}
use Rattle.sdv_card.specs.declared.command.Order.{Order}
use Rattle.sdv_card.specs.declared.command.TakenAs.{TakenAs}
use Rattle.sdv_card.specs.declared.command.TakenAs.TheVariants.{Forbidden, Ignored, By}
use Rattle.sdv_card.specs.Card.{Card, Partitions, IsRegister}
use Rattle.sdv_card.specs.Exchange.{SettledAnswer, Exchanges, card_takes}
use Rattle.sdv_card.specs.Legal.{SettledLegal}
use Rattle.sdv_card.specs.Settled.{Settled}
use Rattle.sdv_card.specs.States.{own_target}
use Rattle.sdv_card.specs.Takes.{taken_as_of, matches}
use Rattle.sdv_behavior.specs.declared.behavior.Behavior.{Behavior}
use Rattle.sdv_behavior.specs.declared.card_desc.CardDesc.{CardDesc}
use Rattle.sdv_behavior.specs.declared.card_state.CardState.{CardState}
use Rattle.sdv_behavior.specs.CardOf.{card_with}
use Rattle.sdv_behavior.proofs.Described.{IsDescribed}
use Rattle.sdv_behavior.specs.Heard.{stepped_to, settled_by, row_deed, done_as, hear}
use Rattle.sdv_behavior.proofs.Told.{Tells, LeavesBlocks}
use Rattle.sdv_behavior.proofs.DoesLaw.{announced_by, behaves_law}

-- an answer of the tables at a settled t, which leaves u, as the reply tells it
pub record SettledTold (way : TakenAs) (order : Order) (argument : ℕ) (t u : Card) (reply : Option Reply) : Type 0 where
  pub answer : Answer
  pub told : Tells reply answer
  pub is_reply : IfSome reply IsReply
  pub answered : SettledAnswer way order argument t answer u

-- the blocks that the host announced last
abbrev pub announced_as : Behavior → TakenAs → ℕ → ℕ
announced_as behavior (By row) before = announced_by (row_deed behavior.deed row) row before
announced_as behavior way before = before

module _ (d : CardDesc) (is : IsDescribed d) (csd : IsRegister 15 d.csd) (behavior : Behavior) (order : Order) (argument : ℕ) (announced : ℕ)
    (contents contents' : Partitions) where
  done_law : (way : TakenAs) (t : CardState) → SettledLegal way (card_with d t announced contents) →
      LeavesBlocks (done_as d behavior way argument t).erases d t.mode.partition contents contents' →
      SettledTold way order argument (card_with d t announced contents)
      (card_with d (done_as d behavior way argument t).after (announced_as behavior way announced) contents') (done_as d behavior way argument t).reply
  done_law Forbidden t legal left = absurd legal
  done_law Ignored t legal left = record { answer = TimeOut; told = inr refl; is_reply = tt; answered = (refl, ap (card_with d t announced) left) }
  done_law (By row) t legal left =
      let r = behaves_law d is csd order argument t announced contents behavior row contents' legal left in
      record { answer = r.answer; told = r.told; is_reply = r.is_reply; answered = r.answered }

  -- the state that the command meets is a settled one
  settles : (s : CardState) (o : Option State) → own_target s.state s.transfer ≡ o →
      Settled (card_with d s announced contents) (card_with d (stepped_to o s) announced contents)
  settles s None e = inl refl
  settles s (Some state) e = inr (state, e, refl)

  pub settled_law : (b : Bool) (s : CardState) → Settled (card_with d s announced contents) (card_with d (settled_by b s) announced contents)
  settled_law false s = inl refl
  settled_law true s = settles s (own_target s.state s.transfer) refl

-- the card's own step leaves the mode
stepped_mode : (s : CardState) (o : Option State) → s.mode ≡ (stepped_to o s).mode
stepped_mode s None = refl
stepped_mode s (Some state) = refl

settled_mode : (b : Bool) (s : CardState) → s.mode ≡ (settled_by b s).mode
settled_mode false s = refl
settled_mode true s = stepped_mode s (own_target s.state s.transfer)

-- an exchange of the tables, as the reply tells it
pub record Told (order : Order) (argument : ℕ) (c u : Card) (reply : Option Reply) : Type 0 where
  pub answer : Answer
  pub told : Tells reply answer
  pub is_reply : IfSome reply IsReply
  pub exchange : Exchanges order argument c answer u

-- how the card takes the order, as it is when the command comes
abbrev pub way_of : Behavior → Order → ℕ → CardState → TakenAs
way_of behavior order argument s = let t = settled_by behavior.settles s in taken_as_of order t.app (matches t.rca (argument / 65536))

pub hear_law : (d : CardDesc) → IsDescribed d → IsRegister 15 d.csd →
    (behavior : Behavior) (order : Order) (argument announced : ℕ) (s : CardState) (contents contents' : Partitions) →
    ((t : Card) → Settled (card_with d s announced contents) t → SettledLegal (card_takes t order argument) t) →
    LeavesBlocks (hear d behavior order argument s).erases d s.mode.partition contents contents' →
    Told order argument (card_with d s announced contents)
    (card_with d (hear d behavior order argument s).after (announced_as behavior (way_of behavior order argument s) announced) contents')
    (hear d behavior order argument s).reply
hear_law d is csd behavior order argument announced s contents contents' legal left =
    let t : CardState = settled_by behavior.settles s in
    let settled = settled_law d is csd behavior order argument announced contents contents' behavior.settles s in
    let r = done_law d is csd behavior order argument announced contents contents' (way_of behavior order argument s) t
    (legal (card_with d t announced contents) settled)
    (subst (λ (m : Mode). LeavesBlocks (hear d behavior order argument s).erases d m.partition contents contents') (settled_mode behavior.settles s) left) in
    record {
      answer = r.answer;
      told = r.told;
      is_reply = r.is_reply;
      exchange = record { settled_card = card_with d t announced contents; settled = settled; answered = r.answered };
    }
