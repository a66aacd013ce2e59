-- No step changes a card's kind, version, unit, capacity and registers.
use Rattle.std.proofs.Common.{◌≡◌, ℕ, inl, inr, refl, subst, ◌∙◌}
use Rattle.sdv_registers.specs.declared.kind.Kind.{Kind}
use Rattle.sdv_card.specs.declared.state.Transfer.TheVariants.{Nothing}
use Rattle.sdv_card.specs.declared.answer.DataEnd.{DataEnd}
use Rattle.sdv_card.specs.declared.answer.WaitEnd.{WaitEnd}
use Rattle.sdv_card.specs.declared.command.TakenAs.{TakenAs}
use Rattle.sdv_card.specs.ScriptEvent.{SendCommand, ReceiveBlocks, ReceiveRegister, GiveBlocks, AwaitReady, Answered, BlocksIn, RegisterIn, BlocksOut, Waited}
use Rattle.sdv_card.specs.Card.{Card}
use Rattle.sdv_card.specs.Settled.{Settled}
use Rattle.sdv_card.specs.Taken.{SameCard}
use Rattle.sdv_card.specs.Phases.{Moved, MovedWriting, WaitEnds}
use Rattle.sdv_card.specs.Exchange.{card_takes}
use Rattle.sdv_card.specs.Laws.{StepsKeepSame}
use Rattle.sdv_card.proofs.Became.{Became, became}

pub same_itself : (t u : Card) → t ≡ u → SameCard t u
same_itself t u e =
    subst (λ v. SameCard t v) e
    (record {
      kind = refl;
      version = refl;
      block_unit = refl;
      capacity = refl;
      boot_capacity = refl;
      csd = refl;
      cid = refl;
      ext_csd = refl;
      scr = refl;
      sd_status = refl;
    })

pub same_both : (c t u : Card) → SameCard c t → SameCard t u → SameCard c u
same_both c t u a b = record {
  kind = a.kind ∙ b.kind;
  version = a.version ∙ b.version;
  block_unit = a.block_unit ∙ b.block_unit;
  capacity = a.capacity ∙ b.capacity;
  boot_capacity = a.boot_capacity ∙ b.boot_capacity;
  csd = a.csd ∙ b.csd;
  cid = a.cid ∙ b.cid;
  ext_csd = a.ext_csd ∙ b.ext_csd;
  scr = a.scr ∙ b.scr;
  sd_status = a.sd_status ∙ b.sd_status;
}

-- a card with the contents of another
pub same_but_contents : (c u : Card) → SameCard c (record c { contents = u.contents })
same_but_contents c u =
    record {
      kind = refl;
      version = refl;
      block_unit = refl;
      capacity = refl;
      boot_capacity = refl;
      csd = refl;
      cid = refl;
      ext_csd = refl;
      scr = refl;
      sd_status = refl;
    }

-- a card in another state, with another transfer, other contents and another error
same_moved : (c d u : Card) → SameCard c d → d ≡ u → SameCard c u
same_moved c d u s e = subst (λ v. SameCard c v) e s

pub settled_same : (c t : Card) → Settled c t → SameCard c t
settled_same c t (inl e) = same_itself c t e
settled_same c t (inr x) =
    same_moved c (record c { state = x.0; transfer = Nothing }) t
    (record {
      kind = refl;
      version = refl;
      block_unit = refl;
      capacity = refl;
      boot_capacity = refl;
      csd = refl;
      cid = refl;
      ext_csd = refl;
      scr = refl;
      sd_status = refl;
    }) x.2

pub became_same : (way : TakenAs) (argument : ℕ) (t u : Card) → Became way argument t u → SameCard t u
became_same way argument t u (inl e) = same_itself t u e
became_same way argument t u (inr (inl m)) = m.taken.same
became_same way argument t u (inr (inr m)) = m.stayed.same

moved_same : (end : DataEnd) (c u : Card) → Moved end c u → SameCard c u
moved_same end c u m =
    same_moved c (record c { state = m.place.state; transfer = m.place.transfer }) u
    (record {
      kind = refl;
      version = refl;
      block_unit = refl;
      capacity = refl;
      boot_capacity = refl;
      csd = refl;
      cid = refl;
      ext_csd = refl;
      scr = refl;
      sd_status = refl;
    }) m.card

moved_writing_same : (end : DataEnd) (c u : Card) → MovedWriting end c u → SameCard c u
moved_writing_same end c u m =
    same_moved c (record c { state = m.place.state; transfer = m.place.transfer; contents = u.contents; unshown_error = u.unshown_error }) u
    (record {
      kind = refl;
      version = refl;
      block_unit = refl;
      capacity = refl;
      boot_capacity = refl;
      csd = refl;
      cid = refl;
      ext_csd = refl;
      scr = refl;
      sd_status = refl;
    }) m.card

wait_same : (end : WaitEnd) (c u : Card) → WaitEnds end c u → SameCard c u
wait_same end c u w =
    same_moved c (record c { state = w.state }) u
    (record {
      kind = refl;
      version = refl;
      block_unit = refl;
      capacity = refl;
      boot_capacity = refl;
      csd = refl;
      cid = refl;
      ext_csd = refl;
      scr = refl;
      sd_status = refl;
    }) w.card

pub steps_keep_same : (k : Kind) → StepsKeepSame k
steps_keep_same k (SendCommand ask position argument) c (Answered answer) u kind s =
    let t : Card = s.exchange.settled_card in
    same_both c t u (settled_same c t s.exchange.settled)
    (became_same (card_takes t s.order argument) argument t u (became (card_takes t s.order argument) s.order argument t u answer s.exchange.answered))
steps_keep_same k (ReceiveBlocks lines count) c (BlocksIn end blocks) u kind s = moved_same end c u s.moved
steps_keep_same k (ReceiveRegister lines count) c (RegisterIn end bytes) u kind s = moved_same end c u s.moved
steps_keep_same k (GiveBlocks lines blocks) c (BlocksOut end) u kind s = moved_writing_same end c u s.moved
steps_keep_same k AwaitReady c (Waited end) u kind s = wait_same end c u s
steps_keep_same k event c returned u kind s = absurd s
