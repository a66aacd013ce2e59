-- An answer that is not damaged counts as itself.
use Rattle.std.proofs.Common.{◌≡◌, refl}
use Rattle.sdv_frames.specs.declared.fault.FrameFault.{FrameFault}
use Rattle.sdv_card.specs.declared.answer.Answer.{Answer}
use Rattle.sdv_card.specs.declared.answer.Answer.TheVariants.{Sent, TimeOut, Reply, Damaged}
use Rattle.sdv_card.specs.ScriptEvent.{Answered}
use Rattle.sdv_card.specs.Damage.{counts_as}

pub undamaged_counts : (answer : Answer) → ((fault : FrameFault) → answer ≡ Damaged fault → ⊥) → counts_as (Answered answer) ≡ Answered answer
undamaged_counts Sent not = refl
undamaged_counts TimeOut not = refl
undamaged_counts (Reply reply) not = refl
undamaged_counts (Damaged fault) not = absurd (not fault refl)
