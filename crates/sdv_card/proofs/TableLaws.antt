-- The laws that tie what is computed at codes to cards, for both kinds.
pub use Rattle.sdv_card.proofs.PairShapes.{pairs_have_shapes}
pub use Rattle.sdv_card.proofs.LegalExact.{legal_is_exact}
pub use Rattle.sdv_card.proofs.HasStep.{has_step}
pub use Rattle.sdv_card.proofs.HasOutcome.{has_outcome}
pub use Rattle.sdv_card.proofs.StepOutcomes.{steps_are_outcomes}
pub use Rattle.sdv_card.proofs.KeepPairs.{steps_keep_pairs}
pub use Rattle.sdv_card.proofs.Same.{steps_keep_same}
pub use Rattle.sdv_card.proofs.KeepSound.{steps_keep_sound}
pub use Rattle.sdv_card.proofs.KeepOnCard.{steps_keep_on_card}
pub use Rattle.sdv_card.proofs.StartHolds.{starts_hold}
pub use Rattle.sdv_card.proofs.VerdictHolds.{verdicts_hold}
pub use Rattle.sdv_card.proofs.StepsExpected.{steps_are_expected}
pub use Rattle.sdv_card.proofs.AsksAddress.{asks_address}
