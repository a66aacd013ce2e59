-- How commands end: what a `?` passes on, what was printed, and what a fault leaves as it was.
use Rattle.std.proofs.Common.{◌≡◌, ◌≢◌, ◌⊎◌, inl, inr, refl, sym, subst, ℕ, List, Option, Some, None, Result, Ok, Err, IfErr, IsErrAnd}
use Rattle.std.specs.Prelude.{is_ok}
use Rattle.std.specs.Borrow.{Bor}
use Rattle.std.specs.Io.KnownBytes.{Keeps}
use Rattle.clap.specs.Words.{Text}
use Rattle.sdv_text.specs.Written.{Writes}
use Rattle.sdv_program.specs.declared.fault.Fault.{Fault}
use Rattle.sdv_program.specs.declared.fault.Fault.TheVariants.{File, Output, Memory}
use Rattle.sdv_program.specs.Files.{Files, GivesNoText}
use Rattle.sdv_program.specs.Outcomes.{Ending, NoText, OverText, Prints, PrintsText, outcome_of}
use Rattle.sdv_program.proofs.StartLaws.{keeps_same}

-- a `?` passes a fault on
pub failed : {T : Type 0} (P : Option Fault → Type 0) (fault : Fault) (r : Result T Fault) → IsErrAnd r (λ f. f ≡ fault) → P (Some fault) → P (outcome_of r)
failed P fault (Ok x) is p = absurd is
failed P fault (Err f) is p = subst (λ f. P (Some f)) (sym is) p

-- a file that gave no text
module _ {T : Type 0} (files : Files) (name : Bor Text) (Ends : Text → Ending) (known : Option (List ℕ)) where
  pub no_text : (fault : Fault) → (fault ≡ File name) ⊎ (fault ≡ Memory) → (fault ≡ File name → GivesNoText files name.now)
      → (r : Result T Fault) → IsErrAnd r (λ f. f ≡ fault) → OverText files name.now Ends (outcome_of r) known known
  no_text fault why gives r is =
      failed (λ outcome. OverText files name.now Ends outcome known known) fault r is (inl (none why, keeps_same known))
    where
      none : (fault ≡ File name) ⊎ (fault ≡ Memory) → NoText files name.now (Some fault)
      none (inl unusable) = subst (λ f. NoText files name.now (Some f)) (sym unusable) (refl, gives unusable)
      none (inr memory) = subst (λ f. NoText files name.now (Some f)) (sym memory) tt

module _ (before after : Option (List ℕ)) where
  -- a writer's answer, as that of the program
  pub printed : {E : Type 0} (text : Text) (w : Result (Unit {0}) E) (r : Result (Unit {0}) Fault) → is_ok r ≡ is_ok w → IfErr r (λ f. f ≡ Output)
      → Writes before after w text → PrintsText text (outcome_of r) before after
  printed text (Ok u) (Ok v) same output writes = writes
  printed text (Ok u) (Err f) same output writes = cc
  printed text (Err e) (Ok v) same output writes = cc
  printed text (Err e) (Err f) same output writes = rw output writes

  -- a text that was printed is that of the command
  pub prints : (IsText : Text → Type 0) (Because : Fault → Type 0) (text : Text) (outcome : Option Fault) → IsText text
      → PrintsText text outcome before after → Prints IsText Because outcome before after
  prints IsText Because text None is was = (text, is, was)
  prints IsText Because text (Some Output) is was = (text, is, was)
  prints IsText Because text (Some _) is was = absurd was

  -- a fault leaves standard output as it was, but where the output failed
  pub prints-kept : (IsText : Text → Type 0) (Because : Fault → Type 0) (fault : Fault) → fault ≢ Output
      → Prints IsText Because (Some fault) before after → Keeps before after
  prints-kept IsText Because Memory other was = was
  prints-kept IsText Because Output other was = absurd (other refl)
  prints-kept IsText Because _ other was = was.1

  pub over-kept : (files : Files) (file : Text) (Ends : Text → Ending) (outcome : Option Fault)
      → ((text : Text) → Ends text outcome before after → Keeps before after) → OverText files file Ends outcome before after → Keeps before after
  over-kept files file Ends outcome kept (inl none) = none.1
  over-kept files file Ends outcome kept (inr given) = kept given.0 given.2
