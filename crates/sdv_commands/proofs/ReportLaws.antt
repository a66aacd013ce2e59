-- What came of a report.
use Rattle.std.proofs.Common.{inl, inr, sym, subst, ℕ, List, Option, Some, None, Result, Ok, Err, IfOk}
use Rattle.std.specs.Io.KnownBytes.{Appends}
use Rattle.clap.specs.Words.{Text}
use Rattle.sdv_program.specs.declared.fault.Fault.{Fault}
use Rattle.sdv_program.specs.declared.fault.Fault.TheVariants.{Output, Memory}
use Rattle.sdv_program.specs.Outcomes.{Reports}
use Rattle.sdv_commands.specs.Report.{CanBeTold, PrintsReport}

module _ (IsReport : Option Fault → Text → Type 0) (Because : Fault → Type 0) (before after : Option (List ℕ)) where
  -- a page that was printed whole
  told_whole : (told : Option Fault) (page : Text) → CanBeTold told → IsReport told page → Appends before after page
      → Reports IsReport Because told before after
  told_whole None page can is was = (page, is, was)
  told_whole (Some Output) page can is was = absurd can
  told_whole (Some Memory) page can is was = absurd can
  told_whole (Some fault) page can is was = inl (page, is, was)

  pub reports : (told : Option Fault) (page : Text) (outcome : Option Fault) → CanBeTold told → IsReport told page
      → PrintsReport page told outcome before after → Reports IsReport Because outcome before after
  reports told page outcome can is (inl whole) =
      subst (λ o. Reports IsReport Because o before after) (sym whole.0) (told_whole told page can is whole.1)
  reports told page outcome can is (inr part) =
      subst (λ o. Reports IsReport Because o before after) (sym part.0) (told, page, is, part.1)

-- what holds of a value holds of an answer that has one
pub if_ok_more : {A E : Type 0} (r : Result A E) (P Q : A → Type 0) → ((a : A) → P a → Q a) → IfOk r P → IfOk r Q
if_ok_more (Ok a) P Q more is = more a is
if_ok_more (Err e) P Q more is = tt
