-- WHICH HINT a page gives where that follows from what is wrong alone.
use Rattle.std.specs.Prelude.{◌≡◌, Option, Some}
use Rattle.sdv_script.specs.declared.fault.FaultKind.{FaultKind}
use Rattle.sdv_script.specs.declared.fault.FaultKind.TheVariants as kind
use Rattle.sdv_explain.specs.declared.hints.hint.Hint.{Hint}
use Rattle.sdv_explain.specs.declared.hints.hint.Hint.TheVariants as hint
use Rattle.sdv_explain.specs.declared.hints.place.Found.{Found}

abbrev pub IsHintFor : FaultKind → Found → Option Hint → Type 0
IsHintFor kind.Limit what told = told ≡ Some (hint.Limit what)
IsHintFor kind.NoEnd what told = told ≡ Some hint.NoEnd
IsHintFor kind.Guard what told = told ≡ Some hint.NoGuard
IsHintFor kind.Command what told = told ≡ Some hint.NoCommand
IsHintFor other what told = Unit {0}
