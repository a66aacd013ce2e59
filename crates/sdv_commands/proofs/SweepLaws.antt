-- Sweeps that were not made, and what they left.
use Rattle.std.proofs.Common.{◌≡◌, ◌∙◌, ◌*◌, ◌⊎◌, IfOk, replicate, refl, sym, ap, subst, inl, inr, Some, ℕ, List, Option, Result, Ok, Err, IfErr, IsErrAnd, option_map}
use Rattle.std.specs.Borrow.{Bor}
use Rattle.std.specs.declared.alloc.AllocError.{AllocError}
use Rattle.clap.specs.Words.{Text}
use Rattle.sdv_behavior.specs.declared.card_desc.CardDesc.{CardDesc}
use Rattle.sdv_behavior.specs.Gives.{Describes}
use Rattle.sdv_behavior.specs.Layout.{image_size}
use Rattle.sdv_image.specs.declared.fault.SimFault.{SimFault}
use Rattle.sdv_image.specs.declared.fault.SimFault.TheVariants as cards
use Rattle.sdv_script.specs.declared.fault.FaultKind.{FaultKind}
use Rattle.sdv_script.specs.declared.fault.FaultKind.TheVariants as kinds
use Rattle.sdv_script.specs.declared.fault.ScriptFault.{ScriptFault}
use Rattle.sdv_refute.specs.declared.simulated.TryFault.{TryFault}
use Rattle.sdv_refute.specs.declared.simulated.TryFault.TheVariants as tries
use Rattle.sdv_program.specs.Fault.{fault_of_card, fault_of_script, fault_of_try}
use Rattle.sdv_program.specs.declared.fault.Fault.{Fault}
use Rattle.sdv_program.specs.declared.fault.Fault.TheVariants.{File, Output, Memory}
use Rattle.sdv_program.specs.Files.{Files, GivesNoText}
use Rattle.sdv_program.specs.Outcomes.{Ending, NoText, Reports, outcome_of}
use Rattle.sdv_program.proofs.StartLaws.{keeps_same}
use Rattle.sdv_commands.specs.Run.{GivesNoInput, IsOptional}
use Rattle.sdv_commands.specs.Sweep.{AreUnswept, HasNoBytes, IsUnsweptBeside, IsZerosFor, NoImage, NoInput, Over}

script_output : (kind : FaultKind) (fault : ScriptFault) → fault_of_script kind fault ≡ Output → ⊥
script_output kinds.Memory fault is = cc
script_output kinds.Token fault is = cc
script_output kinds.Syntax fault is = cc
script_output kinds.Name fault is = cc
script_output kinds.Command fault is = cc
script_output kinds.Argument fault is = cc
script_output kinds.Guard fault is = cc
script_output kinds.Limit fault is = cc
script_output kinds.NoEnd fault is = cc

card_output : (fault : SimFault) → fault_of_card fault ≡ Output → ⊥
card_output cards.Memory is = cc
card_output cards.Description is = cc
card_output cards.Capacity is = cc
card_output cards.ImageLength is = cc
card_output cards.ImageRead is = cc

try_output : (fault : TryFault) → fault_of_try fault ≡ Output → ⊥
try_output (tries.Script fault) is = script_output fault.kind fault is
try_output tries.Kind is = cc
try_output (tries.Card fault) is = card_output fault is
try_output tries.Memory is = cc

-- a card beside which no run was made is not told by a fault of the output
module _ (files : Files) (script : Text) where
  beside_output : (file : Text) → IsUnsweptBeside files script file Output → ⊥
  beside_output file (inl none) = none
  beside_output file (inr (card, given, image, zeros, (why, not, same))) = try_output why (sym same)

  -- why there is no text of a further card
  pub no_card : (file : Bor Text) (fault : Fault) → (fault ≡ File file) ⊎ (fault ≡ Memory) → (fault ≡ File file → GivesNoText files file.now)
      → IsUnsweptBeside files script file.now fault
  no_card file fault (inl is) none = inl (subst (λ f. NoText files file.now (Some f)) (sym is) (refl, none is))
  no_card file fault (inr is) none = inl (subst (λ f. NoText files file.now (Some f)) (sym is) tt)

  module _ (more_cards : List Text) (card image : Text) where
    output_told : AreUnswept files more_cards script card image Output → ⊥
    output_told (inl (why, not, same)) = try_output why (sym same)
    output_told (inr (n, file, named, none)) = beside_output file none

    -- memory was refused
    pub short : AreUnswept files more_cards script card image Memory
    short = inl (tries.Memory, inl tt, refl)

    module _ (IsReport : Option Fault → Text → Type 0) (known : Option (List ℕ)) where
      unswept_as : (fault : Fault) → AreUnswept files more_cards script card image fault
          → Reports IsReport (AreUnswept files more_cards script card image) (Some fault) known known
      unswept_as Memory are = keeps_same known
      unswept_as Output are = absurd (output_told are)
      unswept_as _ are = inr (are, keeps_same known)

      pub unswept : {T : Type 0} (fault : Fault) → AreUnswept files more_cards script card image fault → (r : Result T Fault)
          → IsErrAnd r (λ f. f ≡ fault) → Reports IsReport (AreUnswept files more_cards script card image) (outcome_of r) known known
      unswept fault are (Ok x) is = absurd is
      unswept fault are (Err f) is = subst (λ f. Reports IsReport (AreUnswept files more_cards script card image) (Some f) known known) (sym is) (unswept_as fault are)

-- zeros that were made for a card
pub zeros_made : {V : Type 0} (items : V → List ℕ) (r : Result V AllocError) (card : Text) (desc : CardDesc) (n : ℕ) → Describes card desc
    → n ≡ image_size desc * 512 → IfOk r (λ v. items v ≡ replicate n 0) → IfOk r (λ v. IsZerosFor card (items v))
zeros_made items (Ok v) card desc n describes same is = inl (desc, describes, is ∙ ap (λ n. replicate n 0) same)
zeros_made items (Err e) card desc n describes same is = tt

-- a fault that is passed on
pub passed_on : {T : Type 0} (Is : Fault → Type 0) (fault : Fault) → Is fault → (r : Result T Fault) → IsErrAnd r (λ f. f ≡ fault) → IfErr r Is
passed_on Is fault holds (Ok x) is = tt
passed_on Is fault holds (Err f) is = subst Is (sym is) holds

-- files that were not read
module _ (Gives : List ℕ → Type 0) (Ends : List ℕ → Ending) (known : Option (List ℕ)) (files : Files) where
  pub no_image_bytes : {T : Type 0} (name : Bor Text) (fault : Fault) → HasNoBytes files name fault → (r : Result T Fault) → IsErrAnd r (λ f. f ≡ fault)
      → Over (NoImage files name.now) Gives Ends (outcome_of r) known known
  no_image_bytes name fault none (Ok x) is = absurd is
  no_image_bytes name fault none (Err f) is = inl ((name, refl, subst (HasNoBytes files name) (sym is) none), keeps_same known)

  no_input_as : (name : Option (Bor Text)) (fault : Fault) → IsOptional (GivesNoInput files) name fault
      → NoInput files (option_map (λ (file : Bor Text). file.now) name) (Some fault)
  no_input_as name fault (inl none) = inl (none.0, ap (option_map (λ (file : Bor Text). file.now)) none.1, none.2, none.3)
  no_input_as name fault (inr memory) = inr memory

  pub no_input : {T : Type 0} (name : Option (Bor Text)) (fault : Fault) → IsOptional (GivesNoInput files) name fault → (r : Result T Fault)
      → IsErrAnd r (λ f. f ≡ fault) → Over (NoInput files (option_map (λ (file : Bor Text). file.now) name)) Gives Ends (outcome_of r) known known
  no_input name fault none (Ok x) is = absurd is
  no_input name fault none (Err f) is =
      inl (subst (λ f. NoInput files (option_map (λ (file : Bor Text). file.now) name) (Some f)) (sym is) (no_input_as name fault none), keeps_same known)
