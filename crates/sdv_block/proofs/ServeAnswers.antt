-- What `serve` answers, part by part.
use Rattle.std.proofs.Common.{◌≡◌, ℕ, refl, subst, Bool, true, false, List, [], ◌∷◌, Option, Some, None}
use Rattle.std.specs.Prelude.{Err, if◌then◌else◌}
use Rattle.std.specs.List.{list_all}
use Rattle.sdv_registers.specs.declared.kind.Kind.{Kind}
use Rattle.sdv_card.specs.Card.{Card}
use Rattle.sdv_script.specs.declared.fault.FaultKind.{FaultKind}
use Rattle.sdv_script.specs.declared.fault.FaultKind.TheVariants.{Memory as ScriptMemory}
use Rattle.sdv_script.specs.declared.fault.ScriptFault.{ScriptFault}
use Rattle.sdv_script.specs.declared.script.Script.{Script as Tree}
use Rattle.sdv_script.specs.Script.{IsScript}
use Rattle.sdv_script.specs.Shown.{shown}
use Rattle.sdv_certify.specs.declared.fault.CertifyFault.{CertifyFault}
use Rattle.sdv_certify.specs.declared.fault.CertifyFault.TheVariants.{Memory as WriterMemory}
use Rattle.sdv_certify.specs.Assembled.{RefusedFor}
use Rattle.sdv_check.specs.Verified.{IsNoScript}
use Rattle.sdv_run.specs.Run.{Steps}
use Rattle.sdv_run.specs.Step.{World}
use Rattle.sdv_block.specs.declared.fault.BlockFault.{BlockFault}
use Rattle.sdv_block.specs.declared.fault.BlockFault.TheVariants.{Empty, Range, Limit, Certify, Verify, Run, Memory}
use Rattle.sdv_block.specs.declared.request.Request.{Request}
use Rattle.sdv_block.specs.Batch.{is_in_range, keeps_limits, batch_refusal}
use Rattle.sdv_block.specs.BatchText.{batch_script}
use Rattle.sdv_block.specs.Serves.{Uncertified, Serves, fault_of_script, fault_of_writer}

-- A TEXT without a graph

pub script_fault : (text : List ℕ) (kind : FaultKind) (fault : ScriptFault) → ((kind ≡ ScriptMemory → ⊥) → IsNoScript text) →
    Uncertified text (fault_of_script kind fault)
script_fault text ScriptMemory fault f = tt
script_fault text kind fault f = f (λ e. cc)

pub writer_fault : (text : List ℕ) (s : Tree) (fault : CertifyFault) → (shown s).text ≡ text → IsScript (shown s) → RefusedFor s fault →
    Uncertified text (fault_of_writer fault)
writer_fault text s WriterMemory same is refused = tt
writer_fault text s fault same is refused = record { script = s; same = same; is_script = is; refused = refused }

-- REFUSALS of a batch

abbrev IsOfBatch : BlockFault → Type 0
IsOfBatch Empty = Unit {0}
IsOfBatch Range = Unit {0}
IsOfBatch Limit = Unit {0}
IsOfBatch fault = ⊥

by_refusal : (range limits : Bool) (fault : BlockFault) → (if range then (if limits then None else Some Limit) else Some Range) ≡ Some fault → IsOfBatch fault
by_refusal true true fault e = absurd (cc)
by_refusal true false fault e = let f : Limit ≡ fault = (let g : Some Limit ≡ Some fault = e in cc) in subst (λ x. IsOfBatch x) f tt
by_refusal false limits fault e = let f : Range ≡ fault = (let g : Some Range ≡ Some fault = e in cc) in subst (λ x. IsOfBatch x) f tt

of_batch : (k : Kind) (rs : List Request) (fault : BlockFault) → batch_refusal k rs ≡ Some fault → IsOfBatch fault
of_batch k [] fault e = let f : Empty ≡ fault = (let g : Some Empty ≡ Some fault = e in cc) in subst (λ x. IsOfBatch x) f tt
of_batch k (r ∷ rs) fault e = by_refusal (list_all is_in_range (r ∷ rs)) (keeps_limits (batch_script k (r ∷ rs))) fault e

module _ {S : Type 0} (steps : Steps S) (card : S → Option Card) (k : Kind) (rs : List Request) (w : World S) where
  pub unserved : (fault : BlockFault) → ((fault ≡ Memory → ⊥) → batch_refusal k rs ≡ Some fault) → Serves steps card k rs w w (Err fault)
  unserved Empty f = (f (λ e. cc), refl)
  unserved Range f = (f (λ e. cc), refl)
  unserved Limit f = (f (λ e. cc), refl)
  unserved Memory f = (tt, refl)
  unserved (Certify fault) f = absurd (of_batch k rs (Certify fault) (f (λ e. cc)))
  unserved (Verify fault) f = absurd (of_batch k rs (Verify fault) (f (λ e. cc)))
  unserved (Run fault) f = absurd (of_batch k rs (Run fault) (f (λ e. cc)))

  pub uncertified : (fault : BlockFault) → IsScript (batch_script k rs) → Uncertified (batch_script k rs).text fault → Serves steps card k rs w w (Err fault)
  uncertified (Certify fault) is u = (u, refl)
  uncertified (Verify fault) is u = absurd (u (batch_script k rs) refl is)
  uncertified Memory is u = (tt, refl)
  uncertified Empty is u = absurd u
  uncertified Range is u = absurd u
  uncertified Limit is u = absurd u
  uncertified (Run fault) is u = absurd u

  -- memory was refused before the first event
  pub nothing_done : (w' : World S) → w' ≡ w → Serves steps card k rs w w' (Err Memory)
  nothing_done w' same = (tt, same)
