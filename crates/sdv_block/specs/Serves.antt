-- WHAT `serve` ANSWERS: the end of a whole run of the batch's text, or why there is none and what happened then.
use Rattle.std.specs.Prelude.{◌≡◌, true, ℕ, List, Option, Some, Result, Ok, Err}
use Rattle.sdv_registers.specs.declared.kind.Kind.{Kind}
use Rattle.sdv_card.specs.Card.{Card}
use Rattle.sdv_graph.specs.Graph.{Graph}
use Rattle.sdv_script.specs.declared.fault.FaultKind.{FaultKind}
use Rattle.sdv_script.specs.declared.fault.FaultKind.TheVariants.{Memory as ScriptMemory}
use Rattle.sdv_script.specs.declared.fault.ScriptFault.{ScriptFault}
use Rattle.sdv_script.specs.declared.script.Script.{Script as Tree}
use Rattle.sdv_script.specs.Script.{IsScript}
use Rattle.sdv_script.specs.Shown.{shown}
use Rattle.sdv_facts.specs.Facts.{PointFacts}
use Rattle.sdv_facts.specs.Closed.{Closed}
use Rattle.sdv_certify.specs.declared.fault.CertifyFault.{CertifyFault}
use Rattle.sdv_certify.specs.declared.fault.CertifyFault.TheVariants.{Memory as WriterMemory}
use Rattle.sdv_certify.specs.Assembled.{RefusedFor}
use Rattle.sdv_check.specs.declared.fault.VerifyFault.TheVariants.{Script as NoScript}
use Rattle.sdv_check.specs.Verified.{IsGraphOfText, IsNoScript}
use Rattle.sdv_trace.specs.declared.end.End.{End}
use Rattle.sdv_run.specs.declared.fault.RunFault.{RunFault}
use Rattle.sdv_run.specs.declared.fault.RunFault.TheVariants.{Reply}
use Rattle.sdv_run.specs.OnCard.{ShowsStart}
use Rattle.sdv_run.specs.Ran.{Ended, Stopped}
use Rattle.sdv_run.specs.Run.{Steps, ending_of}
use Rattle.sdv_run.specs.Step.{World}
use Rattle.sdv_block.specs.declared.fault.BlockFault.{BlockFault}
use Rattle.sdv_block.specs.declared.fault.BlockFault.TheVariants.{Certify, Verify, Run, Memory}
use Rattle.sdv_block.specs.declared.request.Request.{Request}
use Rattle.sdv_block.specs.Batch.{batch_refusal}
use Rattle.sdv_block.specs.BatchText.{batch_script}
use Rattle.sdv_block.specs.ServedOver.{ServedOver, KeptOver}

-- A whole run of the text: its events, its output and its trace, with this end. Over a port that shows a card of the
-- profile, of the kind, in any state, it served the requests as a plain disk does.
pub record RanWhole {S : Type 0} (steps : Steps S) (card : S → Option Card) (k : Kind) (rs : List Request) (end : End)
    (w w' : World S) : Type 0 where
  pub graph : Graph
  pub of_text : IsGraphOfText (batch_script k rs).text graph
  pub ran : Ended steps graph end w w'
  pub served : (c : Card) → ShowsStart card k true w.port c → ∥ ServedOver card rs (ending_of end) c w w' ∥₁

-- An open run of the text, for this reason. Over such a port no answer is refused, and no block
-- changed that no request writes.
pub record RanOpen {S : Type 0} (steps : Steps S) (card : S → Option Card) (k : Kind) (rs : List Request)
    (fault : RunFault) (w w' : World S) : Type 0 where
  pub graph : Graph
  pub of_text : IsGraphOfText (batch_script k rs).text graph
  pub ran : Stopped steps graph fault w w'
  pub kept : (c : Card) → ShowsStart card k true w.port c → ∥ KeptOver card rs c w' ∥₁
  pub no_reply : (c : Card) → ShowsStart card k true w.port c → fault ≡ Reply → ⊥

-- a certificate is closed for the graph
pub record IsCertified (g : Graph) : Type 0 where
  pub points : List PointFacts
  pub closed : Closed g points

-- the text is a script that has no certificate, for this reason
pub record HasNoCertificate (text : List ℕ) (fault : CertifyFault) : Type 0 where
  pub script : Tree
  pub same : (shown script).text ≡ text
  pub is_script : IsScript (shown script)
  pub refused : RefusedFor script fault

-- WHICH FAULT it is: want of memory in any part is one

abbrev pub fault_of_script : FaultKind → ScriptFault → BlockFault
fault_of_script ScriptMemory fault = Memory
fault_of_script kind fault = Verify (NoScript fault)

abbrev pub fault_of_writer : CertifyFault → BlockFault
fault_of_writer WriterMemory = Memory
fault_of_writer fault = Certify fault

-- WHAT IT SAYS

-- what a fault says of a text that has no graph with a certificate; want of memory says nothing
abbrev pub Uncertified : (text : List ℕ) → BlockFault → Type 0
Uncertified text (Certify fault) = HasNoCertificate text fault
Uncertified text (Verify fault) = IsNoScript text
Uncertified text Memory = Unit {0}
Uncertified text fault = ⊥

-- nothing happened, for this reason
abbrev pub Unserved : Kind → List Request → BlockFault → Type 0
Unserved k rs (Certify fault) = HasNoCertificate (batch_script k rs).text fault
-- the text is a script, and its certificate is closed
Unserved k rs (Verify fault) = ⊥
Unserved k rs (Run fault) = ⊥
Unserved k rs Memory = Unit {0}
Unserved k rs fault = batch_refusal k rs ≡ Some fault

abbrev pub Serves : {S : Type 0} → Steps S → (S → Option Card) → Kind → List Request → (w w' : World S) →
    Result End BlockFault → Type 0
Serves steps card k rs w w' (Ok end) = RanWhole steps card k rs end w w'
Serves steps card k rs w w' (Err (Run fault)) = RanOpen steps card k rs fault w w'
Serves steps card k rs w w' (Err fault) = Unserved k rs fault × (w' ≡ w)
