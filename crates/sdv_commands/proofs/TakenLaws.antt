-- What the file of the output took of a run that stopped.
use Rattle.std.proofs.Common.{◌≡◌, ◌∙◌, ap, sym, subst, inl, inr, refl, List, [], ◌∷◌, ◌++◌, ℕ, Option, length, append_assoc}
use Rattle.std.proofs.lemmas.List.{append-nil}
use Rattle.std.specs.List.{concat}
use Rattle.std.specs.Io.KnownBytes.{Appends}
use Rattle.clap.specs.Words.{Text}
use Rattle.sdv_card.specs.declared.answer.DataEnd.TheVariants as ends
use Rattle.sdv_card.specs.ScriptEvent.{SendCommand, ReceiveBlocks, Answered, BlocksIn}
use Rattle.sdv_graph.specs.Graph.{Graph}
use Rattle.sdv_graph.specs.Walk.{Pair}
use Rattle.sdv_run.specs.declared.fault.RunFault.{RunFault}
use Rattle.sdv_run.specs.declared.fault.RunFault.TheVariants.{Reply, Input, Output, Trace, Memory}
use Rattle.sdv_run.specs.Run.{received}
use Rattle.sdv_run.specs.Ran.{AnswerIsRefused, Because, OutputBrokeOff}
use Rattle.sdv_run.specs.Step.{World}
use Rattle.sdv_run.proofs.Made.{received_more}
use Rattle.sdv_program.specs.Files.{Files}
use Rattle.sdv_commands.specs.Run.{Receives, ReceivesFront, ReceivesUntil}

module _ {S : Type 0} (files : Files) (output : Option Text) (w w' : World S)
    (takes : (bytes : List ℕ) → Appends w.out w'.out bytes → Receives files output bytes) where
  -- an answer to a command brings no blocks
  before_answer : (g : Graph) (es : List Pair) → AnswerIsRefused g.kind es w w' → Receives files output (received es)
  before_answer g es refused =
      let last : Pair = (SendCommand refused.ask refused.position refused.argument, Answered refused.answer) in
      let same : received es ≡ received refused.earlier =
      ap received refused.last ∙ received_more refused.earlier (last ∷ []) ∙ append-nil (received refused.earlier) in
      subst (λ bytes. Receives files output bytes) (sym same) (takes (received refused.earlier) refused.written.output)

  broken_off : (es : List Pair) → OutputBrokeOff es w w' → ReceivesFront files output (received es)
  broken_off es broken =
      let front : List ℕ = broken.output.0 in
      let back : List ℕ = broken.output.1 in
      let last : Pair = (ReceiveBlocks broken.width (length broken.blocks), BlocksIn ends.Ok broken.blocks) in
      let all : received es ≡ received broken.earlier ++ (concat broken.blocks ++ []) =
      ap received broken.last ∙ received_more broken.earlier (last ∷ []) in
      record {
        front = received broken.earlier ++ front;
        rest = back;
        is_front = all ∙ ap (λ bytes. received broken.earlier ++ bytes) (append-nil (concat broken.blocks) ∙ broken.output.2)
            ∙ sym (append_assoc (received broken.earlier) front back);
        received = takes (received broken.earlier ++ front) broken.output.4;
      }

  pub taken : (fault : RunFault) (g : Graph) (es : List Pair) → Because fault g es w w' → (fault ≡ Memory → ⊥)
      → ReceivesUntil fault files output (received es)
  taken Reply g es (inl refused) other = before_answer g es refused
  taken Reply g es (inr wide) other = takes (received es) wide.written.output
  taken Input g es short other = takes (received es) short.written.output
  taken Output g es broken other = broken_off es broken
  taken Trace g es (inl broken) other = takes (received es) broken.output
  taken Trace g es (inr broken) other = takes (received es) broken.output
  taken Memory g es nothing other = absurd (other refl)
