-- What the writer of the registers took of a run.
use Rattle.std.proofs.Common.{◌≡◌, ◌∙◌, ap, sym, subst, refl, Bool, true, false, ℕ, List, [], ◌∷◌, ◌++◌, Option, Result, Ok, Err}
use Rattle.std.specs.Io.KnownBytes.{Appends}
use Rattle.sdv_text.proofs.WrittenLaws.{appends_more, appends_none, part_after, part_before}
use Rattle.sdv_registers.specs.declared.kind.Kind.{Kind}
use Rattle.sdv_card.specs.declared.answer.DataEnd.TheVariants as ends
use Rattle.sdv_card.specs.Card.{Card}
use Rattle.sdv_card.specs.ScriptEvent.{Return, Answered, BlocksIn, RegisterIn, BlocksOut, Waited}
use Rattle.sdv_graph.specs.Graph.{Graph}
use Rattle.sdv_graph.specs.Walk.{Pair}
use Rattle.sdv_trace.specs.declared.end.End.{End}
use Rattle.sdv_run.specs.declared.fault.RunFault.{RunFault}
use Rattle.sdv_run.specs.Run.{Steps, RunMoved}
use Rattle.sdv_run.specs.Ran.{Happened}
use Rattle.sdv_run.specs.Step.{World}
use Rattle.sdv_run.specs.OnCard.{RanBeside}
use Rattle.sdv_commands.specs.Registers.{RegisterSteps, Taken, TakesMore, TakesReturn, Took, events_of, registered, registered_by}

-- ONE REGISTER

none_taken : (s s' : Taken) → s' ≡ s → s.failed ≡ false → Took s'.failed s.known s'.known []
none_taken s s' same well =
    subst (λ t. Took t.failed s.known t.known []) (sym same) (subst (λ failed. Took failed s.known s.known []) (sym well) (appends_none s.known))

one_taken : (r : Return) (s s' : Taken) → TakesReturn r s s' → s.failed ≡ false → Took s'.failed s.known s'.known (registered_by r)
one_taken (RegisterIn ends.Ok bytes) s s' takes well = subst (λ failed. TakesMore failed s s' bytes) well takes
one_taken (RegisterIn ends.Cut bytes) s s' same well = none_taken s s' same well
one_taken (Answered answer) s s' same well = none_taken s s' same well
one_taken (BlocksIn end blocks) s s' same well = none_taken s s' same well
one_taken (BlocksOut end) s s' same well = none_taken s s' same well
one_taken (Waited end) s s' same well = none_taken s s' same well

-- after a failed write
no_more : (r : Return) (s s' : Taken) → TakesReturn r s s' → s.failed ≡ true → s' ≡ s
no_more (RegisterIn ends.Ok bytes) s s' takes broken = subst (λ failed. TakesMore failed s s' bytes) broken takes
no_more (RegisterIn ends.Cut bytes) s s' same broken = same
no_more (Answered answer) s s' same broken = same
no_more (BlocksIn end blocks) s s' same broken = same
no_more (BlocksOut end) s s' same broken = same
no_more (Waited end) s s' same broken = same

-- a register, and then more of them
then_taken : (failed : Bool) (old mid new : Option (List ℕ)) (a b : List ℕ) → Appends old mid a → Took failed mid new b → Took failed old new (a ++ b)
then_taken false old mid new a b front back = appends_more old mid new a b front back
then_taken true old mid new a b front back = part_after old mid new a b front back

-- ALL OF THEM

module _ {Q S : Type 0} (steps : Steps S) (port : Q → S) (taken : Q → Taken) where
  abbrev pub Beside : Steps Q
  Beside q call returned q' = RegisterSteps steps (port q) (taken q) call returned (port q') (taken q')

  stays : (k : Kind) (es : List Pair) (q q' : Q) → RunMoved k Beside q es q' → (taken q).failed ≡ true → taken q' ≡ taken q
  stays k [] q q' same broken = ap taken same
  stays k (p ∷ ps) q q' moved broken =
      let u : Q = moved.0 in
      let first : taken u ≡ taken q = no_more p.1 (taken q) (taken u) moved.1.1 broken in
      stays k ps u q' moved.2 (ap (λ t. t.failed) first ∙ broken) ∙ first

  -- the writer after a register, by whether that was written
  onward : (failed : Bool) (k : Kind) (ps : List Pair) (old : Option (List ℕ)) (u q' : Q) (a : List ℕ) → (taken u).failed ≡ failed
      → Took failed old (taken u).known a → RunMoved k Beside u ps q'
      → ((taken u).failed ≡ false → Took (taken q').failed (taken u).known (taken q').known (registered ps))
      → Took (taken q').failed old (taken q').known (a ++ registered ps)
  onward false k ps old u q' a is front moved rest =
      then_taken (taken q').failed old (taken u).known (taken q').known a (registered ps) front (rest is)
  onward true k ps old u q' a is front moved rest =
      subst (λ t. Took t.failed old t.known (a ++ registered ps)) (sym (stays k ps u q' moved is))
      (subst (λ failed. Took failed old (taken u).known (a ++ registered ps)) (sym is) (part_before old (taken u).known a (registered ps) front))

  pub moved_taken : (k : Kind) (es : List Pair) (q q' : Q) → RunMoved k Beside q es q' → (taken q).failed ≡ false
      → Took (taken q').failed (taken q).known (taken q').known (registered es)
  moved_taken k [] q q' same well = none_taken (taken q) (taken q') (ap taken same) well
  moved_taken k (p ∷ ps) q q' moved well =
      let u : Q = moved.0 in
      onward (taken u).failed k ps (taken q).known u q' (registered_by p.1) refl (one_taken p.1 (taken q) (taken u) moved.1.1 well) moved.2
      (λ is. moved_taken k ps u q' moved.2 is)

  module _ (card : Q → Option Card) where
    happened_of : (g : Graph) (most : ℕ) (w w' : World Q) (result : Result End RunFault) (ran : RanBeside Beside card g most w w' result)
        → Happened g.kind Beside (events_of Beside card g most w w' result ran) w w'
    happened_of g most w w' (Ok end) ran = ran.0.happened
    happened_of g most w w' (Err fault) ran = ran.0.happened

    pub ran_taken : (g : Graph) (most : ℕ) (w w' : World Q) (result : Result End RunFault) (ran : RanBeside Beside card g most w w' result)
        → (taken w.port).failed ≡ false
        → Took (taken w'.port).failed (taken w.port).known (taken w'.port).known (registered (events_of Beside card g most w w' result ran))
    ran_taken g most w w' result ran well =
        moved_taken g.kind (events_of Beside card g most w w' result ran) w.port w'.port (happened_of g most w w' result ran).port well
