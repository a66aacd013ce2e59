-- A script that a run refutes is accepted with no certificate.
use Rattle.std.proofs.Common.{ℕ, List, [], ◌∷◌, ◌++◌, refl, subst, replicate}
use Rattle.std.proofs.lemmas.List.{length-replicate}
use Rattle.std.specs.Prelude.{Ok}
use Rattle.sdv_card.specs.declared.answer.Answer.TheVariants.{Sent}
use Rattle.sdv_card.specs.declared.answer.DataEnd.TheVariants.{Cut}
use Rattle.sdv_card.specs.declared.answer.WaitEnd.TheVariants.{Late}
use Rattle.sdv_card.specs.Card.{Card, Block}
use Rattle.sdv_card.specs.ScriptEvent.{ScriptEvent, SendCommand, ReceiveBlocks, ReceiveRegister, GiveBlocks, AwaitReady, Return, Answered, BlocksIn, RegisterIn, BlocksOut, Waited, MayReturn}
use Rattle.sdv_graph.specs.Walk.{Pair, Finished, Open, Walk}
use Rattle.sdv_graph.specs.Graph.{Graph}
use Rattle.sdv_script.specs.OneGraph.{IsGraphOfScript}
use Rattle.sdv_script.specs.Script.{Parsed, IsScript}
use Rattle.sdv_facts.specs.Facts.{PointFacts}
use Rattle.sdv_facts.specs.Bounds.{bound_of}
use Rattle.sdv_facts.specs.Closed.{Closed}
use Rattle.sdv_facts.specs.Beside.{StepsOf, RunsWell}
use Rattle.sdv_facts.proofs.Headline.{each_walk}
use Rattle.sdv_facts.proofs.StepLaws.{laws_of}
use Rattle.sdv_check.specs.Headline.{EachRun}
use Rattle.sdv_check.specs.Verified.{Acceptance, IsAccepted}
use Rattle.sdv_check.proofs.PromiseLaws.{promised}
use Rattle.sdv_check.proofs.TextRuns.{runs_of_text}
use Rattle.sdv_refute.specs.Refutes.{WalkOf, AllowedStepsOf, Coming, an_event, the_end, ComesTo, IsWrongAt, Refutes}

-- each event may return something
some_return : (event : ScriptEvent) → (returned : Return) × MayReturn event returned
some_return (SendCommand ask position argument) = (Answered Sent, tt)
some_return (ReceiveBlocks lines count) = let blocks : List Block = replicate count [] in (BlocksIn Cut blocks, length-replicate count [])
some_return (ReceiveRegister lines count) = let bytes : List ℕ = replicate count 0 in (RegisterIn Cut bytes, length-replicate count 0)
some_return (GiveBlocks lines blocks) = (BlocksOut Cut, tt)
some_return AwaitReady = (Waited Late, tt)

-- steps that are allowed are steps
pub steps_of : (c : Card) (es : List Pair) (last : Card) → AllowedStepsOf c es last → StepsOf c es last
steps_of c [] last steps = steps
steps_of c (p ∷ es) last (u, allowed, step, more) = (u, step, steps_of u es last more)

-- what a refutation shows is that a run is not good
against : (s : Parsed) (c : Card) (es : List Pair) (coming : Coming) (most : ℕ) (last : Card) → RunsWell s.names.kind (WalkOf s) most →
    Refutes s c es coming → StepsOf c es last → ComesTo s es coming → IsWrongAt coming last → ⊥
against s c es (an_event event) most last runs r steps comes wrong =
    let some = some_return event in
    wrong ((runs.good c r.kind r.start Open (es ++ (event, some.0) ∷ []) (comes some.0 some.1)).allowed es event some.0 [] last refl steps)
against s c es the_end most last runs r steps comes wrong = wrong ((runs.good c r.kind r.start Finished es comes).ends last steps)

not_well : (s : Parsed) (c : Card) (es : List Pair) (coming : Coming) (most : ℕ) → Refutes s c es coming → RunsWell s.names.kind (WalkOf s) most → ⊥
not_well s c es coming most r runs = against s c es coming most r.last runs r (steps_of c es r.last r.steps) r.comes r.wrong

-- no certificate of the graph is closed
pub none_is_closed : (s : Parsed) (c : Card) (es : List Pair) (coming : Coming) (g : Graph) (ps : List PointFacts) → Refutes s c es coming →
    IsGraphOfScript s g → Closed g ps → ⊥
none_is_closed s c es coming g ps r of closed =
    let well : RunsWell g.kind (Walk g.kind s.names s.body) (bound_of g ps) = each_walk g ps (laws_of g.kind) of.sound closed s.names s.body of.walks in
    not_well s c es coming (bound_of g ps) r (subst (λ k. RunsWell k (Walk k s.names s.body) (bound_of g ps)) of.kind_same well)

-- nothing is accepted of the text
pub none_is_accepted : (s : Parsed) (c : Card) (es : List Pair) (coming : Coming) (certificate : List ℕ) (a : Acceptance) → IsScript s →
    Refutes s c es coming → IsAccepted s.text certificate a → ⊥
none_is_accepted s c es coming certificate a is_script r accepted =
    let g = a.graph in
    let ps = accepted.facts.points in
    let p = promised g ps (laws_of g.kind) accepted.graph.graph.sound (Ok (bound_of g ps)) (accepted.closed, refl) in
    let each : EachRun s (bound_of g ps) = runs_of_text s.text g ps (bound_of g ps) accepted.graph p s refl is_script in
    not_well s c es coming (bound_of g ps) r each.runs
