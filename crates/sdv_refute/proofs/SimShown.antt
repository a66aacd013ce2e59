-- What is seen of a simulated card, what it shows when a run begins, and what a run beside it is worth.
use Rattle.std.proofs.Common.{◌≡◌, ℕ, List, [], ◌++◌, Option, Some, None, Bool, false, inl, inr, refl, sym, ap, ◌∙◌, subst}
use Rattle.std.specs.Prelude.{Result, Ok, Err, IfErr, IfOk}
use Rattle.sdv_registers.specs.declared.kind.Kind.{Kind}
use Rattle.sdv_card.specs.Card.{Card, Block}
use Rattle.sdv_graph.specs.Graph.{Graph}
use Rattle.sdv_behavior.specs.declared.card_desc.CardDesc.{CardDesc}
use Rattle.sdv_behavior.specs.Gives.{Describes}
use Rattle.sdv_image.specs.declared.image.Image.{Ghosts}
use Rattle.sdv_behavior.specs.declared.card_state.CardState.{CardState}
use Rattle.sdv_behavior.specs.CardOf.{card_of, at_start}
use Rattle.sdv_behavior.specs.SimSteps.{SimState, SimSteps, shown_card, card_shown}
use Rattle.sdv_controller.specs.declared.controller.Controller.{Controller}
use Rattle.sdv_controller.specs.Controlled.{ControllerSteps, wire_of}
use Rattle.sdv_sim.specs.declared.sim.Sim.{Sim}
use Rattle.sdv_sim.specs.Made.{IsMade}
use Rattle.sdv_sim.specs.SimOf.{state_of}
use Rattle.sdv_check.specs.Verified.{IsAccepted, IsGraphOfText}
use Rattle.sdv_run.specs.declared.fault.RunFault.{RunFault}
use Rattle.sdv_run.specs.OnCard.{ShowsStart}
use Rattle.sdv_run.specs.Run.{Steps}
use Rattle.sdv_run.specs.Step.{World}
use Rattle.sdv_trace.specs.Trace.{lines}
use Rattle.sdv_refute.specs.declared.sight.Sight.{Sight}
use Rattle.sdv_refute.specs.declared.wrong.Watched.{Watched}
use Rattle.sdv_refute.specs.declared.wrong.Watched.TheVariants as comes
use Rattle.sdv_refute.specs.Sight.{sight_of}
use Rattle.sdv_refute.specs.declared.wrong.Wrong.{Wrong}
use Rattle.sdv_refute.specs.Told.{WatchesAs}
use Rattle.sdv_refute.specs.Watched.{StandsBefore}
use Rattle.sdv_refute.specs.Tries.{NotTried, Tries, TryRefuses, RefutesIfWrong}
use Rattle.sdv_refute.specs.declared.simulated.TryFault.{TryFault}
use Rattle.sdv_refute.specs.declared.simulated.TryFault.TheVariants.{Script, Kind as OtherKind, Card as NoCard, Memory}
use Rattle.sdv_refute.proofs.Refuted.{none_is_accepted}
use Rattle.sdv_refute.proofs.SeenRun.{seen, seen_told, seen_step}

pub seen_of : (d : CardDesc) (s : CardState) (shown : Option (List Block)) (c of : Card) (sight : Sight) → shown_card d s shown ≡ Some of →
    record of { announced = c.announced } ≡ c → ((blocks : List Block) → sight ≡ sight_of (card_of d s blocks)) → sight ≡ sight_of c
seen_of d s None c of sight shows same seen = absurd (cc)
seen_of d s (Some blocks) c of sight shows same seen =
    let is : card_of d s blocks ≡ of = cc in
    seen blocks ∙ ap sight_of is ∙ ap sight_of same

-- a new simulator shows its card
pub shows_made : (desc : CardDesc) (codes : List ℕ) (blocks : List Block) (shown : Option (List Block)) (t : SimState) (k : Kind) → shown ≡ Some blocks → k ≡ desc.kind →
    IsMade desc codes shown t → ShowsStart card_shown k false t (card_of desc (at_start desc) blocks)
shows_made desc codes blocks shown t k is kind made =
    let c = card_of desc (at_start desc) blocks in
    let shows : card_shown t ≡ Some c =
    ap (λ d. shown_card d t.card t.blocks) made.desc ∙ ap (λ s. shown_card desc s t.blocks) made.card ∙ ap (λ b. shown_card desc (at_start desc) b) (made.blocks ∙ is) in
    record {
      shown = record { shown = c; shows = shows; same = refl; count = λ _. refl };
      kind = kind;
      start = inl (made.start blocks is);
    }

-- A controller over a simulator, as its steps see it
module _ {I : Type 0} {images : Ghosts I} where
  abbrev pub sim_of : Controller (Sim I images) → SimState
  sim_of port = state_of (wire_of port)

  pub watched_of_sim : (telling : Bool) (g : Graph) (w w' : World (Controller (Sim I images))) (result : Result Watched RunFault)
      → WatchesAs telling (λ c call returned c'. ControllerSteps (λ s call returned s'. SimSteps (state_of s) call returned (state_of s')) (wire_of c) call returned (wire_of c'))
      (λ c. card_shown (state_of (wire_of c))) g w w' result
      → WatchesAs telling (ControllerSteps SimSteps) card_shown g (seen sim_of w) (seen sim_of w') result
  watched_of_sim telling g w w' result watched =
      seen_told sim_of _ (ControllerSteps SimSteps) (λ c call returned c' step. seen_step state_of SimSteps (wire_of c) call returned (wire_of c') step)
      _ card_shown (λ c. refl) telling g w w' result watched

-- what stops before what is not allowed was watched
stood : {S : Type 0} (telling : Bool) (steps : Steps S) (card : S → Option Card) (g : Graph) (w w' : World S) (wrong : Wrong) →
    WatchesAs telling steps card g w w' (Ok (comes.Stopped wrong)) →
    (trace trace' : Option (List ℕ)) × StandsBefore steps card g wrong (record w { trace = trace }) (record w' { trace = trace' })
stood telling steps card g w w' wrong (inl told) = (Some [], Some (lines told.events ++ told.last), told.watched.stands)
stood telling steps card g w w' wrong (inr (is, broke)) = absurd (cc)

-- A run that was tried of a graph of a text refutes the text, where something was wrong
pub refutes_text : (telling : Bool) (text : List ℕ) (g : Graph) (desc : CardDesc) (codes : List ℕ) (input : List Block) (blocks blocks' : Option (List Block))
    (out out' trace trace' : Option (List ℕ)) (result : Result Watched RunFault) → IsGraphOfText text g →
    Tries telling g desc codes input blocks blocks' out out' trace trace' result → RefutesIfWrong text desc blocks result
refutes_text telling text g desc codes input blocks blocks' out out' trace trace' (Ok (comes.Ended end)) of tries = tt
refutes_text telling text g desc codes input blocks blocks' out out' trace trace' (Ok (comes.Stopped wrong)) of tries = λ shown is. (
    let c = card_of desc (at_start desc) shown in
    let stands = (stood telling (ControllerSteps SimSteps) card_shown g _ _ wrong tries.watched).2 in
    let by = stands.refutes c (shows_made desc codes shown blocks tries.card g.kind is tries.kind tries.made) in
    let refutes = (by.refutes of.script of.graph).0 in
    record {
      script = of.script;
      same = of.same;
      is_script = of.is_script;
      events = stands.halted.events;
      coming = by.coming;
      named = by.named;
      refutes = refutes;
      refused = λ certificate a accepted.
          none_is_accepted of.script c stands.halted.events by.coming certificate a of.is_script refutes
          (subst (λ t. IsAccepted t certificate a) (sym of.same) accepted);
    })
refutes_text telling text g desc codes input blocks blocks' out out' trace trace' (Err fault) of tries = tt

-- what holds of a value holds of an answer that has one
pub if_ok_more : {A E : Type 0} (r : Result A E) (P Q : A → Type 0) → ((a : A) → P a → Q a) → IfOk r P → IfOk r Q
if_ok_more (Ok a) P Q f p = f a p
if_ok_more (Err e) P Q f p = tt

-- nothing was run of the graph of a text beside the card of a description
pub refuses_text : (text card codes : List ℕ) (size : ℕ) (unread : Type 0) (g : Graph) (desc : CardDesc) → IsGraphOfText text g → Describes card desc
    → (fault : TryFault) → NotTried g desc codes size unread fault → TryRefuses text card codes size unread fault
refuses_text text card codes size unread g desc of described (Script fault) not = absurd not
refuses_text text card codes size unread g desc of described OtherKind not =
    record { graph = g; of_text = of; desc = desc; described = described; other = not }
refuses_text text card codes size unread g desc of described (NoCard fault) not = λ other. record { graph = g; of_text = of; none = inr (desc, described, not other) }
refuses_text text card codes size unread g desc of described Memory not = tt

pub if_err_more : {A E : Type 0} (r : Result A E) (P Q : E → Type 0) → ((e : E) → P e → Q e) → IfErr r P → IfErr r Q
if_err_more (Ok a) P Q f p = tt
if_err_more (Err e) P Q f p = f e p
