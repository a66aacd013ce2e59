-- What a closed certificate says of every step and of every run of a script.
use Rattle.sdv_graph.specs.Graph.{Graph, begin, HasWalks}
use Rattle.sdv_graph.specs.GraphOf.{IsSound}
use Rattle.sdv_graph.specs.Path.{Path}
use Rattle.sdv_graph.specs.Tree.{Statements, Declared}
use Rattle.sdv_graph.specs.Walk.{Pair, Ending, Walk}
use Rattle.sdv_card.specs.Card.{Card}
use Rattle.sdv_card.specs.Profile.{IsAtStart}
use Rattle.sdv_facts.specs.Facts.{PointFacts}
use Rattle.std.proofs.Common.{◌≡◌, inl, inr, List}
use Rattle.sdv_facts.specs.Beside.{Walks, IsGood, RunsWell, MayStart}
use Rattle.sdv_facts.specs.Bounds.{bound_of}
use Rattle.sdv_facts.specs.Closed.{PointsMatch, Closed}
use Rattle.sdv_facts.specs.Stands.{EachIsMade, PointsStepWell, StepsWell}
use Rattle.sdv_facts.proofs.AnyStart.{runs_anywhere, made_anywhere}
use Rattle.sdv_facts.proofs.RunLaws.{runs_well, each_is_made, text_runs_well}
use Rattle.sdv_facts.proofs.StepLaws.{Laws, laws_of, points_step_well, steps_well}
use Rattle.sdv_facts.proofs.SuitLaws.{each_action_suits}

-- from wherever the facts of a point hold, and its clauses, its event is legal and in bounds, and the facts hold after it
pub each_point : (g : Graph) (ps : List PointFacts) → IsSound g → PointsMatch g ps → PointsStepWell g ps
each_point g ps sound points = points_step_well g ps (laws_of g.kind) sound.nested (each_action_suits g sound) points

module _ (g : Graph) (ps : List PointFacts) (laws : Laws g.kind) (sound : IsSound g) (closed : Closed g ps) where
  -- from wherever the facts hold, each event is legal and in bounds, and the facts hold after it
  pub each_step : StepsWell g ps
  each_step = steps_well g ps laws sound.nested (each_action_suits g sound) closed

  -- so every run over the graph is as it should be
  pub each_path : RunsWell g.kind (λ e es. Path g.kind g.points e (begin g) es) (bound_of g ps)
  each_path = runs_well g ps laws sound.ends sound.nested (each_action_suits g sound) closed

  -- and made by hosts that know nothing wrong of the card
  pub each_event : (c : Card) → g.kind ≡ c.kind → IsAtStart c → (e : Ending) (es : List Pair) → Path g.kind g.points e (begin g) es → EachIsMade g.kind es c
  each_event = each_is_made g ps laws sound.ends sound.nested (each_action_suits g sound) closed

  -- and every run of the script's text
  pub each_walk : (names : Declared) (script : Statements) → HasWalks names script g → RunsWell g.kind (Walk g.kind names script) (bound_of g ps)
  each_walk names script walks = text_runs_well g ps names script laws sound.ends sound.nested (each_action_suits g sound) walks closed

  -- THE CARDS beside which a run may start: those before their first command, and all where the script begins with CMD0

  abbrev paths : Walks
  paths e es = Path g.kind g.points e (begin g) es

  pub good_from : (c : Card) → g.kind ≡ c.kind → MayStart g.begins c → (e : Ending) (es : List Pair) → Path g.kind g.points e (begin g) es
      → IsGood (bound_of g ps) e es c
  good_from c kind (inl start) e es path = each_path.good c kind start e es path
  good_from c kind (inr (is, profile)) e es path =
      (runs_anywhere g.kind paths (bound_of g ps) (sound.begun is) each_path).good c kind profile e es path

  pub made_from : (c : Card) → g.kind ≡ c.kind → MayStart g.begins c → (e : Ending) (es : List Pair) → Path g.kind g.points e (begin g) es
      → EachIsMade g.kind es c
  made_from c kind (inl start) e es path = each_event c kind start e es path
  made_from c kind (inr (is, profile)) e es path = made_anywhere g.kind paths (sound.begun is) each_event c kind profile e es path
