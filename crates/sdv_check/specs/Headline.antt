-- THE HEADLINE: what is so of every run of a script whose certificate was accepted.
use Rattle.std.specs.Prelude.{◌≡◌, true, ℕ, List}
use Rattle.sdv_graph.specs.Begins.{begins}
use Rattle.sdv_graph.specs.Moves.{statements_moves}
use Rattle.sdv_graph.specs.NamedFaults.{NamesFault}
use Rattle.sdv_script.specs.Script.{Parsed, IsScript}
use Rattle.sdv_graph.specs.Walk.{Pair, Ending, Walk}
use Rattle.sdv_facts.specs.Beside.{RunsEnd, RunsWell, RunsWellAnywhere}

pub record EachRun (s : Parsed) (most : ℕ) : Type 0 where
  -- beside any card of the script's kind and of the profile, before its first command, each event is legal and in bounds, no more commands than
  -- these are sent, the run ends in `done` with the card in the transfer state, or in a fault, and an open run is the
  -- beginning of one that ends
  pub runs : RunsWell s.names.kind (Walk s.names.kind s.names s.body) most
  -- where the script begins with CMD0, so it is beside such a card in any state
  pub anywhere : begins s.names.kind s.body ≡ true →
      RunsWellAnywhere s.names.kind (Walk s.names.kind s.names s.body) most
  -- every run ends: it has no more events than the text has moves, each loop taken as often as it may be
  pub ends : RunsEnd (Walk s.names.kind s.names s.body) (statements_moves s.body)
  -- a fault is one that the script names, or that of a number out of range
  pub faults : (e : Ending) (es : List Pair) → Walk s.names.kind s.names s.body e es → NamesFault s.body e

-- a text has one tree
abbrev pub EachRunOf : (text : List ℕ) (most : ℕ) → Type 0
EachRunOf text most = (s : Parsed) → s.text ≡ text → IsScript s → EachRun s most
