-- LAWS of batches.
use Rattle.std.specs.Prelude.{◌≡◌, ℕ, List, Some, None}
use Rattle.sdv_registers.specs.declared.kind.Kind.{Kind}
use Rattle.sdv_card.specs.Card.{Card}
use Rattle.sdv_card.specs.Profile.{IsOfProfile}
use Rattle.sdv_graph.specs.Walk.{Pair, Ending, Walk}
use Rattle.sdv_script.specs.Script.{Parsed, IsScript}
use Rattle.sdv_facts.specs.Beside.{StepsOf, IsGood}
use Rattle.sdv_block.specs.declared.fault.BlockFault.TheVariants.{Limit}
use Rattle.sdv_block.specs.declared.request.Request.{Request}
use Rattle.sdv_block.specs.Batch.{batch_refusal}
use Rattle.sdv_block.specs.BatchText.{batch_script}
use Rattle.sdv_block.specs.Served.{ServedBatch}

-- the text of a batch that is not refused is a script, and one that is refused for its limits is none
pub record BatchesAreScripts : Type 0 where
  pub script : (k : Kind) (rs : List Request) → batch_refusal k rs ≡ None → IsScript (batch_script k rs)
  pub none : (k : Kind) (rs : List Request) → batch_refusal k rs ≡ Some Limit → (s : Parsed) →
      s.text ≡ (batch_script k rs).text → IsScript s → ⊥

-- every walk of it beside a card of the profile, in any state, whose events are legal and in bounds, does what a plain disk
-- does
abbrev pub BatchesServe : Type 0
BatchesServe = (k : Kind) (rs : List Request) (most : ℕ) (e : Ending) (es : List Pair) (c last : Card) →
    k ≡ c.kind → IsOfProfile c → Walk k (batch_script k rs).names (batch_script k rs).body e es →
    StepsOf c es last → IsGood most e es c → ServedBatch rs e es c last
