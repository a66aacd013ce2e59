-- The text of a batch is a script, where it is within the limits.
use Rattle.std.proofs.Common.{◌≡◌, ℕ, ◌+◌, ◌^◌, ◌≤◌, arith, true, List, [], ◌∷◌, length}
use Rattle.std.specs.List.{list_all}
use Rattle.std.proofs.lemmas.Bool.{leb-true}
use Rattle.sdv_registers.specs.declared.kind.Kind.{Kind}
use Rattle.sdv_card.proofs.Members.{and_left, and_right}
use Rattle.sdv_script.specs.Rules.{statements_count, max_statements, max_bytes}
use Rattle.sdv_script.specs.Script.{IsScript}
use Rattle.sdv_block.specs.declared.request.Request.{Request}
use Rattle.sdv_block.specs.declared.request.Request.TheVariants.{Read, Write}
use Rattle.sdv_block.specs.Batch.{blocks_fit, is_in_range}
use Rattle.sdv_block.specs.BatchText.{batch_script}
use Rattle.sdv_block.specs.Disk.{greatest_end}
use Rattle.sdv_block.proofs.LineTokens.{IsSmall, AreSmall, batch_written}
use Rattle.sdv_block.proofs.ScriptFits.{batch_fits}

blocks_small : (block count : ℕ) → blocks_fit block count ≡ true → IsSmall block count
blocks_small block count fit =
    let end : block + count ≤ 2 ^ 32 = leb-true (block + count) (2 ^ 32) (and_right _ _ (and_right _ _ fit)) in
    record {
      block_small = omega (arith, end);
      some = leb-true 1 count (and_left _ _ fit);
      most = leb-true count 65535 (and_left _ _ (and_right _ _ fit));
    }

all_small : (rs : List Request) → list_all is_in_range rs ≡ true → AreSmall rs
all_small [] fit = tt
all_small (Read block count ∷ rs) fit = (blocks_small block count (and_left _ _ fit), all_small rs (and_right _ _ fit))
all_small (Write block count ∷ rs) fit = (blocks_small block count (and_left _ _ fit), all_small rs (and_right _ _ fit))

-- the requests are in range
pub is_script : (k : Kind) (rs : List Request) → list_all is_in_range rs ≡ true → greatest_end rs ≤ 2 ^ 40 →
    statements_count (batch_script k rs).body ≤ max_statements →
    length (batch_script k rs).text ≤ max_bytes → IsScript (batch_script k rs)
is_script k rs fit le few short = record {
  small = short;
  written = batch_written k (greatest_end rs) rs le (all_small rs fit);
  fits = batch_fits k (greatest_end rs) rs le (all_small rs fit) few;
}
