-- WHAT `batch` ANSWERS: the text of the requests' script, or the first reason why there is none.
use Rattle.std.specs.Prelude.{◌+◌, ◌^◌, ◌&&◌, ◌<◌, ◌≡◌, ◌++◌, Bool, ℕ, nat_le, List, [], ◌∷◌, length, Option, Some, None, Result, Ok, Err, if◌then◌else◌}
use Rattle.std.specs.List.{list_all}
use Rattle.sdv_registers.specs.declared.kind.Kind.{Kind}
use Rattle.sdv_script.specs.Rules.{max_bytes, max_statements, statements_count}
use Rattle.sdv_script.specs.Script.{Parsed}
use Rattle.sdv_block.specs.declared.fault.BlockFault.{BlockFault}
use Rattle.sdv_block.specs.declared.fault.BlockFault.TheVariants.{Empty, Range, Limit, Memory}
use Rattle.sdv_block.specs.declared.request.Request.{Request}
use Rattle.sdv_block.specs.declared.request.Request.TheVariants.{Read, Write}
use Rattle.sdv_block.specs.BatchText.{batch_script}

-- one block or more, at most 65,535, and none above the greatest card
abbrev pub blocks_fit : (first count : ℕ) → Bool
blocks_fit first count = nat_le 1 count && (nat_le count 65535 && nat_le (first + count) (2 ^ 32))

abbrev pub is_in_range : Request → Bool
is_in_range (Read first count) = blocks_fit first count
is_in_range (Write first count) = blocks_fit first count

-- the text has not more bytes, and not more statements, than a script may have; the other limits no batch can break
abbrev pub keeps_limits : Parsed → Bool
keeps_limits s = nat_le (length s.text) max_bytes && nat_le (statements_count s.body) max_statements

abbrev pub batch_refusal : Kind → List Request → Option BlockFault
batch_refusal k [] = Some Empty
batch_refusal k (r ∷ rs) =
    if list_all is_in_range (r ∷ rs)
    then (if keeps_limits (batch_script k (r ∷ rs)) then None else Some Limit)
    else Some Range

-- A text grew by lines; or with them it is too long for a script, whatever comes after; or memory was refused.
abbrev pub Grows : (old new : List ℕ) → Result (Unit {0}) BlockFault → (lines : List ℕ → List ℕ) → Type 0
Grows old new (Ok done) lines = (others : List ℕ) → new ++ others ≡ old ++ lines others
Grows old new (Err Limit) lines = (others : List ℕ) → max_bytes < length (old ++ lines others)
Grows old new (Err Memory) lines = Unit {0}
Grows old new (Err fault) lines = ⊥
