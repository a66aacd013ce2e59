-- `batch KIND REQUESTS`: a script that serves requests is printed. The words are a kind of card, and requests in one word,
-- with white space between their parts.
use Rattle.std.specs.Prelude.{◌≡◌, ◌⊎◌, ◌<◌, ◌+◌, ◌*◌, ◌^◌, ℕ, List, [], length, codes, get_or, slice_index_or, Option, Some, None, if◌then◌else◌, ⊤}
use Rattle.std.specs.Borrow.{Bor}
use Rattle.std.specs.Iterator.{DrainsIf}
use Rattle.std.specs.Str.{bytes_eq}
use Rattle.std.specs.Str.Iter.{split_whitespace_rest, split_whitespace_steps}
use Rattle.std.specs.declared.str.SplitWhitespace.{SplitWhitespace}
use Rattle.clap.specs.Words.{Text}
use Rattle.sdv_registers.specs.declared.kind.Kind.{Kind}
use Rattle.sdv_registers.specs.declared.kind.Kind.TheVariants.{Sd, Emmc}
use Rattle.sdv_script.specs.Script.{IsScript}
use Rattle.sdv_block.specs.declared.fault.BlockFault.{BlockFault}
use Rattle.sdv_block.specs.declared.request.Request.{Request as Blocks}
use Rattle.sdv_block.specs.declared.request.Request.TheVariants.{Read, Write}
use Rattle.sdv_block.specs.Batch.{batch_refusal}
use Rattle.sdv_block.specs.BatchText.{batch_script}
use Rattle.sdv_text.specs.Number.{IsNumber, value_of}
use Rattle.sdv_program.specs.declared.fault.Fault.{Fault}
use Rattle.sdv_program.specs.declared.fault.Fault.TheVariants.{Usage, Unserved, Memory}
use Rattle.sdv_program.specs.Outcomes.{Ending, Prints}

abbrev pub kind_named : Text → Option Kind
kind_named word = if bytes_eq word (codes "sd") then Some Sd else
    (if bytes_eq word (codes "emmc") then Some Emmc else None)

-- REQUESTS

-- the text writes the number, which is below 2^32
pub record Counts (text : Text) (n : ℕ) : Type 0 where
  pub is_number : IsNumber text
  pub value : value_of text ≡ n
  pub in_range : n < 2 ^ 32

pub record Wrote (name action first count : Text) (block blocks : ℕ) : Type 0 where
  pub action_is : action ≡ name
  pub first_is : Counts first block
  pub count_is : Counts count blocks

-- `read FIRST COUNT`, `write FIRST COUNT`
abbrev pub IsRequest : (action first count : Text) → Blocks → Type 0
IsRequest action first count (Read block blocks) = Wrote (codes "read") action first count block blocks
IsRequest action first count (Write block blocks) = Wrote (codes "write") action first count block blocks

abbrev pub NoRequest : (action first count : Text) → Type 0
NoRequest action first count = (r : Blocks) → ¬ IsRequest action first count r

abbrev pub Words : Type 0
Words = List (Bor (List ℕ))

-- the text of a word, which is empty past the last one
abbrev pub word : Words → ℕ → Text
word words i = (slice_index_or words i (record { ref_ptr = (0, 0); now = [] })).now

-- the words are those of the requests, three for each
pub record AreRequests (words : Words) (rs : List Blocks) : Type 0 where
  pub size : length words ≡ 3 * length rs
  pub each : (i : ℕ) → i < length rs → IsRequest (word words (3 * i)) (word words (3 * i + 1)) (word words (3 * i + 2))
      (get_or rs i (Read 0 0))

-- a fault that says that they are none, or that memory was wanting
abbrev pub NoRequests : Words → Fault → Type 0
NoRequests words Usage = (rs : List Blocks) → ¬ AreRequests words rs
NoRequests words Memory = Unit {0}
NoRequests words fault = ⊥

-- the words of a text are what lies between its white space
abbrev pub AreWords : (text : Text) → Words → Type 0
AreWords text words = (it : SplitWhitespace) × (split_whitespace_rest it ≡ text)
    × DrainsIf split_whitespace_steps ⊤ it words

-- the text has words that write no requests
pub record HasNoRequests (requests : Text) : Type 0 where
  pub words : Words
  pub of_text : AreWords requests words
  pub none : (rs : List Blocks) → ¬ AreRequests words rs

-- the two texts ask for this batch
pub record AsksBatch (kind requests : Text) (k : Kind) (rs : List Blocks) : Type 0 where
  pub named : kind_named kind ≡ Some k
  pub words : Words
  pub of_text : AreWords requests words
  pub are : AreRequests words rs

-- THE ANSWER

-- the text is that of the script of the requests
abbrev pub IsBatchText : (kind requests text : Text) → Type 0
IsBatchText kind requests text =
    (k : Kind) × (rs : List Blocks) × AsksBatch kind requests k rs × IsScript (batch_script k rs)
    × (text ≡ (batch_script k rs).text)

-- the two texts ask for a batch that is refused
pub record AsksRefused (kind requests : Text) (fault : BlockFault) : Type 0 where
  pub card : Kind
  pub asked_for : List Blocks
  pub asks : AsksBatch kind requests card asked_for
  pub refused : batch_refusal card asked_for ≡ Some fault

-- why there is none
abbrev pub HasNoBatch : (kind requests : Text) → Fault → Type 0
HasNoBatch kind requests Usage = (kind_named kind ≡ None) ⊎ HasNoRequests requests
HasNoBatch kind requests (Unserved fault) = AsksRefused kind requests fault
HasNoBatch kind requests fault = ⊥

abbrev pub BatchEnds : (kind requests : Text) → Ending
BatchEnds kind requests = Prints (IsBatchText kind requests) (HasNoBatch kind requests)
