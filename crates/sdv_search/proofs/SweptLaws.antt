-- Why no run of a sweep was made, and the blocks of an image in memory.
use Rattle.std.proofs.Common.{arith, refl, sym, true, false, ◌∙◌, ◌≡◌, ◌/◌, ◌+◌, ◌++◌, ◌∷◌, Bool, inl, inr, ap, subst, ℕ, suc, List, [], length, Some, Result, Ok, Err, IfErr, IsErrAnd}
use Rattle.std.specs.Prelude.{filter, map}
use Rattle.std.proofs.lemmas.List.{append-nil, length_push, map-append}
use Rattle.std.proofs.lemmas.List.Elements.{All-push, filter-append}
use Rattle.sdv_card.specs.Card.{Block}
use Rattle.sdv_check.specs.Verified.{IsGraphOfText}
use Rattle.sdv_behavior.specs.declared.card_desc.CardDesc.{CardDesc}
use Rattle.sdv_behavior.specs.Gives.{Describes}
use Rattle.sdv_graph.specs.Graph.{Graph}
use Rattle.sdv_image.specs.Images.{HasFailed}
use Rattle.sdv_image.specs.MemBlocks.{blocks_in, bytes_of, shown_of, size_of}
use Rattle.sdv_image.specs.declared.fault.SimFault.{SimFault}
use Rattle.sdv_image.specs.declared.fault.SimFault.TheVariants.{Description, Capacity, ImageLength, ImageRead, Memory as NoMemory}
use Rattle.sdv_image.specs.declared.mem_image.MemImage.{MemImage}
use Rattle.sdv_refute.specs.declared.simulated.TryFault.{TryFault}
use Rattle.sdv_refute.specs.declared.simulated.TryFault.TheVariants.{Script, Kind, Card, Memory}
use Rattle.sdv_refute.specs.Tries.{NotTried}
use Rattle.sdv_refute.proofs.SimShown.{refuses_text}
use Rattle.sdv_behavior.specs.Schedules.{are_codes}
use Rattle.sdv_sim.specs.Made.{IsRefused, IsUnread}
use Rattle.sdv_search.specs.Swept.{AreNumbered, AreRows, IsRow, NoEnd, NotSwept, blocks_of}
use Rattle.sdv_search.specs.Table.{codes_below}
use Rattle.sdv_search.specs.declared.sweeping.Cell.{Cell}
use Rattle.sdv_search.specs.declared.sweeping.Row.{Row}

pub image_shown : (image : MemImage) (bytes : List ℕ) → bytes_of image ≡ bytes → shown_of image ≡ blocks_of bytes
image_shown image bytes is = ap (λ (b : List ℕ). blocks_in (length b / 512) b) is

pub image_size : (image : MemImage) (bytes : List ℕ) → bytes_of image ≡ bytes → size_of image ≡ length bytes / 512
image_size image bytes is = ap (λ (b : List ℕ). length b / 512) is

-- no read of an image in memory fails
abbrev pub Unread : MemImage → Type 0
Unread image = IsUnread size_of (λ (i : MemImage). Some (shown_of i)) (λ (i : MemImage). 0) image

never_failed : HasFailed 0 0 → ⊥
never_failed (inl rose) = absurd (omega (arith, rose))
never_failed (inr greatest) = absurd (omega (arith, greatest))

never_unread : (image : MemImage) → Unread image → ⊥
never_unread image unread = never_failed unread.counted

pub unmade : (is_known : Bool) (size wanted : ℕ) (image : MemImage) (fault : SimFault) → IsRefused is_known size wanted (Unread image) fault
    → IsRefused is_known size wanted ⊥ fault
unmade is_known size wanted image Description refused = refused
unmade is_known size wanted image ImageLength refused = refused
unmade is_known size wanted image ImageRead refused = (refused.0, never_unread image refused.1)
unmade is_known size wanted image NoMemory refused = refused
unmade is_known size wanted image Capacity refused = refused

module _ (g : Graph) (desc : CardDesc) where
  not_unread : (codes : List ℕ) (size : ℕ) (image : MemImage) (fault : TryFault) → NotTried g desc codes size (Unread image) fault
      → NotTried g desc codes size ⊥ fault
  not_unread codes size image (Script fault) not = not
  not_unread codes size image Kind not = not
  not_unread codes size image (Card fault) not = λ other. (
      let none = not other in
      record { kind = none.kind; unmade = unmade (are_codes codes) size _ image fault none.unmade })
  not_unread codes size image Memory not = tt

  -- a run over an image of these bytes was not made
  pub no_end : (bytes codes : List ℕ) (image : MemImage) → size_of image ≡ length bytes / 512 → (fault : TryFault)
      → NotTried g desc codes (size_of image) (Unread image) fault → NoEnd g desc bytes codes fault
  no_end bytes codes image size fault not =
      inr (subst (λ n. NotTried g desc codes n ⊥ fault) size (not_unread codes (size_of image) image fault not))

  -- nor one of the text
  pub not_swept : (text card bytes : List ℕ) → IsGraphOfText text g → Describes card desc → (fault : TryFault) → NoEnd g desc bytes [] fault
      → NotSwept text card bytes fault
  not_swept text card bytes of described fault (inl none) = inl none
  not_swept text card bytes of described fault (inr not) = inr (refuses_text text card [] (length bytes / 512) ⊥ g desc of described fault not)

-- a `?` passes the fault on
pub passed : {T : Type 0} (text card bytes : List ℕ) (fault : TryFault) (r : Result T TryFault) → IsErrAnd r (λ f. f ≡ fault)
    → NotSwept text card bytes fault → IfErr r (NotSwept text card bytes)
passed text card bytes fault (Ok x) is not = absurd is
passed text card bytes fault (Err f) is not = rw is not

-- THE ROWS so far, and one more

numbered_push : (from : ℕ) (rows : List Row) (row : Row) → AreNumbered from rows → row.event ≡ from + length rows → AreNumbered from (rows ++ row ∷ [])
numbered_push from [] row numbered is = (omega (arith, is), tt)
numbered_push from (first ∷ rows) row numbered is = (numbered.0, numbered_push (suc from) rows row numbered.1 (omega (arith, is)))

pub rows_push : (g : Graph) (desc : CardDesc) (image : List ℕ) (input : List Block) (events : ℕ) (rows : List Row) (row : Row)
    → AreRows g desc image input events rows → IsRow g desc image input row → row.event ≡ events → AreRows g desc image input (events + 1) (rows ++ row ∷ [])
rows_push g desc image input events rows row so is at =
    let count : length rows ≡ events = so.count in
    record {
      numbered = numbered_push 0 rows row so.numbered (omega (arith, at, count));
      count = omega (arith, length_push rows row, count);
      each = All-push (IsRow g desc image input) rows row so.each is;
    }

-- THE RUNS of an event so far, and one more, or none

only_true : (p : ℕ → Bool) (n : ℕ) → p n ≡ true → filter p (n ∷ []) ≡ n ∷ []
only_true p n has = rw has refl

only_false : (p : ℕ → Bool) (n : ℕ) → p n ≡ false → filter p (n ∷ []) ≡ []
only_false p n has = rw has refl

pub codes_more : (p : ℕ → Bool) (n : ℕ) (cells : List Cell) (cell : Cell) → map (λ (c : Cell). c.code) cells ≡ filter p (codes_below n)
    → cell.code ≡ n → p n ≡ true → map (λ (c : Cell). c.code) (cells ++ cell ∷ []) ≡ filter p (codes_below (suc n))
codes_more p n cells cell so same has =
    map-append (λ (c : Cell). c.code) cells (cell ∷ [])
    ∙ ap (λ (xs : List ℕ). xs ++ cell.code ∷ []) so
    ∙ ap (λ (m : ℕ). filter p (codes_below n) ++ m ∷ []) same
    ∙ sym (filter-append p (codes_below n) (n ∷ []) ∙ ap (λ (xs : List ℕ). filter p (codes_below n) ++ xs) (only_true p n has))

pub codes_same : (p : ℕ → Bool) (n : ℕ) (codes : List ℕ) → codes ≡ filter p (codes_below n) → p n ≡ false
    → codes ≡ filter p (codes_below (suc n))
codes_same p n codes so has =
    so ∙ sym (filter-append p (codes_below n) (n ∷ []) ∙ ap (λ (xs : List ℕ). filter p (codes_below n) ++ xs) (only_false p n has) ∙ append-nil (filter p (codes_below n)))
