-- Blocks that are to be written back: which of them a change of the buffers leaves.
use Rattle.std.proofs.Common.{◌≡◌, ◌⊎◌, ℕ, ◌<◌, inl, inr, sym, ap, ◌∙◌, List, length, set, arith}
use Rattle.std.proofs.lemmas.Bool.{cases_eq}
use Rattle.sdv_image.specs.declared.buffer.Held.TheVariants.{Changed}
use Rattle.sdv_image.specs.declared.buffer.Buffer.{Buffer}
use Rattle.sdv_image.specs.Buffers.{buffer_at, written_back, IsUnwritten}
use Rattle.sdv_image.proofs.SoundLaws.{set_at, set_beside}
use Rattle.sdv_image.proofs.HoldLaws.{not_changed}

-- one buffer gets another block
pub unwritten_set : (bs cs : List Buffer) (i : ℕ) (b : Buffer) → length bs ≡ 16 → i < 16 → cs ≡ set bs i b → (place : ℕ) → IsUnwritten cs place →
    (b.held ≡ Changed place) ⊎ IsUnwritten bs place
unwritten_set bs cs i b n h e place (j, u) = elim (cases_eq j i) [ inl same ↦ inl (here same) | inr other ↦ inr (j, there other) ]
  where
    here : j ≡ i → b.held ≡ Changed place
    here same =
        ap (λ (x : Buffer). x.held)
        (sym (set_at bs i b (omega (arith, n, h))) ∙ (ap (λ (l : List Buffer). buffer_at l i) (sym e) ∙ ap (λ (k : ℕ). buffer_at cs k) (sym same)))
        ∙ u

    there : (j ≡ i → ⊥) → (buffer_at bs j).held ≡ Changed place
    there other = ap (λ (x : Buffer). x.held) (sym (set_beside bs i j b other) ∙ ap (λ (l : List Buffer). buffer_at l j) (sym e)) ∙ u

-- one buffer is written back
pub unwritten_back : (bs cs : List Buffer) (i : ℕ) → length bs ≡ 16 → i < 16 → cs ≡ set bs i (written_back (buffer_at bs i)) → (place : ℕ) →
    IsUnwritten cs place → IsUnwritten bs place
unwritten_back bs cs i n h e place u =
    elim (unwritten_set bs cs i (written_back (buffer_at bs i)) n h e place u) [ inl here ↦ absurd (not_changed (buffer_at bs i).held place here) | inr before ↦ before ]
