-- A changed buffer is written back.
use Rattle.std.proofs.Common.{◌≡◌, ℕ, ◌<◌, sym, ap, subst, ◌∙◌, List, [], ◌∷◌, get_or, set, Option, arith}
use Rattle.std.proofs.lemmas.List.{set-get_or}
use Rattle.sdv_card.specs.Card.{Block, IsRegister}
use Rattle.sdv_image.specs.Images.{Shown, OnlyAt}
use Rattle.sdv_image.specs.declared.buffer.Held.TheVariants.{Unchanged, Changed}
use Rattle.sdv_image.specs.declared.buffer.Buffer.{Buffer}
use Rattle.sdv_image.specs.Buffers.{place_of, buffer_at, HasPlace, AreSound, shown_over}
use Rattle.sdv_image.proofs.ShownLaws.{write_hidden, same_block}
use Rattle.sdv_image.proofs.SoundLaws.{sound_write, sound_set, shown_block, read_at_index}

module _ (bs : List Buffer) (size size' i place : ℕ) (b : Buffer) (old new : Option (List Block)) (s : AreSound bs size old) (h : i < 16)
    (read : b ≡ get_or bs i b) (held : b.held ≡ Changed place)
    (o : OnlyAt place 1 old new) (e : size' ≡ size) where
  here : b ≡ buffer_at bs i
  here = read_at_index bs i b s.count h read

  changed : (buffer_at bs i).held ≡ Changed place
  changed = ap (λ (x : Buffer). x.held) (sym here) ∙ held

  has : HasPlace bs i place
  has = ap place_of changed

  kept : set bs i b ≡ bs
  kept = ap (λ (x : Buffer). set bs i x) here ∙ set-get_or bs i _

  file_sound : AreSound bs size' new
  file_sound = sound_write bs size size' i place old new s changed o e

  file_shown : shown_over bs new ≡ shown_over bs old
  file_shown = write_hidden bs i place old new s.distinct has o

  -- where the write failed
  pub failed_sound : AreSound (set bs i b) size' new
  failed_sound = subst (λ (l : List Buffer). AreSound l size' new) (sym kept) file_sound

  pub failed_shown : shown_over (set bs i b) new ≡ shown_over bs old
  failed_shown = ap (λ (l : List Buffer). shown_over l new) kept ∙ file_shown

  -- where it was done
  module _ (w : Shown place (b.block ∷ []) new) where
    abbrev back : Buffer
    back = record { held = Unchanged place; block = b.block }

    fit : IsRegister 512 b.block
    fit = subst (λ (x : Buffer). IsRegister 512 x.block) (sym here) (s.fit i _ (let n = s.count in omega (arith, h, n)))

    pub written_sound : AreSound (set bs i back) size' new
    written_sound = sound_set bs i size' back new file_sound h
        (λ j q p at. let same : place ≡ q = cc in s.distinct j i q at (subst (λ (n : ℕ). HasPlace bs i n) same has))
        fit
        (λ q p. let same : place ≡ q = cc in subst (λ (n : ℕ). n < size') same (file_sound.within i place has))
        (λ all n q u. let same : place ≡ q = cc in subst (λ (k : ℕ). b.block ≡ get_or all k []) same (shown_block place b.block new all w n))

    pub written_shown : shown_over (set bs i back) new ≡ shown_over bs old
    written_shown = same_block bs i back new (sym has) (ap (λ (x : Buffer). x.block) here) ∙ file_shown
