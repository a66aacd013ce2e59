-- What a row leaves of the preset count, the application flag, the block length and the contents keeps the rules of a card.
use Rattle.std.proofs.Common.{◌≡◌, ℕ, ◌<◌, ◌/◌, ◌%◌, ◌^◌, inl, inr, refl, ap, subst, sym, Bool, true, false, not, ◌==◌, arith, if◌then◌else◌, ◌⊎◌, List, [], ◌∷◌}
use Rattle.sdv_registers.specs.declared.kind.Kind.{Kind}
use Rattle.sdv_registers.specs.declared.kind.Kind.TheVariants.{Sd, Emmc}
use Rattle.std.proofs.lemmas.Nat.{mod_below}
use Rattle.sdv_registers.specs.Status.{rca as published_rca}
use Rattle.sdv_registers.proofs.FieldLaws.{field-bits}
use Rattle.sdv_frames.specs.declared.reply.Reply.TheVariants.{R6}
use Rattle.sdv_card.specs.declared.state.State.{State}
use Rattle.sdv_card.specs.declared.state.Width.{Width}
use Rattle.sdv_card.specs.declared.state.Width.TheVariants.{One, Four, Eight}
use Rattle.sdv_card.specs.declared.state.Partition.{Partition}
use Rattle.sdv_card.specs.declared.state.Partition.TheVariants.{User, Boot1, Boot2}
use Rattle.sdv_card.specs.declared.state.Mode.{Mode}
use Rattle.sdv_card.specs.declared.command.Setting.TheVariants.{Lines}
use Rattle.sdv_card.specs.Modes.{calm, set, has_width, mode_fits, may_stay_pending, mode_told}
use Rattle.sdv_card.proofs.Members.{only, both_true, and_left, and_right}
use Rattle.sdv_card.specs.declared.state.Transfer.{Transfer}
use Rattle.sdv_card.specs.declared.state.Transfer.TheVariants.{Nothing, ReadDue, OpenReadDue, ScrDue, SdStatusDue, ExtCsdDue, WriteDue, OpenWriteDue}
use Rattle.sdv_card.specs.declared.answer.Answer.{Answer}
use Rattle.sdv_card.specs.declared.answer.Answer.TheVariants.{Reply as Replied}
use Rattle.sdv_card.specs.declared.command.Order.{Order}
use Rattle.sdv_card.specs.declared.command.Row.{Row}
use Rattle.sdv_card.specs.declared.command.Row.TheVariants.{Cmd0, Cmd3Sd, Cmd3Emmc, Cmd6, Cmd8Emmc, Cmd12, Cmd13, Cmd16, Cmd17, Cmd18, Cmd23, Cmd24, Cmd25, Cmd38, Cmd55, Acmd6, Acmd13, Acmd51}
use Rattle.sdv_card.specs.Lists.{May, IsOneOf}
use Rattle.sdv_card.specs.StateTable.{◌to◌, rows}
use Rattle.sdv_card.specs.RowRules.{app_after, preset_after, preset_kept, mode_after, mode_stayed, transfer_after}
use Rattle.sdv_card.specs.Responses.{response_of}
use Rattle.sdv_card.specs.Card.{Card, Partitions, Block, Partitions, AreBlocks, capacity_of, blocks_of, put, accessed_capacity, accessed_blocks, put_accessed, ContentsFit, kind_fits, length_fits}
use Rattle.sdv_card.specs.Taken.{SameCard, LengthAfter, ContentsAfter, BlocksAfter}
use Rattle.sdv_card.specs.Exchange.{RowAnswer}
use Rattle.sdv_card.proofs.RowsOfOrders.{row_count, row_rca}
use Rattle.sdv_card.proofs.SettledCard.{kind_of_none, kind_of_blocks}
use Rattle.sdv_card.proofs.RowsKeep.{either}
use Rattle.sdv_card.proofs.Members.{only}

-- PRESET COUNT

small_kept : (k : Kind) (p p' : ℕ) → p < 65536 → IsOneOf (preset_kept k p) p' → p' < 65536
small_kept Sd p p' small (inl e) = subst (λ n. n < 65536) e small
small_kept Sd p p' small (inr e) = absurd e
small_kept Emmc p p' small (inl e) = subst (λ n. n < 65536) e small
small_kept Emmc p p' small (inr (inl e)) = subst (λ n. n < 65536) e (omega arith)
small_kept Emmc p p' small (inr (inr e)) = absurd e

pub kept_small : (k : Kind) (p p' : ℕ) → p < 65536 → May (preset_kept k p) p' → p' < 65536
kept_small k p p' small m = small_kept k p p' small m.one

pub preset_small : (k : Kind) (row : Row) (p p' : ℕ) → row_count row < 65536 → p < 65536 → May (preset_after k row p) p' → p' < 65536
preset_small k Cmd0 p p' count small m = subst (λ n. n < 65536) (only m) (omega arith)
preset_small k (Cmd18 n) p p' count small m = subst (λ n. n < 65536) (only m) (omega arith)
preset_small k (Cmd23 n) p p' count small m = subst (λ n. n < 65536) (only m) count
preset_small k (Cmd25 n) p p' count small m = subst (λ n. n < 65536) (only m) (omega arith)
preset_small k row p p' count small m = kept_small k p p' small m

-- THE RULES OF A KIND

sd_preset : (row : Row) (p p' : ℕ) (a b : State) → IsOneOf (rows Sd row) (a to b) → (p == 0) ≡ true → May (preset_after Sd row p) p' → (p' == 0) ≡ true
sd_preset Cmd0 p p' a b m e n = subst (λ v. (v == 0) ≡ true) (only n) refl
sd_preset (Cmd18 c) p p' a b m e n = subst (λ v. (v == 0) ≡ true) (only n) refl
sd_preset (Cmd23 c) p p' a b m e n = absurd m
sd_preset (Cmd25 c) p p' a b m e n = subst (λ v. (v == 0) ≡ true) (only n) refl
sd_preset row p p' a b m e n = subst (λ v. (v == 0) ≡ true) (only n) e

emmc_app : (row : Row) (app : Bool) (a b : State) → IsOneOf (rows Emmc row) (a to b) → May (app_after row) app → not app ≡ true
emmc_app Cmd55 app a b m n = absurd m
emmc_app row app a b m n = subst (λ v. not v ≡ true) (only n) refl

-- without a transfer
pub kind_none_taken : (k : Kind) (row : Row) (x : Transfer) (app app' : Bool) (p p' : ℕ) (a b : State) → IsOneOf (rows k row) (a to b) →
    kind_fits k x app p ≡ true → May (app_after row) app' → May (preset_after k row p) p' → kind_fits k Nothing app' p' ≡ true
kind_none_taken Sd row x app app' p p' a b m e flag preset = sd_preset row p p' a b m (kind_of_none Sd x app p e) preset
kind_none_taken Emmc row x app app' p p' a b m e flag preset = emmc_app row app' a b m flag

pub kind_none_stayed : (k : Kind) (x : Transfer) (app app' : Bool) (p p' : ℕ) → kind_fits k x app p ≡ true → false ≡ app' → May (preset_kept k p) p' →
    kind_fits k Nothing app' p' ≡ true
kind_none_stayed Sd x app app' p p' e flag preset = subst (λ v. (v == 0) ≡ true) (only preset) (kind_of_none Sd x app p e)
kind_none_stayed Emmc x app app' p p' e flag preset = subst (λ v. not v ≡ true) flag refl

-- with the transfer that the card had
pub kind_again : (k : Kind) (x : Transfer) (app app' : Bool) (p p' : ℕ) → kind_fits k x app p ≡ true → kind_fits k Nothing app' p' ≡ true →
    kind_fits k x app' p' ≡ true
kind_again Sd ExtCsdDue app app' p p' e f = absurd (let g : false ≡ true = e in cc)
kind_again Sd x app app' p p' e f = f
kind_again Emmc ScrDue app app' p p' e f = absurd (let g : false ≡ true = e in cc)
kind_again Emmc SdStatusDue app app' p p' e f = absurd (let g : false ≡ true = e in cc)
kind_again Emmc x app app' p p' e f = f

-- with the transfer that the row begins or ends
pub kind_taken : (k : Kind) (row : Row) (x : Transfer) (app app' : Bool) (p p' : ℕ) (a b : State) → IsOneOf (rows k row) (a to b) →
    kind_fits k x app p ≡ true → kind_fits k Nothing app' p' ≡ true → kind_fits k (transfer_after row p x) app' p' ≡ true
kind_taken k Cmd0 x app app' p p' a b m e f = f
kind_taken k Cmd12 x app app' p p' a b m e f = f
kind_taken Sd Cmd8Emmc x app app' p p' a b m e f = absurd m
kind_taken Emmc Cmd8Emmc x app app' p p' a b m e f = f
kind_taken k Cmd17 x app app' p p' a b m e f = kind_of_blocks k ReadDue app' p' refl f
kind_taken k (Cmd18 n) x app app' p p' a b m e f =
    either (λ y. kind_fits k y app' p' ≡ true) (p == 0) OpenReadDue ReadDue (kind_of_blocks k OpenReadDue app' p' refl f)
    (kind_of_blocks k ReadDue app' p' refl f)
kind_taken k Cmd24 x app app' p p' a b m e f = kind_of_blocks k WriteDue app' p' refl f
kind_taken k (Cmd25 n) x app app' p p' a b m e f =
    either (λ y. kind_fits k y app' p' ≡ true) (p == 0) OpenWriteDue WriteDue (kind_of_blocks k OpenWriteDue app' p' refl f)
    (kind_of_blocks k WriteDue app' p' refl f)
kind_taken Sd Acmd13 x app app' p p' a b m e f = f
kind_taken Emmc Acmd13 x app app' p p' a b m e f = absurd m
kind_taken Sd Acmd51 x app app' p p' a b m e f = f
kind_taken Emmc Acmd51 x app app' p p' a b m e f = absurd m
kind_taken k row x app app' p p' a b m e f = kind_again k x app app' p p' e f

-- BLOCK LENGTH

fits_512 : (unit : Bool) → length_fits unit true ≡ true
fits_512 true = refl
fits_512 false = refl

pub length_kept : (row : Row) (unit : Bool) (before after : ℕ) → LengthAfter row unit before after →
    length_fits unit (before == 512) ≡ true → length_fits unit (after == 512) ≡ true
length_kept Cmd0 true before after e f = ap (λ n. n == 512) e
length_kept Cmd0 false before after e f = refl
length_kept Cmd16 unit before after e f = subst (λ n. length_fits unit (n == 512) ≡ true) (sym e) (fits_512 unit)
length_kept row unit before after e f = subst (λ n. length_fits unit (n == 512) ≡ true) e f

-- BLOCKS

pub announced_small : (row : Row) (argument : ℕ) (t u : Card) → row_count row < 65536 → t.announced < 65536 → BlocksAfter row argument t u → u.announced < 65536
announced_small Cmd17 argument t u count small b = subst (λ n. n < 65536) b.count_is (omega arith)
announced_small (Cmd18 n) argument t u count small b = subst (λ n. n < 65536) b.count_is count
announced_small Cmd24 argument t u count small b = subst (λ n. n < 65536) b.count_is (omega arith)
announced_small (Cmd25 n) argument t u count small b = subst (λ n. n < 65536) b.count_is count
announced_small row argument t u count small b = subst (λ n. n < 65536) b.count_is small

pub capacity_same : (p : Partition) {a a' b b' : ℕ} → a ≡ a' → b ≡ b' → capacity_of p a b ≡ capacity_of p a' b'
capacity_same User e f = e
capacity_same Boot1 e f = f
capacity_same Boot2 e f = f

-- a card of the same size
sized : (t u : Card) → SameCard t u → (contents : Partitions) →
    ((p : Partition) → AreBlocks (capacity_of p t.capacity t.boot_capacity) (blocks_of p contents)) →
    (p : Partition) → AreBlocks (capacity_of p u.capacity u.boot_capacity) (blocks_of p contents)
sized t u same contents fits p = subst (λ n. AreBlocks n (blocks_of p contents)) (capacity_same p same.capacity same.boot_capacity) (fits p)

-- the same contents, of a card of the same size
pub contents_same : (t u : Card) → SameCard t u → t.contents ≡ u.contents → ContentsFit t → ContentsFit u
contents_same t u same e fits =
    sized t u same u.contents (subst (λ v. (p : Partition) → AreBlocks (capacity_of p t.capacity t.boot_capacity) (blocks_of p v)) e fits)

-- with other blocks in one partition
fit_put : (q p : Partition) (a b : ℕ) (blocks : List Block) (contents : Partitions) → AreBlocks (capacity_of q a b) blocks →
    ((p : Partition) → AreBlocks (capacity_of p a b) (blocks_of p contents)) → AreBlocks (capacity_of p a b) (blocks_of p (put q blocks contents))
fit_put User User a b blocks contents m fits = m
fit_put User Boot1 a b blocks contents m fits = fits Boot1
fit_put User Boot2 a b blocks contents m fits = fits Boot2
fit_put Boot1 User a b blocks contents m fits = fits User
fit_put Boot1 Boot1 a b blocks contents m fits = m
fit_put Boot1 Boot2 a b blocks contents m fits = fits Boot2
fit_put Boot2 User a b blocks contents m fits = fits User
fit_put Boot2 Boot1 a b blocks contents m fits = fits Boot1
fit_put Boot2 Boot2 a b blocks contents m fits = m

-- other blocks in access, of a card of the same size
pub contents_put : (t u : Card) → SameCard t u → put_accessed t (accessed_blocks t u.contents) t.contents ≡ u.contents →
    AreBlocks (accessed_capacity t) (accessed_blocks t u.contents) → ContentsFit t → ContentsFit u
contents_put t u same others m fits =
    sized t u same u.contents
    (subst (λ v. (p : Partition) → AreBlocks (capacity_of p t.capacity t.boot_capacity) (blocks_of p v)) others
    (λ p. fit_put t.mode.partition p t.capacity t.boot_capacity (accessed_blocks t u.contents) t.contents m fits))

pub contents_kept : (row : Row) (t u : Card) → SameCard t u → ContentsAfter row t u → ContentsFit t → ContentsFit u
contents_kept Cmd38 t u same m fits = contents_put t u same m.others m.blocks fits
contents_kept row t u same m fits = contents_same t u same m fits

-- THE MODE

sd_calm : (mode : Mode) → mode_fits Sd mode ≡ true → mode_fits Sd (calm mode) ≡ true
sd_calm mode e = both_true _ _ (and_left _ _ e) refl

sd_width : (width : Width) (mode : Mode) → has_width Sd width ≡ true → mode_fits Sd mode ≡ true → mode_fits Sd (calm (set (Lines width) mode)) ≡ true
sd_width width mode has e = both_true _ _ (both_true _ _ has (and_right (has_width Sd mode.width) _ (and_left _ _ e))) refl

if_one : {A : Type 0} (b : Bool) (x y : A) → IsOneOf (if b then x ∷ [] else []) y → x ≡ y
if_one true x y (inl e) = e
if_one true x y (inr e) = absurd e
if_one false x y e = absurd e

-- the mode that a status leaves: without a pending error, or as it was
pub told_cases : (heard : Bool) (s : State) (mode mode' : Mode) → IsOneOf (mode_told heard s mode) mode' → (calm mode ≡ mode') ⊎ (mode ≡ mode')
told_cases heard s mode mode' (inl e) = inl e
told_cases heard s mode mode' (inr e) = inr (if_one (may_stay_pending heard s mode) mode mode' e)

sd_told : (heard : Bool) (s : State) (mode mode' : Mode) → mode_fits Sd mode ≡ true → IsOneOf (mode_told heard s mode) mode' → mode_fits Sd mode' ≡ true
sd_told heard s mode mode' e m =
    elim (told_cases heard s mode mode' m) [
      | inl f ↦ subst (λ v. mode_fits Sd v ≡ true) f (sd_calm mode e)
      | inr f ↦ subst (λ v. mode_fits Sd v ≡ true) f e
    ]

sd_mode : (row : Row) (heard : Bool) (s a b : State) (mode mode' : Mode) → IsOneOf (rows Sd row) (a to b) → mode_fits Sd mode ≡ true →
    May (mode_after row heard s mode) mode' → mode_fits Sd mode' ≡ true
sd_mode Cmd0 heard s a b mode mode' m e n = subst (λ v. mode_fits Sd v ≡ true) (only n) refl
sd_mode (Acmd6 Eight) heard s a b mode mode' m e n = absurd m
sd_mode (Acmd6 One) heard s a b mode mode' m e n = subst (λ v. mode_fits Sd v ≡ true) (only n) (sd_width One mode refl e)
sd_mode (Acmd6 Four) heard s a b mode mode' m e n = subst (λ v. mode_fits Sd v ≡ true) (only n) (sd_width Four mode refl e)
sd_mode (Cmd6 setting) heard s a b mode mode' m e n = absurd m
sd_mode Cmd13 heard s a b mode mode' m e n = sd_told heard s mode mode' e n.one
sd_mode row heard s a b mode mode' m e n = subst (λ v. mode_fits Sd v ≡ true) (only n) (sd_calm mode e)

pub mode_kept : (k : Kind) (row : Row) (heard : Bool) (s a b : State) (mode mode' : Mode) → IsOneOf (rows k row) (a to b) → mode_fits k mode ≡ true →
    May (mode_after row heard s mode) mode' → mode_fits k mode' ≡ true
mode_kept Sd row heard s a b mode mode' m e n = sd_mode row heard s a b mode mode' m e n
mode_kept Emmc row heard s a b mode mode' m e n = refl

sd_stayed : (row : Row) (heard : Bool) (s : State) (mode mode' : Mode) → mode_fits Sd mode ≡ true → May (mode_stayed row heard s mode) mode' →
    mode_fits Sd mode' ≡ true
sd_stayed Cmd13 heard s mode mode' e n = sd_told heard s mode mode' e n.one
sd_stayed row heard s mode mode' e n = subst (λ v. mode_fits Sd v ≡ true) (only n) (sd_calm mode e)

pub mode_kept_stayed : (k : Kind) (row : Row) (heard : Bool) (s : State) (mode mode' : Mode) → mode_fits k mode ≡ true →
    May (mode_stayed row heard s mode) mode' → mode_fits k mode' ≡ true
mode_kept_stayed Sd row heard s mode mode' e n = sd_stayed row heard s mode mode' e n
mode_kept_stayed Emmc row heard s mode mode' e n = refl

-- THE HOST'S ADDRESS

published_small : (word : ℕ) → published_rca word < 65536
published_small word =
    let e : published_rca word ≡ word / 2 ^ 16 % 2 ^ 16 = field-bits 31 31 16 word (omega arith) (omega arith) in
    subst (λ n. n < 65536) (sym e) (mod_below (word / 2 ^ 16) (2 ^ 16) (omega arith))

pub rca_small : (order : Order) (row : Row) (argument : ℕ) (t u : Card) (answer : Answer) (rca : ℕ) →
    RowAnswer (response_of row) order row argument t answer u → rca < 65536 → row_rca row answer rca < 65536
rca_small order Cmd0 argument t u answer rca a small = omega arith
rca_small order Cmd3Sd argument t u (Replied (R6 word)) rca a small = published_small word
rca_small order Cmd3Emmc argument t u answer rca a small = omega arith
rca_small order row argument t u answer rca a small = small
