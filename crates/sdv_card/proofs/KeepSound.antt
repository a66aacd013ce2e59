-- A legal step keeps true what the host knows of the card.
use Rattle.std.proofs.Common.{◌≡◌, ℕ, ◌<◌, ◌/◌, inl, inr, refl, ap, subst, sym, ◌∙◌, Bool, true, false, List, [], ◌∷◌, ◌+◌, length, take, drop, ◌==◌, eqb-true, Option, Some, None, if◌then◌else◌, arith}
use Rattle.std.proofs.lemmas.List.{take_all, drop-drop}
use Rattle.std.specs.Prelude.{reverse}
use Rattle.sdv_frames.specs.Bits.{bits_of, number_of}
use Rattle.sdv_registers.specs.declared.kind.Kind.{Kind}
use Rattle.sdv_registers.specs.ExtCsd.{sec_count}
use Rattle.sdv_registers.specs.declared.kind.Kind.TheVariants.{Sd, Emmc}
use Rattle.sdv_frames.specs.declared.reply.Reply.TheVariants.{R2}
use Rattle.sdv_card.specs.declared.state.State.{State}
use Rattle.sdv_card.specs.declared.state.State.TheVariants.{Tran}
use Rattle.sdv_card.specs.declared.state.Transfer.{Transfer}
use Rattle.sdv_card.specs.declared.state.Transfer.TheVariants.{Nothing, ReadDue, OpenReadDue, ScrDue, SdStatusDue, ExtCsdDue, WriteDue, OpenWriteDue}
use Rattle.sdv_card.specs.declared.answer.Answer.{Answer}
use Rattle.sdv_card.specs.declared.answer.Answer.TheVariants.{TimeOut, Reply as Replied}
use Rattle.sdv_card.specs.declared.answer.DataEnd.{DataEnd}
use Rattle.sdv_card.specs.declared.answer.DataEnd.TheVariants.{Ok, Cut}
use Rattle.sdv_card.specs.declared.command.Order.{Order}
use Rattle.sdv_card.specs.declared.command.Order.TheVariants.{SendExtCsd, SendCsd, SendStatus, ReadSingleBlock, ReadMultipleBlock, WriteBlock, WriteMultipleBlock, SendScr}
use Rattle.sdv_card.specs.declared.command.Row.{Row}
use Rattle.sdv_card.specs.declared.command.Row.TheVariants.{Cmd0, Cmd8Emmc, Cmd9, Cmd12, Cmd13, Cmd17, Cmd18, Cmd24, Cmd25, Acmd13, Acmd51}
use Rattle.sdv_card.specs.declared.command.TakenAs.{TakenAs}
use Rattle.sdv_card.specs.declared.command.TakenAs.TheVariants.{Forbidden, Ignored, By}
use Rattle.sdv_card.specs.Lists.{IsOneOf}
use Rattle.sdv_card.specs.StateTable.{◌to◌, rows}
use Rattle.sdv_card.specs.Takes.{taken_as_of, matches}
use Rattle.sdv_card.specs.RowRules.{transfer_after}
use Rattle.sdv_card.specs.CommandTable.{order_of}
use Rattle.sdv_card.specs.Responses.{response_of}
use Rattle.sdv_card.specs.ScriptEvent.{SendCommand, ReceiveBlocks, ReceiveRegister, GiveBlocks, AwaitReady, Answered, BlocksIn, RegisterIn, BlocksOut, Waited}
use Rattle.sdv_card.specs.Card.{Card, IsCard, DataRegisters, IsRegister, transfer_fits, kind_fits}
use Rattle.sdv_card.specs.Host.{Host, host_after_order, csd_known, ext_csd_known, announced_by, register_length_by}
use Rattle.sdv_card.specs.Settled.{Settled}
use Rattle.sdv_card.specs.Taken.{SameCard, BlocksAfter}
use Rattle.sdv_card.specs.Exchange.{RowAnswer, SettledAnswer, card_takes}
use Rattle.sdv_card.specs.Phases.{blocks_due, register_due, due_register, fixed, RegisterTrue, Moved, MovedWriting}
use Rattle.sdv_card.specs.Legal.{SettledLegal}
use Rattle.sdv_card.specs.Laws.{SameSizes, Sound, StepsKeepSound}
use Rattle.sdv_card.proofs.Became.{Became, became}
use Rattle.sdv_card.proofs.Same.{settled_same, became_same, steps_keep_same}
use Rattle.sdv_card.proofs.SettledCard.{settled_is_card}
use Rattle.sdv_card.proofs.RowsOfOrders.{same_announces, same_register, Says, says, order_announces, row_announces, row_csd, row_register}
use Rattle.sdv_card.proofs.PhasePlaces.{calm_place}

-- a transfer of which no phase is due
no_due : (f : Transfer → Bool) (x y : Transfer) → f x ≡ false → x ≡ y → f y ≡ true → ⊥
no_due f x y none e due = let g : false ≡ true = sym none ∙ (ap f e ∙ due) in cc

-- of a card with the same register
same_sizes : (held a b : List ℕ) → SameSizes held a → a ≡ b → SameSizes held b
same_sizes held a b s e = subst (λ v. SameSizes held v) e s

-- the capacity in sectors that the host reads is the card's
pub same_sectors : (held register : List ℕ) → SameSizes held register → sec_count held ≡ sec_count register
same_sectors held register s = s.sectors

settled_sound : (c t : Card) (h : Host) → Settled c t → Sound c h → Sound t h
settled_sound c t h (inl e) sound = subst (λ v. Sound v h) e sound
settled_sound c t h (inr x) sound =
    let same : SameCard c t = settled_same c t (inr x) in
    record {
      csd = λ bytes e. sound.csd bytes e ∙ same.csd;
      ext_csd = λ bytes emmc e. same_sizes bytes c.ext_csd t.ext_csd (sound.ext_csd bytes (same.kind ∙ emmc) e) same.ext_csd;
      blocks = λ due. absurd (no_due blocks_due _ t.transfer refl (ap (λ v. v.transfer) x.2) due);
      register = λ due. absurd (no_due register_due _ t.transfer refl (ap (λ v. v.transfer) x.2) due);
    }

-- THE CSD

csd_timeout : (order : Order) (csd : Option (List ℕ)) → csd_known order TimeOut csd ≡ csd
csd_timeout SendCsd csd = refl
csd_timeout order csd = refl

-- the bytes that a host holds after an answer are those of a register
abbrev Holds : Option (List ℕ) → List ℕ → Type 0
Holds held register = (bytes : List ℕ) → held ≡ Some bytes → bytes ≡ register

held_now : (b register : List ℕ) → b ≡ register → Holds (Some b) register
held_now b register e bytes f = let g : b ≡ bytes = cc in sym g ∙ e

row_csd_holds : (order : Order) (row : Row) (argument : ℕ) (t u : Card) (answer : Answer) (csd : Option (List ℕ)) →
    RowAnswer (response_of row) order row argument t answer u → Holds csd t.csd → Holds (row_csd row answer csd) t.csd
row_csd_holds order Cmd9 argument t u (Replied (R2 b)) csd a old = held_now b t.csd a.shown
row_csd_holds order row argument t u answer csd a old = old

csd_holds : (way : TakenAs) (order : Order) (argument : ℕ) (t u : Card) (answer : Answer) (csd : Option (List ℕ)) →
    ((row : Row) → way ≡ By row → Says order row) → SettledAnswer way order argument t answer u → Holds csd t.csd → Holds (csd_known order answer csd) t.csd
csd_holds Forbidden order argument t u answer csd say a old = absurd a
csd_holds Ignored order argument t u answer csd say a old =
    subst (λ v. Holds (csd_known order v csd) t.csd) a.0 (subst (λ v. Holds v t.csd) (sym (csd_timeout order csd)) old)
csd_holds (By row) order argument t u answer csd say a old =
    subst (λ v. Holds v t.csd) (sym ((say row refl).csd answer csd)) (row_csd_holds order row argument t u answer csd a old)

-- THE ANNOUNCED COUNT

abbrev announce : Option ℕ → ℕ → ℕ
announce None before = before
announce (Some n) before = n

order_announced : (order : Order) (before : ℕ) → announced_by order before ≡ announce (order_announces order) before
order_announced ReadSingleBlock before = refl
order_announced (ReadMultipleBlock n) before = refl
order_announced WriteBlock before = refl
order_announced (WriteMultipleBlock n) before = refl
order_announced order before = refl

-- after a row, a block transfer that is due has the count that the row announces
taken_blocks : (row : Row) (argument : ℕ) (t u : Card) (before : ℕ) → transfer_after row t.preset t.transfer ≡ u.transfer → BlocksAfter row argument t u →
    (blocks_due t.transfer ≡ true → before ≡ t.announced) → blocks_due u.transfer ≡ true → announce (row_announces row) before ≡ u.announced
taken_blocks Cmd17 argument t u before e b old due = b.count_is
taken_blocks (Cmd18 n) argument t u before e b old due = b.count_is
taken_blocks Cmd24 argument t u before e b old due = b.count_is
taken_blocks (Cmd25 n) argument t u before e b old due = b.count_is
taken_blocks Cmd0 argument t u before e b old due = absurd (no_due blocks_due _ u.transfer refl e due)
taken_blocks Cmd8Emmc argument t u before e b old due = absurd (no_due blocks_due _ u.transfer refl e due)
taken_blocks Cmd12 argument t u before e b old due = absurd (no_due blocks_due _ u.transfer refl e due)
taken_blocks Acmd13 argument t u before e b old due = absurd (no_due blocks_due _ u.transfer refl e due)
taken_blocks Acmd51 argument t u before e b old due = absurd (no_due blocks_due _ u.transfer refl e due)
taken_blocks row argument t u before e b old due = old (ap blocks_due e ∙ due) ∙ b.count_is

-- a row that announces blocks is taken in transfer state alone, where no block transfer is due
source_is : (k : Kind) (row : Row) (a b : State) (n : ℕ) → row_announces row ≡ Some n → IsOneOf (rows k row) (a to b) → Tran ≡ a
source_is Sd Cmd17 a b n e (inl m) = ap (λ v. v.source) m
source_is Sd Cmd17 a b n e (inr m) = absurd m
source_is Sd (Cmd18 c) a b n e (inl m) = ap (λ v. v.source) m
source_is Sd (Cmd18 c) a b n e (inr m) = absurd m
source_is Sd Cmd24 a b n e (inl m) = ap (λ v. v.source) m
source_is Sd Cmd24 a b n e (inr m) = absurd m
source_is Sd (Cmd25 c) a b n e (inl m) = ap (λ v. v.source) m
source_is Sd (Cmd25 c) a b n e (inr m) = absurd m
source_is Emmc Cmd17 a b n e (inl m) = ap (λ v. v.source) m
source_is Emmc Cmd17 a b n e (inr m) = absurd m
source_is Emmc (Cmd18 c) a b n e (inl m) = ap (λ v. v.source) m
source_is Emmc (Cmd18 c) a b n e (inr m) = absurd m
source_is Emmc Cmd24 a b n e (inl m) = ap (λ v. v.source) m
source_is Emmc Cmd24 a b n e (inr m) = absurd m
source_is Emmc (Cmd25 c) a b n e (inl m) = ap (λ v. v.source) m
source_is Emmc (Cmd25 c) a b n e (inr m) = absurd m
source_is k row a b n e m = absurd (cc)

never_ignored : (order : Order) (app matched : Bool) (n : ℕ) → order_announces order ≡ Some n → taken_as_of order app matched ≡ Ignored → ⊥
never_ignored ReadSingleBlock true matched n e i = cc
never_ignored ReadSingleBlock false matched n e i = cc
never_ignored (ReadMultipleBlock c) true matched n e i = cc
never_ignored (ReadMultipleBlock c) false matched n e i = cc
never_ignored WriteBlock true matched n e i = cc
never_ignored WriteBlock false matched n e i = cc
never_ignored (WriteMultipleBlock c) true matched n e i = cc
never_ignored (WriteMultipleBlock c) false matched n e i = cc
never_ignored order app matched n e i = let f : None ≡ Some n = e in cc

legal_in_tran : (way : TakenAs) (t : Card) (n : ℕ) → (way ≡ Ignored → ⊥) → ((row : Row) → way ≡ By row → row_announces row ≡ Some n) →
    SettledLegal way t → Tran ≡ t.state
legal_in_tran Forbidden t n never announces l = absurd l
legal_in_tran Ignored t n never announces l = absurd (never refl)
legal_in_tran (By row) t n never announces l = source_is t.kind row t.state l.target n (announces row refl) l.has_row.one

calm_in_tran : (x : Transfer) → transfer_fits Tran x ≡ true → blocks_due x ≡ true → ⊥
calm_in_tran Nothing fits due = let e : false ≡ true = due in cc
calm_in_tran x fits due = let e : false ≡ true = fits in cc

-- where no row was taken, the count stays that of the host
stood_blocks : (o : Option ℕ) (t u : Card) (before : ℕ) → t.transfer ≡ u.transfer → t.announced ≡ u.announced →
    (blocks_due t.transfer ≡ true → before ≡ t.announced) → ((n : ℕ) → o ≡ Some n → Tran ≡ t.state) → transfer_fits t.state t.transfer ≡ true →
    blocks_due u.transfer ≡ true → announce o before ≡ u.announced
stood_blocks None t u before transfer count old tran fits due = old (ap blocks_due transfer ∙ due) ∙ count
stood_blocks (Some n) t u before transfer count old tran fits due =
    absurd (calm_in_tran t.transfer (subst (λ s. transfer_fits s t.transfer ≡ true) (sym (tran n refl)) fits) (ap blocks_due transfer ∙ due))

blocks_hold : (way : TakenAs) (order : Order) (argument : ℕ) (t u : Card) (before : ℕ) → ((row : Row) → way ≡ By row → Says order row) →
    ((n : ℕ) → order_announces order ≡ Some n → Tran ≡ t.state) → transfer_fits t.state t.transfer ≡ true →
    (blocks_due t.transfer ≡ true → before ≡ t.announced) → Became way argument t u → blocks_due u.transfer ≡ true →
    announce (order_announces order) before ≡ u.announced
blocks_hold way order argument t u before say tran fits old (inl e) due =
    stood_blocks (order_announces order) t u before (ap (λ v. v.transfer) e) (ap (λ v. v.announced) e) old tran fits due
blocks_hold way order argument t u before say tran fits old (inr (inl m)) due =
    subst (λ o. announce o before ≡ u.announced) (sym (same_announces (say m.row m.by)))
    (taken_blocks m.row argument t u before m.taken.transfer m.taken.blocks old due)
blocks_hold way order argument t u before say tran fits old (inr (inr m)) due =
    stood_blocks (order_announces order) t u before m.stayed.transfer m.stayed.blocks.count_is old tran fits due

-- THE REGISTER'S LENGTH

counted_calm : (b : Bool) (x y : Transfer) → register_due x ≡ false → register_due y ≡ false → register_due (if b then x else y) ≡ false
counted_calm true x y p q = p
counted_calm false x y p q = q

taken_register : (row : Row) (p : ℕ) (x y : Transfer) (before : ℕ) → transfer_after row p x ≡ y → (register_due x ≡ true → 0 < before) →
    register_due y ≡ true → 0 < row_register row before
taken_register Cmd8Emmc p x y before e old due = omega arith
taken_register Acmd13 p x y before e old due = omega arith
taken_register Acmd51 p x y before e old due = omega arith
taken_register Cmd13 p x y before e old due = omega arith
taken_register Cmd0 p x y before e old due = absurd (no_due register_due _ y refl e due)
taken_register Cmd12 p x y before e old due = absurd (no_due register_due _ y refl e due)
taken_register Cmd17 p x y before e old due = absurd (no_due register_due _ y refl e due)
taken_register (Cmd18 n) p x y before e old due = absurd (no_due register_due _ y (counted_calm (p == 0) OpenReadDue ReadDue refl refl) e due)
taken_register Cmd24 p x y before e old due = absurd (no_due register_due _ y refl e due)
taken_register (Cmd25 n) p x y before e old due = absurd (no_due register_due _ y (counted_calm (p == 0) OpenWriteDue WriteDue refl refl) e due)
taken_register row p x y before e old due = old (ap register_due e ∙ due)

longer : (order : Order) (before : ℕ) → 0 < before → 0 < register_length_by order before
longer SendScr before h = omega arith
longer SendStatus before h = omega arith
longer SendExtCsd before h = omega arith
longer order before h = h

register_holds : (way : TakenAs) (order : Order) (argument : ℕ) (t u : Card) (before : ℕ) → ((row : Row) → way ≡ By row → Says order row) →
    (register_due t.transfer ≡ true → 0 < before) → Became way argument t u → register_due u.transfer ≡ true → 0 < register_length_by order before
register_holds way order argument t u before say old (inl e) due = longer order before (old (ap (λ v. register_due v.transfer) e ∙ due))
register_holds way order argument t u before say old (inr (inl m)) due =
    subst (λ n. 0 < n) (sym (same_register (say m.row m.by) before))
    (taken_register m.row t.preset t.transfer u.transfer before m.taken.transfer old due)
register_holds way order argument t u before say old (inr (inr m)) due = longer order before (old (ap register_due m.stayed.transfer ∙ due))

-- AN EXCHANGE

some_same : {A : Type 0} → (x y : A) (o : Option A) → o ≡ Some x → o ≡ Some y → x ≡ y
some_same x y o e f = cc

exchange_sound : (order : Order) (argument : ℕ) (c t u : Card) (h : Host) (answer : Answer) → IsCard t → Sound t h → SameCard t u →
    SettledLegal (card_takes t order argument) t → SettledAnswer (card_takes t order argument) order argument t answer u →
    Sound u (host_after_order (Some order) answer h)
exchange_sound order argument c t u h answer card sound same legal a =
    let m : Bool = matches t.rca (argument / 65536) in
    let way : TakenAs = card_takes t order argument in
    let came : Became way argument t u = became way order argument t u answer a in
    record {
      csd = λ bytes e. csd_holds way order argument t u answer h.csd (says order t.app m) a sound.csd bytes e ∙ same.csd;
      ext_csd = λ bytes emmc e. same_sizes bytes t.ext_csd u.ext_csd (sound.ext_csd bytes (same.kind ∙ emmc) e) same.ext_csd;
      blocks = λ due.
          order_announced order h.announced
          ∙ blocks_hold way order argument t u h.announced (says order t.app m)
          (λ n e. legal_in_tran way t n (never_ignored order t.app m n e) (λ row by. sym (same_announces (says order t.app m row by)) ∙ e) legal)
          card.transfer sound.blocks came due;
      register = λ due. register_holds way order argument t u h.register_length (says order t.app m) sound.register came due;
    }

-- THE EXT_CSD

-- the bytes that a host holds after a phase tell the sizes of a register
abbrev Tells : Option (List ℕ) → List ℕ → Type 0
Tells held register = (bytes : List ℕ) → held ≡ Some bytes → SameSizes bytes register

told_now : (b register : List ℕ) → SameSizes b register → Tells (Some b) register
told_now b register s bytes f = let g : b ≡ bytes = cc in subst (λ v. SameSizes v register) g s

-- PHASES: no transfer is due after one

calm_sound : (c u : Card) (h h' : Host) → SameCard c u → blocks_due u.transfer ≡ false → register_due u.transfer ≡ false →
    Holds h'.csd c.csd → (c.kind ≡ Emmc → Tells h'.ext_csd c.ext_csd) → Sound u h'
calm_sound c u h h' same no_blocks no_register csd ext_csd = record {
  csd = λ bytes e. csd bytes e ∙ same.csd;
  ext_csd = λ bytes emmc e. same_sizes bytes c.ext_csd u.ext_csd (ext_csd (same.kind ∙ emmc) bytes e) same.ext_csd;
  blocks = λ due. absurd (no_due blocks_due u.transfer u.transfer no_blocks refl due);
  register = λ due. absurd (no_due register_due u.transfer u.transfer no_register refl due);
}

moved_blocks : (end : DataEnd) (c u : Card) → Moved end c u → blocks_due u.transfer ≡ false
moved_blocks end c u m = subst (λ v. blocks_due v.transfer ≡ false) m.card (calm_place c.transfer end m.place m.may).no_blocks

moved_register : (end : DataEnd) (c u : Card) → Moved end c u → register_due u.transfer ≡ false
moved_register end c u m = subst (λ v. register_due v.transfer ≡ false) m.card (calm_place c.transfer end m.place m.may).no_register

written_blocks : (end : DataEnd) (c u : Card) → MovedWriting end c u → blocks_due u.transfer ≡ false
written_blocks end c u m = subst (λ v. blocks_due v.transfer ≡ false) m.card (calm_place c.transfer end m.place m.may).no_blocks

written_register : (end : DataEnd) (c u : Card) → MovedWriting end c u → register_due u.transfer ≡ false
written_register end c u m = subst (λ v. register_due v.transfer ≡ false) m.card (calm_place c.transfer end m.place m.may).no_register

-- THE EXT_CSD: of an e.MMC device no other register can be due

only_ext_csd : (x : Transfer) (app : Bool) (preset : ℕ) → kind_fits Emmc x app preset ≡ true → register_due x ≡ true → ExtCsdDue ≡ x
only_ext_csd ScrDue app preset fits due = absurd (let e : false ≡ true = fits in cc)
only_ext_csd SdStatusDue app preset fits due = absurd (let e : false ≡ true = fits in cc)
only_ext_csd ExtCsdDue app preset fits due = refl
only_ext_csd x app preset fits due = absurd (let e : false ≡ true = due in cc)

-- registers that are the same from byte 184 on tell the same sizes
later : (n : ℕ) (a b : List ℕ) → drop 184 a ≡ drop 184 b → drop (184 + n) a ≡ drop (184 + n) b
later n a b e = sym (drop-drop n 184 a) ∙ (ap (λ v. drop n v) e ∙ drop-drop n 184 b)

tail_sizes : (held register : List ℕ) → drop 184 held ≡ drop 184 register → SameSizes held register
tail_sizes held register e = record {
  sectors = ap (λ v. number_of (bits_of (reverse (take 4 v)))) (later 28 held register e);
  boot = ap (λ v. number_of (bits_of (reverse (take 1 v)))) (later 42 held register e);
}

third : {a a' b b' c c' : List ℕ} → (a ∷ b ∷ c ∷ []) ≡ (a' ∷ b' ∷ c' ∷ []) → c ≡ c'
third e = cc

whole_register : (register bytes : List ℕ) → length register ≡ 512 → length bytes ≡ 512 →
    fixed ExtCsdDue (take (length register) bytes) ≡ fixed ExtCsdDue (take (length bytes) register) → SameSizes bytes register
whole_register register bytes long read e =
    tail_sizes bytes register
    (ap (λ v. drop 184 v) (sym (take_all (length register) bytes (omega (arith, long, read))))
    ∙ (third e ∙ ap (λ v. drop 184 v) (take_all (length bytes) register (omega (arith, long, read)))))

known_now : (b : Bool) (bytes register : List ℕ) (held : Option (List ℕ)) → (b ≡ true → SameSizes bytes register) → Tells held register →
    Tells (if b then Some bytes else held) register
known_now true bytes register held now old = told_now bytes register (now refl)
known_now false bytes register held now old = old

ext_csd_holds : (end : DataEnd) (count : ℕ) (bytes : List ℕ) (c : Card) (h : Host) → IsRegister 512 c.ext_csd → ExtCsdDue ≡ c.transfer →
    length bytes ≡ count → RegisterTrue end c.transfer (due_register c.transfer c) bytes → Tells h.ext_csd c.ext_csd →
    Tells (ext_csd_known count end bytes h.ext_csd) c.ext_csd
ext_csd_holds Cut count bytes c h register only size truth old = old
ext_csd_holds Ok count bytes c h register only size truth old =
    known_now (count == 512) bytes c.ext_csd h.ext_csd
    (λ e. whole_register c.ext_csd bytes register.size (size ∙ eqb-true count 512 e)
    (subst (λ x. RegisterTrue Ok x (due_register x c) bytes) (sym only) truth)) old

emmc_register : (c : Card) → IsCard c → c.kind ≡ Emmc → IsRegister 512 c.ext_csd
emmc_register c card emmc = subst (λ k. DataRegisters k c) emmc card.registers

pub steps_keep_sound : (k : Kind) → StepsKeepSound k
steps_keep_sound k (SendCommand ask position argument) c h (Answered answer) u pair made legal s sound =
    let t : Card = s.exchange.settled_card in
    let way : TakenAs = card_takes t s.order argument in
    let same_order : legal.order ≡ s.order = some_same legal.order s.order (order_of c.kind ask) legal.asks.line s.asks.line in
    let e : order_of k ask ≡ Some s.order = subst (λ v. order_of v ask ≡ Some s.order) (sym pair.kind) s.asks.line in
    subst (λ o. Sound u (host_after_order o answer h)) (sym e)
    (exchange_sound s.order argument c t u h answer (settled_is_card c t pair.card s.exchange.settled) (settled_sound c t h s.exchange.settled sound)
    (became_same way argument t u (became way s.order argument t u answer s.exchange.answered))
    (subst (λ o. SettledLegal (card_takes t o argument) t) same_order (legal.settled t s.exchange.settled)) s.exchange.answered)
steps_keep_sound k (ReceiveBlocks lines count) c h (BlocksIn end blocks) u pair made legal s sound =
    calm_sound c u h h (steps_keep_same k (ReceiveBlocks lines count) c (BlocksIn end blocks) u pair.kind s)
    (moved_blocks end c u s.moved) (moved_register end c u s.moved)
    sound.csd (λ emmc bytes e. sound.ext_csd bytes emmc e)
steps_keep_sound k (ReceiveRegister lines count) c h (RegisterIn end bytes) u pair made legal s sound =
    calm_sound c u h (record h { ext_csd = ext_csd_known count end bytes h.ext_csd })
    (steps_keep_same k (ReceiveRegister lines count) c (RegisterIn end bytes) u pair.kind s) (moved_blocks end c u s.moved) (moved_register end c u s.moved)
    sound.csd
    (λ emmc. ext_csd_holds end count bytes c h (emmc_register c pair.card emmc)
    (only_ext_csd c.transfer c.app c.preset (subst (λ v. kind_fits v c.transfer c.app c.preset ≡ true) emmc pair.card.kind_rules) s.due)
    s.size s.truth (λ b e. sound.ext_csd b emmc e))
steps_keep_sound k (GiveBlocks lines blocks) c h (BlocksOut end) u pair made legal s sound =
    calm_sound c u h h (steps_keep_same k (GiveBlocks lines blocks) c (BlocksOut end) u pair.kind s)
    (written_blocks end c u s.moved) (written_register end c u s.moved)
    sound.csd (λ emmc bytes e. sound.ext_csd bytes emmc e)
steps_keep_sound k AwaitReady c h (Waited end) u pair made legal s sound =
    subst (λ v. Sound v h) s.card (record { csd = sound.csd; ext_csd = sound.ext_csd; blocks = sound.blocks; register = sound.register })
steps_keep_sound k event c h returned u pair made legal s sound = absurd s
