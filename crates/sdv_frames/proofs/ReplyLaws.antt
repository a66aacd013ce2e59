-- The frames of responses, from their bytes.
use Rattle.std.proofs.Common.{◌≡◌, true, false, ℕ, zero, suc, ◌+◌, ◌-◌, ◌*◌, ◌^◌, ◌<◌, ◌≤◌, List, [], ◌∷◌, ◌++◌, length, take, drop, get_or, refl, sym, ◌∙◌, ap, arith, subst, Option, Some, length-take-le, length-drop}
use Rattle.std.specs.Prelude.{MatchOption}
use Rattle.std.proofs.lemmas.Grind.{get_or_after_one}
use Rattle.sdv_frames.specs.Bits.{Bits, bits, bits_of, number_of}
use Rattle.sdv_frames.specs.Polynomial.{IsCrc7}
use Rattle.sdv_frames.specs.Frame.{Spells, all_ones, AreBytes, IsReply, Answers, IsReplyFrame, reply_frame}
use Rattle.sdv_frames.specs.Fault.{HasNoFault, IsFirstFault, IsFirstFaultOf, short, layout_of}
use Rattle.sdv_frames.specs.declared.layout.Layout.{Layout}
use Rattle.sdv_frames.specs.declared.layout.Check.{Check}
use Rattle.sdv_frames.specs.declared.fault.FrameFault.{FrameFault}
use Rattle.sdv_frames.specs.declared.reply.Reply.{Reply}
use Rattle.sdv_frames.specs.declared.reply.Expect.{Expect}
use Rattle.sdv_frames.specs.declared.reply.Expect.TheVariants as expects
use Rattle.sdv_frames.specs.declared.layout.Check.TheVariants.{CrcOfAll, CrcOfContents, AllOnes}
use Rattle.sdv_frames.specs.declared.reply.Reply.TheVariants.{R1, R2, R3, R6, R7}
use Rattle.sdv_frames.proofs.BitLaws.{bits_of-append, bits_of-one, number_of_below, length-bits, length-bits_of}
use Rattle.sdv_frames.proofs.Spelled.{length_sure, spells_none, spells_same, same_number}
use Rattle.sdv_frames.proofs.FrameLaws.{spells_as, none_at, drop_byte}
use Rattle.sdv_frames.proofs.PartLaws.{front_bits}

-- a word before reserved bits
pub ones_frame : (ocr : ℕ) (spelling : Bits) → spelling ≡ (bits 8 63 ++ bits 32 ocr) ++ bits 8 255 → Spells (reply_frame (R3 ocr)) spelling
unfolding bits
ones_frame ocr spelling e = record { seven = all_ones; check = refl; spelled = e }

-- a register under its CRC7
pub register_frame : (register frame : List ℕ) (crc last : ℕ) → IsCrc7 (bits_of register) (bits 7 crc) → bits 8 last ≡ bits 7 crc ++ true ∷ []
    → frame ≡ 63 ∷ (register ++ last ∷ []) → IsReplyFrame (R2 register) frame
unfolding bits bits_of
register_frame register frame crc last is e f = record {
  seven = bits 7 crc;
  check = is;
  spelled = ap bits_of f ∙ ap (λ rest. bits 8 63 ++ rest) (bits_of-append register (last ∷ []) ∙ ap (λ rest. bits_of register ++ rest) (bits_of-one last ∙ e));
}

-- a response of 48 bits without a fault, by what was waited for
module _ (index : ℕ) (check : Check) (l : Layout) (received : Bits) (is : short index check ≡ Some l) (none : HasNoFault l received) where
  layout_is : record { length = 6; from_host = false; index = Some index; check = check } ≡ l
  layout_is = cc

  clean : HasNoFault (record { length = 6; from_host = false; index = Some index; check = check }) received
  clean = subst (λ k. HasNoFault k received) (sym layout_is) none

  found_index : number_of (take 6 (drop 2 received)) ≡ index
  found_index = length_sure (number_of (take 6 (drop 2 received))) index clean.1.1.1.0

  pub index_small : index < 2 ^ 6
  index_small =
      let whole : length received ≡ 48 = length_sure (length received) 48 clean.0 in
      let six : length (take 6 (drop 2 received)) ≡ 6 = length-take-le 6 (drop 2 received) (simp length-drop (omega arith)) in
      let below : number_of (take 6 (drop 2 received)) < 2 ^ length (take 6 (drop 2 received)) = number_of_below (take 6 (drop 2 received)) in
      subst (λ i. i < 2 ^ 6) found_index (subst (λ k. number_of (take 6 (drop 2 received)) < 2 ^ k) six below)

  pub word_spelled : (word : ℕ) → bits 32 word ≡ drop 8 (take 40 received)
      → Spells (record { from_host = false; index = index; contents = bits 32 word; check = check }) received
  word_spelled word e = spells_as (record { length = 6; from_host = false; index = Some index; check = check }) received index (bits 32 word)
      (omega arith) clean found_index (sym e)

-- the response is of the format that is waited for
no_answer : (r : Reply) → Answers expects.Nothing r → ⊥
no_answer (R1 index status) a = a
no_answer (R2 register) a = a
no_answer (R3 ocr) a = a
no_answer (R6 word) a = a
no_answer (R7 word) a = a

is_r1 : (wanted : ℕ) (r : Reply) → Answers (expects.R1 wanted) r → (status : ℕ) × (r ≡ R1 wanted status)
is_r1 wanted (R1 index status) a = (status, ap (λ i. R1 i status) a)
is_r1 wanted (R2 register) a = absurd a
is_r1 wanted (R3 ocr) a = absurd a
is_r1 wanted (R6 word) a = absurd a
is_r1 wanted (R7 word) a = absurd a

is_r2 : (r : Reply) → Answers expects.R2 r → (register : List ℕ) × (r ≡ R2 register)
is_r2 (R1 index status) a = absurd a
is_r2 (R2 register) a = (register, refl)
is_r2 (R3 ocr) a = absurd a
is_r2 (R6 word) a = absurd a
is_r2 (R7 word) a = absurd a

is_r3 : (r : Reply) → Answers expects.R3 r → (ocr : ℕ) × (r ≡ R3 ocr)
is_r3 (R1 index status) a = absurd a
is_r3 (R2 register) a = absurd a
is_r3 (R3 ocr) a = (ocr, refl)
is_r3 (R6 word) a = absurd a
is_r3 (R7 word) a = absurd a

is_r6 : (r : Reply) → Answers expects.R6 r → (word : ℕ) × (r ≡ R6 word)
is_r6 (R1 index status) a = absurd a
is_r6 (R2 register) a = absurd a
is_r6 (R3 ocr) a = absurd a
is_r6 (R6 word) a = (word, refl)
is_r6 (R7 word) a = absurd a

is_r7 : (r : Reply) → Answers expects.R7 r → (word : ℕ) × (r ≡ R7 word)
is_r7 (R1 index status) a = absurd a
is_r7 (R2 register) a = absurd a
is_r7 (R3 ocr) a = absurd a
is_r7 (R6 word) a = absurd a
is_r7 (R7 word) a = (word, refl)

-- the frame of a response has no fault, by what was waited for
abbrev Fits : Expect → Reply → Type 0
Fits expect r = (received : Bits) → IsReply r → Spells (reply_frame r) received → MatchOption (layout_of expect) ⊥ (λ l. HasNoFault l received)

short_fits : (index : ℕ) (check : Check) (contents received : Bits) → length contents ≡ 32 → index < 2 ^ 6
    → Spells (record { from_host = false; index = index; contents = contents; check = check }) received →
    HasNoFault (record { length = 6; from_host = false; index = Some index; check = check }) received
short_fits index check contents received long small s =
    spells_none (record { length = 6; from_host = false; index = Some index; check = check })
    (record { from_host = false; index = index; contents = contents; check = check }) received (omega arith) s refl refl long small (λ differ. differ refl)

long_fits : (register : List ℕ) (received : Bits) → length register ≡ 15 → Spells (reply_frame (R2 register)) received →
    HasNoFault (record { length = 17; from_host = false; index = Some 63; check = CrcOfContents }) received
long_fits register received fifteen s =
    spells_none (record { length = 17; from_host = false; index = Some 63; check = CrcOfContents }) (reply_frame (R2 register)) received
    (omega arith) s refl refl (length-bits_of register ∙ omega arith) (omega arith) (λ differ. differ refl)

fits_r1 : (index status : ℕ) → Fits (expects.R1 index) (R1 index status)
fits_r1 index status received h s = short_fits index CrcOfAll (bits 32 status) received (length-bits 32 status) h.0 s

fits_r2 : (register : List ℕ) → Fits expects.R2 (R2 register)
fits_r2 register received h s = long_fits register received h.0 s

fits_r3 : (ocr : ℕ) → Fits expects.R3 (R3 ocr)
fits_r3 ocr received h s = short_fits 63 AllOnes (bits 32 ocr) received (length-bits 32 ocr) (omega arith) s

fits_r6 : (word : ℕ) → Fits expects.R6 (R6 word)
fits_r6 word received h s = short_fits 3 CrcOfAll (bits 32 word) received (length-bits 32 word) (omega arith) s

fits_r7 : (word : ℕ) → Fits expects.R7 (R7 word)
fits_r7 word received h s = short_fits 8 CrcOfAll (bits 32 word) received (length-bits 32 word) (omega arith) s

reply_fits : (expect : Expect) (r : Reply) → Answers expect r → Fits expect r
reply_fits expects.Nothing r a = absurd (no_answer r a)
reply_fits (expects.R1 wanted) r a = let k = is_r1 wanted r a in subst (Fits (expects.R1 wanted)) (sym k.1) (fits_r1 wanted k.0)
reply_fits expects.R2 r a = let k = is_r2 r a in subst (Fits expects.R2) (sym k.1) (fits_r2 k.0)
reply_fits expects.R3 r a = let k = is_r3 r a in subst (Fits expects.R3) (sym k.1) (fits_r3 k.0)
reply_fits expects.R6 r a = let k = is_r6 r a in subst (Fits expects.R6) (sym k.1) (fits_r6 k.0)
reply_fits expects.R7 r a = let k = is_r7 r a in subst (Fits expects.R7) (sym k.1) (fits_r7 k.0)

-- a response's frame has no first fault
pub no_reply : (expect : Expect) (l : Layout) (r : Reply) (received : Bits) {fault : FrameFault} → layout_of expect ≡ Some l → IsFirstFault l received fault
    → IsReply r → Answers expect r → Spells (reply_frame r) received → ⊥
no_reply expect l r received {fault} e f h a s =
    none_at fault l received (subst (λ o. MatchOption o ⊥ (λ k. HasNoFault k received)) e (reply_fits expect r a received h s)) f.there

pub no_reply_of : (expect : Expect) (r : Reply) (received : Bits) (fault : FrameFault) → IsFirstFaultOf expect received fault → IsReply r → Answers expect r
    → Spells (reply_frame r) received → ⊥
no_reply_of expects.Nothing r received fault f h a s = no_answer r a
no_reply_of (expects.R1 index) r received fault f h a s = no_reply (expects.R1 index) _ r received refl f h a s
no_reply_of expects.R2 r received fault f h a s = no_reply expects.R2 _ r received refl f h a s
no_reply_of expects.R3 r received fault f h a s = no_reply expects.R3 _ r received refl f h a s
no_reply_of expects.R6 r received fault f h a s = no_reply expects.R6 _ r received refl f h a s
no_reply_of expects.R7 r received fault f h a s = no_reply expects.R7 _ r received refl f h a s

-- where the contents are the same, the responses are

same_word : (a b : ℕ) → a < 2 ^ 32 → b < 2 ^ 32 → bits 32 a ≡ bits 32 b → a ≡ b
same_word a b ha hb e = same_number 32 a b ha hb e

same_byte_lists : (xs ys : List ℕ) → length xs ≡ length ys → AreBytes xs → AreBytes ys → bits_of xs ≡ bits_of ys → xs ≡ ys
unfolding bits bits_of
same_byte_lists [] [] e hx hy b = refl
same_byte_lists [] (y ∷ ys) e hx hy b = absurd (omega arith)
same_byte_lists (x ∷ xs) [] e hx hy b = absurd (omega arith)
same_byte_lists (x ∷ xs) (y ∷ ys) e hx hy b =
    let first : bits 8 x ≡ bits 8 y = ap (take 8) b in
    let rest : bits_of xs ≡ bits_of ys = ap (drop 8) b in
    let one : x ≡ y = same_number 8 x y hx.0 hy.0 first in
    let others : xs ≡ ys = same_byte_lists xs ys (omega arith) hx.1 hy.1 rest in cc

contents_same : (r q : Reply) (n : ℕ) (received : Bits) → 2 ≤ n → Spells (reply_frame r) received → Spells (reply_frame q) received →
    length (reply_frame r).contents ≡ 8 * n - 16 → length (reply_frame q).contents ≡ 8 * n - 16 → (reply_frame r).contents ≡ (reply_frame q).contents
contents_same r q n received long s t hr hq = (spells_same n (reply_frame r) (reply_frame q) received long s t hr hq).1

abbrev pub One : Reply → Reply → Type 0
One r q = (received : Bits) → IsReply r → IsReply q → Spells (reply_frame r) received → Spells (reply_frame q) received → r ≡ q

one_r1 : (index a b : ℕ) → One (R1 index a) (R1 index b)
one_r1 index a b received hr hq s t = ap (R1 index) (same_word a b hr.1 hq.1
    (contents_same (R1 index a) (R1 index b) 6 received (omega arith) s t (length-bits 32 a) (length-bits 32 b)))

one_r2 : (a b : List ℕ) → One (R2 a) (R2 b)
one_r2 a b received hr hq s t =
    ap R2 (same_byte_lists a b (omega (arith, hr.0, hq.0)) hr.1 hq.1
    (contents_same (R2 a) (R2 b) 17 received (omega arith) s t (length-bits_of a ∙ omega (arith, hr.0)) (length-bits_of b ∙ omega (arith, hq.0))))

one_r3 : (a b : ℕ) → One (R3 a) (R3 b)
one_r3 a b received hr hq s t = ap R3 (same_word a b hr hq (contents_same (R3 a) (R3 b) 6 received (omega arith) s t (length-bits 32 a) (length-bits 32 b)))

one_r6 : (a b : ℕ) → One (R6 a) (R6 b)
one_r6 a b received hr hq s t = ap R6 (same_word a b hr hq (contents_same (R6 a) (R6 b) 6 received (omega arith) s t (length-bits 32 a) (length-bits 32 b)))

one_r7 : (a b : ℕ) → One (R7 a) (R7 b)
one_r7 a b received hr hq s t = ap R7 (same_word a b hr hq (contents_same (R7 a) (R7 b) 6 received (omega arith) s t (length-bits 32 a) (length-bits 32 b)))

both_are : (r q x y : Reply) → r ≡ x → q ≡ y → One x y → One r q
both_are r q x y e f h = subst (λ k. One k q) (sym e) (subst (One x) (sym f) h)

-- the bits of a frame are those of one response of the format that is waited for
pub one_reply : (expect : Expect) (r q : Reply) → Answers expect r → Answers expect q → One r q
one_reply expects.Nothing r q a b = absurd (no_answer r a)
one_reply (expects.R1 wanted) r q a b = let k = is_r1 wanted r a in let m = is_r1 wanted q b in
    both_are r q (R1 wanted k.0) (R1 wanted m.0) k.1 m.1 (one_r1 wanted k.0 m.0)
one_reply expects.R2 r q a b = let k = is_r2 r a in let m = is_r2 q b in both_are r q (R2 k.0) (R2 m.0) k.1 m.1 (one_r2 k.0 m.0)
one_reply expects.R3 r q a b = let k = is_r3 r a in let m = is_r3 q b in both_are r q (R3 k.0) (R3 m.0) k.1 m.1 (one_r3 k.0 m.0)
one_reply expects.R6 r q a b = let k = is_r6 r a in let m = is_r6 q b in both_are r q (R6 k.0) (R6 m.0) k.1 m.1 (one_r6 k.0 m.0)
one_reply expects.R7 r q a b = let k = is_r7 r a in let m = is_r7 q b in both_are r q (R7 k.0) (R7 m.0) k.1 m.1 (one_r7 k.0 m.0)

-- what the arms of the code found

short_found : (index : ℕ) (check : Check) (l : Layout) (xs : List ℕ) (word : ℕ) → short index check ≡ Some l → HasNoFault l (bits_of xs)
    → bits 32 word ≡ drop 8 (take 40 (bits_of xs)) →
    (index < 2 ^ 6) × Spells (record { from_host = false; index = index; contents = bits 32 word; check = check }) (bits_of xs)
short_found index check l xs word is none e = (index_small index check l (bits_of xs) is none, word_spelled index check l (bits_of xs) is none word e)

pub found_r1 : (index : ℕ) (l : Layout) (xs : List ℕ) (word : ℕ) → word < 2 ^ 32 → layout_of (expects.R1 index) ≡ Some l → HasNoFault l (bits_of xs)
    → bits 32 word ≡ drop 8 (take 40 (bits_of xs)) →
    IsReply (R1 index word) × Answers (expects.R1 index) (R1 index word) × IsReplyFrame (R1 index word) xs
found_r1 index l xs word small is none e = let f = short_found index CrcOfAll l xs word is none e in ((f.0, small), refl, f.1)

pub found_r3 : (l : Layout) (xs : List ℕ) (word : ℕ) → word < 2 ^ 32 → layout_of expects.R3 ≡ Some l → HasNoFault l (bits_of xs)
    → bits 32 word ≡ drop 8 (take 40 (bits_of xs)) →
    IsReply (R3 word) × Answers expects.R3 (R3 word) × IsReplyFrame (R3 word) xs
found_r3 l xs word small is none e = (small, tt, (short_found 63 AllOnes l xs word is none e).1)

pub found_r6 : (l : Layout) (xs : List ℕ) (word : ℕ) → word < 2 ^ 32 → layout_of expects.R6 ≡ Some l → HasNoFault l (bits_of xs)
    → bits 32 word ≡ drop 8 (take 40 (bits_of xs)) →
    IsReply (R6 word) × Answers expects.R6 (R6 word) × IsReplyFrame (R6 word) xs
found_r6 l xs word small is none e = (small, tt, (short_found 3 CrcOfAll l xs word is none e).1)

pub found_r7 : (l : Layout) (xs : List ℕ) (word : ℕ) → word < 2 ^ 32 → layout_of expects.R7 ≡ Some l → HasNoFault l (bits_of xs)
    → bits 32 word ≡ drop 8 (take 40 (bits_of xs)) →
    IsReply (R7 word) × Answers expects.R7 (R7 word) × IsReplyFrame (R7 word) xs
found_r7 l xs word small is none e = (small, tt, (short_found 8 CrcOfAll l xs word is none e).1)

pub found_r2 : (l : Layout) (xs register : List ℕ) → length register ≡ 15 → AreBytes register → layout_of expects.R2 ≡ Some l → HasNoFault l (bits_of xs)
    → bits_of register ≡ drop 8 (take 128 (bits_of xs)) →
    IsReply (R2 register) × Answers expects.R2 (R2 register) × IsReplyFrame (R2 register) xs
found_r2 l xs register long bytes is none e =
    let same : record { length = 17; from_host = false; index = Some 63; check = CrcOfContents } ≡ l = cc in
    let clean : HasNoFault (record { length = 17; from_host = false; index = Some 63; check = CrcOfContents }) (bits_of xs) =
    subst (λ k. HasNoFault k (bits_of xs)) (sym same) none in (
      (long, bytes),
      tt,
      spells_as (record { length = 17; from_host = false; index = Some 63; check = CrcOfContents }) (bits_of xs) 63 (bits_of register) (omega arith) clean
          (length_sure (number_of (take 6 (drop 2 (bits_of xs)))) 63 clean.1.1.1.0) (sym e),
    )

-- the length that a response without a fault has
pub six_long : (index : ℕ) (check : Check) (l : Layout) (xs : List ℕ) → short index check ≡ Some l → HasNoFault l (bits_of xs) → length xs ≡ 6
six_long index check l xs is none =
    let e : record { length = 6; from_host = false; index = Some index; check = check } ≡ l = cc in
    let whole : length (bits_of xs) ≡ 48 = length_sure (length (bits_of xs)) 48 (subst (λ k. HasNoFault k (bits_of xs)) (sym e) none).0 in
    omega (arith, length-bits_of xs)

pub seventeen_long : (l : Layout) (xs : List ℕ) → layout_of expects.R2 ≡ Some l → HasNoFault l (bits_of xs) → length xs ≡ 17
seventeen_long l xs is none =
    let e : record { length = 17; from_host = false; index = Some 63; check = CrcOfContents } ≡ l = cc in
    let whole : length (bits_of xs) ≡ 136 = length_sure (length (bits_of xs)) 136 (subst (λ k. HasNoFault k (bits_of xs)) (sym e) none).0 in
    omega (arith, length-bits_of xs)

-- the contents of a frame of 17 bytes
pub register_in : (xs : List ℕ) → length xs ≡ 17 → bits_of (take 15 (drop 1 xs)) ≡ drop 8 (take 128 (bits_of xs))
register_in [] h = absurd (omega arith)
register_in (x ∷ xs) h = sym (ap (drop 8) (front_bits (x ∷ xs) 16 h) ∙ drop_byte x (take 15 xs))

-- the layout of what was waited for
pub waited_for : (expect as_ : Expect) (o : Option Layout) (l : Layout) → o ≡ layout_of expect → o ≡ Some l → expect ≡ as_ → layout_of as_ ≡ Some l
waited_for expect as_ o l e f g = ap layout_of (sym g) ∙ (sym e ∙ f)

-- bytes, by their places
pub all_bytes : (xs : List ℕ) → ((i : ℕ) → get_or xs i 0 < 256) → AreBytes xs
all_bytes [] h = tt
all_bytes (x ∷ xs) h = (h 0, all_bytes xs (λ i. h (suc i)))

front_below : (n : ℕ) (xs : List ℕ) → ((i : ℕ) → get_or xs i 0 < 256) → (i : ℕ) → get_or (take n xs) i 0 < 256
front_below zero xs h i = omega arith
front_below (suc n) [] h i = omega arith
front_below (suc n) (x ∷ xs) h zero = h 0
front_below (suc n) (x ∷ xs) h (suc i) = front_below n xs (λ k. h (suc k)) i

bytes_from : (xs : List ℕ) → ((i : ℕ) → get_or xs i 0 < 256) → (i : ℕ) → get_or (take 15 (drop 1 xs)) i 0 < 256
bytes_from xs h i = front_below 15 (drop 1 xs) (λ k. subst (λ n. n < 256) (sym (get_or_after_one xs k 0)) (h (1 + k))) i

-- the register that bytes have
pub register_fits : (xs : List ℕ) → length xs ≡ 17 → ((i : ℕ) → get_or xs i 0 < 256) → (length (take 15 (drop 1 xs)) ≡ 15) × AreBytes (take 15 (drop 1 xs))
register_fits xs h bytes = (length-take-le 15 (drop 1 xs) (omega (arith, length-drop 1 xs)), all_bytes (take 15 (drop 1 xs)) (bytes_from xs bytes))

pub found_register : (l : Layout) (xs register : List ℕ) → ((i : ℕ) → get_or xs i 0 < 256) → register ≡ take 15 (drop 1 xs) → layout_of expects.R2 ≡ Some l
    → HasNoFault l (bits_of xs) →
    IsReply (R2 register) × Answers expects.R2 (R2 register) × IsReplyFrame (R2 register) xs
found_register l xs register bytes value is none =
    let long : length xs ≡ 17 = seventeen_long l xs is none in
    let fits = register_fits xs long bytes in
    found_r2 l xs register (ap length value ∙ fits.0) (subst AreBytes (sym value) fits.1) is none (ap bits_of value ∙ register_in xs long)
