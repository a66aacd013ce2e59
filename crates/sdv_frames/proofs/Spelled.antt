-- Bits without a fault spell a frame, and the bits of a frame have no fault.
use Rattle.std.proofs.Common.{◌≡◌, ◌≢◌, Bool, true, false, ℕ, ◌-◌, ◌*◌, ◌^◌, ◌<◌, ◌≤◌, [], ◌∷◌, ◌++◌, length, take, drop, refl, sym, ◌∙◌, ap, arith, subst, inl, inr, ◌⊎◌, Option, append-nil, append_assoc}
use Rattle.std.specs.Prelude.{not}
use Rattle.std.proofs.lemmas.Bool.{cases_eq}
use Rattle.std.proofs.Math.Nat.{mod-eq_of_lt}
use Rattle.sdv_frames.specs.Bits.{Bits, bits, number_of}
use Rattle.sdv_frames.specs.Polynomial.{IsCrc7, zeros, EachHasCrc7}
use Rattle.sdv_frames.specs.Frame.{Frame, Spells, head, CheckIs, all_ones, SpellingIsOne}
use Rattle.sdv_frames.specs.Fault.{HasNoFault, front, seven_of, CrcDiffers, ReservedDiffer, IndexDiffers}
use Rattle.sdv_frames.specs.declared.layout.Layout.{Layout}
use Rattle.sdv_frames.specs.declared.layout.Check.{Check}
use Rattle.sdv_frames.specs.declared.layout.Check.TheVariants.{CrcOfAll, CrcOfContents, AllOnes}
use Rattle.sdv_frames.proofs.BitLaws.{bits-number_of, number_of-bits, length-bits}
use Rattle.sdv_frames.proofs.CrcLaws.{one_crc7, crc7-append, crc7-nothing, step}
use Rattle.sdv_frames.proofs.Parted.{Parted, Cut, cut_of, start_is, from_host_is, index_is, front_is, contents_are, seven_is, end_is, whole}

-- a message has a CRC7
pub record Has7 (message : Bits) : Type 0 where
  pub crc : Bits
  pub is : IsCrc7 message crc

first_of : (crc : Bits) → length crc ≡ 7 → (s : Bool) × (rest : Bits) × (crc ≡ s ∷ rest)
first_of [] h = absurd (omega arith)
first_of (s ∷ rest) h = (s, rest, refl)

with_bit : (message : Bits) (b : Bool) → Has7 message → Has7 (message ++ b ∷ [])
with_bit message b h =
    let parts = first_of h.crc h.is.below in
    record { crc = step parts.0 parts.1 b; is = crc7-append message parts.0 parts.1 b (subst (IsCrc7 message) parts.2 h.is) }

with_bits : (message rest : Bits) → Has7 message → Has7 (message ++ rest)
with_bits message [] h = rw (append-nil message) h
with_bits message (b ∷ rest) h = rw (← append_assoc message (b ∷ []) rest) (with_bits (message ++ b ∷ []) rest (with_bit message b h))

pub crc7_of : (message : Bits) → Has7 message
crc7_of message = with_bits [] message (record { crc = zeros 7; is = crc7-nothing })

behind : (b : Bool) (p q : Bits) → (p ≡ q) ⊎ (p ≢ q) → (b ∷ p ≡ b ∷ q) ⊎ (b ∷ p ≢ b ∷ q)
behind b p q (inl e) = inl (ap (λ rest. b ∷ rest) e)
behind b p q (inr n) = inr (λ e. let rest : p ≡ q = cc in n rest)

-- two lists of bits are the same or not
pub same_or_not : (p q : Bits) → (p ≡ q) ⊎ (p ≢ q)
same_or_not [] [] = inl refl
same_or_not [] (b ∷ q) = inr (λ e. cc)
same_or_not (a ∷ p) [] = inr (λ e. cc)
same_or_not (true ∷ p) (false ∷ q) = inr (λ e. cc)
same_or_not (false ∷ p) (true ∷ q) = inr (λ e. cc)
same_or_not (true ∷ p) (true ∷ q) = behind true p q (same_or_not p q)
same_or_not (false ∷ p) (false ∷ q) = behind false p q (same_or_not p q)

-- what is not another CRC7 is the CRC7
pub crc_sure : (message seven : Bits) → ¬ (¬ IsCrc7 message seven) → IsCrc7 message seven
crc_sure message seven h =
    let right = crc7_of message in
    elim (same_or_not right.crc seven) [
      | inl e ↦ subst (IsCrc7 message) e right.is
      | inr n ↦ absurd (h (λ other. n (one_crc7 message right.crc seven right.is other)))
    ]

pub ones_sure : (seven : Bits) → ¬ (seven ≢ all_ones) → seven ≡ all_ones
ones_sure seven h = elim (same_or_not seven all_ones) [ inl e ↦ e | inr n ↦ absurd (h n) ]

-- the seven bits are the check
check_sure : (check : Check) (before contents seven : Bits) → drop 8 before ≡ contents → ¬ CrcDiffers check before seven → ¬ ReservedDiffer check seven
    → CheckIs check before contents seven
check_sure CrcOfAll before contents seven e c r = crc_sure before seven c
check_sure CrcOfContents before contents seven e c r = crc_sure contents seven (subst (λ message. ¬ (¬ IsCrc7 message seven)) e c)
check_sure AllOnes before contents seven e c r = ones_sure seven r

check_fits : (check : Check) (before contents seven : Bits) → drop 8 before ≡ contents → CheckIs check before contents seven
    → (¬ CrcDiffers check before seven) × (¬ ReservedDiffer check seven)
check_fits CrcOfAll before contents seven e c = (λ h. h c, λ h. h)
check_fits CrcOfContents before contents seven e c = (λ h. h (subst (λ message. IsCrc7 message seven) (sym e) c), λ h. h)
check_fits AllOnes before contents seven e c = (λ h. h, λ h. h c)

seven_long : (check : Check) (before contents seven : Bits) → CheckIs check before contents seven → length seven ≡ 7
seven_long CrcOfAll before contents seven c = c.below
seven_long CrcOfContents before contents seven c = c.below
seven_long AllOnes before contents seven c = ap length c

is_true : (b : Bool) → ¬ (b ≡ false) → b ≡ true
is_true true h = refl
is_true false h = absurd (h refl)

is_false : (b : Bool) → ¬ (b ≡ true) → b ≡ false
is_false true h = absurd (h refl)
is_false false h = refl

is_other : (a b : Bool) → ¬ (a ≡ not b) → a ≡ b
is_other true true h = refl
is_other true false h = absurd (h refl)
is_other false true h = absurd (h refl)
is_other false false h = refl

pub length_sure : (a b : ℕ) → ¬ (a ≢ b) → a ≡ b
length_sure a b h = elim (cases_eq a b) [ inl e ↦ e | inr n ↦ absurd (h n) ]

-- what bits without a fault say
abbrev pub frame_in : Layout → Bits → Frame
frame_in l received = record { from_host = l.from_host; index = number_of (take 6 (drop 2 received)); contents = drop 8 (front l received); check = l.check }

module _ (l : Layout) (received : Bits) (start from_host : Bool) (index contents seven : Bits) (end : Bool)
    (p : Parted received start from_host index contents seven end) (long : 2 ≤ l.length) (room : length contents ≡ 8 * l.length - 16) where
  contents_in : drop 8 (front l received) ≡ contents
  contents_in = contents_are received l.length start from_host index contents seven end p long room

  front_in : front l received ≡ start ∷ from_host ∷ (index ++ contents)
  front_in = front_is received l.length start from_host index contents seven end p long room

  seven_in : seven_of l received ≡ seven
  seven_in = seven_is received l.length start from_host index contents seven end p long room

  index_in : bits 6 (number_of (take 6 (drop 2 received))) ≡ index
  index_in = ap (λ i. bits 6 (number_of i)) (index_is received l.length start from_host index contents seven end p long room)
      ∙ (ap (λ k. bits k (number_of index)) (sym p.six) ∙ bits-number_of index)

  parts_spell : HasNoFault l received → Spells (frame_in l received) received
  parts_spell none =
      let starts : start ≡ false = is_false start (λ h. none.1.0
      (start_is received l.length start from_host index contents seven end p long room ∙ ap (λ b. b ∷ []) h)) in
      let goes : from_host ≡ l.from_host = is_other from_host l.from_host
      (λ h. none.1.1.0 (from_host_is received l.length start from_host index contents seven end p long room ∙ ap (λ b. b ∷ []) h)) in
      let ends : end ≡ true = is_true end (λ h. none.1.1.1.1.1.0
      (end_is received l.length start from_host index contents seven end p long room ∙ ap (λ b. b ∷ []) h)) in
      let same : front l received ≡ head (frame_in l received) =
      front_in ∙ (ap (λ b. b ∷ from_host ∷ (index ++ contents)) starts ∙ (ap (λ b. false ∷ b ∷ (index ++ contents)) goes
      ∙ (ap (λ i. false ∷ l.from_host ∷ (i ++ contents)) (sym index_in)
      ∙ ap (λ c. false ∷ l.from_host ∷ (bits 6 (number_of (take 6 (drop 2 received))) ++ c)) (sym contents_in)))) in
      record {
        seven = seven_of l received;
        check = subst (λ before. CheckIs l.check before (drop 8 (front l received)) (seven_of l received)) same
            (check_sure l.check (front l received) (drop 8 (front l received)) (seven_of l received) refl none.1.1.1.1.0 none.1.1.1.1.1.1.0);
        spelled = p.all ∙ (ap (λ xs. xs ++ (seven ++ end ∷ [])) (sym front_in ∙ same)
            ∙ (ap (λ xs. head (frame_in l received) ++ (xs ++ end ∷ [])) (sym seven_in)
            ∙ ap (λ b. head (frame_in l received) ++ (seven_of l received ++ b ∷ [])) ends));
      }

-- bits without a fault spell what they say
pub none_spells : (l : Layout) (received : Bits) → 2 ≤ l.length → HasNoFault l received → Spells (frame_in l received) received
none_spells l received long none =
    let whole : length received ≡ 8 * l.length = length_sure (length received) (8 * l.length) none.0 in
    let c : Cut received l.length = cut_of received l.length long whole in
    parts_spell l received c.start c.from_host c.index c.contents c.seven c.end c.parts long c.room none

-- the parts of a frame
pub frame_parts : (f : Frame) (received : Bits) (s : Spells f received) → Parted received false f.from_host (bits 6 f.index) f.contents s.seven true
frame_parts f received s = record {
  all = s.spelled;
  six = length-bits 6 f.index;
  seven_long = seven_long f.check (head f) f.contents s.seven s.check;
}

no_differ : (wanted : Option ℕ) (a b : ℕ) → a ≡ b → ¬ IndexDiffers wanted b → ¬ IndexDiffers wanted a
no_differ wanted a b e h = subst (λ i. ¬ IndexDiffers wanted i) (sym e) h

not_other : (b : Bool) → ¬ (b ≡ not b)
not_other true e = cc
not_other false e = cc

other_start : (a b : Bool) {xs : Bits} → xs ≡ a ∷ [] → xs ≡ b ∷ [] → a ≡ b
other_start a b e f = cc

-- the bits of a frame have no fault
pub spells_none : (l : Layout) (f : Frame) (received : Bits) → 2 ≤ l.length → Spells f received → f.from_host ≡ l.from_host → f.check ≡ l.check →
    length f.contents ≡ 8 * l.length - 16 → f.index < 2 ^ 6 → ¬ IndexDiffers l.index f.index → HasNoFault l received
spells_none l f received long s from check room small index =
    let p = frame_parts f received s in
    let n = l.length in
    let found : number_of (take 6 (drop 2 received)) ≡ f.index =
    ap number_of (index_is received n false f.from_host (bits 6 f.index) f.contents s.seven true p long room)
    ∙ (number_of-bits 6 f.index ∙ mod-eq_of_lt small) in
    let before : front l received ≡ head f = front_is received n false f.from_host (bits 6 f.index) f.contents s.seven true p long room in
    let inside : drop 8 (front l received) ≡ f.contents = contents_are received n false f.from_host (bits 6 f.index) f.contents s.seven true p long room in
    let seven : seven_of l received ≡ s.seven = seven_is received n false f.from_host (bits 6 f.index) f.contents s.seven true p long room in
    let checks : (¬ CrcDiffers l.check (front l received) (seven_of l received)) × (¬ ReservedDiffer l.check (seven_of l received)) =
    rw (before, seven, ← check) (check_fits f.check (head f) f.contents s.seven (ap (drop 8) (sym before) ∙ inside) s.check) in (
      (λ h. h (whole received n false f.from_host (bits 6 f.index) f.contents s.seven true p long room)),
      (
        (λ h. let e : false ≡ true = other_start false true (start_is received n false f.from_host (bits 6 f.index) f.contents s.seven true p long room) h in
            cc),
        (
          (λ h. not_other l.from_host (sym from ∙ other_start f.from_host (not l.from_host)
              (from_host_is received n false f.from_host (bits 6 f.index) f.contents s.seven true p long room) h)),
          (
            no_differ l.index (number_of (take 6 (drop 2 received))) f.index found index,
            (
              checks.0,
              (
                (λ h. let e : true ≡ false = other_start true false
                    (end_is received n false f.from_host (bits 6 f.index) f.contents s.seven true p long room) h in cc),
                (
                  checks.1,
                  tt,
                ),
              ),
            ),
          ),
        ),
      ),
    )

-- two frames with the same bits say the same
pub spells_same : (n : ℕ) (f g : Frame) (received : Bits) → 2 ≤ n → Spells f received → Spells g received → length f.contents ≡ 8 * n - 16
    → length g.contents ≡ 8 * n - 16 →
    (bits 6 f.index ≡ bits 6 g.index) × (f.contents ≡ g.contents)
spells_same n f g received long s t fs gs = (
  sym (index_is received n false f.from_host (bits 6 f.index) f.contents s.seven true (frame_parts f received s) long fs)
      ∙ index_is received n false g.from_host (bits 6 g.index) g.contents t.seven true (frame_parts g received t) long gs,
  sym (contents_are received n false f.from_host (bits 6 f.index) f.contents s.seven true (frame_parts f received s) long fs)
      ∙ contents_are received n false g.from_host (bits 6 g.index) g.contents t.seven true (frame_parts g received t) long gs,
)

-- numbers with the same lowest bits are the same
pub same_number : (k a b : ℕ) → a < 2 ^ k → b < 2 ^ k → bits k a ≡ bits k b → a ≡ b
same_number k a b ha hb e = sym (mod-eq_of_lt ha) ∙ (sym (number_of-bits k a) ∙ (ap number_of e ∙ (number_of-bits k b ∙ mod-eq_of_lt hb)))

-- a frame has one check
one_check : (check : Check) (before contents a b : Bits) → CheckIs check before contents a → CheckIs check before contents b → a ≡ b
one_check CrcOfAll before contents a b s t = one_crc7 before a b s t
one_check CrcOfContents before contents a b s t = one_crc7 contents a b s t
one_check AllOnes before contents a b s t = s ∙ sym t

pub one_spelling : SpellingIsOne
one_spelling f first second s t =
    s.spelled ∙ (ap (λ seven. head f ++ (seven ++ true ∷ [])) (one_check f.check (head f) f.contents s.seven t.seven s.check t.check) ∙ sym t.spelled)

pub each_crc7 : EachHasCrc7
each_crc7 message = let h = crc7_of message in (h.crc, h.is)
