-- Bits of whole bytes, cut into the parts of a frame.
use Rattle.std.proofs.Common.{◌≡◌, Bool, ℕ, suc, ◌+◌, ◌-◌, ◌*◌, ◌≤◌, [], ◌∷◌, ◌++◌, length, take, drop, refl, sym, ◌∙◌, ap, arith, append_assoc, length-append, length-take-le, length-drop, take-append-drop}
use Rattle.std.proofs.Math.Seq.{take-append_seam, drop-append_seam, drop-append-add}
use Rattle.sdv_frames.specs.Bits.{Bits}

-- start bit, transmission bit, index, contents, seven bits, end bit
pub record Parted (received : Bits) (start from_host : Bool) (index contents seven : Bits) (end : Bool) : Type 0 where
  pub all : received ≡ (start ∷ from_host ∷ (index ++ contents)) ++ (seven ++ end ∷ [])
  pub six : length index ≡ 6
  pub seven_long : length seven ≡ 7

-- a list of one element
one_long : (xs : Bits) → length xs ≡ 1 → (b : Bool) × (xs ≡ b ∷ [])
one_long [] h = absurd (omega arith)
one_long (b ∷ []) h = (b, refl)
one_long (b ∷ c ∷ xs) h = absurd (omega arith)

two_long : (xs : Bits) → 2 ≤ length xs → (a : Bool) × (b : Bool) × (rest : Bits) × (xs ≡ a ∷ b ∷ rest)
two_long [] h = absurd (omega arith)
two_long (a ∷ []) h = absurd (omega arith)
two_long (a ∷ b ∷ rest) h = (a, b, rest, refl)

module _ (received : Bits) (n : ℕ) (start from_host : Bool) (index contents seven : Bits) (end : Bool)
    (p : Parted received start from_host index contents seven end) (long : 2 ≤ n) (room : length contents ≡ 8 * n - 16) where
  front_long : length (start ∷ from_host ∷ (index ++ contents)) ≡ 8 * n - 8
  front_long = ap (λ k. suc (suc k)) (length-append index contents) ∙ omega (arith, p.six)

  pub whole : length received ≡ 8 * n
  whole = ap length p.all ∙ (length-append (start ∷ from_host ∷ (index ++ contents)) (seven ++ end ∷ [])
      ∙ omega (arith, front_long, length-append seven (end ∷ []), p.seven_long))

  pub start_is : take 1 received ≡ start ∷ []
  start_is = ap (take 1) p.all

  pub from_host_is : take 1 (drop 1 received) ≡ from_host ∷ []
  from_host_is = ap (λ all. take 1 (drop 1 all)) p.all

  pub index_is : take 6 (drop 2 received) ≡ index
  index_is =
      ap (λ all. take 6 (drop 2 all)) p.all ∙ (ap (take 6) (append_assoc index contents (seven ++ end ∷ []))
      ∙ (ap (λ k. take k (index ++ (contents ++ (seven ++ end ∷ [])))) (sym p.six) ∙ take-append_seam index (contents ++ (seven ++ end ∷ []))))

  pub front_is : take (8 * n - 8) received ≡ start ∷ from_host ∷ (index ++ contents)
  front_is =
      ap (take (8 * n - 8)) p.all ∙ (ap (λ k. take k ((start ∷ from_host ∷ (index ++ contents)) ++ (seven ++ end ∷ []))) (sym front_long)
      ∙ take-append_seam (start ∷ from_host ∷ (index ++ contents)) (seven ++ end ∷ []))

  pub contents_are : drop 8 (take (8 * n - 8) received) ≡ contents
  contents_are =
      ap (drop 8) front_is ∙ (ap (λ k. drop k (index ++ contents)) (sym p.six) ∙ drop-append_seam index contents)

  back_is : drop (8 * n - 8) received ≡ seven ++ end ∷ []
  back_is =
      ap (drop (8 * n - 8)) p.all ∙ (ap (λ k. drop k ((start ∷ from_host ∷ (index ++ contents)) ++ (seven ++ end ∷ []))) (sym front_long)
      ∙ drop-append_seam (start ∷ from_host ∷ (index ++ contents)) (seven ++ end ∷ []))

  pub seven_is : take 7 (drop (8 * n - 8) received) ≡ seven
  seven_is = ap (take 7) back_is ∙ (ap (λ k. take k (seven ++ end ∷ [])) (sym p.seven_long) ∙ take-append_seam seven (end ∷ []))

  pub end_is : drop (8 * n - 1) received ≡ end ∷ []
  end_is =
      let place : 8 * n - 1 ≡ length (start ∷ from_host ∷ (index ++ contents)) + 7 = omega (arith, front_long) in
      ap (λ k. drop k received) place ∙ (ap (drop (length (start ∷ from_host ∷ (index ++ contents)) + 7)) p.all
      ∙ (drop-append-add (start ∷ from_host ∷ (index ++ contents)) (seven ++ end ∷ []) 7
      ∙ (ap (λ k. drop k (seven ++ end ∷ [])) (sym p.seven_long) ∙ drop-append_seam seven (end ∷ []))))

-- bits of n bytes have such parts
pub record Cut (received : Bits) (n : ℕ) : Type 0 where
  pub start : Bool
  pub from_host : Bool
  pub index : Bits
  pub contents : Bits
  pub seven : Bits
  pub end : Bool
  pub parts : Parted received start from_host index contents seven end
  pub room : length contents ≡ 8 * n - 16

length_rest : (front rest : Bits) (a b : Bool) (n : ℕ) → 2 ≤ n → front ≡ a ∷ b ∷ rest → length front ≡ 8 * n - 8 → length rest ≡ 8 * n - 10
length_rest front rest a b n long e h = omega (arith, ap length e)

-- the last of eight bits
last_of : (back : Bits) → length back ≡ 8 → (b : Bool) × (drop 7 back ≡ b ∷ [])
last_of back h = one_long (drop 7 back) (length-drop 7 back ∙ omega arith)

-- the front and the back of bits, cut at their second bit, their eighth and before their last
joined : (received front back rest index contents seven : Bits) (start from_host end : Bool) → received ≡ front ++ back → front ≡ start ∷ from_host ∷ rest
    → rest ≡ index ++ contents → back ≡ seven ++ end ∷ [] →
    received ≡ (start ∷ from_host ∷ (index ++ contents)) ++ (seven ++ end ∷ [])
joined received front back rest index contents seven start from_host end e f g h =
    e ∙ (ap (λ xs. xs ++ back) (f ∙ ap (λ xs. start ∷ from_host ∷ xs) g) ∙ ap (λ xs. (start ∷ from_host ∷ (index ++ contents)) ++ xs) h)

with_last : (back : Bits) (b : Bool) → drop 7 back ≡ b ∷ [] → back ≡ take 7 back ++ b ∷ []
with_last back b e = sym (take-append-drop 7 back) ∙ ap (λ xs. take 7 back ++ xs) e

pub cut_of : (received : Bits) (n : ℕ) → 2 ≤ n → length received ≡ 8 * n → Cut received n
cut_of received n long whole =
    let front : Bits = take (8 * n - 8) received in
    let back : Bits = drop (8 * n - 8) received in
    let front_long : length front ≡ 8 * n - 8 = length-take-le (8 * n - 8) received (omega arith) in
    let back_long : length back ≡ 8 = length-drop (8 * n - 8) received ∙ omega arith in
    let firsts = two_long front (omega arith) in
    let last = last_of back back_long in
    let rest_long : length firsts.2 ≡ 8 * n - 10 = length_rest front firsts.2 firsts.0 firsts.1 n long firsts.3 front_long in
    record {
      start = firsts.0;
      from_host = firsts.1;
      index = take 6 firsts.2;
      contents = drop 6 firsts.2;
      seven = take 7 back;
      end = last.0;
      parts = record {
        all = joined received front back firsts.2 (take 6 firsts.2) (drop 6 firsts.2) (take 7 back) firsts.0 firsts.1 last.0
            (sym (take-append-drop (8 * n - 8) received)) firsts.3 (sym (take-append-drop 6 firsts.2)) (with_last back last.0 last.1);
        six = length-take-le 6 firsts.2 (omega arith);
        seven_long = length-take-le 7 back (omega arith);
      };
      room = length-drop 6 firsts.2 ∙ omega arith;
    }
