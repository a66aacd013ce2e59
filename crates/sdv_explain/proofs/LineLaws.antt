-- Lines and characters, step by step.
use Rattle.std.proofs.Common.{◌≡◌, ℕ, zero, suc, ◌+◌, ◌-◌, ◌<◌, ◌≤◌, true, false, List, [], ◌∷◌, ◌++◌, length, drop, take, get_or, refl, sym, ap, subst, ◌∙◌, arith, add-one, zero-add, suc-add, drop-cons, append_assoc, ◌==◌}
use Rattle.std.proofs.lemmas.Bool.Decides.{nat_tests}
use Rattle.std.proofs.Math.Seq.{take-suc}
use Rattle.sdv_explain.specs.Lines.{behind_line, first_chars, from_line, is_further, safe_behind, safe_byte}

-- behind an empty rest every rest is empty
none_behind : (d n : ℕ) (text : List ℕ) → from_line n text ≡ [] → from_line (d + n) text ≡ []
unfolding from_line
none_behind zero n text e = rw zero-add e
none_behind (suc d) n text e = rw (suc-add d n, none_behind d n text e) refl

pub none_later : (m n : ℕ) (text : List ℕ) → n ≤ m → from_line n text ≡ [] → from_line m text ≡ []
none_later m n text le e =
    let s : (m - n) + n ≡ m = omega arith in
    subst (λ (k : ℕ). from_line k text ≡ []) s (none_behind (m - n) n text e)

pub line_passed : (n : ℕ) (text : List ℕ) → from_line (n + 1) text ≡ behind_line (from_line n text)
unfolding from_line
line_passed n text = rw add-one refl

pub line_none : (text : List ℕ) → from_line 0 text ≡ text
unfolding from_line
line_none text = refl

pub nil_when : (xs : List ℕ) → (length xs == 0) ≡ true → xs ≡ []
nil_when [] e = refl
nil_when (x ∷ xs) e = absurd (grind (arith, nat_tests))

pub safe_nil : (p q : ℕ) → safe_behind p q [] ≡ []
unfolding safe_behind
safe_nil p q = refl

safe_cons : (p q b : ℕ) (bs : List ℕ) → safe_behind p q (b ∷ bs) ≡ safe_byte p q b ∷ safe_behind q b bs
unfolding safe_behind
safe_cons p q b bs = refl

-- one byte more is shown
pub safe_step : (i p q : ℕ) (text : List ℕ) → i < length text
    → safe_behind p q (drop i text) ≡ safe_byte p q (get_or text i 0) ∷ safe_behind q (get_or text i 0) (drop (i + 1) text)
safe_step i p q text lt =
    ap (safe_behind p q) (drop-cons text i 0 lt) ∙ (safe_cons p q (get_or text i 0) (drop (suc i) text)
    ∙ ap (λ (k : ℕ). safe_byte p q (get_or text i 0) ∷ safe_behind q (get_or text i 0) (drop k text)) (sym (add-one i)))

-- what is written, with one byte more
pub safe_added : (i p q : ℕ) (text was now whole : List ℕ) → i < length text
    → was ++ safe_behind p q (drop i text) ≡ whole → now ≡ was ++ (safe_byte p q (get_or text i 0) ∷ [])
    → now ++ safe_behind q (get_or text i 0) (drop (i + 1) text) ≡ whole
safe_added i p q text was now whole lt e n =
    ap (λ (xs : List ℕ). xs ++ safe_behind q (get_or text i 0) (drop (i + 1) text)) n
    ∙ (append_assoc was (safe_byte p q (get_or text i 0) ∷ []) (safe_behind q (get_or text i 0) (drop (i + 1) text))
    ∙ (ap (λ (xs : List ℕ). was ++ xs) (sym (safe_step i p q text lt)) ∙ e))

pub chars_nil : (n : ℕ) → first_chars n [] ≡ []
unfolding first_chars
chars_nil n = refl

chars_further : (n b : ℕ) (bs : List ℕ) → is_further b ≡ true → first_chars n (b ∷ bs) ≡ b ∷ first_chars n bs
unfolding first_chars
chars_further zero b bs e = rw e refl
chars_further (suc n) b bs e = rw e refl

chars_lead : (n b : ℕ) (bs : List ℕ) → is_further b ≡ false → 0 < n → first_chars n (b ∷ bs) ≡ b ∷ first_chars (n - 1) bs
unfolding first_chars
chars_lead zero b bs e lt = absurd (omega arith)
chars_lead (suc n) b bs e lt = let same : suc n - 1 ≡ n = omega arith in rw (e, same) refl

chars_full : (b : ℕ) (bs : List ℕ) → is_further b ≡ false → first_chars 0 (b ∷ bs) ≡ []
unfolding first_chars
chars_full b bs e = rw e refl

-- no character more is taken
pub chars_end : (i : ℕ) (text : List ℕ) → i < length text → is_further (get_or text i 0) ≡ false → first_chars 0 (drop i text) ≡ []
chars_end i text lt e = ap (first_chars 0) (drop-cons text i 0 lt) ∙ chars_full (get_or text i 0) (drop (suc i) text) e

moved : (i m : ℕ) (text : List ℕ) → i < length text
    → take i text ++ (get_or text i 0 ∷ first_chars m (drop (suc i) text)) ≡ take (i + 1) text ++ first_chars m (drop (i + 1) text)
moved i m text lt =
    sym (append_assoc (take i text) (get_or text i 0 ∷ []) (first_chars m (drop (suc i) text)))
    ∙ (ap (λ (xs : List ℕ). xs ++ first_chars m (drop (suc i) text)) (sym (take-suc text i 0 lt))
    ∙ ap (λ (k : ℕ). take k text ++ first_chars m (drop k text)) (sym (add-one i)))

-- one byte more is passed, which begins no character
pub further_passed : (i n : ℕ) (text : List ℕ) → i < length text → is_further (get_or text i 0) ≡ true
    → take i text ++ first_chars n (drop i text) ≡ take (i + 1) text ++ first_chars n (drop (i + 1) text)
further_passed i n text lt e =
    ap (λ (xs : List ℕ). take i text ++ xs) (ap (first_chars n) (drop-cons text i 0 lt)
    ∙ chars_further n (get_or text i 0) (drop (suc i) text) e) ∙ moved i n text lt

-- and one that begins a character
pub lead_passed : (i n : ℕ) (text : List ℕ) → i < length text → is_further (get_or text i 0) ≡ false → 0 < n
    → take i text ++ first_chars n (drop i text) ≡ take (i + 1) text ++ first_chars (n - 1) (drop (i + 1) text)
lead_passed i n text lt e some =
    ap (λ (xs : List ℕ). take i text ++ xs) (ap (first_chars n) (drop-cons text i 0 lt)
    ∙ chars_lead n (get_or text i 0) (drop (suc i) text) e some) ∙ moved i (n - 1) text lt
