-- What a text begins with, and what follows: the parts of a text that is read from left to right.
use Rattle.std.specs.Prelude.{ℕ, ◌+◌, ◌-◌, ◌*◌, List, [], ◌∷◌, length, Bool, true, false, ◌&&◌, ◌==◌, nat_le, take_while, Option, Some, None, if◌then◌else◌}

-- STEPS

-- one step of reading behind another
infixl 10 ◌>>=◌
abbrev pub ◌>>=◌ : {A B : Type 0} → Option A → (A → Option B) → Option B
None >>= f = None
(Some x) >>= f = f x

-- what was read, and what follows it
abbrev pub Read : Type 0 → Type 0
Read A = Option (A × List ℕ)

-- WORDS

-- what follows a word
abbrev pub after : List ℕ → List ℕ → Option (List ℕ)
after [] bs = Some bs
after (w ∷ ws) [] = None
after (w ∷ ws) (b ∷ bs) = if b == w then after ws bs else None

-- nothing follows
abbrev pub is_end : List ℕ → Bool
is_end [] = true
is_end (b ∷ bs) = false

abbrev pub ends : Option (List ℕ) → Bool
ends None = false
ends (Some rest) = is_end rest

-- the text is this word
abbrev pub is_word : (word text : List ℕ) → Bool
is_word word text = ends (after word text)

-- DIGITS

abbrev pub is_digit : ℕ → Bool
is_digit b = nat_le 48 b && nat_le b 57

-- how many bytes at the front pass a test
abbrev pub run : (ℕ → Bool) → List ℕ → ℕ
run test bs = length (take_while test bs)

-- the number that digits spell after what stands before them
unfoldable pub number_after : (before : ℕ) → List ℕ → ℕ
number_after before [] = before
number_after before (b ∷ bs) = number_after (before * 10 + (b - 48)) bs
