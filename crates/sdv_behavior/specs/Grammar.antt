-- What the text of a description is: lines, one for each thing that it says, in a fixed order, each with an end of line
-- (10) behind it and nothing after the last one. The format is this project's own.
use Rattle.std.specs.Prelude.{◌≡◌, ◌⊎◌, ℕ, List, [], ◌∷◌, ◌++◌, Bool, true, ◌&&◌, ◌||◌, ◌==◌, nat_le, codes, IsTrue}
use Rattle.sdv_text.specs.Fronts.{is_digit, number_after}
use Rattle.sdv_behavior.specs.declared.description.Size.{Size}
use Rattle.sdv_behavior.specs.declared.description.Description.{Description}
use Rattle.sdv_behavior.specs.declared.description.Description.TheVariants.{SdBytes, SdBlocks, EmmcBytes, EmmcBlocks}

-- NUMBERS are written in decimal, with zeros before them or without

abbrev pub are_digits : List ℕ → Bool
are_digits [] = true
are_digits (b ∷ bs) = is_digit b && are_digits bs

-- LINES

pub data Line : Type 0 where
  -- these words
  Words : (words : List ℕ) → Line
  -- the word, a space, and the number
  Number : (word : List ℕ) (n : ℕ) → Line
  -- such a line, which may be absent where the number is 0
  Optional : (word : List ℕ) (n : ℕ) → Line

-- a line with a number at the front of a text, and what follows its end
pub record NumberLine (word : List ℕ) (n : ℕ) (text rest : List ℕ) : Type 0 where
  pub digit : ℕ
  pub digits : List ℕ
  pub are : IsTrue (are_digits (digit ∷ digits))
  pub value : number_after 0 (digit ∷ digits) ≡ n
  pub same : word ++ 32 ∷ digit ∷ (digits ++ 10 ∷ rest) ≡ text

-- the text has these lines, and nothing else
abbrev pub HasLines : List Line → List ℕ → Type 0
HasLines [] text = [] ≡ text
HasLines (Words words ∷ lines) text = (rest : List ℕ) × (words ++ 10 ∷ rest ≡ text) × HasLines lines rest
HasLines (Number word n ∷ lines) text = (rest : List ℕ) × NumberLine word n text rest × HasLines lines rest
HasLines (Optional word n ∷ lines) text =
    ((rest : List ℕ) × NumberLine word n text rest × HasLines lines rest) ⊎ ((n ≡ 0) × HasLines lines text)

-- THE LINES OF A DESCRIPTION

abbrev pub size_lines : Size → List Line → List Line
size_lines size lines =
    Number (codes "csize") size.c_size ∷ Number (codes "cmult") size.c_size_mult
    ∷ Number (codes "rbl") size.read_bl_len ∷ lines

abbrev pub lines_of : Description → List Line
lines_of (SdBytes version size rca) =
    Words (codes "card sd") ∷ Number (codes "version") version ∷ Words (codes "unit byte")
    ∷ size_lines size (Number (codes "rca") rca ∷ [])
lines_of (SdBlocks c_size rca) =
    Words (codes "card sd") ∷ Number (codes "version") 2 ∷ Words (codes "unit block") ∷ Number (codes "csize") c_size
    ∷ Number (codes "rca") rca ∷ []
lines_of (EmmcBytes size boot) =
    Words (codes "card emmc") ∷ Words (codes "unit byte") ∷ size_lines size (Optional (codes "boot") boot ∷ [])
lines_of (EmmcBlocks sectors boot) =
    Words (codes "card emmc") ∷ Words (codes "unit block") ∷ Number (codes "sectors") sectors
    ∷ Optional (codes "boot") boot ∷ []

-- RANGES: those of the registers' fields

abbrev pub size_fits : Size → Bool
size_fits size =
    nat_le size.c_size 4095 && nat_le size.c_size_mult 7 && nat_le 9 size.read_bl_len && nat_le size.read_bl_len 11

abbrev pub rca_fits : ℕ → Bool
rca_fits rca = nat_le 1 rca && nat_le rca 65535

abbrev pub boot_fits : ℕ → Bool
boot_fits boot = nat_le boot 255

abbrev pub in_ranges : Description → Bool
in_ranges (SdBytes version size rca) = ((version == 1) || (version == 2)) && size_fits size && rca_fits rca
in_ranges (SdBlocks c_size rca) = nat_le c_size 4194303 && rca_fits rca
in_ranges (EmmcBytes size boot) = size_fits size && boot_fits boot
in_ranges (EmmcBlocks sectors boot) = nat_le 1 sectors && nat_le sectors 4294967295 && boot_fits boot

-- the text is that of a description
pub record IsTextOf (read : Description) (text : List ℕ) : Type 0 where
  pub lines : HasLines (lines_of read) text
  pub ranges : IsTrue (in_ranges read)

-- a text is that of one description at most
abbrev pub OneDescription : Type 0
OneDescription = (text : List ℕ) (a b : Description) → IsTextOf a text → IsTextOf b text → a ≡ b
