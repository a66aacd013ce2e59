-- `check SCRIPT CERT`: the script and the certificate of two files are checked, and the bound of the commands is printed.
use Rattle.std.specs.Prelude.{◌≡◌, ℕ, [], ◌∷◌, ◌++◌, codes, decimal}
use Rattle.clap.specs.Words.{Text}
use Rattle.sdv_check.specs.Headline.{EachRunOf}
use Rattle.sdv_check.specs.Verified.{Acceptance, IsAccepted}
use Rattle.sdv_program.specs.Refused.{Refuses}
use Rattle.sdv_program.specs.Files.{Files}
use Rattle.sdv_program.specs.Outcomes.{Ending, OverText, Prints}

abbrev pub accepted_text : (bound : ℕ) → Text
accepted_text bound = codes "accepted " ++ (decimal bound ++ 10 ∷ [])

-- The certificate is closed for the graph of the script, and each run of the script is as it should be and sends no more
-- commands than the bound, which the text says.
abbrev pub IsBoundLine : (script certificate text : Text) → Type 0
IsBoundLine script certificate text =
    (a : Acceptance) × IsAccepted script certificate a × EachRunOf script a.bound × (text ≡ accepted_text a.bound)

-- the file of the certificate is read only where that of the script gave a text
abbrev pub CheckEnds : Files → (script_file certificate_file : Text) → Ending
CheckEnds files script_file certificate_file = OverText files script_file (λ script.
    OverText files certificate_file (λ certificate.
    Prints (IsBoundLine script certificate) (Refuses script certificate)))
