-- What a writer is known to hold after a text was written.
use Rattle.std.specs.Prelude.{◌≡◌, ◌<◌, ℕ, List, ◌++◌, length, Option, Result, MatchResult}
use Rattle.std.specs.Io.KnownBytes.{Appends}

-- known bytes grow by a front of a text, and not by all of it
abbrev pub AppendsPart : Option (List ℕ) → Option (List ℕ) → List ℕ → Type 0
AppendsPart old new text = (front back : List ℕ) × (text ≡ front ++ back) × (0 < length back) × Appends old new front

-- known bytes grow by a text, or, where the writer failed, by a part of it
abbrev pub Writes : {E : Type 0} → Option (List ℕ) → Option (List ℕ) → Result (Unit {0}) E → List ℕ → Type 0
Writes old new result text = MatchResult result (λ _. Appends old new text) (λ _. AppendsPart old new text)
