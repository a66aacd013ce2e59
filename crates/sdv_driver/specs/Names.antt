-- The names of a driver: those of flags, number variables, entries and inputs.
use Rattle.std.specs.Prelude.{◌≡◌, ℕ, List, [], ◌∷◌, ◌++◌, Bool, false, ◌&&◌, not}
use Rattle.sdv_graph.specs.Tree.{Declared}
use Rattle.sdv_script.specs.Reading.{name_is_new}
use Rattle.sdv_driver.specs.Words.{is_reserved}

-- a name is not reserved, is new after these, and there is room for it
abbrev pub is_new : (earlier others : List (List ℕ)) → (limit : ℕ) → List ℕ → Bool
is_new earlier others limit n = not (is_reserved n) && name_is_new earlier others limit n

-- with one number variable more
abbrev pub with_number : Declared → List ℕ → Declared
with_number names n = record { kind = names.kind; flags = names.flags; numbers = names.numbers ++ n ∷ [] }

-- none of these names is reserved
abbrev pub AreFree : List (List ℕ) → Type 0
AreFree [] = Unit {0}
AreFree (n ∷ ns) = (is_reserved n ≡ false) × AreFree ns
