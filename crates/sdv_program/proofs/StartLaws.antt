-- The words of a process but for the first, and streams that stay as they were.
use Rattle.std.proofs.Common.{◌≡◌, ℕ, refl, map, drop, List, [], ◌∷◌, Option, Some, None}
use Rattle.std.specs.Io.KnownBytes.{Keeps}

pub map_but_the_first : {X Y : Type 0} (f : X → Y) (xs : List X) → map f (drop 1 xs) ≡ drop 1 (map f xs)
map_but_the_first f [] = refl
map_but_the_first f (x ∷ xs) = refl

pub keeps_same : (known : Option (List ℕ)) → Keeps known known
keeps_same None = tt
keeps_same (Some xs) = refl
