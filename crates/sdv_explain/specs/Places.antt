-- A PLACE in a line.
use Rattle.std.specs.Prelude.{◌≡◌, ℕ, List, ◌++◌, length, take}
use Rattle.sdv_explain.specs.declared.hints.place.Place.{Place}

-- the line is what stands before the token, and the rest; the rest begins with the token
pub record IsPlaceIn (line : List ℕ) (place : Place) : Type 0 where
  pub whole : place.front.now ++ place.rest.now ≡ line
  pub token : place.token.now ≡ take (length place.token.now) place.rest.now
