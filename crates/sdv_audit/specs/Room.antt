-- MORE SHAPES than an audit follows.
use Rattle.std.specs.Prelude.{◌<◌, ℕ, List, length}
use Rattle.sdv_card.specs.declared.shape.Shape.{Shape}
use Rattle.sdv_card.specs.Lists.{May, AreDistinct}

-- the most that it follows
abbrev pub max_shapes : ℕ
max_shapes = 4096

-- so many different shapes, and more, are of this sort
pub record AreMany (Sort : Shape → Type 0) : Type 0 where
  pub shapes : List Shape
  pub distinct : AreDistinct shapes
  pub many : max_shapes < length shapes
  pub each : (s : Shape) → May shapes s → Sort s
