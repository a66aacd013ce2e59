-- How many blocks a graph's phases have at most: as many as one of its commands announces.
use Rattle.std.specs.Prelude.{◌≡◌, ◌≤◌, ℕ, List, slice_get, Some}
use Rattle.sdv_graph.specs.Path.{Action, Point, sends}

-- how many blocks a statement announces
abbrev pub announced_at : Action → ℕ
announced_at (sends c ways other) = c.ask.count
announced_at action = 0

-- none of the points announces more
abbrev pub AnnounceAtMost : List Point → ℕ → Type 0
AnnounceAtMost g most = (i : ℕ) (p : Point) → slice_get g i ≡ Some p → announced_at p.action ≤ most
