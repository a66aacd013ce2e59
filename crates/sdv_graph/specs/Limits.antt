-- What the LIMITS of scripts say of the points of a graph.
use Rattle.std.specs.Prelude.{List, [], ◌∷◌, length, Bool, true, ◌&&◌, nat_lt, nat_le}
use Rattle.sdv_graph.specs.Counts.{max_flags, max_loops, max_name}
use Rattle.sdv_graph.specs.Walk.{Failed}
use Rattle.sdv_graph.specs.Path.{Action, Point, sends, flags, stops}

-- a command's index has 6 bits, a flag is among those that a script may declare, and no fault's name is too long
abbrev pub action_keeps_limits : Action → Bool
action_keeps_limits (sends c ways other) = nat_lt c.ask.index 64
action_keeps_limits (flags flag on t) = nat_lt flag max_flags
action_keeps_limits (stops (Failed name)) = nat_le (length name) max_name
action_keeps_limits action = true

-- and few loops stand round the point
abbrev pub keeps_limits : Point → Bool
keeps_limits p = action_keeps_limits p.action && nat_le (length p.most) max_loops

abbrev pub all_keep_limits : List Point → Bool
all_keep_limits [] = true
all_keep_limits (p ∷ ps) = keeps_limits p && all_keep_limits ps
