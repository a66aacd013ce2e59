use Rattle.std.proofs.Common.{◌≡◌, drop}
use Rattle.std.specs.List.{list_any}
use Rattle.sdv_review.specs.Findings.{shows}
use Rattle.sdv_review.proofs.partitions.one_shows.Given as goal

abbrev pub invariant-loop-shape : goal.invariant-loop-shape
invariant-loop-shape l = list_any (shows l.partition) (drop l.shape-index l.shapes) ≡ list_any (shows l.partition) l.shapes
