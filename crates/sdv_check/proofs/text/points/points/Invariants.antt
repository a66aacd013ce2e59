use Rattle.std.proofs.Common.{◌≡◌, ◌≤◌, All, length}
use Rattle.sdv_facts.specs.CertificateText.{max_shapes}
use Rattle.sdv_facts.specs.Shared.{points_in, sets_of, IsNamed}
use Rattle.sdv_check.specs.Reading.{read_points}
use Rattle.sdv_check.proofs.PointLoop.{points_left}
use Rattle.sdv_check.proofs.text.points.points.Given as goal

-- what is read and what is left are all
abbrev pub invariant-loop-place : goal.invariant-loop-place
invariant-loop-place l = record {
  read : points_left l.version l.count l.place l.room (points_in l.table l.points.items) l.at.rest.now ≡ read_points l.version l.count 0 max_shapes l.fn.at.rest.now;
  named : All (IsNamed l.table) l.points.items;
  table : l.table ≡ sets_of (points_in l.table l.points.items);
  few : length l.table ≤ l.place;
}
