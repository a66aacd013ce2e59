use Rattle.std.proofs.Common.{◌≡◌, ◌*◌, ◌+◌, map}
use Rattle.sdv_script.specs.Place.{names_of, progress_of}
use Rattle.sdv_script.specs.GuardedOf.{guarded_of}
use Rattle.sdv_graph.specs.Tree.{statement_of}
use Rattle.sdv_script.specs.Reading.{read_statements, read_ways}
use Rattle.sdv_script.proofs.CaseLaws.{ahead}
use Rattle.sdv_script.proofs.RowLaws.{behind}
use Rattle.sdv_script.proofs.blocks.+blocks.Given as goal

abbrev pub decreases-statements : goal.decreases-statements
decreases-statements l = 5 * l.left + 0

abbrev pub decreases-statement : goal.decreases-statement
decreases-statement l = 5 * l.left + 4

abbrev pub decreases-branches : goal.decreases-branches
decreases-branches l = 5 * l.left + 3

abbrev pub decreases-boxed_block : goal.decreases-boxed_block
decreases-boxed_block l = 5 * l.left + 2

abbrev pub decreases-ways : goal.decreases-ways
decreases-ways l = 5 * l.left + 0

abbrev pub decreases-case : goal.decreases-case
decreases-case l = 5 * l.left + 4

-- the cases that were read, before those that are still to be read, are all
abbrev pub invariant-ways-loop-left : goal.invariant-ways-loop-left
invariant-ways-loop-left l =
    ahead (map guarded_of l.read.items) (read_ways l.left (names_of l.names) l.depth l.order (progress_of l.from))
    ≡ read_ways l.fn.left (names_of l.names) l.depth l.order (progress_of l.fn.from)

-- the statements that were read, before those that are still to be read, are all
abbrev pub invariant-statements-loop-left : goal.invariant-statements-loop-left
invariant-statements-loop-left l =
    behind (map statement_of l.read.items) (read_statements l.left (names_of l.names) l.depth (progress_of l.from))
    ≡ read_statements l.fn.left (names_of l.names) l.depth (progress_of l.fn.from)
