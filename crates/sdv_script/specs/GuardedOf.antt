-- The guards of a case that was read, and its block.
use Rattle.std.specs.Box.{box_value}
use Rattle.sdv_script.specs.declared.blocks.Guarded.{Guarded as Case}
use Rattle.sdv_graph.specs.Tree.{Guarded, statements_of}

abbrev pub guarded_of : Case → Guarded
guarded_of c = (c.guards.items, statements_of (box_value c.block))
