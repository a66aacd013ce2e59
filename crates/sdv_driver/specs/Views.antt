-- Parts of a driver's tree, without where they lie in memory.
use Rattle.std.specs.Prelude.{ℕ, List, map}
use Rattle.sdv_driver.specs.declared.entries.Head.{Head as Begun}
use Rattle.sdv_driver.specs.declared.tree.Entry.{Entry as Kept}
use Rattle.sdv_graph.specs.declared.tree.Names.{Names}
use Rattle.sdv_graph.specs.Tree.{statements_of}
use Rattle.sdv_script.specs.Place.{names_of}
use Rattle.sdv_driver.specs.Driver.{Parsed}
use Rattle.sdv_driver.specs.Reading.{Head}
use Rattle.sdv_driver.specs.Tree.{Entry, Tree}

abbrev pub head_of : Begun → Head
head_of h = record {
  name = h.name.now;
  names = names_of h.names;
  input = h.input;
  partition = h.partition;
  within = h.within;
}

abbrev pub entry_of : Kept → Entry
entry_of e = record {
  name = e.name.now;
  names = names_of e.names;
  input = e.input;
  partition = e.partition;
  within = e.within;
  body = statements_of e.body;
}

abbrev pub entries_of : List Kept → List Entry
entries_of es = map entry_of es

abbrev pub tree_of : Names → List Kept → Tree
tree_of names entries = record { names = names_of names; entries = entries_of entries }

abbrev pub parsed_of : List ℕ → Names → List Kept → Parsed
parsed_of text names entries = record { text = text; tree = tree_of names entries }
