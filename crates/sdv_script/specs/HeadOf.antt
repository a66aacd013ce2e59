-- What a statement begins with, without where it lies in memory.
use Rattle.sdv_script.specs.declared.heads.Head.{Head as Begun}
use Rattle.sdv_script.specs.declared.heads.Head.TheVariants as heads
use Rattle.sdv_graph.specs.Tree.{statement_of}
use Rattle.sdv_script.specs.Heads.{Head, plain, asked, fork}

abbrev pub head_of : Begun → Head
head_of (heads.Plain s) = plain (statement_of s)
head_of (heads.Send command order depth) = asked command order depth
head_of (heads.Fork f inside depth) = fork f inside depth
