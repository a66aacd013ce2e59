-- What is known at a point of a script: which shapes a card may have there beside its host, and bounds of numbers.
-- Bounds are this project's own.
use Rattle.std.specs.Prelude.{◌<◌, ℕ, List, slice_index_or, AllPairs, Option, None}
use Rattle.arrayvec.specs.ArrayVec.{ArrayVec, with_item}
use Rattle.sdv_card.specs.declared.shape.Shape.{Shape}
use Rattle.sdv_card.specs.declared.state.Partition.{Partition}
use Rattle.sdv_card.specs.declared.state.Partition.TheVariants.{User}
use Rattle.sdv_graph.specs.Counts.{max_number}
use Rattle.sdv_facts.specs.declared.certificate.Version.{Version}
use Rattle.sdv_facts.specs.declared.numbers.VarFacts.{VarFacts}
use Rattle.sdv_facts.specs.declared.numbers.Numbers.{Numbers}

pub record Facts : Type 0 where
  pub shapes : List Shape
  pub numbers : Numbers

abbrev pub facts_with : List Shape → Numbers → Facts
facts_with shapes numbers = record { shapes = shapes; numbers = numbers }

-- the same, with the name of a set in a table in the place of its shapes
pub record SharedFacts : Type 0 where
  pub set : ℕ
  pub numbers : Numbers

-- WHAT A CERTIFICATE SAYS of a point
pub record PointFacts : Type 0 where
  -- what is known there
  pub facts : Facts
  -- no more commands are sent from there on, where no loop round the point has a turn left
  pub base : ℕ
  -- the commands that each turn left adds, of each loop round the point, the outermost first
  pub turns : ArrayVec ℕ

-- A CERTIFICATE: what it says of each point of a script, in their order, and the version of its text
pub record Certificate : Type 0 where
  pub version : Version
  pub points : List PointFacts

-- each shape is less than those after it, by its code
abbrev pub AreRising : List Shape → Type 0
AreRising shapes = AllPairs (λ a b. a.0 < b.0) shapes

-- nothing is known of a number variable but that it is a number of a script
abbrev pub weakest : VarFacts
weakest = record { lo = 0; hi = max_number; gap = None; bgap = None }

-- what is known of the variable in this place, from 0; nothing where there is none
abbrev pub var : Numbers → ℕ → VarFacts
var ns x = slice_index_or ns.vars.items x weakest

-- what is known of its distance from the end of a partition
abbrev pub gap_in : Partition → VarFacts → Option ℕ
gap_in User v = v.gap
gap_in partition v = v.bgap

-- other things are known of the variable in this place
abbrev pub with_var : Numbers → ℕ → VarFacts → Numbers
with_var ns x v = record ns { vars = with_item ns.vars x v }
