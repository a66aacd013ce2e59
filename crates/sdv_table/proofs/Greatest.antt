-- What fits counts fits the greatest ones.
use Rattle.std.proofs.Common.{ℕ, ◌<◌, ◌≤◌, List, [], ◌∷◌, Option, Some, None, arith}
use Rattle.sdv_graph.specs.declared.graph.Target.{Target}
use Rattle.sdv_graph.specs.declared.tree.ScriptCommand.{ScriptCommand}
use Rattle.sdv_graph.specs.declared.tree.Let.{Let}
use Rattle.sdv_graph.specs.declared.tree.Address.{Address}
use Rattle.sdv_graph.specs.declared.tree.Unit.{Unit as AddressUnit}
use Rattle.sdv_graph.specs.declared.tree.Unit.TheVariants.{Block, Byte, By}
use Rattle.sdv_graph.specs.declared.tree.Position.{Position}
use Rattle.sdv_graph.specs.declared.tree.Position.TheVariants as positions
use Rattle.sdv_graph.specs.declared.tree.Atom.{Atom}
use Rattle.sdv_graph.specs.declared.tree.Atom.TheVariants as atoms
use Rattle.sdv_graph.specs.declared.tree.Condition.{Condition}
use Rattle.sdv_graph.specs.declared.tree.Condition.TheVariants as conditions
use Rattle.sdv_graph.specs.Walk.{Finished, Failed}
use Rattle.sdv_graph.specs.Path.{Case, Action, sends, phases, lets, tests, flags, widths, heads, jumps, stops}
use Rattle.sdv_table.specs.declared.counts.Counts.{Counts}
use Rattle.sdv_table.specs.Fits.{CountsFit, greatest, TargetFits, CasesFit, UnitFits, PositionFits, AddressFits, CommandFits, AtomFits, LetFits, ConditionFits, PartsFit}

pub target_grown : (points : ℕ) (t : Target) → points ≤ 8191 → TargetFits points t → TargetFits 8191 t
target_grown points t few fits = (omega arith, fits.1, fits.2)

cases_grown : (points : ℕ) (ws : List Case) → points ≤ 8191 → CasesFit points ws → CasesFit 8191 ws
cases_grown points [] few fits = tt
cases_grown points (w ∷ ws) few fits = (fits.0, target_grown points w.target few fits.1, cases_grown points ws few fits.2)

unit_grown : (n : ℕ) (u : AddressUnit) → n ≤ 4 → UnitFits n u → UnitFits 4 u
unit_grown n Block few fits = tt
unit_grown n Byte few fits = tt
unit_grown n (By flag) few fits = omega arith

position_grown : (n : ℕ) (p : Position) → n ≤ 8 → PositionFits n p → PositionFits 8 p
position_grown n (positions.Number m) few fits = fits
position_grown n (positions.Variable x None) few fits = omega arith
position_grown n (positions.Variable x (Some k)) few fits = (omega arith, fits.1)

address_grown : (c : Counts) (a : Option Address) → CountsFit c → AddressFits c a → AddressFits greatest a
address_grown c None few fits = tt
address_grown c (Some a) few fits = (unit_grown c.flags a.unit few.flags fits.0, position_grown c.numbers a.position few.numbers fits.1)

command_grown : (c : Counts) (command : ScriptCommand) → CountsFit c → CommandFits c command → CommandFits greatest command
command_grown c command few fits = record {
  index = fits.index;
  argument = fits.argument;
  count = fits.count;
  address = address_grown c command.address few fits.address;
}

atom_grown : (n : ℕ) (a : Atom) → n ≤ 8 → AtomFits n a → AtomFits 8 a
atom_grown n (atoms.Number m) few fits = fits
atom_grown n (atoms.Variable y) few fits = omega arith
atom_grown n atom few fits = tt

let_grown : (c : Counts) (l : Let) → CountsFit c → LetFits c l → LetFits greatest l
let_grown c l few fits =
    let less : l.target < 8 = let x = fits.target in let y = few.numbers in omega arith in
    record { target = less; atom = atom_grown c.numbers l.atom few.numbers fits.atom; change = fits.change }

condition_grown : (c : Counts) (a : Condition) → CountsFit c → ConditionFits c a → ConditionFits greatest a
condition_grown c (conditions.Flag f) few fits = let y = few.flags in omega arith
condition_grown c (conditions.AtLeast x n) few fits = let y = few.numbers in let z = fits.0 in (omega arith, fits.1)
condition_grown c (conditions.Below x n) few fits = let y = few.numbers in let z = fits.0 in (omega arith, fits.1)

pub parts_grown : (c : Counts) (a : Action) → CountsFit c → PartsFit c a → PartsFit greatest a
parts_grown c (sends command cases other) few fits = (
  command_grown c command few fits.0,
  fits.1,
  cases_grown c.points cases few.points fits.2,
  target_grown c.points other few.points fits.3,
)
parts_grown c (phases p well other) few fits =
    (target_grown c.points well few.points fits.0, target_grown c.points other few.points fits.1)
parts_grown c (lets l t) few fits = (let_grown c l few fits.0, target_grown c.points t few.points fits.1)
parts_grown c (tests condition holds other) few fits = (
  condition_grown c condition few fits.0,
  target_grown c.points holds few.points fits.1,
  target_grown c.points other few.points fits.2,
)
parts_grown c (flags f on t) few fits =
    let y = few.flags in let z = fits.0 in (omega arith, target_grown c.points t few.points fits.1)
parts_grown c (widths width t) few fits = target_grown c.points t few.points fits
parts_grown c (heads n body other) few fits =
    (fits.0, target_grown c.points body few.points fits.1, target_grown c.points other few.points fits.2)
parts_grown c (jumps t) few fits = target_grown c.points t few.points fits
parts_grown c (stops Finished) few fits = tt
parts_grown c (stops (Failed name)) few fits = fits
parts_grown c (stops last) few fits = absurd fits
