-- Which NAMES the statements of a script read, and which they set.
use Rattle.std.specs.Prelude.{ℕ, suc, List, [], ◌∷◌, Bool, false, ◌==◌, ◌||◌, Option, Some, None, if◌then◌else◌}
use Rattle.std.specs.List.{list_any}
use Rattle.sdv_graph.specs.declared.tree.Address.{Address}
use Rattle.sdv_graph.specs.declared.tree.Unit.{Unit as AddressUnit}
use Rattle.sdv_graph.specs.declared.tree.Unit.TheVariants.{By}
use Rattle.sdv_graph.specs.declared.tree.Position.{Position}
use Rattle.sdv_graph.specs.declared.tree.Position.TheVariants as positions
use Rattle.sdv_graph.specs.declared.tree.Atom.{Atom}
use Rattle.sdv_graph.specs.declared.tree.Atom.TheVariants as atoms
use Rattle.sdv_graph.specs.declared.tree.Condition.{Condition}
use Rattle.sdv_graph.specs.declared.tree.Condition.TheVariants as conditions
use Rattle.sdv_graph.specs.Path.{Action, Point, sends, lets, tests, flags}
use Rattle.sdv_review.specs.declared.finding.Name.{Name}
use Rattle.sdv_review.specs.declared.finding.Name.TheVariants.{Number, Flag}

-- THE NAME IS READ

abbrev pub is_number : Name → (variable : ℕ) → Bool
is_number (Number x) variable = variable == x
is_number (Flag f) variable = false

abbrev pub is_flag : Name → (flag : ℕ) → Bool
is_flag (Flag f) flag = flag == f
is_flag (Number x) flag = false

abbrev pub unit_reads : Name → AddressUnit → Bool
unit_reads name (By flag) = is_flag name flag
unit_reads name unit = false

abbrev pub position_reads : Name → Position → Bool
position_reads name (positions.Variable variable more) = is_number name variable
position_reads name (positions.Number n) = false

abbrev pub address_reads : Name → Option Address → Bool
address_reads name None = false
address_reads name (Some a) = unit_reads name a.unit || position_reads name a.position

abbrev pub atom_reads : Name → Atom → Bool
atom_reads name (atoms.Variable variable) = is_number name variable
atom_reads name atom = false

abbrev pub condition_reads : Name → Condition → Bool
condition_reads name (conditions.Flag flag) = is_flag name flag
condition_reads name (conditions.AtLeast variable n) = is_number name variable
condition_reads name (conditions.Below variable n) = is_number name variable

-- by a statement: in the address of a command, as the value of a `let`, or in the condition of an `if`
abbrev pub reads : Name → Action → Bool
reads name (sends c ways other) = address_reads name c.address
reads name (lets l t) = atom_reads name l.atom
reads name (tests c met unmet) = condition_reads name c
reads name action = false

-- by some statement
abbrev pub is_read : Name → List Point → Bool
is_read name points = list_any (λ p. reads name p.action) points

-- THE NAME IS SET

abbrev pub sets : Name → Action → Bool
sets name (lets l t) = is_number name l.target
sets name (flags flag on t) = is_flag name flag
sets name action = false

abbrev pub first_from : Name → (number : ℕ) → List Point → Option ℕ
first_from name number [] = None
first_from name number (p ∷ ps) = if sets name p.action then Some number else first_from name (suc number) ps

-- the first statement that sets it
abbrev pub first_setting : Name → List Point → Option ℕ
first_setting name points = first_from name 0 points
