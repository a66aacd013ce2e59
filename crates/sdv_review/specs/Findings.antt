-- What a review FINDS in a script: at each point, by what is known there, and then of the names that are never read.
use Rattle.std.specs.Prelude.{ℕ, zero, suc, List, [], ◌∷◌, ◌++◌, length, Bool, true, false, ◌==◌, ◌||◌, ◌&&◌, Option, Some, None, slice_get, if◌then◌else◌}
use Rattle.std.specs.List.{list_any}
use mathlib.Core.Bool.{beq}
use Rattle.sdv_card.specs.declared.event.Ask.{Ask}
use Rattle.sdv_card.specs.declared.shape.Shape.{Shape}
use Rattle.sdv_card.specs.declared.state.Partition.{Partition}
use Rattle.sdv_card.specs.declared.state.Partition.TheVariants.{User, Boot1, Boot2}
use Rattle.sdv_card.specs.Modes.{partition_number}
use Rattle.sdv_card.specs.ShapeBits.{partition_shown, has_flag}
use Rattle.sdv_graph.specs.declared.tree.Condition.{Condition}
use Rattle.sdv_graph.specs.declared.tree.Condition.TheVariants as conditions
use Rattle.sdv_graph.specs.Graph.{Graph}
use Rattle.sdv_graph.specs.Path.{Action, Point, sends, tests}
use Rattle.sdv_facts.specs.declared.numbers.Numbers.{Numbers}
use Rattle.sdv_facts.specs.declared.test.Test.{Test}
use Rattle.sdv_facts.specs.declared.test.Test.TheVariants.{AtLeast, Below}
use Rattle.sdv_facts.specs.Facts.{Facts, PointFacts}
use Rattle.sdv_facts.specs.AfterTest.{after_test}
use Rattle.sdv_review.specs.declared.finding.Reach.{Reach}
use Rattle.sdv_review.specs.declared.finding.Name.{Name}
use Rattle.sdv_review.specs.declared.finding.Name.TheVariants.{Number, Flag}
use Rattle.sdv_review.specs.declared.finding.Matter.{Matter}
use Rattle.sdv_review.specs.declared.finding.Matter.TheVariants.{Unreached, Partition as Uncertain, BootEnable, OneWay, Unread}
use Rattle.sdv_review.specs.declared.finding.Finding.{Finding}
use Rattle.sdv_review.specs.Names.{is_read, first_setting}

-- PARTITIONS

-- the shape has this partition in access
abbrev pub shows : Partition → Shape → Bool
shows partition s = partition_number (partition_shown s) == partition_number partition

-- the partitions that are in access at the shapes
abbrev pub reach_of : List Shape → Reach
reach_of shapes = record {
  user = list_any (shows User) shapes;
  boot_1 = list_any (shows Boot1) shapes;
  boot_2 = list_any (shows Boot2) shapes;
}

-- more than one
abbrev pub is_open : Reach → Bool
is_open r = (r.user && (r.boot_1 || r.boot_2)) || (r.boot_1 && r.boot_2)

-- the command has the address of a block: CMD17, 18, 24, 25, 32, 33, 35 and 36
abbrev pub has_address : Ask → Bool
has_address ask =
    (ask.index == 17) || (ask.index == 18) || (ask.index == 24) || (ask.index == 25) || (ask.index == 32)
    || (ask.index == 33) || (ask.index == 35) || (ask.index == 36)

-- CMD6 with `part.access` writes all of PARTITION_CONFIG (JESD84-B51, section 7.4.69)
abbrev pub writes_config : Ask → Bool
writes_config ask = (ask.index == 6)
    && ((ask.argument == 0x03b30000) || (ask.argument == 0x03b30100) || (ask.argument == 0x03b30200))

-- of a command: blocks whose partition is not certain, or boot enable bits that are cleared
abbrev pub command_matter : Ask → List Shape → Option Matter
command_matter ask shapes =
    if has_address ask && is_open (reach_of shapes) then Some (Uncertain ask.index (reach_of shapes))
    else (if writes_config ask then Some BootEnable else None)

-- TESTS

abbrev pub has_numbers : Option Numbers → Bool
has_numbers None = false
has_numbers (Some after) = true

-- there is an edge on which the comparison holds
abbrev pub may_compare : Numbers → Test → Bool
may_compare ns test = has_numbers (after_test ns test)

-- the condition may come out so
abbrev pub may_come_out : Condition → (holds : Bool) → Facts → Bool
may_come_out (conditions.Flag flag) on f = list_any (λ s. beq (has_flag s flag) on) f.shapes
may_come_out (conditions.AtLeast x n) true f = may_compare f.numbers (AtLeast x n)
may_come_out (conditions.AtLeast x n) false f = may_compare f.numbers (Below x n)
may_come_out (conditions.Below x n) true f = may_compare f.numbers (Below x n)
may_come_out (conditions.Below x n) false f = may_compare f.numbers (AtLeast x n)

-- it comes out one way alone
abbrev pub one_way : (may_hold may_fail : Bool) → Option Matter
one_way true false = Some (OneWay true)
one_way false true = Some (OneWay false)
one_way may_hold may_fail = None

abbrev pub condition_matter : Condition → Facts → Option Matter
condition_matter c f = one_way (may_come_out c true f) (may_come_out c false f)

-- A POINT

abbrev pub reached_matter : Action → Facts → Option Matter
reached_matter (sends c ways other) f = command_matter c.ask f.shapes
reached_matter (tests c met unmet) f = condition_matter c f
reached_matter action f = None

-- no run comes to a point without shapes
abbrev pub matter_if : List Shape → Option Matter → Option Matter
matter_if [] matter = Some Unreached
matter_if (s ∷ ss) matter = matter

abbrev pub matter_of : Action → Facts → Option Matter
matter_of action f = matter_if f.shapes (reached_matter action f)

abbrev pub finding_if : (point : ℕ) → Option Matter → List Finding
finding_if point None = []
finding_if point (Some matter) = record { point = Some point; matter = matter } ∷ []

abbrev pub findings_at : (point : ℕ) → Option Point → Option PointFacts → List Finding
findings_at point (Some place) (Some p) = finding_if point (matter_of place.action p.facts)
findings_at point place p = []

-- at the first n points, in their order
abbrev pub findings_before : List Point → List PointFacts → (n : ℕ) → List Finding
findings_before points ps zero = []
findings_before points ps (suc n) =
    findings_before points ps n ++ findings_at n (slice_get points n) (slice_get ps n)

-- NAMES

-- with the first statement that sets the name, where there is one
abbrev pub unread : Name → List Point → Finding
unread name points = record { point = first_setting name points; matter = Unread name }

abbrev pub name_findings : Name → List Point → List Finding
name_findings name points = if is_read name points then [] else unread name points ∷ []

-- of the first n names of a sort
abbrev pub names_before : (ℕ → Name) → List Point → (n : ℕ) → List Finding
names_before name points zero = []
names_before name points (suc n) = names_before name points n ++ name_findings (name n) points

-- ALL OF THEM
abbrev pub findings_of : Graph → List PointFacts → List Finding
findings_of g ps = (findings_before g.points ps (length g.points)
    ++ names_before Number g.points g.numbers) ++ names_before Flag g.points g.flags
