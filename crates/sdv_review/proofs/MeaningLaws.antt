-- What findings mean for each run: what is known at a point holds wherever a run comes to it.
use Rattle.std.proofs.Common.{◌≡◌, ℕ, inl, inr, refl, sym, ap, ◌∙◌, subst, List, [], ◌∷◌, Bool, true, false, not, ◌&&◌, ◌||◌, ◌==◌, eq-eqb, Option, Some, None}
use Rattle.std.specs.Prelude.{nat_le, nat_lt, slice_get, if◌then◌else◌}
use Rattle.std.specs.List.{list_any}
use Rattle.std.proofs.lemmas.Bool.{leb-true, leb-false, ltb-true, ltb-false}
use mathlib.Core.Bool.{beq}
use Rattle.sdv_card.specs.declared.shape.Shape.{Shape}
use Rattle.sdv_card.specs.declared.state.Partition.{Partition}
use Rattle.sdv_card.specs.declared.state.Partition.TheVariants.{User, Boot1, Boot2}
use Rattle.sdv_card.specs.Card.{Card}
use Rattle.sdv_card.specs.Host.{Host}
use Rattle.sdv_card.specs.Lists.{May, IsOneOf}
use Rattle.sdv_card.specs.Modes.{partition_number}
use Rattle.sdv_card.specs.ShapeBits.{partition_shown, has_flag, is_flag_set}
use Rattle.sdv_card.specs.Shapes.{pair_code}
use Rattle.sdv_graph.specs.declared.graph.Target.{Target}
use Rattle.sdv_graph.specs.declared.tree.Condition.{Condition}
use Rattle.sdv_graph.specs.declared.tree.Condition.TheVariants as conditions
use Rattle.sdv_graph.specs.declared.tree.ScriptCommand.{ScriptCommand}
use Rattle.sdv_graph.specs.Conditions.{condition_holds}
use Rattle.sdv_graph.specs.Graph.{Graph}
use Rattle.sdv_graph.specs.GraphOf.{IsSound}
use Rattle.sdv_graph.specs.Path.{Case, Action, Point, Stand, sends, phases, lets, tests, flags, widths, heads, jumps, stops}
use Rattle.sdv_graph.specs.ValueOfLet.{number}
use Rattle.sdv_facts.specs.declared.numbers.Numbers.{Numbers}
use Rattle.sdv_facts.specs.declared.test.Test.{Test}
use Rattle.sdv_facts.specs.declared.test.Test.TheVariants.{AtLeast, Below}
use Rattle.sdv_facts.specs.AfterTest.{TestHolds, after_test}
use Rattle.sdv_facts.specs.Closed.{Closed}
use Rattle.sdv_facts.specs.Facts.{Facts, PointFacts}
use Rattle.sdv_facts.specs.FactsHold.{FactsHold, Carries}
use Rattle.sdv_facts.specs.Stands.{Stands}
use Rattle.sdv_facts.proofs.TestLaws.{test_keeps}
use Rattle.sdv_facts.proofs.UnitLaws.{access_shown, flag_shown}
use Rattle.sdv_review.specs.declared.finding.Finding.{Finding}
use Rattle.sdv_review.specs.declared.finding.Matter.{Matter}
use Rattle.sdv_review.specs.declared.finding.Matter.TheVariants.{Unreached, Partition as Uncertain, BootEnable, OneWay, Unread}
use Rattle.sdv_review.specs.declared.finding.Reach.{Reach}
use Rattle.sdv_review.specs.Findings.{shows, reach_of, is_open, has_address, writes_config, command_matter, has_numbers, may_compare, may_come_out, one_way, condition_matter, reached_matter, matter_if, matter_of, findings_of}
use Rattle.sdv_review.specs.Meaning.{NoneComes, IsCertain, PartitionsAreTold, TestsComeOut}
use Rattle.sdv_review.proofs.ComesLaws.{stands_there}
use Rattle.sdv_review.proofs.FoundLaws.{FoundAt, found, is_found}
use Rattle.sdv_review.proofs.ListLaws.{one_passes, none_passes}

one_of : {X : Type 0} (x y : X) → Some x ≡ Some y → x ≡ y
one_of x y e = cc

-- a list has one element in a place
same_there : {X : Type 0} (xs : List X) (i j : ℕ) (x y : X) → slice_get xs i ≡ Some x → slice_get xs j ≡ Some y → i ≡ j → x ≡ y
same_there xs i j x y e f same = one_of x y (sym e ∙ (ap (slice_get xs) same ∙ f))

-- STATEMENTS THAT NO RUN REACHES

command_otherwise : (a b : Bool) (index : ℕ) (reach : Reach)
    → (if a then Some (Uncertain index reach) else (if b then Some BootEnable else None)) ≡ Some Unreached → ⊥
command_otherwise true b index reach e = cc
command_otherwise false true index reach e = cc
command_otherwise false false index reach e = cc

test_otherwise : (a b : Bool) → one_way a b ≡ Some Unreached → ⊥
test_otherwise true true e = cc
test_otherwise true false e = cc
test_otherwise false true e = cc
test_otherwise false false e = cc

reached_otherwise : (action : Action) (f : Facts) → reached_matter action f ≡ Some Unreached → ⊥
reached_otherwise (sends c ways other) f e =
    command_otherwise (has_address c.ask && is_open (reach_of f.shapes)) (writes_config c.ask) c.ask.index (reach_of f.shapes) e
reached_otherwise (tests c met unmet) f e = test_otherwise (may_come_out c true f) (may_come_out c false f) e
reached_otherwise (phases p well other) f e = cc
reached_otherwise (lets l t) f e = cc
reached_otherwise (flags flag on t) f e = cc
reached_otherwise (widths width t) f e = cc
reached_otherwise (heads n body other) f e = cc
reached_otherwise (jumps t) f e = cc
reached_otherwise (stops last) f e = cc

no_shapes : (shapes : List Shape) (m : Option Matter) → (m ≡ Some Unreached → ⊥) → matter_if shapes m ≡ Some Unreached → (s : Shape) → IsOneOf shapes s → ⊥
no_shapes [] m f e s one = one
no_shapes (x ∷ xs) m f e s one = f e

-- a point that has a shape
reached : (shapes : List Shape) (m : Option Matter) (s : Shape) → IsOneOf shapes s → matter_if shapes m ≡ m
reached [] m s one = absurd one
reached (x ∷ xs) m s one = refl

-- PARTITIONS

-- the partition is among these
abbrev pub is_in : (user boot_1 boot_2 : Bool) → Partition → Bool
is_in user boot_1 boot_2 User = user
is_in user boot_1 boot_2 Boot1 = boot_1
is_in user boot_1 boot_2 Boot2 = boot_2

-- two of them are more than one
user_boot_1 : (u a b : Bool) → u ≡ true → a ≡ true → (u && (a || b)) || (a && b) ≡ false → ⊥
user_boot_1 true true b e f o = cc
user_boot_1 true false b e f o = cc
user_boot_1 false a b e f o = cc

user_boot_2 : (u a b : Bool) → u ≡ true → b ≡ true → (u && (a || b)) || (a && b) ≡ false → ⊥
user_boot_2 true true true e f o = cc
user_boot_2 true false true e f o = cc
user_boot_2 true a false e f o = cc
user_boot_2 false a b e f o = cc

both_boots : (u a b : Bool) → a ≡ true → b ≡ true → (u && (a || b)) || (a && b) ≡ false → ⊥
both_boots true true true e f o = cc
both_boots false true true e f o = cc
both_boots u true false e f o = cc
both_boots u false b e f o = cc

pub one_alone : (u a b : Bool) (p q : Partition) → is_in u a b p ≡ true → is_in u a b q ≡ true → (u && (a || b)) || (a && b) ≡ false → p ≡ q
one_alone u a b User User e f o = refl
one_alone u a b User Boot1 e f o = absurd (user_boot_1 u a b e f o)
one_alone u a b User Boot2 e f o = absurd (user_boot_2 u a b e f o)
one_alone u a b Boot1 User e f o = absurd (user_boot_1 u a b f e o)
one_alone u a b Boot1 Boot1 e f o = refl
one_alone u a b Boot1 Boot2 e f o = absurd (both_boots u a b e f o)
one_alone u a b Boot2 User e f o = absurd (user_boot_2 u a b f e o)
one_alone u a b Boot2 Boot1 e f o = absurd (both_boots u a b f e o)
one_alone u a b Boot2 Boot2 e f o = refl

shown_in : (shapes : List Shape) (p : Partition) → list_any (shows p) shapes ≡ true
    → is_in (list_any (shows User) shapes) (list_any (shows Boot1) shapes) (list_any (shows Boot2) shapes) p ≡ true
shown_in shapes User e = e
shown_in shapes Boot1 e = e
shown_in shapes Boot2 e = e

itself : (n : ℕ) → (n == n) ≡ true
itself n = eq-eqb n n refl

pub of_shape : (shapes : List Shape) (s : Shape) → IsOneOf shapes s
    → is_in (list_any (shows User) shapes) (list_any (shows Boot1) shapes) (list_any (shows Boot2) shapes) (partition_shown s) ≡ true
of_shape shapes s one =
    shown_in shapes (partition_shown s) (one_passes (shows (partition_shown s)) shapes s one (itself (partition_number (partition_shown s))))

-- where there is one alone, each shape shows it
same_partition : (shapes : List Shape) (s t : Shape) → IsOneOf shapes s → IsOneOf shapes t → is_open (reach_of shapes) ≡ false
    → partition_shown s ≡ partition_shown t
same_partition shapes s t one two e =
    one_alone (list_any (shows User) shapes) (list_any (shows Boot1) shapes) (list_any (shows Boot2) shapes) (partition_shown s) (partition_shown t)
    (of_shape shapes s one) (of_shape shapes t two) e

-- where there are more, that is found
open_found : (a b c : Bool) (index : ℕ) (reach : Reach) → a ≡ true → b ≡ true
    → (if a && b then Some (Uncertain index reach) else (if c then Some BootEnable else None)) ≡ Some (Uncertain index reach)
open_found true true c index reach e f = refl
open_found true false c index reach e f = cc
open_found false b c index reach e f = cc

decided : (b : Bool) → (b ≡ true → ⊥) → b ≡ false
decided true f = absurd (f refl)
decided false f = refl

-- TESTS

-- the other way is closed
closed_way : (holds may_hold may_fail : Bool) → one_way may_hold may_fail ≡ Some (OneWay holds) → (if holds then may_fail else may_hold) ≡ false
closed_way true true false e = refl
closed_way false false true e = refl
closed_way holds true true e = cc
closed_way holds false false e = cc
closed_way false true false e = absurd (let f : true ≡ false = cc in cc)
closed_way true false true e = absurd (let f : true ≡ false = cc in cc)

of_test : (shapes : List Shape) (m : Option Matter) (holds : Bool) → matter_if shapes m ≡ Some (OneWay holds) → m ≡ Some (OneWay holds)
of_test [] m holds e = cc
of_test (x ∷ xs) m holds e = e

not_so : (x on : Bool) → beq x on ≡ false → x ≡ not on
not_so true true e = cc
not_so true false e = refl
not_so false true e = refl
not_so false false e = cc

no_edge : (known : Facts) (o : Option Numbers) (c : Card) (h : Host) → has_numbers o ≡ false → Carries known o c h → ⊥
no_edge known None c h e carries = carries
no_edge known (Some ns) c h e carries = let f : true ≡ false = e in cc

-- a comparison that has no edge does not hold
never : (f : Facts) (test : Test) (c : Card) (h : Host) → FactsHold f c h → may_compare f.numbers test ≡ false → TestHolds test h → ⊥
never f test c h holds e yes-it = no_edge f (after_test f.numbers test) c h e (test_keeps f test c h holds yes-it)

is_true : (b : Bool) → (b ≡ false → ⊥) → b ≡ true
is_true true f = refl
is_true false f = absurd (f refl)

flag_out : (g : Graph) (ps : List PointFacts) (s : Stand) (u : Card) (at : Stands g ps s u) (flag : ℕ) (on : Bool)
    → list_any (λ s. beq (has_flag s flag) on) at.facts.facts.shapes ≡ false → is_flag_set s.host.flags flag ≡ not on
flag_out g ps s u at flag on e =
    sym (flag_shown g.kind u s.host at.honest.pair flag)
    ∙ not_so (has_flag (record { 0 = pair_code u s.host }) flag) on
    (none_passes (λ s. beq (has_flag s flag) on) at.facts.facts.shapes (record { 0 = pair_code u s.host }) at.holds.shape.one e)

pub comes_out : (g : Graph) (ps : List PointFacts) (s : Stand) (u : Card) (at : Stands g ps s u) (c : Condition) (holds : Bool)
    → (if holds then may_come_out c false at.facts.facts else may_come_out c true at.facts.facts) ≡ false → condition_holds s.host c ≡ holds
comes_out g ps s u at (conditions.Flag flag) true e = flag_out g ps s u at flag false e
comes_out g ps s u at (conditions.Flag flag) false e = flag_out g ps s u at flag true e
comes_out g ps s u at (conditions.AtLeast x n) true e =
    is_true (nat_le n (number s.host x)) (λ off. never at.facts.facts (Below x n) u s.host at.holds e (leb-false n (number s.host x) off))
comes_out g ps s u at (conditions.AtLeast x n) false e =
    decided (nat_le n (number s.host x)) (λ on. never at.facts.facts (AtLeast x n) u s.host at.holds e (leb-true n (number s.host x) on))
comes_out g ps s u at (conditions.Below x n) true e =
    is_true (nat_lt (number s.host x) n) (λ off. never at.facts.facts (AtLeast x n) u s.host at.holds e (ltb-false (number s.host x) n off))
comes_out g ps s u at (conditions.Below x n) false e =
    decided (nat_lt (number s.host x) n) (λ on. never at.facts.facts (Below x n) u s.host at.holds e (ltb-true (number s.host x) n on))

-- EACH FINDING

module _ (g : Graph) (ps : List PointFacts) (listed : List Finding) (is : listed ≡ findings_of g ps) (sound : IsSound g) (closed : Closed g ps) where
  -- a finding of a point where a run stands is by what is known there
  record IsHere (s : Stand) (u : Card) (m : Matter) : Type 0 where
    stands : Stands g ps s u
    matter : matter_of stands.place.action stands.facts.facts ≡ Some m

  here : (s : Stand) (u : Card) (m : Matter) → Stands g ps s u → FoundAt g.points ps (record { point = Some s.point; matter = m }) → IsHere s u m
  here s u m at f =
      let same : f.at ≡ s.point = sym (one_of s.point f.at f.point) in
      let place : f.place ≡ at.place = same_there g.points f.at s.point f.place at.place f.here at.here same in
      let facts : f.facts ≡ at.facts = same_there ps f.at s.point f.facts at.facts f.known at.known same in
      record {
        stands = at;
        matter = ap (λ (p : Point). matter_of p.action at.facts.facts) (sym place)
            ∙ (ap (λ (p : PointFacts). matter_of f.place.action p.facts) (sym facts) ∙ f.matter);
      }

  found_here : (s : Stand) (u : Card) (m : Matter) → Stands g ps s u → May listed (record { point = Some s.point; matter = m })
      → ((name : _) → m ≡ Unread name → ⊥) → IsHere s u m
  found_here s u m at may other =
      elim (found g ps (record { point = Some s.point; matter = m }) (subst (λ l. May l (record { point = Some s.point; matter = m })) is may)) [
        | inl f ↦ here s u m at f
        | inr n ↦ absurd (other n.0 n.1)
      ]

  pub none_comes : NoneComes g listed
  none_comes point may c es s u run same =
      let at = stands_there g ps sound closed c es s u run in
      let f = found_here s u Unreached at
      (subst (λ n. May listed (record { point = Some n; matter = Unreached })) (sym same) may) (λ name e. cc) in
      no_shapes f.stands.facts.facts.shapes (reached_matter f.stands.place.action f.stands.facts.facts)
      (reached_otherwise f.stands.place.action f.stands.facts.facts) f.matter
      (record { 0 = pair_code u s.host }) f.stands.holds.shape.one

  pub tests_come_out : TestsComeOut g listed
  tests_come_out c es s u run condition met unmet most there holds may =
      let at = stands_there g ps sound closed c es s u run in
      let f = found_here s u (OneWay holds) at may (λ name e. cc) in
      let place : f.stands.place ≡ record { action = tests condition met unmet; most = most } =
      same_there g.points s.point s.point f.stands.place (record { action = tests condition met unmet; most = most }) f.stands.here there refl in
      let matter : matter_of (tests condition met unmet) f.stands.facts.facts ≡ Some (OneWay holds) =
      ap (λ (p : Point). matter_of p.action f.stands.facts.facts) (sym place) ∙ f.matter in
      comes_out g ps s u f.stands condition holds
      (closed_way holds (may_come_out condition true f.stands.facts.facts) (may_come_out condition false f.stands.facts.facts)
      (of_test f.stands.facts.facts.shapes (condition_matter condition f.stands.facts.facts) holds matter))

  pub certain_there : (s : Stand) (u : Card) (at : Stands g ps s u) (command : ScriptCommand) (cases : List Case) (other : Target) (most : List ℕ)
      → slice_get g.points s.point ≡ Some (record { action = sends command cases other; most = most }) → has_address command.ask ≡ true
      → IsCertain listed s.point → is_open (reach_of at.facts.facts.shapes) ≡ false
  certain_there s u at command cases other most there addressed certain =
      decided (is_open (reach_of at.facts.facts.shapes)) (λ many.
      certain command.ask.index (reach_of at.facts.facts.shapes)
      (subst (λ l. May l (record { point = Some s.point; matter = Uncertain command.ask.index (reach_of at.facts.facts.shapes) })) (sym is)
      (is_found g ps s.point (record { action = sends command cases other; most = most }) at.facts
      (Uncertain command.ask.index (reach_of at.facts.facts.shapes)) there at.known
      (reached at.facts.facts.shapes (command_matter command.ask at.facts.facts.shapes) (record { 0 = pair_code u s.host }) at.holds.shape.one
      ∙ open_found (has_address command.ask) (is_open (reach_of at.facts.facts.shapes)) (writes_config command.ask) command.ask.index
      (reach_of at.facts.facts.shapes) addressed many))))

  pub partitions_are_told : PartitionsAreTold g ps listed
  partitions_are_told c es s u run command cases other most there addressed certain p known shape may =
      let at = stands_there g ps sound closed c es s u run in
      let facts : p ≡ at.facts = same_there ps s.point s.point p at.facts known at.known refl in
      let one : May at.facts.facts.shapes shape = subst (λ (q : PointFacts). May q.facts.shapes shape) facts may in
      same_partition at.facts.facts.shapes shape (record { 0 = pair_code u s.host }) one.one at.holds.shape.one
      (certain_there s u at command cases other most there addressed certain)
      ∙ access_shown g.kind u s.host at.honest.pair
