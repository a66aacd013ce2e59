-- Lines of points: what is read is what was written, and what was written is read again.
use Rattle.std.proofs.Common.{◌≡◌, ℕ, zero, suc, ◌+◌, ◌-◌, ◌^◌, ◌<◌, ◌≤◌, true, false, cond, nat_eq, List, [], ◌∷◌, ◌++◌, length, get_or, Option, Some, None, IfSome, decimal, refl, sym, ap, subst, ◌∙◌, arith, eqb-true, eq-eqb}
use Rattle.std.specs.List.{AllByRecursion}
use Rattle.std.specs.Str.{all_ascii_digits}
use Rattle.std.proofs.lemmas.Bool.{and_parts}
use Rattle.std.proofs.lemmas.Bool.Decides.{nat_tests}
use Rattle.std.proofs.lemmas.Fmt.{decimal_nonempty}
use Rattle.std.proofs.lemmas.List.Elements.{All-from_recursion, recursion_from_All}
use Rattle.sdv_text.proofs.FrontLaws.{bind_some, some_is, tested, after_takes}
use Rattle.sdv_text.specs.Fronts.{after, is_digit}
use Rattle.sdv_card.specs.declared.shape.Shape.{Shape}
use Rattle.sdv_facts.specs.declared.certificate.Version.{Version}
use Rattle.sdv_facts.specs.declared.certificate.Version.TheVariants.{One, Two}
use Rattle.sdv_facts.specs.declared.numbers.VarFacts.{VarFacts}
use Rattle.sdv_facts.specs.declared.numbers.Numbers.{Numbers}
use Rattle.sdv_facts.specs.Facts.{AreRising, PointFacts}
use Rattle.sdv_facts.specs.Limits.{IsInLimits, VarInLimits, NumbersInLimits, PointInLimits}
use Rattle.sdv_facts.specs.CertificateText.{number_written, gap_written, boot_gap_written, boot_written, var_written, numbers_written, shape_written, each_written, point_written, points_written, shape_count, PointFits}
use Rattle.sdv_facts.specs.Versions.{FitsVersion}
use Rattle.sdv_facts.specs.declared.words.TheConstants.{POINT, BOUND, BOOT_CAPACITY, CAPACITY, VARIABLE, SHAPES, NO_GAP}
use Rattle.sdv_check.specs.Reading.{ends_item, begins_number, begins_var, begins_shape, gap_from, some_gap, read_number, read_gap, read_boot_gap, read_var, read_rising, read_turns, read_vars, read_shapes, read_place, read_boot, read_numbers, read_bound, read_point, read_points}
use Rattle.sdv_check.proofs.Numbers.{number_takes, number_again, decimal_digits}
use Rattle.sdv_check.proofs.Codes.{IsNext, rising_takes, rising_again}
use Rattle.sdv_check.proofs.Lists.{each_takes, each_again, each_ends}
use Rattle.sdv_check.proofs.Rising.{rising, fitting, next_each, first_above, each_all, all_each}

-- GAPS

no_dash : (ds rest : List ℕ) → all_ascii_digits ds ≡ true → 0 < length ds → after (45 ∷ []) (ds ++ rest) ≡ None
no_dash [] rest all some = absurd (omega arith)
no_dash (d ∷ ds) rest all some =
    let parts = and_parts (is_digit d) (all_ascii_digits ds) all in
    let digit : is_digit d ≡ true = parts.0 in
    let other : nat_eq d 45 ≡ false = grind (arith, nat_tests) in
    rw other refl

first_digit : (ds rest : List ℕ) → all_ascii_digits ds ≡ true → 0 < length ds → is_digit (get_or (ds ++ rest) 0 0) ≡ true
first_digit [] rest all some = absurd (omega arith)
first_digit (d ∷ ds) rest all some = (and_parts (is_digit d) (all_ascii_digits ds) all).0

gap_from_takes : (o : Option (List ℕ)) (bs : List ℕ) (gap : Option ℕ) (rest : List ℕ) → after NO_GAP.now bs ≡ o → gap_from o bs ≡ Some (gap, rest)
    → (bs ≡ gap_written gap rest) × IfSome gap IsInLimits
gap_from_takes (Some r) bs gap rest e given =
    subst (λ (y : Option ℕ × List ℕ). (bs ≡ gap_written y.0 y.1) × IfSome y.0 IsInLimits) (some_is (None, r) (gap, rest) given)
    (after_takes NO_GAP.now bs r e, tt)
gap_from_takes None bs gap rest e given =
    let a = bind_some (read_number bs) some_gap (gap, rest) given in
    let n = number_takes bs a.0.0 a.0.1 a.1 in
    subst (λ (y : Option ℕ × List ℕ). (bs ≡ gap_written y.0 y.1) × IfSome y.0 IsInLimits) (some_is (Some a.0.0, a.0.1) (gap, rest) a.2) (n.0, n.1)

gap_takes : (bs : List ℕ) (gap : Option ℕ) (rest : List ℕ) → read_gap bs ≡ Some (gap, rest) → (bs ≡ gap_written gap rest) × IfSome gap IsInLimits
unfolding read_gap
gap_takes bs gap rest e = gap_from_takes (after NO_GAP.now bs) bs gap rest refl e

gap_again : (gap : Option ℕ) (rest : List ℕ) → IfSome gap IsInLimits → ends_item rest ≡ true → read_gap (gap_written gap rest) ≡ Some (gap, rest)
unfolding read_gap
gap_again None rest fits end = refl
gap_again (Some n) rest fits end =
    let none : after NO_GAP.now (number_written n rest) ≡ None =
    no_dash (decimal n) rest (decimal_digits n (omega arith)) (decimal_nonempty n (omega arith)) in
    rw (none, number_again n rest fits end) refl

gap_ends : (gap : Option ℕ) (rest : List ℕ) → ends_item (gap_written gap rest) ≡ true
gap_ends None rest = refl
gap_ends (Some n) rest = refl

-- BOOT PARTITIONS, of which version 1 says nothing

abbrev BootGapFits : Version → Option ℕ → Type 0
BootGapFits One gap = gap ≡ None
BootGapFits Two gap = Unit {0}

abbrev BootFits : Version → ℕ → Type 0
BootFits One mb = mb ≡ 0
BootFits Two mb = Unit {0}

boot_gap_takes : (version : Version) (bs : List ℕ) (gap : Option ℕ) (rest : List ℕ) → read_boot_gap version bs ≡ Some (gap, rest)
    → (bs ≡ boot_gap_written version gap rest) × IfSome gap IsInLimits × BootGapFits version gap
boot_gap_takes One bs gap rest e =
    subst (λ (y : Option ℕ × List ℕ). (bs ≡ y.1) × IfSome y.0 IsInLimits × (y.0 ≡ None)) (some_is (None, bs) (gap, rest) e) (refl, tt, refl)
boot_gap_takes Two bs gap rest e = let g = gap_takes bs gap rest e in (g.0, g.1, tt)

boot_gap_again : (version : Version) (gap : Option ℕ) (rest : List ℕ) → IfSome gap IsInLimits → BootGapFits version gap → ends_item rest ≡ true
    → read_boot_gap version (boot_gap_written version gap rest) ≡ Some (gap, rest)
boot_gap_again One gap rest fits none end = ap (λ (g : Option ℕ). Some (g, rest)) (sym none)
boot_gap_again Two gap rest fits any end = gap_again gap rest fits end

boot_gap_ends : (version : Version) (gap : Option ℕ) (rest : List ℕ) → ends_item rest ≡ true → ends_item (boot_gap_written version gap rest) ≡ true
boot_gap_ends One gap rest end = end
boot_gap_ends Two gap rest end = gap_ends gap rest

boot_takes : (version : Version) (bs : List ℕ) (mb : ℕ) (rest : List ℕ) → read_boot version bs ≡ Some (mb, rest)
    → (bs ≡ boot_written version mb rest) × IsInLimits mb × BootFits version mb
boot_takes One bs mb rest e =
    subst (λ (y : ℕ × List ℕ). (bs ≡ y.1) × IsInLimits y.0 × (y.0 ≡ 0)) (some_is (0, bs) (mb, rest) e) (refl, omega arith, refl)
boot_takes Two bs mb rest e =
    let a = bind_some (after BOOT_CAPACITY.now bs) read_number (mb, rest) e in
    let n = number_takes a.0 mb rest a.2 in
    (after_takes BOOT_CAPACITY.now bs a.0 a.1 ∙ ap (λ (l : List ℕ). BOOT_CAPACITY.now ++ l) n.0, n.1, tt)

boot_again : (version : Version) (mb : ℕ) (rest : List ℕ) → IsInLimits mb → BootFits version mb → ends_item rest ≡ true
    → read_boot version (boot_written version mb rest) ≡ Some (mb, rest)
boot_again One mb rest fits none end = ap (λ (n : ℕ). Some (n, rest)) (sym none)
boot_again Two mb rest fits any end = number_again mb rest fits end

boot_ends : (version : Version) (mb : ℕ) (rest : List ℕ) → ends_item rest ≡ true → ends_item (boot_written version mb rest) ≡ true
boot_ends One mb rest end = end
boot_ends Two mb rest end = refl

-- VARIABLES

record VarFits (version : Version) (v : VarFacts) : Type 0 where
  limits : VarInLimits v
  boot : BootGapFits version v.bgap

var_takes : (version : Version) (bs : List ℕ) (v : VarFacts) (rest : List ℕ) → read_var version bs ≡ Some (v, rest)
    → (bs ≡ var_written version v rest) × VarFits version v
unfolding read_var
var_takes version bs v rest e =
    let a = bind_some (after VARIABLE.now bs) _ (v, rest) e in
    let b = bind_some (read_number a.0) _ (v, rest) a.2 in
    let c = bind_some (read_number b.0.1) _ (v, rest) b.2 in
    let d = bind_some (read_gap c.0.1) _ (v, rest) c.2 in
    let f = bind_some (read_boot_gap version d.0.1) _ (v, rest) d.2 in
    let lo = number_takes a.0 b.0.0 b.0.1 b.1 in
    let hi = number_takes b.0.1 c.0.0 c.0.1 c.1 in
    let gap = gap_takes c.0.1 d.0.0 d.0.1 d.1 in
    let boot = boot_gap_takes version d.0.1 f.0.0 f.0.1 f.1 in
    let made : VarFacts = record { lo = b.0.0; hi = c.0.0; gap = d.0.0; bgap = f.0.0 } in
    let written : bs ≡ var_written version made f.0.1 =
    after_takes VARIABLE.now bs a.0 a.1 ∙ ap (λ (l : List ℕ). VARIABLE.now ++ l)
    (lo.0 ∙ ap (number_written b.0.0) (hi.0 ∙ ap (number_written c.0.0) (gap.0 ∙ ap (gap_written d.0.0) boot.0))) in
    subst (λ (y : VarFacts × List ℕ). (bs ≡ var_written version y.0 y.1) × VarFits version y.0) (some_is (made, f.0.1) (v, rest) f.2)
    (written, record { limits = record { lo = lo.1; hi = hi.1; gap = gap.1; bgap = boot.1 }; boot = boot.2 })

var_again : (version : Version) (v : VarFacts) (rest : List ℕ) → VarFits version v → ends_item rest ≡ true
    → read_var version (var_written version v rest) ≡ Some (v, rest)
unfolding read_var
var_again version v rest fits end =
    let boot : List ℕ = boot_gap_written version v.bgap rest in
    rw (
      number_again v.lo (number_written v.hi (gap_written v.gap boot)) fits.limits.lo refl,
      number_again v.hi (gap_written v.gap boot) fits.limits.hi (gap_ends v.gap boot),
      gap_again v.gap boot fits.limits.gap (boot_gap_ends version v.bgap rest end),
      boot_gap_again version v.bgap rest fits.limits.bgap fits.boot end,
    ) refl

-- LISTS

turns_take : (bs ts rest : List ℕ) → read_turns bs ≡ Some (ts, rest)
    → (bs ≡ each_written number_written ts rest) × (length ts ≤ 4) × AllByRecursion IsInLimits ts
turns_take bs ts rest e =
    let l = each_takes begins_number (λ last. read_number) number_written (λ last. IsInLimits)
    (λ last b x r h. let t = number_takes b x r h in (t.0, t.1)) 4 None bs ts rest e in
    (l.0, l.1, each_all IsInLimits None ts l.2)

turns_again : (ts rest : List ℕ) → length ts ≤ 4 → AllByRecursion IsInLimits ts → ends_item rest ≡ true → begins_number rest ≡ false
    → read_turns (each_written number_written ts rest) ≡ Some (ts, rest)
turns_again ts rest le fits end off =
    each_again begins_number (λ last. read_number) number_written (λ last. IsInLimits) (λ last x r h ends. number_again x r h ends)
    (λ last x r h. first_digit (decimal x) r (decimal_digits x (omega arith)) (decimal_nonempty x (omega arith)))
    (λ x r. refl) 4 None ts rest (all_each IsInLimits None ts fits) le end off

vars_take : (version : Version) (bs : List ℕ) (vs : List VarFacts) (rest : List ℕ) → read_vars version bs ≡ Some (vs, rest)
    → (bs ≡ each_written (var_written version) vs rest) × (length vs ≤ 8) × AllByRecursion (VarFits version) vs
vars_take version bs vs rest e =
    let l = each_takes begins_var (λ last. read_var version) (var_written version) (λ last. VarFits version) (λ last. var_takes version) 8 None bs vs rest e in
    (l.0, l.1, each_all (VarFits version) None vs l.2)

vars_again : (version : Version) (vs : List VarFacts) (rest : List ℕ) → length vs ≤ 8 → AllByRecursion (VarFits version) vs → ends_item rest ≡ true
    → begins_var rest ≡ false → read_vars version (each_written (var_written version) vs rest) ≡ Some (vs, rest)
vars_again version vs rest le fits end off =
    each_again begins_var (λ last. read_var version) (var_written version) (λ last. VarFits version) (λ last. var_again version) (λ last x r h. refl)
    (λ x r. refl) 8 None vs rest (all_each (VarFits version) None vs fits) le end off

pub record AreShapes (shapes : List Shape) : Type 0 where
  pub rises : AreRising shapes
  pub words : AllByRecursion (λ s. s.0 < 2 ^ 64) shapes

pub shapes_take : (room : ℕ) (bs : List ℕ) (ss : List Shape) (rest : List ℕ) → read_shapes room bs ≡ Some (ss, rest)
    → (bs ≡ each_written shape_written ss rest) × (length ss ≤ room) × AreShapes ss
shapes_take room bs ss rest e =
    let l = each_takes begins_shape read_rising shape_written IsNext rising_takes room None bs ss rest e in
    (l.0, l.1, record { rises = rising None ss l.2; words = fitting None ss l.2 })

shapes_again : (room : ℕ) (ss : List Shape) (rest : List ℕ) → length ss ≤ room → AreShapes ss → ends_item rest ≡ true → begins_shape rest ≡ false
    → read_shapes room (each_written shape_written ss rest) ≡ Some (ss, rest)
shapes_again room ss rest le fits end off =
    each_again begins_shape read_rising shape_written IsNext rising_again (λ last x r h. refl) (λ x r. refl) room None ss rest
    (next_each None ss fits.rises fits.words (first_above ss)) le end off

-- LINES

place_takes : (place : ℕ) (bs rest : List ℕ) → read_place place bs ≡ Some rest → bs ≡ number_written place rest
unfolding read_place
place_takes place bs rest e =
    let a = bind_some (read_number bs) (λ n. cond (nat_eq n.0 place) (Some n.1) None) rest e in
    let t = tested (nat_eq a.0.0 place) (Some a.0.1) rest a.2 in
    let n = number_takes bs a.0.0 a.0.1 a.1 in
    n.0 ∙ ap (λ (k : ℕ). number_written k a.0.1) (eqb-true a.0.0 place t.0) ∙ ap (number_written place) (some_is a.0.1 rest t.1)

place_again : (place : ℕ) (rest : List ℕ) → IsInLimits place → ends_item rest ≡ true → read_place place (number_written place rest) ≡ Some rest
unfolding read_place
place_again place rest fits end = rw (number_again place rest fits end, eq-eqb place place refl) refl

-- numbers that the version can say
record NumbersFit (version : Version) (ns : Numbers) : Type 0 where
  limits : NumbersInLimits ns
  few : length ns.vars.items ≤ 8
  boot : BootFits version ns.mb
  gaps : AllByRecursion (VarFits version) ns.vars.items

vars_limited : (version : Version) (vs : List VarFacts) → AllByRecursion (VarFits version) vs → AllByRecursion VarInLimits vs
vars_limited version [] f = tt
vars_limited version (v ∷ vs) f = (f.0.limits, vars_limited version vs f.1)

numbers_take : (version : Version) (bs : List ℕ) (ns : Numbers) (rest : List ℕ) → read_numbers version bs ≡ Some (ns, rest)
    → (bs ≡ numbers_written version ns rest) × NumbersFit version ns
unfolding read_numbers
numbers_take version bs ns rest e =
    let a = bind_some (after CAPACITY.now bs) _ (ns, rest) e in
    let b = bind_some (read_number a.0) _ (ns, rest) a.2 in
    let c = bind_some (read_boot version b.0.1) _ (ns, rest) b.2 in
    let d = bind_some (read_vars version c.0.1) _ (ns, rest) c.2 in
    let m = number_takes a.0 b.0.0 b.0.1 b.1 in
    let mb = boot_takes version b.0.1 c.0.0 c.0.1 c.1 in
    let vs = vars_take version c.0.1 d.0.0 d.0.1 d.1 in
    let made : Numbers = record { m = b.0.0; mb = c.0.0; vars = record { items = d.0.0 } } in
    let limits : NumbersInLimits made =
    record { m = m.1; mb = mb.1; vars = All-from_recursion VarInLimits d.0.0 (vars_limited version d.0.0 vs.2) } in
    let written : bs ≡ numbers_written version made d.0.1 =
    after_takes CAPACITY.now bs a.0 a.1 ∙ ap (λ (l : List ℕ). CAPACITY.now ++ l)
    (m.0 ∙ ap (number_written b.0.0) (mb.0 ∙ ap (boot_written version c.0.0) vs.0)) in
    subst (λ (y : Numbers × List ℕ). (bs ≡ numbers_written version y.0 y.1) × NumbersFit version y.0) (some_is (made, d.0.1) (ns, rest) d.2)
    (written, record { limits = limits; few = vs.1; boot = mb.2; gaps = vs.2 })

numbers_again : (version : Version) (ns : Numbers) (rest : List ℕ) → NumbersFit version ns → ends_item rest ≡ true → begins_var rest ≡ false
    → read_numbers version (numbers_written version ns rest) ≡ Some (ns, rest)
unfolding read_numbers
numbers_again version ns rest fits end off =
    let vars : List ℕ = each_written (var_written version) ns.vars.items rest in
    let ends = each_ends begins_var (λ (last : Option VarFacts). read_var version) (var_written version) (λ (last : Option VarFacts). VarFits version)
    (λ x r. refl) ns.vars.items rest end in
    rw (
      number_again ns.m (boot_written version ns.mb vars) fits.limits.m (boot_ends version ns.mb vars ends),
      boot_again version ns.mb vars fits.limits.mb fits.boot ends,
      vars_again version ns.vars.items rest fits.few fits.gaps end off,
    ) refl

-- what a version can say is what it says nothing of boot partitions in
says_nothing : (vs : List VarFacts) → AllByRecursion (VarFits One) vs → AllByRecursion (λ v. v.bgap ≡ None) vs
says_nothing [] f = tt
says_nothing (v ∷ vs) f = (f.0.boot, says_nothing vs f.1)

version_fits : (version : Version) (p : PointFacts) → NumbersFit version p.facts.numbers → FitsVersion version p
version_fits One p f = record { least = f.boot; gaps = All-from_recursion (λ v. v.bgap ≡ None) p.facts.numbers.vars.items (says_nothing _ f.gaps) }
version_fits Two p f = tt

gap_kept : (version : Version) (vs : List VarFacts) → AllByRecursion VarInLimits vs → AllByRecursion (λ v. BootGapFits version v.bgap) vs
    → AllByRecursion (VarFits version) vs
gap_kept version [] l b = tt
gap_kept version (v ∷ vs) l b = (record { limits = l.0; boot = b.0 }, gap_kept version vs l.1 b.1)

nothing_asked : (vs : List VarFacts) → AllByRecursion (λ v. BootGapFits Two v.bgap) vs
nothing_asked [] = tt
nothing_asked (v ∷ vs) = (tt, nothing_asked vs)

gaps_fit : (version : Version) (p : PointFacts) → FitsVersion version p → AllByRecursion (λ v. BootGapFits version v.bgap) p.facts.numbers.vars.items
gaps_fit One p f = recursion_from_All (λ v. v.bgap ≡ None) p.facts.numbers.vars.items f.gaps
gaps_fit Two p f = nothing_asked p.facts.numbers.vars.items

least_fits : (version : Version) (p : PointFacts) → FitsVersion version p → BootFits version p.facts.numbers.mb
least_fits One p f = f.least
least_fits Two p f = tt

numbers_fit : (version : Version) (p : PointFacts) → PointFits p → FitsVersion version p → NumbersFit version p.facts.numbers
numbers_fit version p fits f = record {
  limits = fits.numbers.numbers;
  few = fits.vars;
  boot = least_fits version p f;
  gaps = gap_kept version p.facts.numbers.vars.items (recursion_from_All VarInLimits p.facts.numbers.vars.items fits.numbers.numbers.vars) (gaps_fit version p f);
}

abbrev bound_written : (place base : ℕ) → List ℕ → List ℕ → List ℕ
bound_written place base turns rest = POINT.now ++ number_written place (BOUND.now ++ number_written base (each_written number_written turns rest))

bound_takes : (place : ℕ) (bs : List ℕ) (bound : ℕ × List ℕ) (rest : List ℕ) → read_bound place bs ≡ Some (bound, rest)
    → (bs ≡ bound_written place bound.0 bound.1 rest) × IsInLimits bound.0 × (length bound.1 ≤ 4) × AllByRecursion IsInLimits bound.1
unfolding read_bound
bound_takes place bs bound rest e =
    let a = bind_some (after POINT.now bs) _ (bound, rest) e in
    let b = bind_some (read_place place a.0) _ (bound, rest) a.2 in
    let c = bind_some (after BOUND.now b.0) _ (bound, rest) b.2 in
    let d = bind_some (read_number c.0) _ (bound, rest) c.2 in
    let f = bind_some (read_turns d.0.1) _ (bound, rest) d.2 in
    let base = number_takes c.0 d.0.0 d.0.1 d.1 in
    let ts = turns_take d.0.1 f.0.0 f.0.1 f.1 in
    let written : bs ≡ bound_written place d.0.0 f.0.0 f.0.1 =
    after_takes POINT.now bs a.0 a.1 ∙ ap (λ (l : List ℕ). POINT.now ++ l)
    (place_takes place a.0 b.0 b.1 ∙ ap (number_written place)
    (after_takes BOUND.now b.0 c.0 c.1 ∙ ap (λ (l : List ℕ). BOUND.now ++ l) (base.0 ∙ ap (number_written d.0.0) ts.0))) in
    subst (λ (y : (ℕ × List ℕ) × List ℕ). (bs ≡ bound_written place y.0.0 y.0.1 y.1) × IsInLimits y.0.0 × (length y.0.1 ≤ 4) × AllByRecursion IsInLimits y.0.1)
    (some_is ((d.0.0, f.0.0), f.0.1) (bound, rest) f.2) (written, base.1, ts.1, ts.2)

bound_again : (place base : ℕ) (turns rest : List ℕ) → IsInLimits place → IsInLimits base → length turns ≤ 4 → AllByRecursion IsInLimits turns
    → ends_item rest ≡ true → begins_number rest ≡ false
    → read_bound place (bound_written place base turns rest) ≡ Some ((base, turns), rest)
unfolding read_bound
bound_again place base turns rest fits small le each end off =
    let ends = each_ends begins_number (λ (last : Option ℕ). read_number) number_written (λ (last : Option ℕ). IsInLimits) (λ x r. refl) turns rest end in
    rw (
      place_again place (BOUND.now ++ number_written base (each_written number_written turns rest)) fits refl,
      number_again base (each_written number_written turns rest) small ends,
      turns_again turns rest le each end off,
    ) refl

point_takes : (version : Version) (place room : ℕ) (bs : List ℕ) (p : PointFacts) (rest : List ℕ) → read_point version place room bs ≡ Some (p, rest)
    → (bs ≡ point_written version place p rest) × (length p.facts.shapes ≤ room) × PointFits p × FitsVersion version p
unfolding read_point
point_takes version place room bs p rest e =
    let a = bind_some (read_bound place bs) _ (p, rest) e in
    let b = bind_some (read_numbers version a.0.1) _ (p, rest) a.2 in
    let c = bind_some (after SHAPES.now b.0.1) _ (p, rest) b.2 in
    let d = bind_some (read_shapes room c.0) _ (p, rest) c.2 in
    let f = bind_some (after (10 ∷ []) d.0.1) _ (p, rest) d.2 in
    let bound = bound_takes place bs a.0.0 a.0.1 a.1 in
    let ns = numbers_take version a.0.1 b.0.0 b.0.1 b.1 in
    let ss = shapes_take room c.0 d.0.0 d.0.1 d.1 in
    let made : PointFacts = record { facts = record { shapes = d.0.0; numbers = b.0.0 }; base = a.0.0.0; turns = record { items = a.0.0.1 } } in
    let tail : b.0.1 ≡ SHAPES.now ++ each_written shape_written d.0.0 (10 ∷ f.0) =
    after_takes SHAPES.now b.0.1 c.0 c.1 ∙ ap (λ (l : List ℕ). SHAPES.now ++ l)
    (ss.0 ∙ ap (each_written shape_written d.0.0) (after_takes (10 ∷ []) d.0.1 f.0 f.1)) in
    let written : bs ≡ point_written version place made f.0 =
    bound.0 ∙ ap (bound_written place a.0.0.0 a.0.0.1) (ns.0 ∙ ap (numbers_written version b.0.0) tail) in
    let limits : PointInLimits made = record { numbers = ns.1.limits; base = bound.1; turns = All-from_recursion IsInLimits a.0.0.1 bound.3 } in
    let fits : PointFits made = record {
      numbers = limits;
      loops = bound.2;
      vars = ns.1.few;
      rising = ss.2.rises;
      words = All-from_recursion
          (λ s. s.0 < 2 ^ 64) d.0.0 ss.2.words;
    } in
    subst (λ (y : PointFacts × List ℕ). (bs ≡ point_written version place y.0 y.1) × (length y.0.facts.shapes ≤ room) × PointFits y.0 × FitsVersion version y.0)
    (some_is (made, f.0) (p, rest) f.2) (written, ss.1, fits, version_fits version made ns.1)

point_again : (version : Version) (place room : ℕ) (p : PointFacts) (rest : List ℕ) → IsInLimits place → length p.facts.shapes ≤ room → PointFits p
    → FitsVersion version p → read_point version place room (point_written version place p rest) ≡ Some (p, rest)
unfolding read_point
point_again version place room p rest near le fits says =
    let shapes : List ℕ = SHAPES.now ++ each_written shape_written p.facts.shapes (10 ∷ rest) in
    let numbers : List ℕ = numbers_written version p.facts.numbers shapes in
    let limits = fits.numbers in
    rw (
      bound_again place p.base p.turns.items numbers near limits.base fits.loops (recursion_from_All IsInLimits p.turns.items limits.turns) refl refl,
      numbers_again version p.facts.numbers shapes (numbers_fit version p fits says) refl refl,
      shapes_again room p.facts.shapes (10 ∷ rest) le (record {
        rises = fits.rising;
        words = recursion_from_All
            (λ s. s.0 < 2 ^ 64) p.facts.shapes fits.words;
      }) refl refl,
    ) refl

-- ALL LINES

pub points_take : (version : Version) (count place room : ℕ) (bs : List ℕ) (ps : List PointFacts) (rest : List ℕ) → rest ≡ []
    → read_points version count place room bs ≡ Some (ps, rest)
    → (bs ≡ points_written version place ps) × (length ps ≡ count) × (shape_count ps ≤ room) × AllByRecursion PointFits ps
    × AllByRecursion (FitsVersion version) ps
unfolding read_points
points_take version zero place room bs ps rest end e =
    let same = some_is ([], bs) (ps, rest) e in
    subst (λ (y : List PointFacts × List ℕ). y.1 ≡ [] → (bs ≡ points_written version place y.0) × (length y.0 ≡ 0) × (shape_count y.0 ≤ room)
    × AllByRecursion PointFits y.0 × AllByRecursion (FitsVersion version) y.0) same (λ nothing. (nothing, refl, omega arith, tt, tt)) end
points_take version (suc count) place room bs ps rest end e =
    let a = bind_some (read_point version place room bs) _ (ps, rest) e in
    let b = bind_some (read_points version count (suc place) (room - length a.0.0.facts.shapes) a.0.1) _ (ps, rest) a.2 in
    let same = some_is (a.0.0 ∷ b.0.0, b.0.1) (ps, rest) b.2 in
    let nothing : b.0.1 ≡ [] = ap (λ (y : List PointFacts × List ℕ). y.1) same ∙ end in
    let first = point_takes version place room bs a.0.0 a.0.1 a.1 in
    let more = points_take version count (suc place) (room - length a.0.0.facts.shapes) a.0.1 b.0.0 b.0.1 nothing b.1 in
    subst (λ (y : List PointFacts × List ℕ). (bs ≡ points_written version place y.0) × (length y.0 ≡ suc count) × (shape_count y.0 ≤ room)
    × AllByRecursion PointFits y.0 × AllByRecursion (FitsVersion version) y.0) same (
      first.0 ∙ ap (point_written version place a.0.0) more.0,
      ap suc more.1,
      omega (arith, first.1, more.2),
      (first.2, more.3),
      (first.3, more.4),
    )

pub points_again : (version : Version) (place room : ℕ) (ps : List PointFacts) → place + length ps ≤ 4096 → shape_count ps ≤ room
    → AllByRecursion PointFits ps → AllByRecursion (FitsVersion version) ps
    → read_points version (length ps) place room (points_written version place ps) ≡ Some (ps, [])
unfolding read_points
points_again version place room [] near le fits says = refl
points_again version place room (p ∷ ps) near le fits says =
    let first = point_again version place room p (points_written version (suc place) ps) (omega arith) (omega arith) fits.0 says.0 in
    let more = points_again version (suc place) (room - length p.facts.shapes) ps (omega arith) (omega arith) fits.1 says.1 in
    rw (first, more) refl
