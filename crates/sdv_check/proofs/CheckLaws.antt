-- What holds of each point, put together from what holds of one after another.
use Rattle.std.proofs.Common.{◌≡◌, ℕ, zero, suc, ltb-true, ◌+◌, ◌-◌, ◌<◌, List, [], ◌∷◌, All, length, reverse, get_or, refl, sym, ap, ◌∙◌, subst, arith, Bool, true, false, IsTrue, ◌↔◌, Some, inl, inr}
use Rattle.std.specs.Prelude.{slice_get, ◌&&◌}
use Rattle.std.proofs.lemmas.Bool.{cases_eq}
use Rattle.std.proofs.lemmas.List.{get_or-reverse, length-map, length-reverse}
use Rattle.std.proofs.lemmas.Option.{slice_get-get_or, slice_get_within, get_or_from_slice_get}
use Rattle.sdv_graph.specs.Graph.{Graph}
use Rattle.sdv_graph.specs.Limits.{action_keeps_limits, keeps_limits, all_keep_limits}
use Rattle.sdv_graph.specs.Path.{Action, Point, sends, phases, lets, tests, flags, widths, heads, jumps, stops}
use Rattle.sdv_card.specs.declared.shape.Shape.{Shape}
use Rattle.sdv_facts.specs.declared.certificate.PointFacts.{PointFacts as SharedPoint}
use Rattle.sdv_facts.specs.Facts.{PointFacts}
use Rattle.sdv_facts.specs.Limits.{PointInLimits}
use Rattle.sdv_facts.specs.Shared.{point_in, points_in}
use Rattle.sdv_facts.proofs.SharedLaws.{seen_there}
use Rattle.sdv_facts.specs.declared.clause.Clause.{Clause}
use Rattle.sdv_facts.specs.declared.clause.Clause.TheVariants as clauses
use Rattle.sdv_facts.specs.Closed.{PointMatches, PointsMatch, StartCovers, PointClosed, FirstFails, FailsAt, Closed}
use Rattle.sdv_check.specs.Asked.{EachBelow, FlagFits}
use Rattle.sdv_check.specs.Checked.{Fails}
use Rattle.sdv_check.specs.Faults.{fault_of}

some_same : {A : Type 0} {x y : A} → Some x ≡ Some y → x ≡ y
some_same e = cc

pub all_reversed : (P : ℕ → Type 0) (xs : List ℕ) → All P xs → All P (reverse xs)
all_reversed P xs all k d lt =
    let same = length-reverse xs in
    let n : k < length xs = omega (arith, same, lt) in
    subst P (sym (get_or-reverse xs k d n)) (all (length xs - 1 - k) d (omega (arith, n)))

-- a certificate is as long as its points, which name sets of its table
pub as_many : (sets : List (List Shape)) (qs : List SharedPoint) (ps : List PointFacts) → points_in sets qs ≡ ps → length qs ≡ length ps
as_many sets qs ps is = sym (length-map qs (point_in sets)) ∙ ap length is

-- a point that was read from a place
pub point_there : (qs : List SharedPoint) (i : ℕ) (q : SharedPoint) → i < length qs → q ≡ get_or qs i q → slice_get qs i ≡ Some q
point_there qs i q lt e = slice_get-get_or qs i q lt ∙ ap Some (sym e)

-- is that of the certificate
pub facts_at : (sets : List (List Shape)) (qs : List SharedPoint) (ps : List PointFacts) (i : ℕ) (q : SharedPoint) → points_in sets qs ≡ ps
    → slice_get qs i ≡ Some q → slice_get ps i ≡ Some (point_in sets q)
facts_at sets qs ps i q is there = subst (λ l. slice_get l i ≡ Some (point_in sets q)) is (seen_there sets qs i q there)

pub in_limits : (sets : List (List Shape)) (qs : List SharedPoint) (ps : List PointFacts) (i : ℕ) (q : SharedPoint) → points_in sets qs ≡ ps
    → All PointInLimits ps → slice_get qs i ≡ Some q → PointInLimits (point_in sets q)
in_limits sets qs ps i q is limits there =
    let at = facts_at sets qs ps i q is there in
    let p = point_in sets q in
    subst PointInLimits (get_or_from_slice_get ps i p p at) (limits i p (slice_get_within ps i p at))

place_there : (g : List Point) (i : ℕ) → i < length g → (place : Point) × (slice_get g i ≡ Some place)
place_there [] i lt = absurd (omega arith)
place_there (x ∷ xs) i lt = (get_or (x ∷ xs) i x, slice_get-get_or (x ∷ xs) i x lt)

-- a point and its facts
pub record Here (g : List Point) (ps : List PointFacts) (i : ℕ) (place : Point) (p : PointFacts) : Type 0 where
  pub here : slice_get g i ≡ Some place
  pub known : slice_get ps i ≡ Some p

pub none_below : (P : Point → PointFacts → Type 0) (g : List Point) (ps : List PointFacts) → EachBelow g ps 0 P
none_below P g ps i place p lt here known = absurd (omega arith)

pub below_next : (P : Point → PointFacts → Type 0) (g : List Point) (ps : List PointFacts) (i : ℕ) (place : Point) (p : PointFacts) → Here g ps i place p
    → EachBelow g ps i P → P place p → EachBelow g ps (i + 1) P
below_next P g ps i place p h below q j other r lt here known =
    elim (cases_eq j i) [
      | inl e ↦
          let a : other ≡ place = some_same (sym here ∙ ap (slice_get g) e ∙ h.here) in
          let b : r ≡ p = some_same (sym known ∙ ap (slice_get ps) e ∙ h.known) in
          subst (λ v. P v r) (sym a) (subst (λ v. P place v) (sym b) q)
      | inr ne ↦ below j other r (omega arith) here known
    ]

-- flags of a graph are those that a shape shows
flag_small : (action : Action) → action_keeps_limits action ≡ true → FlagFits action
flag_small (sends c ways other) e = tt
flag_small (phases p well other) e = tt
flag_small (lets l t) e = tt
flag_small (tests c holds other) e = tt
flag_small (flags flag on t) e = ltb-true flag 4 e
flag_small (widths width t) e = tt
flag_small (heads n body other) e = tt
flag_small (jumps t) e = tt
flag_small (stops last) e = tt

first_of : (a b : Bool) → a && b ≡ true → a ≡ true
first_of true b e = refl
first_of false b e = absurd (cc)

second_of : (a b : Bool) → a && b ≡ true → b ≡ true
second_of true b e = e
second_of false b e = absurd (cc)

pub flags_fit : (g : List Point) (i : ℕ) (place : Point) → all_keep_limits g ≡ true → slice_get g i ≡ Some place → FlagFits place.action
flags_fit [] i place keep here = absurd (cc)
flags_fit (x ∷ xs) zero place keep here =
    let same : x ≡ place = some_same here in
    flag_small place.action (first_of (action_keeps_limits place.action) _
    (subst (λ v. keeps_limits v ≡ true) same (first_of (keeps_limits x) (all_keep_limits xs) keep)))
flags_fit (x ∷ xs) (suc i) place keep here = flags_fit xs i place (second_of (keeps_limits x) (all_keep_limits xs) keep) here

-- POINTS

pub match_all : (g : Graph) (ps : List PointFacts) → length ps ≡ length g.points → EachBelow g.points ps (length g.points) (PointMatches g)
    → IsTrue true ↔ PointsMatch g ps
match_all g ps len below =
    ((λ u. record { count = len; each = λ i place p here known. below i place p (slice_get_within g.points i place here) here known }), (λ m. refl))

pub match_not : (g : Graph) (ps : List PointFacts) (i : ℕ) (place : Point) (p : PointFacts) (r : Bool) → Here g.points ps i place p
    → (IsTrue r ↔ PointMatches g place p) → r ≡ false → IsTrue false ↔ PointsMatch g ps
match_not g ps i place p r h test bad = ((λ e. absurd (cc)), (λ m. let t : r ≡ true = test.1 (m.each i place p h.here h.known) in cc))

-- how many number variables a point has
pub variables_of : (g : Graph) (ps : List PointFacts) (i : ℕ) (p : PointFacts) → PointsMatch g ps → slice_get ps i ≡ Some p
    → length p.facts.numbers.vars.items ≡ g.numbers
variables_of g ps i p m there =
    let lt : i < length g.points = subst (λ n. i < n) m.count (slice_get_within ps i p there) in
    let place = place_there g.points i lt in
    (m.each i place.0 p place.1 there).variables

-- every point has as many number variables
pub same_variables : (g : Graph) (ps : List PointFacts) (i : ℕ) (place : Point) (p : PointFacts) → PointsMatch g ps → Here g.points ps i place p
    → (j : ℕ) (q : PointFacts) → slice_get ps j ≡ Some q →
    length q.facts.numbers.vars.items ≡ length p.facts.numbers.vars.items
same_variables g ps i place p m h j q there =
    variables_of g ps j q m there ∙ sym (variables_of g ps i p m h.known)

-- THE ANSWER

pub all_closed : (g : Graph) (ps : List PointFacts) → PointsMatch g ps → StartCovers g ps → EachBelow g.points ps (length g.points) (PointClosed g.kind ps)
    → Closed g ps
all_closed g ps m s below = record {
  points = m;
  start = s;
  each = λ i place p here known. below i place p (slice_get_within g.points i place here) here known;
}

pub fails_here : (g : Graph) (ps : List PointFacts) (i : ℕ) (place : Point) (p : PointFacts) (clause : Clause) → Here g.points ps i place p
    → EachBelow g.points ps i (PointClosed g.kind ps) → FirstFails clause g.kind ps place p → FailsAt g ps clause i
fails_here g ps i place p clause h below f = record { before = below; place = place; here = h.here; facts = p; known = h.known; fails = f }

pub fails : (g : Graph) (ps : List PointFacts) (clause : Clause) (i : ℕ) → PointsMatch g ps → StartCovers g ps → FailsAt g ps clause i
    → Fails g ps (fault_of clause i)
fails g ps clauses.Illegal i m s f = (m, s, f)
fails g ps clauses.Address i m s f = (m, s, f)
fails g ps clauses.Shape i m s f = (m, s, f)
fails g ps clauses.Number i m s f = (m, s, f)
fails g ps clauses.Bound i m s f = (m, s, f)
fails g ps clauses.EndState i m s f = (m, s, f)
