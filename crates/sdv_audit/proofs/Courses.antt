-- The course of an audit, computed, is where an audit stands; and what is found there holds.
use Rattle.std.proofs.Common.{◌≡◌, ℕ, ◌+◌, ◌<◌, ◌≤◌, ◌==◌, ◌&&◌, ◌||◌, refl, ap, subst, sym, ◌∙◌, Bool, true, false, not, List, [], ◌∷◌, ◌++◌, length, take, get_or, ◌⊎◌, inl, inr, ◌↔◌, Option, Some, None, map, eqb-true, eq-eqb, arith, if◌then◌else◌}
use Rattle.std.specs.Prelude.{nat_lt, IsTrue, IfOk, IfSome, OnOk, MatchOption, is_none, Result, Ok as ResultOk, Err as ResultErr}
use Rattle.sdv_audit.specs.declared.fault.AuditFault.{AuditFault}
use Rattle.std.proofs.lemmas.Bool.{ltb-false, ltb-true, not-false}
use Rattle.sdv_registers.specs.declared.kind.Kind.{Kind}
use Rattle.sdv_card.specs.declared.shape.Shape.{Shape}
use Rattle.sdv_card.specs.declared.event.Event.{Event}
use Rattle.sdv_card.specs.declared.event.Outcome.{Outcome}
use Rattle.sdv_card.specs.declared.event.Seen.{Seen}
use Rattle.sdv_card.specs.declared.event.Seen.TheVariants.{Sent, TimeOut, Bare, Ocr, Status, Ok, NotOk}
use Rattle.sdv_card.specs.Lists.{May, IsOneOf, each, all}
use Rattle.sdv_card.specs.ShapeBits.{with_lines_shown}
use Rattle.sdv_card.specs.LegalShapes.{legal_code}
use Rattle.sdv_card.specs.Outcomes.{outcomes_code}
use Rattle.sdv_card.proofs.Members.{here, there, only, May-each, May-map, all-May, and_left, and_right}
use Rattle.sdv_outcomes.specs.Histories.{is_impossible_match}
use Rattle.sdv_audit.proofs.ShapeSets.{more}
use Rattle.sdv_audit.specs.declared.line.TraceLine.{TraceLine}
use Rattle.sdv_audit.specs.declared.known.HostKnown.{HostKnown}
use Rattle.sdv_audit.specs.declared.turn.Told.{Told}
use Rattle.sdv_audit.specs.declared.turn.Deed.{Deed}
use Rattle.sdv_audit.specs.declared.turn.Turn.{Turn}
use Rattle.sdv_audit.specs.declared.turn.Turn.TheVariants.{Ends, Outside, Uses, Resumes, OtherLength, Does}
use Rattle.sdv_audit.specs.declared.audit.Audit.{Audit}
use Rattle.sdv_audit.specs.declared.audit.Findings.{Findings}
use Rattle.sdv_audit.specs.Turns.{turn_of, known_after, line_seen, event_at, is_expected}
use Rattle.sdv_audit.specs.Carried.{AnyBehind, has_address, pending_at, Fits, CarriedFrom, Carried, CarriedBy, WithLines, Follows}
use Rattle.sdv_audit.specs.Standing.{shape_with}
use Rattle.sdv_audit.specs.Audited.{is_empty, AllLegal, IsIllegalAt, AllBeyond, is_unanswered, is_reset, restarts, lines_told, address_told, resumes, resumes_by}
use Rattle.sdv_audit.specs.AnyShape.{any_shapes}
use Rattle.sdv_card.specs.declared.state.Width.{Width}
use Rattle.sdv_audit.specs.Beyond.{is_beyond}
use Rattle.sdv_audit.specs.Lived.{turn_within}
use Rattle.sdv_audit.specs.Course.{Course, IsAt, FindsOn, FindsAgain, FindsHere, Finds, GoesOn, GoesAgain, GoesHere, turn_at, goes_on, is_resumed, any_state, restarts_at, resumes_at, goes_anew, goes_again, course_here, course_after, begun, found_on, found_again, found_here, found_anew, found_at, reckless_at, is_forbidden, seen_sort, SeenParts, seen_parts, same_bit, same_flag, same_parts, same_seen, outcome_fits, shape_if, shapes_if, led_by, led_to, shapes_after, lesser_if, least, IsLeast, SameMembers}

-- THE SAME IS SEEN

both : (a b : Bool) → a ≡ true → b ≡ true → (a && b) ≡ true
both true b e f = f
both false b e f = e

bits_same : (a b : Bool) → same_bit a b ≡ true → a ≡ b
bits_same true true e = refl
bits_same true false e = sym e
bits_same false true e = e
bits_same false false e = refl

bit_itself : (a : Bool) → same_bit a a ≡ true
bit_itself true = refl
bit_itself false = refl

flags_same : (a b : Option Bool) → same_flag a b ≡ true → a ≡ b
flags_same None None e = refl
flags_same None (Some b) e = absurd (let f : false ≡ true = e in cc)
flags_same (Some a) None e = absurd (let f : false ≡ true = e in cc)
flags_same (Some a) (Some b) e = ap Some (bits_same a b e)

flag_itself : (a : Option Bool) → same_flag a a ≡ true
flag_itself None = refl
flag_itself (Some a) = bit_itself a

parts_same : (a b : SeenParts) → same_parts a b ≡ true → a ≡ b
parts_same a b e =
    let rest : (same_bit a.bit b.bit && (same_flag a.first b.first && same_flag a.second b.second)) ≡ true = and_right (a.state == b.state) _ e in
    let flags : (same_flag a.first b.first && same_flag a.second b.second) ≡ true = and_right (same_bit a.bit b.bit) _ rest in
    let state : a.state ≡ b.state = eqb-true a.state b.state (and_left (a.state == b.state) _ e) in
    let bit : a.bit ≡ b.bit = bits_same a.bit b.bit (and_left (same_bit a.bit b.bit) _ rest) in
    let first : a.first ≡ b.first = flags_same a.first b.first (and_left (same_flag a.first b.first) _ flags) in
    let second : a.second ≡ b.second = flags_same a.second b.second (and_right (same_flag a.first b.first) _ flags) in
    ap (λ v. record { state = v; bit = a.bit; first = a.first; second = a.second }) state
    ∙ (ap (λ v. record { state = b.state; bit = v; first = a.first; second = a.second }) bit
    ∙ (ap (λ v. record { state = b.state; bit = b.bit; first = v; second = a.second }) first
    ∙ ap (λ v. record { state = b.state; bit = b.bit; first = b.first; second = v }) second))

parts_itself : (a : SeenParts) → same_parts a a ≡ true
parts_itself a =
    both _ _ (eq-eqb a.state a.state refl) (both _ _ (bit_itself a.bit) (both _ _ (flag_itself a.first) (flag_itself a.second)))

-- an answer of a sort, with these parts
abbrev rebuilt : ℕ → SeenParts → Seen
rebuilt n p = if n == 0 then Sent else (if n == 1 then TimeOut else (if n == 2 then Bare else (if n == 3 then Ocr p.bit p.first else (
    if n == 4 then Status p.state p.bit p.first p.second else (if n == 5 then Ok else NotOk)))))

rebuilt_is : (a : Seen) → rebuilt (seen_sort a) (seen_parts a) ≡ a
rebuilt_is Sent = refl
rebuilt_is TimeOut = refl
rebuilt_is Bare = refl
rebuilt_is (Ocr ready block) = refl
rebuilt_is (Status state doubt app switch) = refl
rebuilt_is Ok = refl
rebuilt_is NotOk = refl

seen_same : (a b : Seen) → same_seen a b ≡ true → a ≡ b
seen_same a b e =
    let sorts : seen_sort a ≡ seen_sort b = eqb-true (seen_sort a) (seen_sort b) (and_left (seen_sort a == seen_sort b) _ e) in
    let parts : seen_parts a ≡ seen_parts b = parts_same (seen_parts a) (seen_parts b) (and_right (seen_sort a == seen_sort b) _ e) in
    sym (rebuilt_is a) ∙ (ap (λ n. rebuilt n (seen_parts a)) sorts ∙ (ap (λ p. rebuilt (seen_sort b) p) parts ∙ rebuilt_is b))

seen_itself : (a b : Seen) → a ≡ b → same_seen a b ≡ true
seen_itself a b e =
    subst (λ v. same_seen a v ≡ true) e (both _ _ (eq-eqb (seen_sort a) (seen_sort a) refl) (parts_itself (seen_parts a)))

-- MEMBERS

append_cases : {A : Type 0} (xs ys : List A) (x : A) → IsOneOf (xs ++ ys) x → IsOneOf xs x ⊎ IsOneOf ys x
append_cases [] ys x m = inr m
append_cases (y ∷ xs) ys x (inl e) = inl (inl e)
append_cases (y ∷ xs) ys x (inr m) = elim (append_cases xs ys x m) [ inl n ↦ inl (inr n) | inr n ↦ inr n ]

-- one of those that are made of the elements is made of one of them
pub record MadeOf {A B : Type 0} (xs : List A) (f : A → List B) (y : B) : Type 0 where
  pub source : A
  pub among : May xs source
  pub made : May (f source) y

each_cases : {A B : Type 0} (xs : List A) (f : A → List B) (y : B) → IsOneOf (each xs f) y → MadeOf xs f y
each_cases [] f y m = absurd m
each_cases (x ∷ xs) f y m = elim (append_cases (f x) (each xs f) y m) [
  | inl n ↦ record { source = x; among = here refl; made = record { one = n } }
  | inr n ↦ let r : MadeOf xs f y = each_cases xs f y n in record { source = r.source; among = there r.among; made = r.made }
]

pub from_each : {A B : Type 0} (xs : List A) (f : A → List B) (y : B) → May (each xs f) y → MadeOf xs f y
from_each xs f y m = each_cases xs f y m.one

map_cases : {A B : Type 0} (f : A → B) (xs : List A) (y : B) → IsOneOf (map f xs) y → (x : A) × May xs x × (f x ≡ y)
map_cases f [] y m = absurd m
map_cases f (x ∷ xs) y (inl e) = (x, here refl, e)
map_cases f (x ∷ xs) y (inr m) = let r = map_cases f xs y m in (r.0, there r.1, r.2)

in_shapes_if : (b : Bool) (xs : List Shape) (s : Shape) → May (shapes_if b xs) s → (b ≡ true) × May xs s
in_shapes_if true xs s m = (refl, m)
in_shapes_if false xs s m = absurd m.one

to_shapes_if : (b : Bool) (xs : List Shape) (s : Shape) → b ≡ true → May xs s → May (shapes_if b xs) s
to_shapes_if true xs s e m = m
to_shapes_if false xs s e m = absurd (let f : false ≡ true = e in cc)

in_shape_if : (b : Bool) (t s : Shape) → May (shape_if b t) s → (b ≡ true) × (t ≡ s)
in_shape_if true t s m = (refl, only m)
in_shape_if false t s m = absurd m.one

to_shape_if : (b : Bool) (t s : Shape) → b ≡ true → t ≡ s → May (shape_if b t) s
to_shape_if true t s e f = here f
to_shape_if false t s e f = absurd (let g : false ≡ true = e in cc)

pub not_is : (b : Bool) → not b ≡ true → b ≡ false
not_is true e = sym e
not_is false e = refl

pub is_not : (b : Bool) → b ≡ false → not b ≡ true
is_not true e = sym e
is_not false e = refl

-- THE SHAPES AFTER A LINE

fits_so : (k : Kind) (event : Event) (line : TraceLine) (address : Bool) (code : ℕ) (o : Outcome) → outcome_fits k event line address code o ≡ true →
    Fits k event line address code o
fits_so k event line address code o e = record {
  seen = seen_same o.seen (line_seen k (pending_at code) line) (and_left (same_seen o.seen (line_seen k (pending_at code) line)) _ e);
  possible = not_is (is_impossible_match k event o address) (and_right (same_seen o.seen (line_seen k (pending_at code) line)) _ e);
}

so_fits : (k : Kind) (event : Event) (line : TraceLine) (address : Bool) (code : ℕ) (o : Outcome) → Fits k event line address code o →
    outcome_fits k event line address code o ≡ true
so_fits k event line address code o f = both _ _ (seen_itself o.seen (line_seen k (pending_at code) line) f.seen) (is_not (is_impossible_match k event o address) f.possible)

led_so : (k : Kind) (event : Event) (line : TraceLine) (address : Bool) (source to : Shape) → May (led_by k event line address source) to →
    CarriedFrom k event line address source to
led_so k event line address source to m =
    let f : Outcome → List Shape = λ o. shape_if (outcome_fits k event line address source.0 o) o.shape in
    let x = in_shapes_if (legal_code k source.0 event) (each (outcomes_code k source.0 event) f) to m in
    let r : MadeOf (outcomes_code k source.0 event) f to = from_each (outcomes_code k source.0 event) f to x.1 in
    let y = in_shape_if (outcome_fits k event line address source.0 r.source) r.source.shape to r.made in
    record { legal = x.0; one = record { outcome = r.source; may = r.among; fits = fits_so k event line address source.0 r.source y.0; leads = y.1 } }

so_led : (k : Kind) (event : Event) (line : TraceLine) (address : Bool) (source to : Shape) → CarriedFrom k event line address source to →
    May (led_by k event line address source) to
so_led k event line address source to c =
    to_shapes_if (legal_code k source.0 event) _ to c.legal
    (May-each (λ o. shape_if (outcome_fits k event line address source.0 o) o.shape) c.one.outcome c.one.may
    (to_shape_if (outcome_fits k event line address source.0 c.one.outcome) c.one.outcome.shape to (so_fits k event line address source.0 c.one.outcome c.one.fits) c.one.leads))

carried_so : (b : Bool) (k : Kind) (deed : Deed) (line : TraceLine) (address : Bool) (xs ys : List Shape) (to : Shape) → ((s : Shape) → May ys s → May xs s) →
    May (shapes_if b (each ys (led_to k deed line address))) to → CarriedBy b k deed line address xs to
carried_so true k deed line address xs ys to has m =
    let r : MadeOf ys (led_to k deed line address) to = from_each ys (led_to k deed line address) to m in
    record { source = r.source; among = has r.source r.among; from = led_so k (event_at deed r.source.0) line address r.source to r.made }
carried_so false k deed line address xs ys to has m = absurd m.one

so_carried : (b : Bool) (k : Kind) (deed : Deed) (line : TraceLine) (address : Bool) (xs ys : List Shape) (to : Shape) → ((s : Shape) → May xs s → May ys s) →
    CarriedBy b k deed line address xs to → May (shapes_if b (each ys (led_to k deed line address))) to
so_carried true k deed line address xs ys to has c =
    let x : Carried k deed line address xs to = c in
    May-each (led_to k deed line address) x.source (has x.source x.among) (so_led k (event_at deed x.source.0) line address x.source to x.from)
so_carried false k deed line address xs ys to has c = absurd c

-- from any state, where there is a shape
some_member : (ys : List Shape) (s : Shape) → May ys s → not (is_empty ys) ≡ true
some_member [] s m = absurd m.one
some_member (y ∷ ys) s m = refl

any_behind : (k : Kind) (lines : Width) (xs ys : List Shape) (s : Shape) → SameMembers xs ys → not (is_empty ys) ≡ true → May (any_shapes k lines) s →
    AnyBehind k lines xs s
any_behind k lines xs [] s same e m = absurd (let f : false ≡ true = e in cc)
any_behind k lines xs (y ∷ ys) s same e m = record { source = y; among = (same y).1 (here refl); is_any = m }

pub none_behind : (k : Kind) (lines : Width) (xs : List Shape) (s : Shape) → is_empty xs ≡ true → May [] s ↔ AnyBehind k lines xs s
none_behind k lines [] s e = ((λ m. absurd m.one), (λ x. absurd x.among.one))
none_behind k lines (y ∷ xs) s e = absurd (let f : false ≡ true = e in cc)

pub all_behind : (k : Kind) (lines : Width) (xs all : List Shape) (s : Shape) → is_empty xs ≡ false → all ≡ any_shapes k lines →
    May all s ↔ AnyBehind k lines xs s
all_behind k lines [] all s e is = absurd (let f : true ≡ false = e in cc)
all_behind k lines (y ∷ xs) all s e is = (
  (λ m. record { source = y; among = here refl; is_any = subst (λ v. May v s) is m }),
  (λ x. subst (λ v. May v s) (sym is) x.is_any),
)

-- the shapes that are computed from others with the same members are those that follow
pub after_follows : (k : Kind) (turn : Turn) (line : TraceLine) (known : HostKnown) (xs ys : List Shape) (s : Shape) → SameMembers xs ys →
    May (shapes_after k turn line known ys) s → Follows k turn line known xs s
after_follows k (Does deed) line known xs ys s same m =
    carried_so (is_expected k known.csd deed line) k deed line (has_address known) xs ys s (λ t. (same t).1) m
after_follows k (Uses width) line known xs ys s same m =
    let r = map_cases (λ t. with_lines_shown t width) ys s m.one in
    record { source = r.0; among = (same r.0).1 r.1; leads = r.2 }
after_follows k (Resumes rca lines) line known xs ys s same m =
    let x = in_shapes_if (not (is_empty ys)) (any_shapes k lines) s m in
    any_behind k lines xs ys s same x.0 x.1
after_follows k (OtherLength due) line known xs ys s same m = m.one
after_follows k Ends line known xs ys s same m = (same s).1 m
after_follows k Outside line known xs ys s same m = (same s).1 m

pub follows_after : (k : Kind) (turn : Turn) (line : TraceLine) (known : HostKnown) (xs ys : List Shape) (s : Shape) → SameMembers xs ys →
    Follows k turn line known xs s → May (shapes_after k turn line known ys) s
follows_after k (Does deed) line known xs ys s same f =
    so_carried (is_expected k known.csd deed line) k deed line (has_address known) xs ys s (λ t. (same t).0) f
follows_after k (Uses width) line known xs ys s same f =
    let x : WithLines width xs s = f in
    subst (λ v. May (map (λ t. with_lines_shown t width) ys) v) x.leads (May-map (λ t. with_lines_shown t width) ((same x.source).0 x.among))
follows_after k (Resumes rca lines) line known xs ys s same f =
    let x : AnyBehind k lines xs s = f in
    to_shapes_if (not (is_empty ys)) (any_shapes k lines) s (some_member ys x.source ((same x.source).0 x.among)) x.is_any
follows_after k (OtherLength due) line known xs ys s same f = absurd f
follows_after k Ends line known xs ys s same f = (same s).0 f
follows_after k Outside line known xs ys s same f = (same s).0 f

-- THE LEAST SHAPE

least_both : (test : Shape → Bool) (s u : Shape) (rest : List Shape) (b : Bool) → nat_lt u.0 s.0 ≡ b → test s ≡ true → IsLeast test rest (Some u) →
    IsLeast test (s ∷ rest) (Some (if b then u else s))
least_both test s u rest true lt e l = (
  there l.0,
  l.1,
  (λ t m f. elim m.one [ inl g ↦ subst (λ v. u.0 ≤ v.0) g (omega (arith, ltb-true u.0 s.0 lt)) | inr n ↦ l.2 t (record { one = n }) f ]),
)
least_both test s u rest false ge e l = (
  here refl,
  e,
  (λ t m f. elim m.one [
    | inl g ↦ subst (λ v. s.0 ≤ v.0) g (omega (arith))
    | inr n ↦ omega (arith, ltb-false u.0 s.0 ge, l.2 t (record { one = n }) f)
  ]),
)

least_more : (test : Shape → Bool) (s : Shape) (rest : List Shape) (b : Bool) (o : Option Shape) → test s ≡ b → IsLeast test rest o → IsLeast test (s ∷ rest) (lesser_if b s o)
least_more test s rest false None e l = λ t m. elim m.one [ inl f ↦ subst (λ v. test v ≡ false) f e | inr n ↦ l t (record { one = n }) ]
least_more test s rest false (Some u) e l = (
  there l.0,
  l.1,
  (λ t m f. elim m.one [ inl g ↦ absurd (let h : false ≡ true = sym e ∙ (ap test g ∙ f) in cc) | inr n ↦ l.2 t (record { one = n }) f ]),
)
least_more test s rest true None e l = (
  here refl,
  e,
  (λ t m f. elim m.one [ inl g ↦ subst (λ v. s.0 ≤ v.0) g (omega (arith)) | inr n ↦ absurd (let h : false ≡ true = sym (l t (record { one = n })) ∙ f in cc) ]),
)
least_more test s rest true (Some u) e l = least_both test s u rest (nat_lt u.0 s.0) refl e l

pub least_is : (test : Shape → Bool) (xs : List Shape) → IsLeast test xs (least test xs)
least_is test [] = λ s m. absurd m.one
least_is test (s ∷ rest) = least_more test s rest (test s) (least test rest) refl (least_is test rest)

shape_is : (a b : Shape) → a.0 ≡ b.0 → a ≡ b
shape_is a b e = ap (λ n. shape_with n) e

-- lists with the same members have the same least one
pub least_same : (test : Shape → Bool) (xs ys : List Shape) (o p : Option Shape) → SameMembers xs ys → IsLeast test xs o → IsLeast test ys p → o ≡ p
least_same test xs ys None None same l m = refl
least_same test xs ys None (Some t) same l m = absurd (let f : false ≡ true = sym (l t ((same t).1 m.0)) ∙ m.1 in cc)
least_same test xs ys (Some t) None same l m = absurd (let f : false ≡ true = sym (m t ((same t).0 l.0)) ∙ l.1 in cc)
least_same test xs ys (Some a) (Some b) same l m =
    let le : a.0 ≤ b.0 = l.2 b ((same b).1 m.0) m.1 in
    let ge : b.0 ≤ a.0 = m.2 a ((same a).0 l.0) l.1 in
    ap Some (shape_is a b (omega (arith, le, ge)))

least_members : (test : Shape → Bool) (xs ys : List Shape) (o : Option Shape) → SameMembers xs ys → IsLeast test xs o → IsLeast test ys o
least_members test xs ys None same l = λ s m. l s ((same s).1 m)
least_members test xs ys (Some t) same l = ((same t).0 l.0, l.1, (λ s m e. l.2 s ((same s).1 m) e))

-- what was found, from the members alone
pub illegal_is : (audit : Audit) (deed : Deed) (o : Option Shape) → IsLeast (λ s. not (legal_code audit.kind s.0 (event_at deed s.0))) audit.shapes.items o →
    MatchOption o (AllLegal audit (Does deed)) (IsIllegalAt audit (Does deed))
illegal_is audit deed None l = λ s m. not-false (legal_code audit.kind s.0 (event_at deed s.0)) (l s m)
illegal_is audit deed (Some t) l = (l.0, not_is (legal_code audit.kind t.0 (event_at deed t.0)) l.1)

-- one shape more at the end
pub least_push : (test : Shape → Bool) (xs : List Shape) (i : ℕ) (d : Shape) (b : Bool) (o : Option Shape) → i < length xs → test (get_or xs i d) ≡ b →
    IsLeast test (take i xs) o → IsLeast test (take (i + 1) xs) (lesser_if b (get_or xs i d) o)
least_push test xs i d b o lt e l =
    least_members test (get_or xs i d ∷ take i xs) (take (i + 1) xs) (lesser_if b (get_or xs i d) o)
    (λ s. (
      (λ m. elim m.one [ inl f ↦ (more xs i d s lt).1 (inr f) | inr n ↦ (more xs i d s lt).1 (inl (record { one = n })) ]),
      (λ m. elim ((more xs i d s lt).0 m) [ inl n ↦ there n | inr f ↦ here f ]),
    ))
    (least_more test (get_or xs i d) (take i xs) b o e l)

-- so it is with the event at that shape
pub least_event : (k : Kind) (deed : Deed) (event : Event) (xs : List Shape) (i : ℕ) (d : Shape) (b : Bool) (o : Option Shape) → i < length xs →
    event ≡ event_at deed (get_or xs i d).0 → not (legal_code k (get_or xs i d).0 event) ≡ b →
    IsLeast (λ s. not (legal_code k s.0 (event_at deed s.0))) (take i xs) o →
    IsLeast (λ s. not (legal_code k s.0 (event_at deed s.0))) (take (i + 1) xs) (lesser_if b (get_or xs i d) o)
least_event k deed event xs i d b o lt is e l =
    least_push (λ s. not (legal_code k s.0 (event_at deed s.0))) xs i d b o lt (subst (λ v. not (legal_code k (get_or xs i d).0 v) ≡ b) is e) l

-- WHAT DEPENDS ON THE MEMBERS ALONE

pub empty_same : (xs ys : List Shape) → SameMembers xs ys → is_empty xs ≡ is_empty ys
empty_same [] [] same = refl
empty_same [] (y ∷ ys) same = absurd ((same y).1 (here refl)).one
empty_same (x ∷ xs) [] same = absurd ((same x).0 (here refl)).one
empty_same (x ∷ xs) (y ∷ ys) same = refl

pub all_true : (p : Shape → Bool) (xs : List Shape) → ((s : Shape) → May xs s → p s ≡ true) → all p xs ≡ true
all_true p [] f = refl
all_true p (x ∷ xs) f = both (p x) (all p xs) (f x (here refl)) (all_true p xs (λ s m. f s (there m)))

pub alike : (a b : Bool) → (a ≡ true → b ≡ true) → (b ≡ true → a ≡ true) → a ≡ b
alike true b f g = sym (f refl)
alike false true f g = g refl
alike false false f g = refl

-- there are some, and the test holds of each
pub some_and_all : (b : Bool) (p q : Shape → Bool) (xs ys : List Shape) → SameMembers xs ys → ((s : Shape) → p s ≡ q s) →
    (IsTrue b ↔ ((is_empty xs ≡ false) × ((s : Shape) → May xs s → p s ≡ true))) → b ≡ (not (is_empty ys) && all q ys)
some_and_all b p q xs ys same agree decides =
    alike b (not (is_empty ys) && all q ys)
    (λ e. let x = decides.0 e in both (not (is_empty ys)) (all q ys) (is_not (is_empty ys) (sym (empty_same xs ys same) ∙ x.0))
    (all_true q ys (λ s m. sym (agree s) ∙ x.1 s ((same s).1 m))))
    (λ e. decides.1 (
      empty_same xs ys same ∙ not_is (is_empty ys) (and_left (not (is_empty ys)) (all q ys) e),
      (λ s m. agree s ∙ all-May q (and_right (not (is_empty ys)) (all q ys) e) ((same s).0 m)),
    ))

-- a test of each member
pub all_same : (p : Shape → Bool) (xs ys : List Shape) → SameMembers xs ys → all p xs ≡ all p ys
all_same p xs ys same =
    alike (all p xs) (all p ys) (λ e. all_true p ys (λ s m. all-May p e ((same s).1 m))) (λ e. all_true p xs (λ s m. all-May p e ((same s).0 m)))

-- a test of each, as it was decided
pub all_decided : (b : Bool) (p : Shape → Bool) (xs : List Shape) → (IsTrue b ↔ ((s : Shape) → May xs s → p s ≡ true)) → b ≡ all p xs
all_decided b p xs decides = alike b (all p xs) (λ e. all_true p xs (decides.0 e)) (λ e. decides.1 (λ s m. all-May p e m))

pub bounded_then : (b old : Bool) (p : Shape → Bool) (xs slice : List Shape) → old ≡ true → slice ≡ xs → (IsTrue b ↔ ((s : Shape) → May slice s → p s ≡ true)) →
    b ≡ (old && all p xs)
bounded_then b old p xs slice e f decides =
    all_decided b p slice decides ∙ (ap (all p) f ∙ ap (λ v. v && all p xs) (sym e))

pub bounded_else : (b old rest : Bool) → old ≡ false → b ≡ false → b ≡ (old && rest)
bounded_else b old rest e f = f ∙ ap (λ v. v && rest) (sym e)

-- WHERE THE CARD COULD BE IN ANY STATE

-- what is found, from what is decided
pub reckless_so : (running : Bool) (k : Kind) (deed : Deed) (xs ys : List Shape) (o : Option Shape) (fb : Bool) → SameMembers xs ys →
    (IsTrue fb ↔ ((s : Shape) → May xs s → not (legal_code k s.0 (event_at deed s.0)) ≡ true)) →
    IsLeast (λ s. not (legal_code k s.0 (event_at deed s.0))) xs o →
    (if running && not fb then None else o) ≡ reckless_at running k (Does deed) ys
reckless_so running k deed xs ys o fb same decides least_one =
    let test : Shape → Bool = λ s. not (legal_code k s.0 (event_at deed s.0)) in
    ap (λ v. if running && not v then None else o) (all_decided fb test xs decides ∙ all_same test xs ys same)
    ∙ ap (λ v. if running && not (all test ys) then None else v) (least_same test xs ys o (least test ys) same least_one (least_is test ys))

-- a shape is named only if the event is legal at none
pub forbidden_by : (running fb : Bool) (o : Option Shape) → IfSome (if running && not fb then None else o) (λ s. running ≡ true → fb ≡ true)
forbidden_by true true None = tt
forbidden_by true true (Some s) = λ e. refl
forbidden_by true false o = tt
forbidden_by false fb None = tt
forbidden_by false fb (Some s) = λ e. absurd (let f : false ≡ true = e in cc)

pub left_by : (running fb : Bool) (o : Option Shape) (P : Type 0) (Q : Shape → Type 0) → MatchOption o P Q →
    MatchOption (if running && not fb then None else o) (running ≡ false → P) Q
left_by true true None P Q m = λ e. m
left_by true true (Some s) P Q m = m
left_by true false o P Q m = λ e. absurd (let f : true ≡ false = e in cc)
left_by false fb None P Q m = λ e. m
left_by false fb (Some s) P Q m = m

pub if_some : (o : Option Shape) (P Q : Shape → Type 0) → IfSome o P → ((s : Shape) → P s → Q s) → IfSome o Q
if_some None P Q x f = tt
if_some (Some s) P Q x f = f s x

none_led : (k : Kind) (deed : Deed) (line : TraceLine) (address : Bool) (s : Shape) (b : Bool) → legal_code k s.0 (event_at deed s.0) ≡ b → not b ≡ true →
    led_to k deed line address s ≡ []
none_led k deed line address s true e f = absurd (let g : false ≡ true = f in cc)
none_led k deed line address s false e f =
    ap (λ v. shapes_if v (each (outcomes_code k s.0 (event_at deed s.0))
    (λ o. shape_if (outcome_fits k (event_at deed s.0) line address s.0 o) o.shape))) e

each_none : (k : Kind) (deed : Deed) (line : TraceLine) (address : Bool) (xs : List Shape) → all (λ s. not (legal_code k s.0 (event_at deed s.0))) xs ≡ true →
    each xs (led_to k deed line address) ≡ []
each_none k deed line address [] e = refl
each_none k deed line address (s ∷ xs) e =
    ap (λ v. v ++ each xs (led_to k deed line address))
    (none_led k deed line address s (legal_code k s.0 (event_at deed s.0)) refl
    (and_left (not (legal_code k s.0 (event_at deed s.0))) (all (λ t. not (legal_code k t.0 (event_at deed t.0))) xs) e))
    ∙ each_none k deed line address xs (and_right (not (legal_code k s.0 (event_at deed s.0))) (all (λ t. not (legal_code k t.0 (event_at deed t.0))) xs) e)

none_if : (b : Bool) → is_empty (shapes_if b []) ≡ true
none_if true = refl
none_if false = refl

-- then no shape is left
pub forbidden_left : (k : Kind) (turn : Turn) (line : TraceLine) (known : HostKnown) (xs : List Shape) → is_forbidden k turn xs ≡ true →
    is_empty (shapes_after k turn line known xs) ≡ true
forbidden_left k (Does deed) line known xs e =
    ap (λ v. is_empty (shapes_if (is_expected k known.csd deed line) v)) (each_none k deed line (has_address known) xs e)
    ∙ none_if (is_expected k known.csd deed line)
forbidden_left k (Uses width) line known xs e = absurd (let f : false ≡ true = e in cc)
forbidden_left k (Resumes rca lines) line known xs e = absurd (let f : false ≡ true = e in cc)
forbidden_left k (OtherLength due) line known xs e = absurd (let f : false ≡ true = e in cc)
forbidden_left k Ends line known xs e = absurd (let f : false ≡ true = e in cc)
forbidden_left k Outside line known xs e = absurd (let f : false ≡ true = e in cc)

-- no shape comes of none
pub none_after : (k : Kind) (turn : Turn) (line : TraceLine) (known : HostKnown) → is_empty (shapes_after k turn line known []) ≡ true
none_after k (Does deed) line known = none_if (is_expected k known.csd deed line)
none_after k (Uses width) line known = refl
none_after k (Resumes rca lines) line known = refl
none_after k (OtherLength due) line known = refl
none_after k Ends line known = refl
none_after k Outside line known = refl

pub none_reckless : (running : Bool) (k : Kind) (turn : Turn) → reckless_at running k turn [] ≡ None
none_reckless true k (Does deed) = refl
none_reckless true k (Uses width) = refl
none_reckless true k (Resumes rca lines) = refl
none_reckless true k (OtherLength due) = refl
none_reckless true k Ends = refl
none_reckless true k Outside = refl
none_reckless false k (Does deed) = refl
none_reckless false k (Uses width) = refl
none_reckless false k (Resumes rca lines) = refl
none_reckless false k (OtherLength due) = refl
none_reckless false k Ends = refl
none_reckless false k Outside = refl

-- ONE LINE FURTHER

-- findings with the same fields
findings_are : (a b : Findings) → a.turn ≡ b.turn → a.reckless ≡ b.reckless → a.unanswered ≡ b.unanswered → a.beyond ≡ b.beyond →
    a.restarted ≡ b.restarted → a.resumed ≡ b.resumed → a ≡ b
findings_are a b t r u y s z =
    ap (λ v. record a { turn = v }) t ∙ (ap (λ v. record a { turn = b.turn; reckless = v }) r
    ∙ (ap (λ v. record a { turn = b.turn; reckless = b.reckless; unanswered = v }) u
    ∙ (ap (λ v. record a { turn = b.turn; reckless = b.reckless; unanswered = b.unanswered; beyond = v }) y
    ∙ (ap (λ v. record a { turn = b.turn; reckless = b.reckless; unanswered = b.unanswered; beyond = b.beyond; restarted = v }) s
    ∙ ap (λ v. record b { resumed = v }) z))))

-- what an audit did at a line
pub record Advanced (old new : Audit) (told : Told) (found : Findings) : Type 0 where
  pub turn : found.turn ≡ turn_of old.kind old.known told
  pub known : new.known ≡ known_after old.kind found.turn told.line old.known
  pub shapes : (s : Shape) → May new.shapes.items s ↔ Follows old.kind found.turn told.line old.known old.shapes.items s
  pub reckless : (shapes : List Shape) → SameMembers old.shapes.items shapes → found.reckless ≡ reckless_at old.running old.kind found.turn shapes
  pub unanswered : found.unanswered ≡ is_unanswered found.reckless old.shapes.items new.shapes.items
  pub beyond : IsTrue found.beyond ↔ ((is_empty old.shapes.items ≡ false) × AllBeyond old found.turn told.line)
  pub restarted : found.restarted ≡ false
  pub resumed : found.resumed ≡ false
  pub running : new.running ≡ (old.running || is_resumed found.turn)
  pub bounded : new.bounded ≡ (old.bounded && all (λ s. turn_within old.kind found.turn told.line s.0) old.shapes.items)

pub turn_is : (old new : Audit) (told : Told) (found : Findings) (c : Course) → Advanced old new told found → IsAt old c → found.turn ≡ turn_at old.kind told c
turn_is old new told found c a at = a.turn ∙ ap (λ v. turn_of old.kind v told) at.known

pub shapes_are : (old new : Audit) (told : Told) (found : Findings) (c : Course) → Advanced old new told found → IsAt old c →
    SameMembers new.shapes.items (goes_on old.kind told c).shapes
shapes_are old new told found c a at s =
    let turn : found.turn ≡ turn_at old.kind told c = turn_is old new told found c a at in
    let follows : May new.shapes.items s ↔ Follows old.kind (turn_at old.kind told c) told.line c.known old.shapes.items s =
    subst (λ v. May new.shapes.items s ↔ Follows old.kind v told.line c.known old.shapes.items s) turn
    (subst (λ v. May new.shapes.items s ↔ Follows old.kind found.turn told.line v old.shapes.items s) at.known (a.shapes s)) in (
      (λ m. follows_after old.kind (turn_at old.kind told c) told.line c.known old.shapes.items c.shapes s at.shapes (follows.0 m)),
      (λ m. follows.1 (after_follows old.kind (turn_at old.kind told c) told.line c.known old.shapes.items c.shapes s at.shapes m)),
    )

pub is_at_next : (old new : Audit) (told : Told) (found : Findings) (c : Course) → Advanced old new told found → IsAt old c → IsAt new (goes_on old.kind told c)
is_at_next old new told found c a at = record {
  known = a.known ∙ (ap (λ v. known_after old.kind v told.line old.known) (turn_is old new told found c a at)
      ∙ ap (λ v. known_after old.kind (turn_at old.kind told c) told.line v) at.known);
  shapes = shapes_are old new told found c a at;
  bounded = a.bounded ∙ (ap (λ v. v && all (λ s. turn_within old.kind found.turn told.line s.0) old.shapes.items) at.bounded
      ∙ (ap (λ v. c.bounded && all (λ s. turn_within old.kind v told.line s.0) old.shapes.items) (turn_is old new told found c a at)
      ∙ ap (λ v. c.bounded && v) (all_same (λ s. turn_within old.kind (turn_at old.kind told c) told.line s.0) old.shapes.items c.shapes at.shapes)));
  running = a.running ∙ (ap (λ v. v || is_resumed found.turn) at.running ∙ ap (λ v. c.running || is_resumed v) (turn_is old new told found c a at));
}

unanswered_same : (o p : Option Shape) (before before' after after' : List Shape) → o ≡ p → is_empty before ≡ is_empty before' → is_empty after ≡ is_empty after' →
    is_unanswered o before after ≡ is_unanswered p before' after'
unanswered_same o p before before' after after' e f g =
    ap (λ v. v && is_none o && not (is_empty before)) g ∙ (ap (λ v. is_empty after' && is_none v && not (is_empty before)) e
    ∙ ap (λ v. is_empty after' && is_none p && not v) f)

pub found_so : (old new : Audit) (told : Told) (found : Findings) (c : Course) → Advanced old new told found → IsAt old c → found ≡ found_on old.kind told c
found_so old new told found c a at =
    let turn : found.turn ≡ turn_at old.kind told c = turn_is old new told found c a at in
    let reckless : found.reckless ≡ reckless_at c.running old.kind (turn_at old.kind told c) c.shapes =
    a.reckless c.shapes at.shapes
    ∙ (ap (λ v. reckless_at v old.kind found.turn c.shapes) at.running ∙ ap (λ v. reckless_at c.running old.kind v c.shapes) turn) in
    findings_are found (found_on old.kind told c) turn reckless
    (a.unanswered ∙ unanswered_same found.reckless (reckless_at c.running old.kind (turn_at old.kind told c) c.shapes) old.shapes.items c.shapes
    new.shapes.items (goes_on old.kind told c).shapes reckless (empty_same old.shapes.items c.shapes at.shapes)
    (empty_same new.shapes.items (goes_on old.kind told c).shapes (shapes_are old new told found c a at)))
    (some_and_all found.beyond (λ s. is_beyond old.kind old.known found.turn told.line s.0) (λ s. is_beyond old.kind c.known (turn_at old.kind told c) told.line s.0)
    old.shapes.items c.shapes at.shapes
    (λ s. ap (λ v. is_beyond old.kind v found.turn told.line s.0) at.known ∙ ap (λ v. is_beyond old.kind c.known v told.line s.0) turn) a.beyond)
    a.restarted a.resumed

pub restarts_same : (audit : Audit) (told : Told) (c : Course) → IsAt audit c → restarts audit told ≡ restarts_at audit.kind told c
restarts_same audit told c at =
    ap (λ v. (v || audit.running) && is_reset (turn_of audit.kind audit.known told)) (empty_same audit.shapes.items c.shapes at.shapes)
    ∙ (ap (λ v. (is_empty c.shapes || v) && is_reset (turn_of audit.kind audit.known told)) at.running
    ∙ ap (λ v. (is_empty c.shapes || c.running) && is_reset (turn_of audit.kind v told)) at.known)

pub resumes_same : (audit : Audit) (told : Told) (c : Course) → IsAt audit c → resumes audit told ≡ resumes_at told c
resumes_same audit told c at =
    ap (λ v. resumes_by v audit.running told.line audit.known) (empty_same audit.shapes.items c.shapes at.shapes)
    ∙ (ap (λ v. resumes_by (is_empty c.shapes) v told.line audit.known) at.running
    ∙ ap (λ v. resumes_by (is_empty c.shapes) c.running told.line v) at.known)

-- WHERE AN AUDIT BEGINS ANEW, or does not

on_or_anew : {A : Type 0} (b : Bool) (x y z : A) → b ≡ false → z ≡ y → z ≡ (if b then x else y)
on_or_anew true x y z e f = absurd (let g : true ≡ false = e in cc)
on_or_anew false x y z e f = f

anew_or_on : {A : Type 0} (b : Bool) (x y z : A) → b ≡ true → z ≡ x → z ≡ (if b then x else y)
anew_or_on true x y z e f = f
anew_or_on false x y z e f = absurd (let g : false ≡ true = e in cc)

no_restart : (old : Audit) (told : Told) (c : Course) → restarts old told ≡ false → IsAt old c → restarts_at old.kind told c ≡ false
no_restart old told c e at = sym (restarts_same old told c at) ∙ e

pub found_there : (old : Audit) (told : Told) (r : Result Findings AuditFault) → restarts old told ≡ false →
    IfOk r (FindsHere old told) → IfOk r (Finds old told)
found_there old told (ResultOk found) e f = λ c at.
    on_or_anew (restarts_at old.kind told c) (found_anew old.kind told c) (found_here old.kind told c) found (no_restart old told c e at) (f c at)
found_there old told (ResultErr fault) e f = tt

pub course_there : (old new : Audit) (told : Told) (r : Result Findings AuditFault) → restarts old told ≡ false →
    OnOk r (GoesHere old new told) → OnOk r ((c : Course) → IsAt old c → IsAt new (course_after old.kind told c))
course_there old new told (ResultOk found) e f = λ c at.
    subst (IsAt new) (on_or_anew (restarts_at old.kind told c) (goes_anew old.kind told c) (course_here old.kind told c) (course_here old.kind told c)
    (no_restart old told c e at) refl) (f c at)
course_there old new told (ResultErr fault) e f = tt

-- WHERE IT GOES ON FROM ANY STATE, or does not

no_resuming : (old : Audit) (told : Told) (c : Course) → resumes old told ≡ false → IsAt old c → resumes_at told c ≡ false
no_resuming old told c e at = sym (resumes_same old told c at) ∙ e

pub found_on_here : (old : Audit) (told : Told) (r : Result Findings AuditFault) → resumes old told ≡ false →
    IfOk r (FindsOn old told) → IfOk r (FindsHere old told)
found_on_here old told (ResultOk found) e f = λ c at.
    on_or_anew (resumes_at told c) (found_again old.kind told c) (found_on old.kind told c) found (no_resuming old told c e at) (f c at)
found_on_here old told (ResultErr fault) e f = tt

pub course_on_here : (old new : Audit) (told : Told) (r : Result Findings AuditFault) → resumes old told ≡ false →
    OnOk r (GoesOn old new told) → OnOk r (GoesHere old new told)
course_on_here old new told (ResultOk found) e f = λ c at.
    subst (IsAt new) (on_or_anew (resumes_at told c) (goes_again old.kind told c) (goes_on old.kind told c) (goes_on old.kind told c)
    (no_resuming old told c e at) refl) (f c at)
course_on_here old new told (ResultErr fault) e f = tt

pub found_again_here : (old : Audit) (told : Told) (found : Findings) → resumes old told ≡ true → FindsAgain old told found → FindsHere old told found
found_again_here old told found e f = λ c at.
    anew_or_on (resumes_at told c) (found_again old.kind told c) (found_on old.kind told c) found (sym (resumes_same old told c at) ∙ e) (f c at)

pub course_again_here : (old new : Audit) (told : Told) → resumes old told ≡ true → GoesAgain old new told → GoesHere old new told
course_again_here old new told e f = λ c at.
    subst (IsAt new) (anew_or_on (resumes_at told c) (goes_again old.kind told c) (goes_on old.kind told c) (goes_again old.kind told c)
    (sym (resumes_same old told c at) ∙ e) refl) (f c at)

-- an audit of a card in any state, by the kind, the address and the lines that it was given
pub again_at : (a : Audit) (i k : Kind) (told : Told) (known : HostKnown) (c : Course) →
    IsAt a (goes_on i told (any_state k (address_told told.line known) known.lines)) → i ≡ k → known ≡ c.known → IsAt a (goes_again k told c)
again_at a i k told known c at ik e =
    subst (λ v. IsAt a (goes_on k told (any_state k (address_told told.line v) v.lines))) e
    (subst (λ v. IsAt a (goes_on v told (any_state k (address_told told.line known) known.lines))) ik at)

pub found_again_at : (found : Findings) (i k : Kind) (told : Told) (known : HostKnown) (c : Course) →
    found ≡ found_on i told (any_state k (address_told told.line known) known.lines) → i ≡ k → known ≡ c.known →
    record found { resumed = true } ≡ found_again k told c
found_again_at found i k told known c is ik e =
    ap (λ (v : Findings). record v { resumed = true }) (is
    ∙ (ap (λ v. found_on v told (any_state k (address_told told.line known) known.lines)) ik
    ∙ ap (λ v. found_on k told (any_state k (address_told told.line v) v.lines)) e))

pub course_anew : (old new : Audit) (told : Told) (c : Course) → restarts old told ≡ true → IsAt old c → IsAt new (goes_anew old.kind told c) →
    IsAt new (course_after old.kind told c)
course_anew old new told c e at anew =
    subst (IsAt new) (anew_or_on (restarts_at old.kind told c) (goes_anew old.kind told c) (course_here old.kind told c) (goes_anew old.kind told c)
    (sym (restarts_same old told c at) ∙ e) refl) anew

pub found_anew_so : (old new : Audit) (told : Told) (found : Findings) (c : Course) → restarts old told ≡ true → IsAt old c → IsAt new (goes_anew old.kind told c) →
    found.turn ≡ turn_of old.kind old.known told → found.reckless ≡ None → found.unanswered ≡ is_empty new.shapes.items → found.beyond ≡ false →
    found.restarted ≡ true → found.resumed ≡ false → found ≡ found_at old.kind told c
found_anew_so old new told found c e at anew turn reckless unanswered beyond restarted resumed =
    anew_or_on (restarts_at old.kind told c) (found_anew old.kind told c) (found_here old.kind told c) found (sym (restarts_same old told c at) ∙ e)
    (findings_are found (found_anew old.kind told c) (turn ∙ ap (λ v. turn_of old.kind v told) at.known) reckless
    (unanswered ∙ empty_same new.shapes.items (goes_anew old.kind told c).shapes anew.shapes) beyond restarted resumed)

-- an audit that begins anew, by the kinds and the lines that it was given
pub anew_at : (a : Audit) (k j i : Kind) (told : Told) (known : HostKnown) (c : Course) → IsAt a (goes_on i told (goes_on j (lines_told known.lines) begun)) →
    i ≡ k → j ≡ k → known ≡ c.known → IsAt a (goes_anew k told c)
anew_at a k j i told known c at ik jk e =
    subst (λ v. IsAt a (goes_on k told (goes_on k (lines_told v.lines) begun))) e
    (subst (λ v. IsAt a (goes_on k told (goes_on v (lines_told known.lines) begun))) jk
    (subst (λ v. IsAt a (goes_on v told (goes_on j (lines_told known.lines) begun))) ik at))
